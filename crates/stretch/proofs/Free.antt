-- Entries that a stretch doesn't use don't matter: two indexes that agree in those used, and in the places of the blocks partly read, give the same answer.
-- Assumes nothing.
use Prim.Native.Nat.{ℕ, ◌+◌, ◌-◌, ◌*◌, ◌≤◌, ◌<◌}
use mathlib.Core.List.{List}
use mathlib.Core.Logic.{inl}
use mathlib.Core.Path.{◌≡◌, refl, sym, ◌∙◌}
use native.Mathlib.Nat.{add_assoc, add-zero}
use native.Mathlib.Omega.{arith}
use lib.ListN.{get_or}
use Rattle.wire.proofs.Numbers.{le_same}
use Rattle.wire.specs.Wire.{le}
use Rattle.shaper.specs.declared.Limits.{Limits}
use Rattle.index.specs.Tree.{entry_length, from_of, to_of, stands_at}
use Rattle.index.specs.Entry.{summary_in, place_in}
use Rattle.stretch.specs.Found.{Source, entry_found, part_found, part_in, found_in}
use Rattle.stretch.specs.Used.{Node, used_in, read_in, Among}
use Rattle.stretch.proofs.Rows.{by_halves, found_apart, found_whole, found_part, found_both, used_whole, used_left, used_right, read_part_lem, read_left, read_right}

-- two indexes hold the same summary of a node, and the same place of a block
abbrev pub SameEntry : Source → Source → Node → Type 0
SameEntry q r d =
    summary_in q.limits q.index (entry_length * stands_at q.events d.level d.block)
    ≡ summary_in r.limits r.index (entry_length * stands_at r.events d.level d.block)

abbrev pub SamePlace : Source → Source → ℕ → Type 0
SamePlace q r b = place_in q.index (80 * b) ≡ place_in r.index (80 * b)

entry_same : (q r : Source) (k x : ℕ) → q.events ≡ r.events → SameEntry q r (record { level = k; block = x }) →
    entry_found q (stands_at q.events k x) (to_of q.events k x - from_of x) ≡ entry_found r (stands_at r.events k x) (to_of r.events k x - from_of x)
unfolding entry_found
entry_same q r k x e s = rw (s, e)

part_same : (q r : Source) (first last x : ℕ) → q.limits ≡ r.limits → q.bytes ≡ r.bytes → q.events ≡ r.events → SamePlace q r x → part_in q first last x ≡ part_in r first last x
unfolding part_found
part_same q r first last x l b e s = cc

-- they agree in what the part of a stretch in a node uses
abbrev pub Agree : Source → Source → ℕ → ℕ → ℕ → ℕ → Type 0
Agree q r first last k x =
    ((d : Node) → Among d (used_in q.events first last k x) → SameEntry q r d)
    × ((c : ℕ) → Among c (read_in q.events first last k x) → SamePlace q r c)

module _ (q r : Source) (first last : ℕ) (l : q.limits ≡ r.limits) (b : q.bytes ≡ r.bytes) (e : q.events ≡ r.events) where
  pub others_free : (k x : ℕ) → Agree q r first last k x → found_in q first last k x ≡ found_in r first last k x
  others_free =
      by_halves q.events first last (λ k x. Agree q r first last k x → found_in q first last k x ≡ found_in r first last k x)
      (λ k x a g. found_apart q first last k x a ∙ sym (found_apart r first last k x (rw e at a)))
      (λ k x a w g.
      found_whole q first last k x a w
      ∙ entry_same q r k x e (g.0 (record { level = k; block = x }) (rw (used_whole q.events first last k x a w) (inl refl)))
      ∙ sym (found_whole r first last k x (rw e at a) (rw e at w)))
      (λ x a w g.
      found_part q first last x a w
      ∙ part_same q r first last x l b e (g.1 x (rw (read_part_lem q.events first last x a w) (inl refl)))
      ∙ sym (found_part r first last x (rw e at a) (rw e at w)))
      (λ k x a w f h g.
      let m = f (λ d m. g.0 d (used_left q.events first last k x a w d m), λ c m. g.1 c (read_left q.events first last k x a w c m)) in
      let o = h (λ d m. g.0 d (used_right q.events first last k x a w d m), λ c m. g.1 c (read_right q.events first last k x a w c m)) in
      cc (found_both q first last k x a w, found_both r first last k x (rw e at a) (rw e at w), m, o))

-- ---- over bytes

-- the 40 bytes of an entry
abbrev pub SameBytes : List ℕ → List ℕ → ℕ → Type 0
SameBytes xs ys entry = (i : ℕ) → i < entry_length → get_or xs (entry_length * entry + i) 0 ≡ get_or ys (entry_length * entry + i) 0

module _ (xs ys : List ℕ) (entry : ℕ) (h : SameBytes xs ys entry) where
  number_same : (n skip : ℕ) → skip + n ≤ entry_length → le n xs (entry_length * entry + skip) ≡ le n ys (entry_length * entry + skip)
  number_same n skip f = le_same n xs ys (entry_length * entry + skip) (entry_length * entry + skip) (λ i m. rw add_assoc (h (skip + i) (omega arith)))

  pub summary_same : (l : Limits) → summary_in l xs (entry_length * entry) ≡ summary_in l ys (entry_length * entry)
  unfolding summary_in
  summary_same l = cc (number_same 4 0 (omega arith), number_same 8 16 (omega arith), number_same 8 24 (omega arith), number_same 8 32 (omega arith), number_same 4 12 (omega arith), add-zero (entry_length * entry))

  pub place_same : place_in xs (entry_length * entry) ≡ place_in ys (entry_length * entry)
  unfolding place_in
  place_same = cc (number_same 4 4 (omega arith), number_same 4 8 (omega arith))

-- So indexes that agree in the bytes of the entries used, and of those of the blocks partly read, give the same answer.
module _ (q r : Source) (first last : ℕ) (l : q.limits ≡ r.limits) (b : q.bytes ≡ r.bytes) (e : q.events ≡ r.events) where
  pub other_bytes_free : (k x : ℕ)
      → ((d : Node) → Among d (used_in q.events first last k x) → SameBytes q.index r.index (stands_at q.events d.level d.block))
      → ((c : ℕ) → Among c (read_in q.events first last k x) → SameBytes q.index r.index (2 * c))
      → found_in q first last k x ≡ found_in r first last k x
  other_bytes_free k x u p =
      others_free q r first last l b e k x (
        λ d m. cc (summary_same q.index r.index (stands_at q.events d.level d.block) (u d m) q.limits),
        λ c m. let z : entry_length * (2 * c) ≡ 80 * c = omega arith in rw z at (place_same q.index r.index (2 * c) (p c m)),
      )
