-- A stretch uses few entries: at most two of a level, and at most two blocks are partly read. Behind the place where the stretch parts, it covers one end of each half.
-- Assumes nothing.
use Prim.Native.Nat.{ℕ, zero, suc, ◌+◌, ◌-◌, ◌*◌, ◌≤◌, ◌<◌, max}
use mathlib.Core.Bool.{true, false}
use mathlib.Core.Path.{◌≡◌, ap, ◌∙◌}
use native.Mathlib.Omega.{arith}
use lib.ListN.{length, length-append}
use Rattle.decide.proofs.Cases.{by_cases, le_or, true_or_false}
use Rattle.index.specs.Tree.{block_events, top_level, size_of, from_of, to_of}
use Rattle.index.proofs.Sizes.{size_next}
use Rattle.stretch.specs.Found.{whole, apart}
use Rattle.stretch.specs.Used.{used_in, read_in, used_of, read_of}
use Rattle.stretch.proofs.Facts.{whole_yes, whole_facts, whole_late, whole_short, not_whole_lem, apart_before, apart_behind}
use Rattle.stretch.proofs.Rows.{by_halves, used_apart, used_whole, used_part, used_both, read_apart, read_whole, read_part_lem, read_both}

-- a node of a higher level covers no fewer blocks
size_grows : (K k : ℕ) → K ≤ k → size_of K ≤ size_of k
size_grows K zero h = let z : K ≡ 0 = omega arith in rw z (omega arith)
size_grows K (suc k) h =
    by_cases (le_or K k) (λ l. omega (arith, size_grows K k l, size_next k)) (λ l. let z : K ≡ suc k = omega arith in rw z (omega arith))

-- at most so many entries are used in a node, so many blocks partly read, and so many of both
abbrev Counted : ℕ → ℕ → ℕ → ℕ → ℕ → ℕ → ℕ → ℕ → Type 0
Counted n first last k x used read pieces =
    (length (used_in n first last k x) ≤ used)
    × (length (read_in n first last k x) ≤ read)
    × (length (used_in n first last k x) + length (read_in n first last k x) ≤ pieces)

-- of a node that doesn't lie whole in the stretch, where C holds of it
abbrev FewEnd : (ℕ → ℕ → Type 0) → ℕ → ℕ → ℕ → ℕ → ℕ → Type 0
FewEnd C n first last k x = C k x → whole n first last k x ≡ false → Counted n first last k x k 1 (suc k)

module _ (n first last : ℕ) where
  -- ---- row by row

  none_apart : (k x : ℕ) → apart n first last k x ≡ true → Counted n first last k x 0 0 0
  none_apart k x a = omega (arith, ap length (used_apart n first last k x a), ap length (read_apart n first last k x a))

  one_whole : (k x : ℕ) → whole n first last k x ≡ true → Counted n first last k x 1 0 1
  one_whole k x w =
      by_cases (true_or_false (apart n first last k x)) (λ a. let p = none_apart k x a in omega arith)
      (λ a. omega (arith, ap length (used_whole n first last k x a w), ap length (read_whole n first last k x a w)))

  one_part : (x : ℕ) → apart n first last 0 x ≡ false → whole n first last 0 x ≡ false → Counted n first last 0 x 0 1 1
  one_part x a w = omega (arith, ap length (used_part n first last x a w), ap length (read_part_lem n first last x a w))

  both_halves : (k x : ℕ) → apart n first last (suc k) x ≡ false → whole n first last (suc k) x ≡ false →
      (length (used_in n first last (suc k) x) ≡ length (used_in n first last k x) + length (used_in n first last k (x + size_of k)))
      × (length (read_in n first last (suc k) x) ≡ length (read_in n first last k x) + length (read_in n first last k (x + size_of k)))
  both_halves k x a w = (
    ap length (used_both n first last k x a w) ∙ length-append (used_in n first last k x) (used_in n first last k (x + size_of k)),
    ap length (read_both n first last k x a w) ∙ length-append (read_in n first last k x) (read_in n first last k (x + size_of k)),
  )

  -- ---- a node of which the stretch covers an end

  -- all of it or not, at most one entry of each level below
  all_or_not : (k x : ℕ) → (whole n first last k x ≡ false → Counted n first last k x k 1 (suc k)) → Counted n first last k x (max 1 k) 1 (suc k)
  all_or_not k x f =
      by_cases (true_or_false (whole n first last k x)) (λ w. let p = one_whole k x w in omega arith) (λ w. let p = f w in omega arith)

  -- then the stretch starts behind its first event, or ends before its last
  starts : (k x : ℕ) → to_of n k x ≤ last → whole n first last k x ≡ false → from_of x < first
  starts k x t v = by_cases (not_whole_lem n first last k x v) (λ h. h) (λ h. absurd (omega arith))

  ends : (k x : ℕ) → first ≤ from_of x → whole n first last k x ≡ false → last < to_of n k x
  ends k x t v = by_cases (not_whole_lem n first last k x v) (λ h. absurd (omega arith)) (λ h. h)

  -- at most one entry of each level below, and one partly read block, where it holds of a node if it does of its halves
  few_end : (C : ℕ → ℕ → Type 0)
      → ((k x : ℕ) → apart n first last (suc k) x ≡ false → whole n first last (suc k) x ≡ false → FewEnd C n first last k x → FewEnd C n first last k (x + size_of k) → C (suc k) x → Counted n first last (suc k) x (suc k) 1 (suc (suc k)))
      → (k x : ℕ) → FewEnd C n first last k x
  few_end C both =
      by_halves n first last (FewEnd C n first last)
      (λ k x a t v. let p = none_apart k x a in omega arith)
      (λ k x a w t v. absurd (mathlib.Core.Bool.true≢false (rw w at v)))
      (λ x a w t v. one_part x a w)
      (λ k x a w f g t v. both k x a w f g t)

  few_right : (k x : ℕ) → to_of n k x ≤ last → whole n first last k x ≡ false → Counted n first last k x k 1 (suc k)
  few_right =
      few_end (λ k x. to_of n k x ≤ last)
      (λ k x a w f g t.
      let s = size_next k in
      let c = both_halves k x a w in
      by_cases (le_or (to_of n k x) first)
      (λ h.
      let l = none_apart k x (apart_behind n first last k x h) in
      let r = all_or_not k (x + size_of k) (g (omega arith)) in
      omega arith)
      (λ h.
      let l = f (omega arith) (whole_late n first last k x (starts (suc k) x t w)) in
      let r = one_whole k (x + size_of k) (whole_yes n first last k (x + size_of k) (omega arith) (omega arith)) in
      omega arith))

  few_left : (k x : ℕ) → first ≤ from_of x → whole n first last k x ≡ false → Counted n first last k x k 1 (suc k)
  few_left =
      few_end (λ k x. first ≤ from_of x)
      (λ k x a w f g t.
      let s = size_next k in
      let c = both_halves k x a w in
      let e = ends (suc k) x t w in
      by_cases (le_or (to_of n k x) last)
      (λ h.
      let l = one_whole k x (whole_yes n first last k x t h) in
      let r = g (omega arith) (whole_short n first last k (x + size_of k) (omega arith)) in
      omega arith)
      (λ h.
      let l = f t (whole_short n first last k x h) in
      let r = none_apart k (x + size_of k) (apart_before n first last k (x + size_of k) (omega arith)) in
      omega arith))

  -- ---- any node

  -- where both halves meet the stretch, it covers the last event of the one and the first of the other; not both lie whole in it
  meet : (k x : ℕ) → apart n first last (suc k) x ≡ false → whole n first last (suc k) x ≡ false → first < to_of n k x → from_of (x + size_of k) < last →
      Counted n first last (suc k) x (max 1 (2 * k)) 2 (2 * suc k)
  meet k x a w h i =
      let s = size_next k in
      let c = both_halves k x a w in
      let l = few_right k x (omega arith) in
      let r = few_left k (x + size_of k) (omega arith) in
      by_cases (true_or_false (whole n first last k x))
      (λ y.
      let o = one_whole k x y in
      let f = whole_facts n first last k x y in
      let p = r (whole_short n first last k (x + size_of k) (omega (arith, ends (suc k) x f.0 w))) in
      omega arith)
      (λ y. let o = l y in let p = all_or_not k (x + size_of k) r in omega arith)

  few : (k x : ℕ) → Counted n first last k x (max 1 (2 * k - 2)) 2 (max 1 (2 * k))
  few =
      by_halves n first last (λ k x. Counted n first last k x (max 1 (2 * k - 2)) 2 (max 1 (2 * k)))
      (λ k x a. let p = none_apart k x a in omega arith)
      (λ k x a w. let p = one_whole k x w in omega arith)
      (λ x a w. let p = one_part x a w in omega arith)
      (λ k x a w f g.
      let c = both_halves k x a w in
      by_cases (le_or (to_of n k x) first)
      (λ h. let l = none_apart k x (apart_behind n first last k x h) in omega arith)
      (λ h.
      by_cases (le_or last (from_of (x + size_of k)))
      (λ i. let r = none_apart k (x + size_of k) (apart_before n first last k (x + size_of k) i) in omega arith)
      (λ i. let m = meet k x a w h i in omega arith)))

  -- ---- the stretch

  -- where one is left, those above it are the same one, alone
  few_above : (K : ℕ) → last ≤ block_events * size_of K → (k : ℕ) → K ≤ k → Counted n first last k 0 (max 1 (2 * K - 2)) 2 (max 1 (2 * K))
  few_above K b zero h = let z : K ≡ 0 = omega arith in let f = few 0 0 in rw z f
  few_above K b (suc k) h =
      by_cases (le_or K k)
      (λ l.
      by_cases (true_or_false (apart n first last (suc k) 0)) (λ a. let p = none_apart (suc k) 0 a in omega arith)
      (λ a.
      by_cases (true_or_false (whole n first last (suc k) 0)) (λ w. let p = one_whole (suc k) 0 w in omega arith)
      (λ w.
      let c = both_halves k 0 a w in
      let p = few_above K b k l in
      let r = none_apart k (0 + size_of k) (apart_before n first last k (0 + size_of k) (omega (arith, size_grows K k l))) in
      omega arith)))
      (λ l. let z : K ≡ suc k = omega arith in rw z (few (suc k) 0))

  -- Of at most 2^K blocks at most 2K − 2 entries are used, or one, and at most two blocks are partly read; together they are at most 2K, or one.
  pub few_used : (K : ℕ) → K ≤ top_level → last ≤ block_events * size_of K →
      (length (used_of n first last) ≤ max 1 (2 * K - 2))
      × (length (read_of n first last) ≤ 2)
      × (length (used_of n first last) + length (read_of n first last) ≤ max 1 (2 * K))
  few_used K h b = few_above K b top_level h
