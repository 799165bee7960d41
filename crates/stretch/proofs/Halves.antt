-- What a stretch comes to, by the block at which its first and its last block part: the levels above change nothing.
-- Assumes nothing.
use Prim.Native.Nat.{ℕ, zero, suc, ◌+◌, ◌-◌, ◌*◌, ◌/◌, ◌%◌, ◌≤◌, ◌<◌, min, max}
use mathlib.Core.Bool.{true, false}
use mathlib.Core.Logic.{◌⊎◌, inl, inr}
use mathlib.Core.Path.{◌≡◌, refl, sym, ap, ap₂, ◌∙◌}
use native.Mathlib.Omega.{arith}
use borrow.Author.Tests.{lt-ltb, le-ltb}
use Rattle.decide.proofs.Cases.{by_cases, le_or, true_or_false}
use Rattle.shaper.specs.Limits.{most_events}
use Rattle.index.specs.Tree.{top_level, size_of, from_of, to_of, stands_at}
use Rattle.index.proofs.Sizes.{size_some, size_next, size_block, size_top}
use Rattle.stretch.specs.declared.Found.{Found}
use Rattle.stretch.specs.declared.Found.TheVariants.{Nothing, Faulty, Outside, Sum}
use Rattle.stretch.specs.Parting.{Parted}
use Rattle.stretch.specs.Found.{Source, and_found, entry_found, part_found, whole, apart, part_in, found_in}
use Rattle.stretch.proofs.Parting.{parted_level}
use Rattle.stretch.proofs.Facts.{whole_yes, whole_late, whole_short, whole_facts, not_whole_lem, apart_before, apart_behind, apart_not, apart_facts, not_apart}

-- ---- where an entry stands

pub stands_block : (n x : ℕ) → stands_at n 0 x ≡ 2 * x
unfolding stands_at
stands_block n x = refl

pub stands_parted : (n k x : ℕ) → from_of (x + size_of k) < n → stands_at n (suc k) x ≡ 2 * (x + size_of k) - 1
unfolding stands_at
stands_parted n k x l = rw (lt-ltb (from_of (x + size_of k)) n l)

pub stands_alone : (n k x : ℕ) → n ≤ from_of (x + size_of k) → stands_at n (suc k) x ≡ stands_at n k x
unfolding stands_at
stands_alone n k x l = rw (le-ltb (from_of (x + size_of k)) n l)

-- ---- nothing is neutral

pub and_nothing_left : (g : Found) → and_found Nothing g ≡ g
unfolding and_found
and_nothing_left g = refl

pub and_nothing_right : (f : Found) → and_found f Nothing ≡ f
unfolding and_found
and_nothing_right Nothing = refl
and_nothing_right (Faulty n) = refl
and_nothing_right Outside = refl
and_nothing_right (Sum s) = refl

-- ---- row by row

partly : (n first last k x : ℕ) → (from_of x < first) ⊎ (last < to_of n k x) → whole n first last k x ≡ false
partly n first last k x o = by_cases o (whole_late n first last k x) (whole_short n first last k x)

module _ (q : Source) (first last : ℕ) where
  pub found_apart : (k x : ℕ) → apart q.events first last k x ≡ true → found_in q first last k x ≡ Nothing
  unfolding found_in
  found_apart zero x a = rw a
  found_apart (suc k) x a = rw a

  pub found_whole : (k x : ℕ) → apart q.events first last k x ≡ false → whole q.events first last k x ≡ true →
      found_in q first last k x ≡ entry_found q (stands_at q.events k x) (to_of q.events k x - from_of x)
  unfolding found_in
  found_whole zero x a w = rw (a, w)
  found_whole (suc k) x a w = rw (a, w)

  pub found_part : (x : ℕ) → apart q.events first last 0 x ≡ false → whole q.events first last 0 x ≡ false → found_in q first last 0 x ≡ part_in q first last x
  unfolding found_in
  found_part x a w = rw (a, w)

  pub found_both : (k x : ℕ) → apart q.events first last (suc k) x ≡ false → whole q.events first last (suc k) x ≡ false →
      found_in q first last (suc k) x ≡ and_found (found_in q first last k x) (found_in q first last k (x + size_of k))
  unfolding found_in
  found_both k x a w = rw (a, w)

-- ---- what a stretch is cut to

-- A stretch and one cut from it that meet a node alike.
module _ (q : Source) (first last from to : ℕ) (later : first ≤ from) (sooner : to ≤ last) (within : last ≤ q.events) where
  alike_apart : (k x : ℕ) → from ≤ max first (from_of x) → min last (to_of q.events k x) ≤ to →
      apart q.events first last k x ≡ apart q.events from to k x
  alike_apart k x f t =
      by_cases (true_or_false (apart q.events first last k x))
      (λ a. a ∙ sym (by_cases (apart_facts q.events first last k x a) (λ b. apart_before q.events from to k x (omega arith)) (λ b. apart_behind q.events from to k x (omega arith))))
      (λ a.
      let b = not_apart q.events first last k x a in
      let s = size_some k in
      a ∙ sym (apart_not q.events from to k x (omega arith) (omega arith)))

  alike_whole : (k x : ℕ) → from ≤ max first (from_of x) → min last (to_of q.events k x) ≤ to →
      whole q.events first last k x ≡ whole q.events from to k x
  alike_whole k x f t =
      by_cases (true_or_false (whole q.events first last k x))
      (λ a.
      let b = whole_facts q.events first last k x a in
      a ∙ sym (whole_yes q.events from to k x (omega arith) (omega arith)))
      (λ a. a ∙ sym (partly q.events from to k x (by_cases (not_whole_lem q.events first last k x a) (λ b. inl (omega arith)) (λ b. inr (omega arith)))))

  alike : (k x : ℕ) → from ≤ max first (from_of x) → min last (to_of q.events k x) ≤ to → found_in q first last k x ≡ found_in q from to k x
  unfolding found_in
  alike zero x f t =
      let a : max first (from_of x) ≡ max from (from_of x) = omega arith in
      let b : min last (to_of q.events 0 x) ≡ min to (to_of q.events 0 x) = omega arith in
      rw (alike_apart 0 x f t, alike_whole 0 x f t, a, b)
  alike (suc k) x f t =
      let s = size_next k in
      rw (alike_apart (suc k) x f t, alike_whole (suc k) x f t, alike k x f (omega arith), alike k (x + size_of k) (omega arith) (omega arith))

-- An end that lies behind the node may be cut off, and a beginning that lies before it.
module _ (q : Source) (first last : ℕ) (within : last ≤ q.events) where
  pub cut_last : (k x cut : ℕ) → to_of q.events k x ≤ cut → cut ≤ last → found_in q first last k x ≡ found_in q first cut k x
  cut_last k x cut t c = alike q first last first cut (omega arith) c within k x (omega arith) (omega arith)

  pub cut_first : (k x cut : ℕ) → cut ≤ from_of x → first ≤ cut → found_in q first last k x ≡ found_in q cut last k x
  cut_first k x cut t c = alike q first last cut last c (omega arith) within k x (omega arith) (omega arith)

-- ---- the levels above

-- A stretch that lies in one half of a node comes to what it comes to there.
module _ (q : Source) (first last : ℕ) (some : first < last) where
  -- the node covers what its first half does if that is alone, and they are one entry
  pub down_first : (k x : ℕ) → from_of x ≤ first → last ≤ to_of q.events k x → found_in q first last (suc k) x ≡ found_in q first last k x
  down_first k x f t =
      let n = q.events in
      let p = size_some k in
      let s = size_next k in
      let near : apart n first last (suc k) x ≡ false = apart_not n first last (suc k) x (omega arith) (omega arith) in
      by_cases (true_or_false (whole n first last (suc k) x))
      (λ w.
      let b = whole_facts n first last (suc k) x w in
      let e : to_of n (suc k) x ≡ to_of n k x = omega arith in
      found_whole q first last (suc k) x near w
      ∙ rw (stands_alone n k x (omega arith), e)
      (sym (found_whole q first last k x (apart_not n first last k x (omega arith) (omega arith)) (whole_yes n first last k x b.0 (omega arith)))))
      (λ w.
      found_both q first last k x near w
      ∙ ap (and_found (found_in q first last k x)) (found_apart q first last k (x + size_of k) (apart_before n first last k (x + size_of k) (omega arith)))
      ∙ and_nothing_right (found_in q first last k x))

  pub down_second : (k x : ℕ) → from_of (x + size_of k) ≤ first → last ≤ to_of q.events k (x + size_of k) →
      found_in q first last (suc k) x ≡ found_in q first last k (x + size_of k)
  down_second k x f t =
      let n = q.events in
      let p = size_some k in
      let s = size_next k in
      found_both q first last k x (apart_not n first last (suc k) x (omega arith) (omega arith)) (whole_late n first last (suc k) x (omega arith))
      ∙ ap (λ g. and_found g (found_in q first last k (x + size_of k))) (found_apart q first last k x (apart_behind n first last k x (omega arith)))
      ∙ and_nothing_left (found_in q first last k (x + size_of k))

  -- d levels up to the top: the i-th node of a level lies in the (i / 2)-th of the next
  climb : (d k i x : ℕ) → d + k ≡ top_level → x ≡ size_of k * i → x < size_of top_level → from_of x ≤ first → last ≤ to_of q.events k x →
      found_in q first last top_level 0 ≡ found_in q first last k x
  climb zero k i x u e l f t =
      let top : k ≡ top_level = omega arith in
      let z : x ≡ 0 = omega (arith, ap (λ s. s * i) (ap size_of top ∙ size_top), size_top) in
      rw (top, z)
  climb (suc d) k i x u e l f t =
      let s : size_of (suc k) * (i / 2) ≡ (size_of k + size_of k) * (i / 2) = ap (λ z. z * (i / 2)) (size_next k) in
      by_cases (le_or (i % 2) 0)
      (λ even.
      let v : size_of k * i ≡ size_of k * (2 * (i / 2)) = ap (λ z. size_of k * z) (omega arith) in
      climb d (suc k) (i / 2) x (omega arith) (omega arith) l f (omega (arith, size_next k)) ∙ down_first k x f t)
      (λ odd.
      let v : size_of k * i ≡ size_of k * (2 * (i / 2) + 1) = ap (λ z. size_of k * z) (omega arith) in
      let y : x ≡ size_of (suc k) * (i / 2) + size_of k = omega arith in
      climb d (suc k) (i / 2) (size_of (suc k) * (i / 2)) (omega arith) refl (omega arith) (omega arith) (omega (arith, size_next k))
      ∙ down_second k (size_of (suc k) * (i / 2)) (omega arith) (omega arith)
      ∙ ap (found_in q first last k) (sym y))

  pub from_top : (k i x : ℕ) → x ≡ size_of k * i → k ≤ top_level → x < size_of top_level → from_of x ≤ first → last ≤ to_of q.events k x →
      found_in q first last top_level 0 ≡ found_in q first last k x
  from_top k i x e u l f t = climb (top_level - k) k i x (omega arith) e l f t

-- ---- a stretch of one block, and one of more

-- The stretch lies in the i-th node of level k + 1, which begins at block x, on both sides of block m, where its halves meet.
pub record Across (first last k i x m : ℕ) : Type 0 where
  pub begins : x ≡ size_of (suc k) * i
  pub meets : m ≡ x + size_of k
  pub low : suc k ≤ top_level
  pub from : from_of x ≤ first
  pub before : first < from_of m
  pub behind : from_of m < last
  pub to : last ≤ from_of (m + size_of k)

module _ (q : Source) (first last : ℕ) (some : first < last) (within : last ≤ q.events) (few : q.events ≤ most_events) where
  module _ (x : ℕ) (from : from_of x ≤ first) (to : last ≤ from_of x + 256) where
    pub at_block : found_in q first last top_level 0 ≡ found_in q first last 0 x
    at_block =
        from_top q first last some 0 x x (omega (arith, ap (λ s. s * x) size_block)) (omega arith) (omega (arith, size_top)) from (omega (arith, size_block))

    near : apart q.events first last 0 x ≡ false
    near = apart_not q.events first last 0 x (omega arith) (omega (arith, size_block))

    pub block_whole : first ≡ from_of x → last ≡ to_of q.events 0 x → found_in q first last top_level 0 ≡ entry_found q (2 * x) (last - first)
    block_whole f t =
        at_block
        ∙ found_whole q first last 0 x near (whole_yes q.events first last 0 x (omega arith) (omega arith))
        ∙ rw (stands_block q.events x, f, t)

    pub block_part : (from_of x < first) ⊎ (last < to_of q.events 0 x) →
        found_in q first last top_level 0 ≡ part_found q x (first - from_of x) (last - from_of x)
    block_part o =
        let a : max first (from_of x) ≡ first = omega arith in
        let b : min last (to_of q.events 0 x) ≡ last = omega (arith, size_block) in
        at_block ∙ found_part q first last x near (partly q.events first last 0 x o) ∙ rw (a, b)

  -- its first and its last block part at block m
  module _ (k i x m : ℕ) (w : Across first last k i x m) where
    at_node : found_in q first last top_level 0 ≡ found_in q first last (suc k) x
    at_node = from_top q first last some (suc k) i x w.begins w.low (omega (arith, size_top)) w.from (omega (arith, size_next k))

    meet : apart q.events first last (suc k) x ≡ false
    meet = apart_not q.events first last (suc k) x (omega arith) (omega (arith, size_next k))

    pub covered : first ≡ from_of x → last ≡ to_of q.events (suc k) x → found_in q first last top_level 0 ≡ entry_found q (2 * m - 1) (last - first)
    covered f t =
        at_node
        ∙ found_whole q first last (suc k) x meet (whole_yes q.events first last (suc k) x (omega arith) (omega arith))
        ∙ rw (stands_parted q.events k x (omega arith), w.meets, f, t)

    pub halved : (from_of x < first) ⊎ (last < to_of q.events (suc k) x) →
        found_in q first last top_level 0 ≡ and_found (found_in q first (from_of m) top_level 0) (found_in q (from_of m) last top_level 0)
    halved o =
        let s : x ≡ (size_of k + size_of k) * i = w.begins ∙ ap (λ z. z * i) (size_next k) in
        at_node
        ∙ found_both q first last k x meet (partly q.events first last (suc k) x o)
        ∙ rw (← w.meets)
        (ap₂ and_found
        (cut_last q first last within k x (from_of m) (omega arith) (omega arith)
        ∙ sym (from_top q first (from_of m) w.before k (2 * i) x (omega arith) (omega arith) (omega (arith, size_top)) w.from (omega arith)))
        (cut_first q first last within k m (from_of m) (omega arith) (omega arith)
        ∙ sym (from_top q (from_of m) last w.behind k (2 * i + 1) m (omega arith) (omega arith) (omega (arith, size_top)) (omega arith) (omega arith))))

  -- The same of m and h, which the code has: the node begins at block m - h and ends before block m + h.
  module _ (m h : ℕ) (p : Parted (first / 256) ((last - 1) / 256) m h) where
    pub parted_across : Across first last p.level p.nth (m - h) m
    parted_across = record {
      begins = omega arith;
      meets = omega arith;
      low = (parted_level p (omega arith)).0;
      from = omega arith;
      before = omega arith;
      behind = omega arith;
      to = omega arith;
    }

    pub parted_covered : first ≡ from_of (m - h) → last ≡ min (from_of (m + h)) q.events → found_in q first last top_level 0 ≡ entry_found q (2 * m - 1) (last - first)
    parted_covered f t = covered p.level p.nth (m - h) m parted_across f (omega (arith, size_next p.level))

    pub parted_halved : (from_of (m - h) < first) ⊎ (last < min (from_of (m + h)) q.events) →
        found_in q first last top_level 0 ≡ and_found (found_in q first (from_of m) top_level 0) (found_in q (from_of m) last top_level 0)
    parted_halved o =
        halved p.level p.nth (m - h) m parted_across (by_cases o (λ f. inl f) (λ t. inr (omega (arith, size_next p.level))))
