-- The entries used are those that lie whole in the stretch while the one above doesn't.
-- Assumes nothing.
use Prim.Native.Nat.{ℕ, zero, suc, ◌+◌, ◌-◌, ◌*◌, ◌/◌, ◌%◌, ◌≤◌, ◌<◌}
use mathlib.Core.Bool.{true, false}
use mathlib.Core.Logic.{◌⊎◌, inl, inr, ⊎_elim, ◌↔◌}
use mathlib.Core.Path.{◌≡◌, refl, ap, ◌∙◌}
use native.Mathlib.Omega.{arith}
use Rattle.decide.proofs.Cases.{by_cases, le_or}
use Rattle.shaper.specs.Limits.{most_events}
use Rattle.index.specs.Tree.{top_level, size_of}
use Rattle.index.proofs.Sizes.{size_some, size_next, size_top}
use Rattle.stretch.specs.Found.{whole, apart}
use Rattle.stretch.specs.Used.{Node, used_in, used_of, Among, Used}
use Rattle.stretch.proofs.Facts.{whole_late, whole_short, whole_facts, not_whole_lem, apart_not, not_apart}
use Rattle.stretch.proofs.Rows.{by_halves, used_apart, used_whole, used_part, used_left, used_right, used_either}

-- where the i-th node of a level begins; above it stands the (i / 2)-th of the next
abbrev first_block : ℕ → ℕ → ℕ
first_block k i = size_of k * i

-- it is a half of the one above: the first where i is even, and else the second
halves : (k i : ℕ) → (first_block (suc k) (i / 2) ≡ first_block k i) ⊎ (first_block (suc k) (i / 2) + size_of k ≡ first_block k i)
halves k i =
    by_cases (le_or (i % 2) 0)
    (λ h. let even : i ≡ 2 * (i / 2) = omega arith in inl (rw (size_next k) (omega (arith, ap (λ (j : ℕ). size_of k * j) even))))
    (λ h. let odd : i ≡ 2 * (i / 2) + 1 = omega arith in inr (rw (size_next k) (omega (arith, ap (λ (j : ℕ). size_of k * j) odd))))

-- so that one covers all that the node covers
above_covers : (k i : ℕ) → (first_block (suc k) (i / 2) ≤ first_block k i) × (first_block k i + size_of k ≤ first_block (suc k) (i / 2) + size_of (suc k))
above_covers k i = by_cases (halves k i) (λ e. omega (arith, size_next k)) (λ e. omega (arith, size_next k))

-- a node of the top, or the one above it doesn't lie whole
abbrev AboveNot : ℕ → ℕ → ℕ → ℕ → ℕ → Type 0
AboveNot n first last k i = (k ≡ top_level) ⊎ (whole n first last (suc k) (first_block (suc k) (i / 2)) ≡ false)

module _ (n first last : ℕ) where
  -- where a node meets the stretch, so does the one above; and where it doesn't lie whole in it, nor does that
  above_apart : (k i : ℕ) → apart n first last k (first_block k i) ≡ false → apart n first last (suc k) (first_block (suc k) (i / 2)) ≡ false
  above_apart k i a =
      let f = not_apart n first last k (first_block k i) a in
      let c = above_covers k i in
      apart_not n first last (suc k) (first_block (suc k) (i / 2)) (omega arith) (omega arith)

  above_whole : (k i : ℕ) → whole n first last k (first_block k i) ≡ false → whole n first last (suc k) (first_block (suc k) (i / 2)) ≡ false
  above_whole k i w =
      let c = above_covers k i in
      by_cases (not_whole_lem n first last k (first_block k i) w)
      (λ h. whole_late n first last (suc k) (first_block (suc k) (i / 2)) (omega arith))
      (λ h. whole_short n first last (suc k) (first_block (suc k) (i / 2)) (omega arith))

  -- ---- what is used lies whole, while the one above doesn't

  module _ (within : last ≤ n) where
    -- a node that lies whole is used itself
    used_here : (k i : ℕ) (d : Node) → apart n first last k (first_block k i) ≡ false → whole n first last k (first_block k i) ≡ true → k ≤ top_level →
        AboveNot n first last k i → d ≡ record { level = k; block = first_block k i } → Used n first last d
    used_here k i d a w h v e =
        let f = not_apart n first last k (first_block k i) a in
        rw e (record { nth = i; begins = refl; exists = omega arith; below_top = h; lies_whole = w; above_not = v })

    used_below : (k x i : ℕ) → x ≡ first_block k i → k ≤ top_level → AboveNot n first last k i → (d : Node) → Among d (used_in n first last k x) → Used n first last d
    used_below =
        by_halves n first last
        (λ k x. (i : ℕ) → x ≡ first_block k i → k ≤ top_level → AboveNot n first last k i → (d : Node) → Among d (used_in n first last k x) → Used n first last d)
        (λ k x a i e h v d m. absurd (rw (used_apart n first last k x a) at m))
        (λ k x a w i e h v d m. used_here k i d (rw e at a) (rw e at w) h v (⊎_elim (λ t. cc) (λ t. absurd t) (rw (used_whole n first last k x a w) at m)))
        (λ x a w i e h v d m. absurd (rw (used_part n first last x a w) at m))
        (λ k x a w f g i e h v d m.
        let s = rw (size_next k) at e in
        let even : 2 * i / 2 ≡ i = omega arith in
        let odd : (2 * i + 1) / 2 ≡ i = omega arith in
        by_cases (used_either n first last k x a w d m)
        (λ l. f (2 * i) (omega arith) (omega arith) (inr (rw (even, ← e) w)) d l)
        (λ r. g (2 * i + 1) (omega arith) (omega arith) (inr (rw (odd, ← e) w)) d r))

    -- ---- and all that lies so is used

    module _ (most : n ≤ most_events) where
      -- what a node uses the one above uses too, up to the top, where one is left
      climb : (d : Node) (m k i : ℕ) → k + m ≡ top_level → apart n first last k (first_block k i) ≡ false → AboveNot n first last k i →
          Among d (used_in n first last k (first_block k i)) → Among d (used_of n first last)
      climb d zero k i e a v u =
          let z : k ≡ top_level = omega arith in
          let f = not_apart n first last k (first_block k i) a in
          let t : size_of k ≡ 4096 = ap size_of z ∙ size_top in
          let b : first_block k i ≡ 0 = first_left (size_of k) i t (omega arith) in
          rw (b, z) at u
        where
          first_left : (s i : ℕ) → s ≡ 4096 → 256 * (s * i) < most_events → s * i ≡ 0
          first_left s i t h = let z = rw t at h in rw t (omega arith)
      climb d (suc m) k i e a (inl v) u = absurd (omega arith)
      climb d (suc m) k i e a (inr v) u =
          let b = above_apart k i a in
          climb d m (suc k) (i / 2) (omega arith) b (inr (above_whole (suc k) (i / 2) v))
          (by_cases (halves k i)
          (λ h. used_left n first last k (first_block (suc k) (i / 2)) b v d (rw h u))
          (λ h. used_right n first last k (first_block (suc k) (i / 2)) b v d (rw h u)))

      used_climbs : (d : Node) → Used n first last d → Among d (used_of n first last)
      used_climbs d u =
          let f = whole_facts n first last d.level d.block u.lies_whole in
          let o = size_some d.level in
          let x = u.exists in
          let a : apart n first last d.level d.block ≡ false = apart_not n first last d.level d.block (omega arith) (omega arith) in
          climb d (top_level - d.level) d.level u.nth (omega arith) (rw u.begins at a) u.above_not
          (rw (← u.begins) (rw (used_whole n first last d.level d.block a u.lies_whole) (inl refl)))

      -- Those used lie whole in the stretch while the one above doesn't, and every such entry is used.
      pub used_exactly : (d : Node) → Among d (used_of n first last) ↔ Used n first last d
      used_exactly d = (used_below top_level 0 0 (omega arith) (omega arith) (inl refl) d, used_climbs d)
