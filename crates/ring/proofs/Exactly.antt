-- The tests behind the refusals of choice and path, each as the plain fact that it tests, both ways.
-- Assumes nothing.
use Prim.Native.Nat.{ℕ, ◌^◌, ◌≤◌, ◌<◌}
use mathlib.Core.Bool.{Bool, true, false, not, ◌&&◌}
use mathlib.Core.Logic.Iff
use mathlib.Core.Logic.{inl, inr, ⊎_elim, ◌↔◌}
use mathlib.Core.Path.{◌≡◌}
use native.Mathlib.Nat.{div-eq_of_lt}
use native.Mathlib.Omega.{arith}
use lib.Dec.{eqb}
use borrow.Author.Tests.{eqb-false, ne_eqb, not-true}
use Rattle.decide.specs.Test.{test, both}
use Rattle.decide.proofs.Tests.{fails, failing}
use Rattle.ring.specs.declared.Way.{Way}
use Rattle.ring.specs.declared.Way.TheVariants.{Left, Right}
use Rattle.ring.specs.Links.{usable}
use Rattle.ring.specs.Choosing.{protected_of, reaches_of, no_way, bad_size, bad_word, bad_index, bad_code}
use Rattle.ring.proofs.Bits.{low_only, below_exactly}

-- 2 to 63 stations.
pub size_exactly : (stations : ℕ) → (test (bad_size stations) ≡ false) ↔ ((2 ≤ stations) × (stations ≤ 63))
size_exactly stations = (
  λ e. let f = fails (bad_size stations) e in
      let low : stations < 2 → ⊥ = λ h. f (inl h) in
      let high : 63 < stations → ⊥ = λ h. f (inr h) in
      omega arith,
  λ h. failing (bad_size stations) (λ k. ⊎_elim (λ l. omega arith) (λ l. omega arith) k),
)

-- The word has no bit above the ring's links,
pub word_exactly : (stations links : ℕ) → (test (bad_word stations links) ≡ false) ↔ (links < 2 ^ stations)
word_exactly stations links = (
  λ e. let f = fails (bad_word stations links) e in low_only links stations (omega arith),
  λ h. failing (bad_word stations links) (λ k. let e = div-eq_of_lt h in omega arith),
)

-- so each bit from the number of stations on is 0.
pub bits_exactly : (stations links : ℕ) → (test (bad_word stations links) ≡ false) ↔ ((k : ℕ) → stations ≤ k → usable links k ≡ false)
bits_exactly stations links = Iff.trans (word_exactly stations links) (below_exactly links stations)

-- Own and target index are the ring's, and differ.
pub index_exactly : (stations own target : ℕ)
    → (test (bad_index stations own target) ≡ false) ↔ ((own < stations) × (target < stations) × (own ≡ target → ⊥))
index_exactly stations own target = (
  λ e. let f = fails (bad_index stations own target) e in
      let out : stations ≤ own → ⊥ = λ h. f (inl h) in
      let far : stations ≤ target → ⊥ = λ h. f (inr (inl h)) in
      (omega arith, omega arith, λ h. f (inr (inr h))),
  λ h. failing (bad_index stations own target) (λ k. ⊎_elim (λ l. omega arith) (λ m. ⊎_elim (λ l. omega arith) (λ l. h.2 l) m) k),
)

-- The codes: side 0 unspecified, 1 left, 2 right, 3 default; protection 0 unspecified, 1 protected, 2 unprotected; ring 0 steering, 1 wrapping.
pub code_exactly : (side protection ring : ℕ)
    → (test (bad_code side protection ring) ≡ false) ↔ ((side ≤ 3) × (protection ≤ 2) × (ring ≤ 1))
code_exactly side protection ring = (
  λ e. let f = fails (bad_code side protection ring) e in
      let a : 3 < side → ⊥ = λ h. f (inl h) in
      let b : 2 < protection → ⊥ = λ h. f (inr (inl h)) in
      let c : 1 < ring → ⊥ = λ h. f (inr (inr h)) in
      omega arith,
  λ h. failing (bad_code side protection ring) (λ k. ⊎_elim (λ l. omega arith) (λ m. ⊎_elim (λ l. omega arith) (λ l. omega arith) m) k),
)

-- No usable way: protected, and neither side reaches.
pub no_way_exactly : (stations own target links protection : ℕ)
    → (no_way stations own target links protection ≡ true) ↔ ((protection ≡ 2 → ⊥) × ((way : Way) → reaches_of way stations own target links ≡ false))
unfolding no_way
no_way_exactly stations own target links protection = (
  λ e. let p = both protected (left && right) e in
      let s = both left right p.1 in
      (eqb-false protection 2 (not-true (eqb protection 2) p.0), sides (not-true (reaches Left) s.0) (not-true (reaches Right) s.1)),
  λ h. rw (ne_eqb protection 2 h.0, h.1 Left, h.1 Right),
)
  where
    reaches : Way → Bool
    reaches way = reaches_of way stations own target links

    protected : Bool
    protected = protected_of protection

    left : Bool
    left = not (reaches Left)

    right : Bool
    right = not (reaches Right)

    sides : reaches Left ≡ false → reaches Right ≡ false → (way : Way) → reaches way ≡ false
    sides l r Left = l
    sides l r Right = r
