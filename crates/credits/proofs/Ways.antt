-- The way of a client frame, and its mark.
-- Assumes nothing.
use Prim.Native.Nat.{ℕ, ◌≤◌}
use mathlib.Core.Bool.{true, false, cond, ◌&&◌}
use mathlib.Core.List.{[], ◌∷◌}
use mathlib.Core.Path.{◌≡◌, refl}
use native.Mathlib.Omega.{arith}
use borrow.Author.Tests.{eqb-false}
use lib.Dec.{eqb}
use Rattle.decide.proofs.Cases.{of_each}
use Rattle.settings.specs.declared.Settings.{Settings}
use Rattle.credits.specs.declared.Credits.{Credits}
use Rattle.credits.specs.declared.Way.{Way}
use Rattle.credits.specs.declared.Way.TheVariants.{ClassA, ClassB, Excess}
use Rattle.credits.specs.declared.Which.TheVariants.{B, D}
use Rattle.credits.specs.Which.{permits_all}
use Rattle.credits.specs.Way.{needs_of, mark_of, way_of}

pub mark_most : (w : Way) → mark_of w ≤ 1
mark_most ClassA = omega arith
mark_most ClassB = omega arith
mark_most Excess = omega arith

module _ (s : Settings) (c : Credits) where
  -- Client A goes as A.
  pub way_a : way_of s c 0 ≡ ClassA
  unfolding way_of
  way_a = refl

  -- Client B goes as B where B and D permit;
  pub way_b : permits_all s c (B ∷ D ∷ []) ≡ true → way_of s c 1 ≡ ClassB
  unfolding way_of
  way_b p = rw p

  -- failing that it is tried as excess.
  pub way_b_failing : permits_all s c (B ∷ D ∷ []) ≡ false → way_of s c 1 ≡ Excess
  unfolding way_of
  way_b_failing p = rw p

  -- Client C goes as excess.
  pub way_c : way_of s c 2 ≡ Excess
  unfolding way_of
  way_c = refl

  -- only B and C are marked
  pub way_mark : (class : ℕ) → mark_of (way_of s c class) ≤ class
  unfolding way_of
  way_mark class =
      of_each (λ (w : Way). mark_of w ≤ class) (eqb class 0) ClassA (cond (eqb class 1 && permits_all s c (needs_of ClassB)) ClassB Excess)
      (λ e. omega arith)
      (λ e. let n = eqb-false class 0 e in let m = mark_most (cond (eqb class 1 && permits_all s c (needs_of ClassB)) ClassB Excess) in omega arith)
