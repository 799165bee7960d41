-- How far short a shaper is, in plain words.
-- Assumes nothing.
use Prim.Native.Nat.{ℕ, ◌+◌, ◌≤◌, ◌<◌}
use mathlib.Core.Bool.{Bool, true, false, true≢false}
use mathlib.Core.Logic.{◌↔◌}
use mathlib.Core.Path.{◌≡◌, sym, ◌∙◌}
use native.Mathlib.Omega.{arith}
use borrow.Author.Tests.{eq-eqb, ne_eqb}
use lib.Dec.{eqb}
use Rattle.decide.proofs.Cases.{by_cases, true_or_false}
use Rattle.shaper.specs.Credit.{permits}
use Rattle.shaper.specs.Short.{shortfall}
use Rattle.shaper.proofs.Credit.{permits_exactly}

-- a test that holds exactly if nothing is missing, as one comparison; and where something is, it fails
pub by_zero : (b : Bool) (n : ℕ) → (b ≡ true) ↔ (n ≡ 0) → b ≡ eqb n 0
by_zero b n exactly =
    by_cases (true_or_false b)
    (λ e. e ∙ sym (eq-eqb n 0 (exactly.0 e)))
    (λ e. e ∙ sym (ne_eqb n 0 (λ z. true≢false (sym (exactly.1 z) ∙ e))))

pub fails_above : (b : Bool) (n : ℕ) → (b ≡ true) ↔ (n ≡ 0) → 0 < n → b ≡ false
fails_above b n exactly h = by_zero b n exactly ∙ ne_eqb n 0 (λ z. omega arith)

module _ (credit lo : ℕ) where
  -- It is the least amount whose addition would make the credit exceed loLimit: each amount that does is as large, and each as large does.
  pub shortfall_least : (x : ℕ) → (lo < credit + x) ↔ (shortfall credit lo ≤ x)
  shortfall_least x = (λ h. omega arith, λ h. omega arith)

  -- a send is permitted exactly if nothing is missing,
  pub permits_short : (permits credit lo ≡ true) ↔ (shortfall credit lo ≡ 0)
  permits_short = (
    λ e. let h = (permits_exactly credit lo).0 e in omega arith,
    λ e. (permits_exactly credit lo).1 (omega arith),
  )

  -- as one test
  pub permits_by : permits credit lo ≡ eqb (shortfall credit lo) 0
  permits_by = by_zero (permits credit lo) (shortfall credit lo) permits_short

  -- and where something is missing it is not
  pub denied_short : 0 < shortfall credit lo → permits credit lo ≡ false
  denied_short = fails_above (permits credit lo) (shortfall credit lo) permits_short
