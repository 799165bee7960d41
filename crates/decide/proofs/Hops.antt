-- Hops that are not within the ring reach the number of stations or more. Assumes nothing.
use Prim.Native.Nat.{ℕ, ◌≤◌}
use mathlib.Core.Bool.{true, false, not, true≢false}
use mathlib.Core.Logic.{◌↔◌}
use mathlib.Core.Path.{◌≡◌, sym, ap, ◌∙◌}
use native.Mathlib.Omega.{arith}
use borrow.Author.Tests.{not-true}
use Rattle.decide.specs.Test.{test, passes}
use Rattle.decide.specs.Hops.{in_ring}
use Rattle.decide.proofs.Cases.{by_cases, le_or}
use Rattle.decide.proofs.Tests.{failing}

module _ (stations hops : ℕ) where
  pub out_of_ring : stations ≤ hops → test (in_ring stations hops) ≡ false
  out_of_ring g = failing (in_ring stations hops) (λ l. omega arith)

  pub out_exactly : (not (test (in_ring stations hops)) ≡ true) ↔ (stations ≤ hops)
  out_exactly = (
    λ e. by_cases (le_or stations hops) (λ g. g) (λ l. absurd (true≢false (sym (passes (in_ring stations hops) l) ∙ not-true _ e))),
    λ g. ap not (out_of_ring g),
  )
