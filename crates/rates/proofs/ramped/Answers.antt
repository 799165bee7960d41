-- `rates::ramped` meets its contract. What is added is the part of the distance.
-- Assumes nothing.
use Rattle.rates.specs.Rates.{part_of, ramped_of}
use mathlib.Core.Path.{ap, ◌∙◌}
use Prim.Native.Nat.{ℕ, ◌+◌}
use Rattle.rates.proofs.ramped.Goals as goal

pub returns : goal.returns
unfolding ramped_of
returns c =
    let a : _ = c.args in
    ap (λ (p : ℕ). a.value + p) (c.part.ensures ∙ ap (λ (d : ℕ). part_of d a.coef) c.less-distance.ensures)
