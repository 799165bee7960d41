-- A ceiling above hiLimit is out of range; below it the natural numbers decide.
-- Assumes nothing.
use mathlib.Core.Path.{sym, ap, ◌∙◌}
use Rattle.decide.specs.Test.{test}
use Rattle.plain.specs.Range.{plain_range}
use Rattle.summary.proofs.Paper.{above_out, below_range}
use Rattle.summary.proofs.Summary.in_range.Goals as goal

pub returns-then-is_above : goal.returns-then-is_above
returns-then-is_above c = sym (above_out _ (sym c.is_above.ensures ∙ c.if-is_above.true))

pub returns : goal.returns
returns c = c.in_range.ensures ∙ ap (λ p. test (plain_range p)) c.plain.ensures ∙ below_range _ (sym c.is_above.ensures ∙ c.if-is_above.false)
