-- A choice is packed, and a refusal is its number alone.
-- Assumes nothing.
use mathlib.Core.Path.{ap, ◌∙◌}
use Rattle.rpr.specs.Ways.{choice_answer, choose_answer}
use Rattle.rpr.proofs.rpr_choose.Goals as goal

pub returns-in-Ok : goal.returns-in-Ok
unfolding choose_answer
returns-in-Ok c = c.chosen.ensures ∙ ap choice_answer c.in-Ok.ensures

pub returns-in-Err : goal.returns-in-Err
unfolding choose_answer
returns-in-Err c = c.number.ensures ∙ ap choice_answer c.in-Err.ensures
