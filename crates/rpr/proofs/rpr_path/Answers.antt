-- What became of the frame is packed, and a refusal is its number alone.
-- Assumes nothing.
use mathlib.Core.Path.{ap, ◌∙◌}
use Rattle.rpr.specs.Ways.{moved_answer, path_answer}
use Rattle.rpr.proofs.rpr_path.Goals as goal

pub returns-in-Ok : goal.returns-in-Ok
unfolding path_answer
returns-in-Ok c = c.moved.ensures ∙ ap moved_answer c.in-Ok.ensures

pub returns-in-Err : goal.returns-in-Err
unfolding path_answer
returns-in-Err c = c.number.ensures ∙ ap moved_answer c.in-Err.ensures
