-- Both returns are rows of the definition, by the test that led there.
-- Assumes nothing.
use mathlib.Core.Path.{sym, ◌∙◌}
use Rattle.hex_text.proofs.Rows.{finish_whole, finish_cut}
use Rattle.hex_text.proofs.Hex.finish.Goals as goal

pub returns-then-is_text : goal.returns-then-is_text
returns-then-is_text c = c.finish.ensures ∙ sym (finish_whole _ (sym c.is_text.ensures ∙ c.if-is_text.true))

pub returns : goal.returns
returns c = sym (finish_cut _ (sym c.is_text.ensures ∙ c.if-is_text.false))
