-- The arm of the place between two bytes is a row of the definition.
-- Assumes nothing.
use mathlib.Core.Path.{sym, ap}
use Rattle.hex_text.specs.Fed.{is_whole}
use Rattle.hex_text.proofs.Hex.is_text.Goals as goal

pub returns-in-Between : goal.returns-in-Between
returns-in-Between c = sym (ap is_whole c.in-Between.is)
