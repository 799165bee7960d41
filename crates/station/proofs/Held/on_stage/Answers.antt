-- The word says whether there is a frame, and its size.
-- Assumes nothing.
use mathlib.Core.Path.{sym}
use Rattle.station.proofs.Hear.{held_none, held_one}
use Rattle.station.proofs.Held.on_stage.Goals as goal

pub returns-then-word-eq-EMPTY : goal.returns-then-word-eq-EMPTY
returns-then-word-eq-EMPTY c = sym (held_none c.args.word c.if-word-eq-EMPTY.true)

pub returns : goal.returns
returns c = rw c.of-frame.ensures (sym (held_one c.args.word c.if-word-eq-EMPTY.false))
