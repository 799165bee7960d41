-- `slots::write_slot` meets its contract. Stores of a byte are puts: `bytes_written`. Puts of parts of a queue leave the others: `slot_written`.
-- Assumes nothing.
use Prim.Native.Nat.{◌+◌}
use mathlib.Core.Path.{◌∙◌}
use lib.ListN.{length-set}
use Rattle.slots.proofs.Steps.{bytes_written}
use Rattle.slots.proofs.Anew.{slot_written}
use borrow.Author.Rules.{rules}
use Rattle.slots.proofs.write_slot.Goals as goal

pub bounds-s-at-2 : goal.bounds-s-at-2
bounds-s-at-2 c = simp length-set (search rules)

pub shape_of-s : goal.shape_of-s
shape_of-s c = simp length-set (search rules)

pub returns : goal.returns
returns c =
    let a : _ = c.args in
    bytes_written c.put32-2.new.s (a.at + 516) (a.at + 517) a.head a.count (search rules) (search rules) (search rules) (search rules)
    ∙ rw (c.put32-2.ensures, c.put32.ensures)
    (slot_written a.s.now a.at c.requires.0 (search rules) a.i a.word a.held a.head a.count c.requires.1)
