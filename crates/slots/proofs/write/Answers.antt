-- `slots::write` meets its contract. Stores of a byte are puts: `bytes_written`. Puts one behind the other are one put of the parts: `laid_put`.
-- Assumes nothing.
use Prim.Native.Nat.{◌+◌}
use mathlib.Core.Path.{◌≡◌, ◌∙◌}
use native.Mathlib.Nat.{add_assoc}
use native.Mathlib.Omega.{arith}
use lib.ListN.{length, length-set}
use Rattle.wire.proofs.Laid.{laid_put}
use Rattle.slots.specs.Slots.{queue_parts, queue_bytes}
use Rattle.slots.proofs.Steps.{bytes_written}
use borrow.Author.Rules.{rules}
use Rattle.slots.proofs.write.Goals as goal

pub bounds-s-at-2 : goal.bounds-s-at-2
bounds-s-at-2 c = simp length-set (search rules)

pub shape_of-s : goal.shape_of-s
shape_of-s c = simp length-set (search rules)

pub returns : goal.returns
unfolding queue_bytes
returns c =
    let a : _ = c.args in
    let e : length a.q.slots ≡ 128 = c.write_words.ensures.1 in (
      bytes_written c.put32.new.s (a.at + 516) (a.at + 517) a.q.head a.q.count (search rules) (search rules) (search rules) (search rules)
          ∙ rw (c.put32.ensures, c.write_words.ensures.0) (simp add_assoc at (laid_put (queue_parts a.q e) a.s.now a.at (omega (arith, c.requires)))),
      e,
    )
