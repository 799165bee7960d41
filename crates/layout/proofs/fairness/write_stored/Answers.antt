-- `layout::fairness::write_stored` meets its contract. Puts of its parts one behind the other are one put: `laid_put`.
-- Assumes nothing.
use native.Mathlib.Nat.{add_assoc}
use native.Mathlib.Omega.{arith}
use Rattle.wire.proofs.Laid.{laid_put}
use Rattle.layout.specs.Layout.{stored_parts}
use Rattle.layout.proofs.fairness.write_stored.Goals as goal

pub returns : goal.returns
returns c =
    rw (c.put64-4.ensures, c.put64-3.ensures, c.put64-2.ensures, c.put64.ensures)
    (simp add_assoc at (laid_put (stored_parts c.args.n) c.args.s.now c.args.at (omega (arith, c.requires))))
