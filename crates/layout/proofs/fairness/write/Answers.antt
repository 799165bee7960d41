-- `layout::fairness::write` meets its contract. Puts of its parts one behind the other are one put: `laid_put`.
-- Assumes nothing.
use native.Mathlib.Nat.{add_assoc}
use native.Mathlib.Omega.{arith}
use Rattle.wire.proofs.Laid.{laid_put}
use Rattle.layout.specs.Layout.{fair_parts}
use Rattle.layout.proofs.fairness.write.Goals as goal

pub returns : goal.returns
returns c =
    rw (c.write_received.ensures, c.put32.ensures, c.write_decided.ensures, c.write_stored.ensures, c.write_four.ensures)
    (simp add_assoc at (laid_put (fair_parts c.args.f) c.args.s.now c.args.at (omega (arith, c.requires))))
