-- `settings::Shapers::write` meets its contract. Puts one behind the other are one put of the parts: `laid_put`.
-- Assumes nothing.
use native.Mathlib.Nat.{add_assoc}
use native.Mathlib.Omega.{arith}
use Rattle.wire.proofs.Laid.{laid_put}
use Rattle.settings.specs.Words.{shapers_parts}
use Rattle.settings.proofs.Shapers.write.Goals as goal

pub returns : goal.returns
returns c =
    rw (c.write-5.ensures, c.write-4.ensures, c.write-3.ensures, c.write-2.ensures, c.write.ensures)
    (simp add_assoc at (laid_put (shapers_parts c.args.self) c.args.s.now c.args.at (omega (arith, c.requires))))
