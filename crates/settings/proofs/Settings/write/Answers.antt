-- `settings::Settings::write` meets its contract. Puts one behind the other are one put of the parts: `laid_put`.
-- Assumes nothing.
use native.Mathlib.Nat.{add_assoc}
use native.Mathlib.Omega.{arith}
use Rattle.wire.proofs.Laid.{laid_put}
use Rattle.settings.specs.Words.{settings_parts, settings_bytes}
use Rattle.settings.proofs.Settings.write.Goals as goal

pub returns : goal.returns
unfolding settings_bytes
returns c =
    rw (c.write-5.ensures, c.write-4.ensures, c.write-3.ensures, c.write-2.ensures, c.put32-2.ensures, c.put32.ensures, c.write.ensures)
    (simp add_assoc at (laid_put (settings_parts c.args.self) c.args.s.now c.args.at (omega (arith, c.requires))))
