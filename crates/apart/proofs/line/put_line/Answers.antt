-- Each finding has its line.
-- Assumes nothing.
use mathlib.Core.Path.{sym}
use native.Mathlib.Omega.{arith}
use Rattle.wire.proofs.Puts.{put_nil}
use Rattle.apart.proofs.line.put_line.Goals as goal

pub returns-in-Nothing : goal.returns-in-Nothing
returns-in-Nothing c = rw c.in-Nothing.is record { value = omega arith; s_after = sym (put_nil _ _) }

pub returns-in-First : goal.returns-in-First
returns-in-First c = rw c.in-First.is c.put_only.ensures

pub returns-in-Second : goal.returns-in-Second
returns-in-Second c = rw c.in-Second.is c.put_only-in-Second.ensures
