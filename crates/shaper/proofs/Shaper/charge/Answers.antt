-- One row decides: the send is turned down exactly where `ask` says that something is missing.
-- Assumes nothing.
use mathlib.Core.Path.{sym}
use native.Mathlib.Omega.{arith}
use Rattle.shaper.proofs.Short.{permits_short, denied_short}
use Rattle.shaper.proofs.Charge.{permitted, turned_down}
use Rattle.shaper.proofs.Shaper.charge.Goals as goal

pub returns-then-short-gt0 : goal.returns-then-short-gt0
returns-then-short-gt0 c =
    let s = c.args.self in
    rw c.ask-short.ensures (sym (turned_down s _ (denied_short s.credit s.limits.lo (omega (arith, c.if-short-gt0.true, c.ask-short.ensures)))))

pub returns : goal.returns
returns c =
    let s = c.args.self in
    rw c.lowered-credit.ensures (sym (permitted s _ ((permits_short s.credit s.limits.lo).1 (omega (arith, c.if-short-gt0.false, c.ask-short.ensures)))))
