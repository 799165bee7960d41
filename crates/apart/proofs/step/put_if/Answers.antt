-- A line where the events differ, else nothing.
-- Assumes nothing.
use mathlib.Core.Path.{sym, ap, ◌∙◌}
use native.Mathlib.Omega.{arith}
use lib.ListN.{length}
use Rattle.wire.proofs.Puts.{put_nil}
use Rattle.apart.proofs.Rows.{line_differs, line_same}
use Rattle.apart.proofs.step.put_if.Goals as goal

pub put_both-requires : goal.put_both-requires
put_both-requires c =
    let a = c.args in
    omega (arith, ap length (line_differs a.n a.e a.f (sym c.differs.ensures ∙ c.if-differs.true)))

pub returns-then-differs : goal.returns-then-differs
returns-then-differs c =
    let a = c.args in
    rw (line_differs a.n a.e a.f (sym c.differs.ensures ∙ c.if-differs.true)) c.put_both.ensures

pub returns : goal.returns
returns c =
    let a = c.args in
    rw (line_same a.n a.e a.f (sym c.differs.ensures ∙ c.if-differs.false)) record { value = omega arith; s_after = sym (put_nil _ _) }
