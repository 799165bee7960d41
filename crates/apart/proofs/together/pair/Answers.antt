-- Events that differ are a row, and equal ones the other.
-- Assumes nothing.
use mathlib.Core.Path.{sym, ◌∙◌}
use Rattle.apart.proofs.Rows.{pair_differs, pair_same}
use Rattle.apart.proofs.together.pair.Goals as goal

pub returns-then-differs : goal.returns-then-differs
returns-then-differs c =
    cc (pair_differs _ _ _ _ _ _ _ (sym c.differs.ensures ∙ c.if-differs.true))

pub returns : goal.returns
returns c =
    c.on-2.ensures
    ∙ rw (c.moved-first-2.ensures, c.moved-second-2.ensures, c.least-m.ensures)
    (sym (pair_same _ _ _ _ _ _ _ (sym c.differs.ensures ∙ c.if-differs.false)))
