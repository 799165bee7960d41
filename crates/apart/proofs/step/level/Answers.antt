-- Each test is a row.
-- Assumes nothing.
use mathlib.Core.Path.{sym, ◌∙◌}
use Rattle.apart.proofs.Rows.{level_first, level_second, level_both}
use Rattle.apart.proofs.step.level.Goals as goal

pub returns-then-p-ne0 : goal.returns-then-p-ne0
returns-then-p-ne0 c = sym (level_first _ _ _ _ c.if-p-ne0.true)

pub returns-then-q-ne0 : goal.returns-then-q-ne0
returns-then-q-ne0 c = sym (level_second _ _ _ _ c.if-p-ne0.false c.if-q-ne0.true)

pub returns : goal.returns
returns c =
    c.lesser-2.ensures
    ∙ rw (c.lesser.ensures, c.less-x.ensures, c.less-y.ensures) (sym (level_both _ _ _ _ c.if-p-ne0.false c.if-q-ne0.false))
