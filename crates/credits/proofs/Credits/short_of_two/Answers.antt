-- The larger of what each lacks: `short_two`.
-- Assumes nothing.
use mathlib.Core.Path.{sym}
use Rattle.credits.proofs.Short.{short_two}
use Rattle.credits.proofs.Credits.short_of_two.Goals as goal

pub returns : goal.returns
returns c =
    let x = c.args in
    rw (c.larger.ensures, c.short-2.ensures, c.short.ensures) (sym (short_two x.settings x.self x.one x.other))
