-- Where there is no number the usual one is told.
-- Assumes nothing.
use Rattle.std.proofs.Common.{refl}
use Rattle.script.proofs.numerals.Row.only_or.Goals as goal

pub returns-in-empty-clause-none : goal.returns-in-empty-clause-none
returns-in-empty-clause-none c = λ right none. refl
