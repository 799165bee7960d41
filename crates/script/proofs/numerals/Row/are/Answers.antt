-- A row with a word that is no number is never so many numbers.
-- Assumes nothing.
use Rattle.std.proofs.Common.{ap, not}
use Rattle.script.proofs.numerals.Row.are.Goals as goal

pub returns-else-not-self-clause-wrong : goal.returns-else-not-self-clause-wrong
returns-else-not-self-clause-wrong c = λ wrong. ap not wrong
