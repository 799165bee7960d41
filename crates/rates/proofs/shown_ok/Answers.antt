-- `rates::shown_ok` meets its contract: one product tells it, and by 0 every rate is in range.
-- Assumes nothing.
use Rattle.decide.specs.Test.{test}
use Rattle.rates.proofs.Steady.{range_told}
use Rattle.rates.proofs.shown_ok.Goals as goal

pub returns : goal.returns
unfolding test
returns c = range_told c.args.coef c.args.stored
