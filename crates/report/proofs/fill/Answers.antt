-- Every answer's text fits the room.
-- Assumes nothing.
use mathlib.Core.Path.{◌≡◌}
use native.Mathlib.Omega.{arith}
use borrow.Author.Rules.{rules}
use lib.ListN.{length}
use Rattle.report.proofs.Fits.{printed_fits}
use Rattle.report.proofs.fill.Goals as goal

pub put_answer-requires : goal.put_answer-requires
put_answer-requires c =
    let room : length c.args.room.now ≡ 256 = search rules in
    omega (arith, printed_fits c.args.answer c.well_formed.0)
