-- The stage is asked, with whether the frame would pass the congested fair rate.
-- Assumes nothing.
use mathlib.Core.Path.{sym, ap, ◌∙◌}
use Rattle.std.proofs.lemmas.Result.{err_from_is_err_and}
use Rattle.station.specs.Offers.{staged_of}
use Rattle.station.proofs.Station.client.Goals as goal

pub returns-in_err-taken : goal.returns-in_err-taken
returns-in_err-taken c =
    let back = err_from_is_err_and c.from_residual.result c.from_residual.ensures.1 in
    rw (back.1, back.2) (rw c.is_over-over.ensures at (ap (staged_of c.args.self) (sym c.in_err-taken.was ∙ c.client.ensures)))

pub returns : goal.returns
returns c =
    rw c.with_flow.ensures (rw c.is_over-over.ensures at (ap (staged_of c.args.self) (sym c.in_ok-taken.was ∙ c.client.ensures)))
