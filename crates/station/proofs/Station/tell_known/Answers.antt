-- The rows are tried in their order: each return is one of them. A station in range may tell.
-- Assumes nothing.
use mathlib.Core.Path.{sym}
use Rattle.decide.specs.Test.{left, taken}
use Rattle.station.specs.Range.{station_ok}
use Rattle.station.proofs.Range.{in_range_facts}
use Rattle.station.proofs.Hear.{tell_lost, tell_done}
use Rattle.std.proofs.lemmas.Bool.{not_from_false, not_from_true}
use Rattle.station.proofs.Station.tell_known.Goals as goal

pub returns-then-not-good : goal.returns-then-not-good
returns-then-not-good c = let st = c.args.self in
    rw c.into.ensures
    (sym (tell_lost st (taken (station_ok st) c.requires (not_from_false c.args.good c.if-not-good.true))))

pub told-requires : goal.told-requires
told-requires c = let st = c.args.self in
    (in_range_facts st (left (station_ok st) c.requires (not_from_true c.args.good c.if-not-good.false))).fair

pub returns : goal.returns
returns c = let st = c.args.self in
    rw c.told.ensures (sym (tell_done st (left (station_ok st) c.requires (not_from_true c.args.good c.if-not-good.false))))
