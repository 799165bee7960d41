-- The rows are tried in their order: each return is one of them.
-- Assumes nothing.
use mathlib.Core.Path.{sym}
use Rattle.decide.specs.Test.{left, taken}
use Rattle.station.specs.Range.{station_ok}
use Rattle.station.specs.Calls.{flags_ok}
use Rattle.station.proofs.Calls.{tick_lost, tick_coded, tick_done}
use Rattle.std.proofs.lemmas.Bool.{not_from_false, not_from_true}
use Rattle.station.proofs.Station.tick_known.Goals as goal

pub returns-then-not-good : goal.returns-then-not-good
returns-then-not-good c = let x = c.args in
    let st = x.self in
    rw c.into.ensures
    (sym (tick_lost st x.a x.b x.c (taken (station_ok st) c.requires (not_from_false c.args.good c.if-not-good.true))))

pub returns-then-not-flags_ok : goal.returns-then-not-flags_ok
returns-then-not-flags_ok c = let x = c.args in
    let st = x.self in
    rw c.into-then-not-flags_ok.ensures
    (sym
    (tick_coded st x.a x.b x.c
    (left (station_ok st) c.requires (not_from_true c.args.good c.if-not-good.false))
    (taken (flags_ok x.a x.b x.c) c.flags_ok.ensures (not_from_false c.flags_ok.result c.if-not-flags_ok.true))))

pub returns : goal.returns
returns c = let x = c.args in
    let st = x.self in
    rw c.ticked.ensures
    (sym
    (tick_done st x.a x.b x.c
    (left (station_ok st) c.requires (not_from_true c.args.good c.if-not-good.false))
    (left (flags_ok x.a x.b x.c) c.flags_ok.ensures (not_from_true c.flags_ok.result c.if-not-flags_ok.false))))
