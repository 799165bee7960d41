-- One event alone is put as an event, more as a run.
-- Assumes nothing.
use Prim.Native.Nat.{◌/◌, ◌%◌}
use mathlib.Core.Path.{sym, ap, ◌∙◌}
use native.Mathlib.Omega.{arith}
use Rattle.wire.specs.Wire.{put}
use Rattle.roll.proofs.Laying.{item_one, item_more}
use Rattle.roll.proofs.bytes.put_item.Goals as goal

pub put_event-requires : goal.put_event-requires
put_event-requires c =
    omega (arith, c.requires.0, (item_one 0 0 c.args.count c.if-count-eq1.true).0)

pub returns-then-count-eq1 : goal.returns-then-count-eq1
returns-then-count-eq1 c =
    let a = c.args in
    let f = item_one (a.event % 65536) (a.event / 65536) a.count c.if-count-eq1.true in
    record { value = omega (arith, f.0); s_after = c.put_event.ensures ∙ ap (put a.s.now a.at) (sym f.1) }

pub put_run-requires : goal.put_run-requires
put_run-requires c =
    omega (arith, c.requires.0, (item_more 0 0 c.args.count c.if-count-eq1.false).0)

pub returns : goal.returns
returns c =
    let a = c.args in
    let f = item_more (a.event % 65536) (a.event / 65536) a.count c.if-count-eq1.false in
    record { value = omega (arith, f.0); s_after = c.put_run.ensures ∙ ap (put a.s.now a.at) (sym f.1) }
