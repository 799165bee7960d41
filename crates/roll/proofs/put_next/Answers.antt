-- A run's ticks are put one by one, and an event alone.
-- Assumes nothing.
use Prim.Native.Nat.{◌+◌, ◌*◌}
use mathlib.Core.Path.{sym, ap, ◌∙◌}
use native.Mathlib.Omega.{arith}
use Rattle.roll.proofs.Laying.{word_read, RunFields, run_fields_lem, EventFields, event_fields_lem, item_least, repeated_one}
use Rattle.roll.proofs.put_next.Goals as goal

pub get16-kind-requires : goal.get16-kind-requires
get16-kind-requires c = omega (arith, c.requires.0, item_least c.args.s.now c.args.at)

pub get32-tick-requires : goal.get32-tick-requires
get32-tick-requires c =
    let runs : RunFields c.args.s.now c.args.at = run_fields_lem _ _ (sym c.get16-kind.ensures ∙ c.if-kind-eq-RUN.true) in
    omega (arith, c.requires.0, runs.size)

pub get16-count-requires : goal.get16-count-requires
get16-count-requires c =
    let runs : RunFields c.args.s.now c.args.at = run_fields_lem _ _ (sym c.get16-kind.ensures ∙ c.if-kind-eq-RUN.true) in
    omega (arith, c.requires.0, runs.size)

pub put_ticks-after-requires : goal.put_ticks-after-requires
put_ticks-after-requires c =
    let runs : RunFields c.args.s.now c.args.at = run_fields_lem _ _ (sym c.get16-kind.ensures ∙ c.if-kind-eq-RUN.true) in
    omega (arith, c.requires.1, runs.count, c.get16-count.ensures)

pub returns-then-kind-eq-RUN : goal.returns-then-kind-eq-RUN
returns-then-kind-eq-RUN c =
    let runs : RunFields c.args.s.now c.args.at = run_fields_lem _ _ (sym c.get16-kind.ensures ∙ c.if-kind-eq-RUN.true) in
    let a = c.args in
    let bytes = c.type_inv.s in
    let f = runs in
    let put = c.put_ticks-after.ensures in
    let count = c.get16-count.ensures ∙ sym f.count in
    let tick = word_read a.s.now (a.at + 4) (a.at + 6) _ _ _ (λ j. (bytes j).fits) (omega arith) c.get32-tick.ensures f.kind f.number in
    record { at_value = (omega (arith, f.size), put.value ∙ ap (λ n. a.end + 6 * n) count); room_after = rw (count, tick.1, tick.0) at put.s_after }

pub get32-event-requires : goal.get32-event-requires
get32-event-requires c = omega (arith, c.requires.0, item_least c.args.s.now c.args.at)

pub put_event-requires : goal.put_event-requires
put_event-requires c =
    let event : EventFields c.args.s.now c.args.at = event_fields_lem _ _ (λ e. c.if-kind-eq-RUN.false (c.get16-kind.ensures ∙ e)) in
    omega (arith, c.requires.1, event.count)

pub returns : goal.returns
returns c =
    let event : EventFields c.args.s.now c.args.at = event_fields_lem _ _ (λ e. c.if-kind-eq-RUN.false (c.get16-kind.ensures ∙ e)) in
    let a = c.args in
    let bytes = c.type_inv.s in
    let f = event in
    let word = word_read a.s.now (a.at + 2) (a.at + 4) _ _ _ (λ j. (bytes j).fits) (omega arith) c.get32-event.ensures f.kind f.number in
    let put = rw (word.0, word.1) at c.put_event.ensures in
    record { at_value = (omega (arith, f.size), omega (arith, f.count)); room_after = rw (f.count, repeated_one) put }
