-- A slice of another length is 2; else what the station said is handed back: a refusal and what it says beside it, or credits and stage written.
-- Assumes nothing.
use mathlib.Core.List.{List}
use mathlib.Core.Path.{refl, ap, ◌∙◌}
use native.Mathlib.Omega.{arith}
use Prim.Native.Nat.{ℕ}
use Rattle.flow.specs.declared.Flow.{Flow}
use Rattle.decide.specs.Refusal.{first_of}
use Rattle.station.specs.Offers.{offer_client_faults}
use Rattle.layout.specs.Layout.{station_at}
use Rattle.rpr.proofs.Shape.{first_most}
use Rattle.rpr.specs.Station.{offer_client_answer, offer_client_after}
use Rattle.rpr.proofs.Given.{range_known, not_whole_short, whole_gives_short}
use Rattle.rpr.proofs.Written.{taken_left, taken_not, number_fits, credits_in, stage_in, client_written}
use borrow.Author.Rules.{rules}
use Rattle.rpr.proofs.lending.rpr_offer_client.Goals as goal

pub returns-then-station-ne-LENGTH : goal.returns-then-station-ne-LENGTH
unfolding offer_client_answer offer_client_after
returns-then-station-ne-LENGTH c = let xs = c.args.station.now in
    let gives = not_whole_short _ xs _ _ _ _ _ c.if-station-ne-LENGTH.true in
    record { value = gives.0; station_after = gives.1 }

pub offer_client_known-requires : goal.offer_client_known-requires
offer_client_known-requires c = range_known _ _ c.in_range-good.ensures c.read.ensures

-- a number of the table fits a byte
pub overflow_cast-number : goal.overflow_cast-number
overflow_cast-number c =
    let a : _ = c.args in
    let xs : _ = a.station.now in
    let said = rw c.read.ensures at c.offer_client_known.ensures in
    let rows = offer_client_faults (station_at xs) a.class a.size a.hops in
    omega (arith, c.number.ensures, number_fits xs a.class (first_of rows) (station_at xs) _ _ _ said (first_most rows refl) _ c.in-Err.is)

pub returns-in-Err : goal.returns-in-Err
unfolding offer_client_answer offer_client_after
returns-in-Err c =
    let a : _ = c.args in
    let xs : _ = a.station.now in
    let said = rw c.read.ensures at c.offer_client_known.ensures in
    let b = taken_not xs a.class _ (station_at xs) _ _ _ said _ c.in-Err.is in
    let gives = whole_gives_short _ xs _ c.if-station-ne-LENGTH.false _ _ _ _ ((rw c.number.ensures at c.refused.ensures) ∙ b.0, b.1) in
    record { value = gives.0; station_after = gives.1 }

pub returns-in-Ok : goal.returns-in-Ok
unfolding offer_client_answer offer_client_after
returns-in-Ok c =
    let a : _ = c.args in
    let xs : _ = a.station.now in
    let said = rw c.read.ensures at c.offer_client_known.ensures in
    let b =
    taken_left xs a.class _ (station_at xs) _ _ _ said _ c.in-Ok.is (λ (f : Flow). stage_in (credits_in xs f) f)
    (client_written xs (λ j. search rules) c.if-station-ne-LENGTH.false a.class a.size a.hops) in
    let both = c.write_stage.ensures ∙ ap (λ (l : List ℕ). stage_in l c.in-Ok.taken.station.flow) c.write_credits.ensures in
    let gives = whole_gives_short _ xs _ c.if-station-ne-LENGTH.false _ _ _ _ (c.marked.ensures ∙ b.0, both ∙ b.1) in
    record { value = gives.0; station_after = gives.1 }
