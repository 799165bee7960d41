-- Of every call: it is refused by a number exactly when a row with that number applies and none before it does; and then it leaves the station as it was.
-- Assumes nothing.
use Rattle.std.specs.Prelude.{Result}
use Rattle.decide.proofs.Number.{number_told}
use Rattle.shaper.specs.declared.Refused.{Refused}
use Rattle.shaper.specs.Refused.{number_said, afterwards}
use Prim.Native.Nat.{ℕ, ◌<◌}
use mathlib.Core.Bool.{true, false, ◌&&◌, true≢false}
use mathlib.Core.List.{List, [], ◌∷◌}
use mathlib.Core.Logic.{◌↔◌, ⊎_elim}
use mathlib.Core.Path.{◌≡◌, refl, sym, ap, subst, ◌∙◌}
use native.Mathlib.Omega.{arith}
use borrow.Author.Tests.{eq-eqb}
use lib.Dec.{eqb}
use Rattle.decide.specs.Test.{and_i}
use Rattle.decide.specs.Refusal.{Fault, Among, Free, ranked, first_of, refused_or, RefusedExactly}
use Rattle.decide.proofs.Given.{refused_exactly, carried_out, free_carried}
use Rattle.decide.proofs.Refused.{number_by, leaves_by}
use Rattle.settings.specs.declared.Settings.{Settings}
use Rattle.flow.specs.declared.Line.TheVariants.{Control}
use Rattle.flow.specs.Offer.{queue_for, control_frame}
use Rattle.station.specs.declared.Station.{Station}
use Rattle.station.specs.declared.Client.{Client}
use Rattle.station.specs.declared.Selected.{Selected}
use Rattle.station.specs.Range.{StationOk}
use Rattle.station.specs.Answers.{Done, refused_of, done_of, rest_after}
use Rattle.station.specs.Calls.{start_faults, start_of, tick_faults, select_faults, age_faults}
use Rattle.station.specs.Offers.{given_frame, station_left, offer_faults, offer_client_faults}
use Rattle.station.specs.Hear.{hear_faults, Told, tell_faults}
use Rattle.station.specs.Show.{Shown, show_faults}
use Rattle.station.specs.History.{Call, tick, offer_client, offer_transit, offer_control, select, age, hear, tell, show, step}
use Rattle.station.proofs.Range.{facts_in_range}

-- ---- every call, by its rows

abbrev pub rows_of : Call → Station → List Fault
rows_of (tick a b c) st = tick_faults st a b c
rows_of (offer_client class size hops) st = offer_client_faults st class size hops
rows_of (offer_transit class size hops eligible) st = offer_faults st (queue_for st.settings class) (given_frame class size hops eligible)
rows_of (offer_control size) st = offer_faults st Control (control_frame size)
rows_of select st = select_faults st
rows_of age st = age_faults st
rows_of (hear xs bytes) st = hear_faults st xs
rows_of tell st = tell_faults st
rows_of show st = show_faults st

-- the number of an answer is that of the rows
done_number : (next : Station) (n : ℕ) → number_said (refused_or refused_of n (done_of next)) ≡ n
done_number next = number_by (λ (r : Done). number_said r) _ _ number_told refl

call_number : (c : Call) (st : Station) → (step c st).answer.number ≡ first_of (rows_of c st)
call_number (tick a b c) st = done_number _ _
call_number (offer_client class size hops) st = number_by (λ (r : Result Client Refused). number_said r) _ _ number_told refl _
call_number (offer_transit class size hops eligible) st = done_number _ _
call_number (offer_control size) st = done_number _ _
call_number select st = number_by (λ (r : Result Selected Refused). number_said r) _ _ number_told refl _
call_number age st = done_number _ _
call_number (hear xs bytes) st = done_number _ _
call_number tell st = number_by (λ (r : Told). number_said r) _ _ number_told refl _
call_number show st = number_by (λ (r : Shown). number_said r) _ _ number_told refl _

rows_ranked : (c : Call) (st : Station) → ranked (rows_of c st) ≡ true
rows_ranked (tick a b c) st = refl
rows_ranked (offer_client class size hops) st = refl
rows_ranked (offer_transit class size hops eligible) st = refl
rows_ranked (offer_control size) st = refl
rows_ranked select st = refl
rows_ranked age st = refl
rows_ranked (hear xs bytes) st = refl
rows_ranked tell st = refl
rows_ranked show st = refl

-- a call is refused by a number exactly when a row of that number applies and none before it does,
pub call_exactly : (c : Call) (st : Station) → RefusedExactly (step c st).answer.number (rows_of c st)
call_exactly c st = refused_exactly (rows_of c st) (rows_ranked c st) _ (call_number c st)

pub start_exactly : (st : Station) (s : Settings) → RefusedExactly (number_said (start_of st s)) (start_faults s)
start_exactly st s = refused_exactly (start_faults s) refl _ (done_number _ _)

-- each row bears a number
abbrev Bearing : List Fault → Type 0
Bearing [] = Unit {0}
Bearing (g ∷ gs) = (0 < g.number) × Bearing gs

bears : (f : Fault) (gs : List Fault) → Bearing gs → Among f gs → 0 < f.number
bears f [] b m = absurd m
bears f (g ∷ gs) b m = ⊎_elim (λ k. subst (λ (x : Fault). 0 < x.number) (sym k) b.0) (λ k. bears f gs b.1 k) m

bearing : (c : Call) (st : Station) → Bearing (rows_of c st)
bearing (tick a b c) st = (omega arith, (omega arith, tt))
bearing (offer_client class size hops) st = (omega arith, (omega arith, (omega arith, (omega arith, (omega arith, (omega arith, tt))))))
bearing (offer_transit class size hops eligible) st = (omega arith, (omega arith, (omega arith, (omega arith, tt))))
bearing (offer_control size) st = (omega arith, (omega arith, (omega arith, (omega arith, tt))))
bearing select st = (omega arith, tt)
bearing age st = (omega arith, tt)
bearing (hear xs bytes) st = (omega arith, (omega arith, (omega arith, (omega arith, (omega arith, (omega arith, tt))))))
bearing tell st = (omega arith, tt)
bearing show st = (omega arith, tt)

-- and carried out exactly when no row applies
pub carried_exactly : (c : Call) (st : Station) → ((step c st).answer.number ≡ 0) ↔ Free (rows_of c st)
carried_exactly c st = (
  λ e. carried_out (rows_of c st) (λ f m p. bears f (rows_of c st) (bearing c st) m) (sym (call_number c st) ∙ e),
  λ free. call_number c st ∙ free_carried (rows_of c st) free,
)

-- ---- a refusal leaves the station

done_leaves : (st next : Station) (n : ℕ) → 0 < number_said (refused_or refused_of n (done_of next)) → afterwards st (refused_or refused_of n (done_of next)) ≡ st
done_leaves st next = leaves_by (λ (r : Done). number_said r) _ _ number_told refl (afterwards st) (λ m. refl)

pub start_leaves : (st : Station) (s : Settings) → 0 < number_said (start_of st s) → afterwards st (start_of st s) ≡ st
start_leaves st s = done_leaves _ _ _

pub refused_leaves : (c : Call) (st : Station) → 0 < (step c st).answer.number → (step c st).station ≡ st
refused_leaves (tick a b c) st = done_leaves _ _ _
refused_leaves (offer_client class size hops) st = leaves_by (λ (r : Result Client Refused). number_said r) _ _ number_told refl (station_left st) (λ m. refl) _
refused_leaves (offer_transit class size hops eligible) st = done_leaves _ _ _
refused_leaves (offer_control size) st = done_leaves _ _ _
refused_leaves select st = leaves_by (λ (r : Result Selected Refused). number_said r) _ _ number_told refl (rest_after st) (λ m. refl) _
refused_leaves age st = done_leaves _ _ _
refused_leaves (hear xs bytes) st = done_leaves _ _ _
refused_leaves tell st = λ h. refl
refused_leaves show st = λ h. refl

-- ---- a station in range is never refused by 1

-- no row that bears 1 applies
abbrev Absent : List Fault → Type 0
Absent [] = Unit {0}
Absent (g ∷ gs) = ((eqb g.number 1 && g.applies) ≡ false) × Absent gs

absent : (f : Fault) (gs : List Fault) → Absent gs → Among f gs → f.number ≡ 1 → f.applies ≡ true → ⊥
absent f [] a m n p = m
absent f (g ∷ gs) a m n p =
    ⊎_elim
    (λ k. true≢false
    (sym (and_i (eqb g.number 1) g.applies (eq-eqb g.number 1 (sym (ap (λ (x : Fault). x.number) k) ∙ n)) (sym (ap (λ (x : Fault). x.applies) k) ∙ p))
    ∙ a.0))
    (λ k. absent f gs a.1 k n p)
    m

none : {st : Station} → StationOk st → (c : Call) → Absent (rows_of c st)
none {st} ok (tick a b c) = (rw (facts_in_range st ok), (refl, tt))
none {st} ok (offer_client class size hops) = (rw (facts_in_range st ok), (refl, (refl, (refl, (refl, (refl, tt))))))
none {st} ok (offer_transit class size hops eligible) = (rw (facts_in_range st ok), (refl, (refl, (refl, tt))))
none {st} ok (offer_control size) = (rw (facts_in_range st ok), (refl, (refl, (refl, tt))))
none {st} ok select = (rw (facts_in_range st ok), tt)
none {st} ok age = (rw (facts_in_range st ok), tt)
none {st} ok (hear xs bytes) = (refl, (refl, (rw (facts_in_range st ok), (refl, (refl, (refl, tt))))))
none {st} ok tell = (rw (facts_in_range st ok), tt)
none {st} ok show = (rw (facts_in_range st ok), tt)

pub never_1 : {st : Station} → StationOk st → (c : Call) → (step c st).answer.number ≡ 1 → ⊥
never_1 {st} ok c e =
    let g = (call_exactly c st).has_cause 1 (omega arith) e in
    absent g.cause (rows_of c st) (none ok c) g.among g.bears g.applies
