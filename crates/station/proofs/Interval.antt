-- The aging interval of a station: what it looks at is the bytes of the frames in the secondary queue; and what holds till the next one.
-- Assumes nothing.
use Rattle.std.specs.Prelude.{Result}
use Rattle.shaper.specs.declared.Refused.{Refused}
use Rattle.shaper.specs.Refused.{afterwards}
use Prim.Native.Nat.{ℕ}
use mathlib.Core.Path.{◌≡◌, refl, ap, ◌∙◌}
use Rattle.decide.proofs.Refused.{of_answer}
use Rattle.queue.specs.Queue.{frames_of, sizes}
use Rattle.flow.specs.declared.Line.TheVariants.{Secondary}
use Rattle.fair.specs.declared.Fair.{Fair}
use Rattle.fair.specs.Age as interval
use Rattle.station.specs.declared.Station.{Station}
use Rattle.station.specs.declared.Client.{Client}
use Rattle.station.specs.declared.Selected.{Selected}
use Rattle.station.specs.Range.{StationOk}
use Rattle.station.specs.Answers.{with_fair, Done, refused_of, done_of, not_chosen_of, rest_after}
use Rattle.station.specs.Calls.{age_of}
use Rattle.station.specs.Offers.{station_left}
use Rattle.station.specs.History.{Call, tick, offer_client, offer_transit, offer_control, select, age, hear, tell, show, step}
use Rattle.station.proofs.Range.{facts_in_range}
use Rattle.station.proofs.Calls.{age_done}

-- The rates change by the rules, with the bytes in the secondary queue against the low threshold; settings, credits and frames stay.
pub age_ages : {st : Station} → StationOk st
    → age_of st ≡ done_of (with_fair st (interval.age_of st.fair st.settings (sizes (frames_of st.flow.secondary))))
age_ages {st} ok =
    age_done st (facts_in_range st ok)
    ∙ ap (λ (held : ℕ). done_of (with_fair st (interval.age_of st.fair st.settings held))) (ok.flow.queues Secondary).held

-- what intervals decide, what is stored for the smoothed rates, and the intervals since a change
abbrev Unaged : Fair → Fair → Type 0
Unaged f g = (g.decided ≡ f.decided) × (g.smoothed ≡ f.smoothed) × (g.since ≡ f.since)

-- Local congestion and own rate hold till the next interval, and so does all else that it decides or stores: no other call changes them.
pub holds_till_interval : (st : Station) (c : Call) → (c ≡ age → ⊥) → Unaged st.fair (step c st).station.fair
holds_till_interval st (tick a b c) n = of_answer refused_of _ (λ (r : Done). Unaged st.fair (afterwards st r).fair) _ (λ z. (refl, refl, refl)) (λ h. (refl, refl, refl))
holds_till_interval st (offer_client class size hops) n =
    of_answer _ _ (λ (r : Result Client Refused). Unaged st.fair (station_left st r).fair) _ (λ z. (refl, refl, refl)) (λ h. (refl, refl, refl))
holds_till_interval st (offer_transit class size hops eligible) n =
    of_answer refused_of _ (λ (r : Done). Unaged st.fair (afterwards st r).fair) _ (λ z. (refl, refl, refl)) (λ h. (refl, refl, refl))
holds_till_interval st (offer_control size) n =
    of_answer refused_of _ (λ (r : Done). Unaged st.fair (afterwards st r).fair) _ (λ z. (refl, refl, refl)) (λ h. (refl, refl, refl))
holds_till_interval st select n =
    of_answer not_chosen_of _ (λ (r : Result Selected Refused). Unaged st.fair (rest_after st r).fair) _ (λ z. (refl, refl, refl)) (λ h. (refl, refl, refl))
holds_till_interval st age n = absurd (n refl)
holds_till_interval st (hear frame bytes) n =
    of_answer refused_of _ (λ (r : Done). Unaged st.fair (afterwards st r).fair) _ (λ z. (refl, refl, refl)) (λ h. (refl, refl, refl))
holds_till_interval st tell n = (refl, refl, refl)
holds_till_interval st show n = (refl, refl, refl)
