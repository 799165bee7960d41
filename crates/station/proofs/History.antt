-- Over any calls from a fresh station each shaper's credit is that of its record: each call feeds each shaper its events, so that the calls feed it their sum.
-- Assumes nothing.
use Rattle.std.specs.Prelude.{Result, Ok, Err}
use Rattle.shaper.specs.declared.Refused.{Refused}
use Prim.Native.Nat.{ℕ}
use mathlib.Core.Bool.{Bool, cond}
use mathlib.Core.List.{List, [], ◌∷◌}
use mathlib.Core.Path.{◌≡◌, refl, ap, subst, ◌∙◌}
use lib.Dec.{eqb}
use Rattle.shaper.specs.Credit.{end_credit, Permitted}
use Rattle.shaper.specs.Credit as shaper
use Rattle.settings.specs.declared.Settings.{Settings}
use Rattle.settings.specs.Range.{SettingsOk}
use Rattle.credits.specs.declared.Credits.{Credits}
use Rattle.credits.specs.declared.Which.{Which}
use Rattle.credits.specs.declared.Which.TheVariants.{M, A, B, C, D}
use Rattle.credits.specs.Which.{credit_of, limits_for}
use Rattle.flow.specs.declared.Flow.{Flow}
use Rattle.flow.specs.declared.Line.TheVariants.{Control}
use Rattle.flow.specs.Parts.{with_credits}
use Rattle.flow.specs.Tick.{waits, amount_of}
use Rattle.flow.specs.declared.Client as flow
use Rattle.shaper.specs.Refused.{number_said, afterwards}
use Rattle.flow.specs.Offer.{Entered, queue_for, control_frame, mark_said, flow_after}
use Rattle.flow.specs.Events.{no_events, client_events, Feeds}
use Rattle.flow.proofs.Range.{start_credit}
use Rattle.flow.proofs.Events.{none_feeds, feeds_then, tick_feeds, enter_feeds, client_feeds}
use Rattle.selection.proofs.Events.{select_feeds}
use Rattle.station.specs.declared.Station.{Station}
use Rattle.station.specs.declared.Client.{Client}
use Rattle.station.specs.declared.Selected.{Selected}
use Rattle.station.specs.Range.{StationOk}
use Rattle.station.specs.Answers.{with_flow, Done}
use Rattle.station.specs.Calls.{fresh_of, share_for}
use Rattle.station.specs.Offers.{given_frame, over_for, brought_of, staging, staged_of}
use Rattle.station.specs.History.{Call, tick, offer_client, offer_transit, offer_control, select, age, hear, tell, show, Answer, Stepped, of_done, of_client, of_selected, step, trace, after, record_of, Recorded}
use Rattle.station.proofs.Range.{fresh_ok}
use Rattle.station.proofs.Refused.{never_1}
use Rattle.station.proofs.Kept.{tick_cases, offer_cases, client_cases, select_case, age_case, hear_cases, range_kept}

-- ---- no credit is asked

waits_creditless : (f : Flow) (k : Credits) (a b c : Bool) (w : Which) → waits (with_credits f k) a b c w ≡ waits f a b c w
waits_creditless f k a b c M = refl
waits_creditless f k a b c A = refl
waits_creditless f k a b c B = refl
waits_creditless f k a b c C = refl
waits_creditless f k a b c D = refl

-- what a call was to a shaper is told from the call, its answer, and a station whatever its credits
pub trace_creditless : (w : Which) (c : Call) (r : Answer) (st : Station) (k : Credits) → trace w c r (with_flow st (with_credits st.flow k)) ≡ trace w c r st
trace_creditless w (tick a b c) r st k =
    ap (λ (waiting : Bool). cond (eqb r.number 0) (shaper.tick_of waiting (amount_of st.settings (share_for st) w) ∷ []) [])
    (waits_creditless st.flow k (eqb a 1) (eqb b 1) (eqb c 1) w)
trace_creditless w (offer_client class size hops) r st k = refl
trace_creditless w (offer_transit class size hops eligible) r st k = refl
trace_creditless w (offer_control size) r st k = refl
trace_creditless w select r st k = refl
trace_creditless w age r st k = refl
trace_creditless w (hear frame bytes) r st k = refl
trace_creditless w tell r st k = refl
trace_creditless w show r st k = refl

-- ---- one call

module _ {st : Station} (ok : StationOk st) where
  -- what a call made of the station feeds each shaper what the call was to it, and leaves the settings
  pub record Goes (c : Call) (r : Stepped) : Type 0 where
    pub feeds : Feeds st.settings st.flow r.station.flow (λ (w : Which). trace w c r.answer st)
    pub settings : r.station.settings ≡ st.settings

  idle : Feeds st.settings st.flow st.flow no_events
  idle = none_feeds st.settings st.flow st.flow refl

  -- what the stage said, and what a queue said
  client_goes : (class size hops : ℕ) (r : Result flow.Client Refused) → Feeds st.settings st.flow (flow_after st.flow r) (client_events class size (number_said r) (mark_said r))
      → Goes (offer_client class size hops) (of_client st (staged_of st r))
  client_goes class size hops (Ok r) h = record { feeds = h; settings = refl }
  client_goes class size hops (Err e) h = record { feeds = h; settings = refl }

  transit_goes : (class size hops eligible : ℕ) (r : Entered) → Feeds st.settings st.flow (afterwards st.flow r) no_events
      → Goes (offer_transit class size hops eligible) (of_done st (brought_of st r))
  transit_goes class size hops eligible (Ok f) h = record { feeds = h; settings = refl }
  transit_goes class size hops eligible (Err e) h = record { feeds = h; settings = refl }

  control_goes : (size : ℕ) (r : Entered) → Feeds st.settings st.flow (afterwards st.flow r) no_events → Goes (offer_control size) (of_done st (brought_of st r))
  control_goes size (Ok f) h = record { feeds = h; settings = refl }
  control_goes size (Err e) h = record { feeds = h; settings = refl }

  pub step_goes : (c : Call) → Goes c (step c st)
  step_goes (tick a b c) =
      tick_cases ok (λ (r : Done). Goes (tick a b c) (of_done st r)) a b c
      (record { feeds = tick_feeds st.settings st.flow ok.settings (share_for st) (eqb a 1) (eqb b 1) (eqb c 1); settings = refl })
      (record { feeds = idle; settings = refl })
  step_goes (offer_client class size hops) =
      client_cases ok (λ (r : Result Client Refused). Goes (offer_client class size hops) (of_client st r)) class size hops
      (λ x. client_goes class size hops (staging st class size hops) (client_feeds st.settings st.flow class size hops (over_for st size hops) (x.frame.least, x.frame.most)))
      (record { feeds = idle; settings = refl })
      (record { feeds = idle; settings = refl })
  step_goes (offer_transit class size hops eligible) =
      let x = given_frame class size hops eligible in
      offer_cases ok (λ (r : Done). Goes (offer_transit class size hops eligible) (of_done st r)) (queue_for st.settings class) x
      (λ h. transit_goes class size hops eligible _ (enter_feeds st.settings st.flow (queue_for st.settings class) x))
      (λ n. record { feeds = idle; settings = refl })
  step_goes (offer_control size) =
      offer_cases ok (λ (r : Done). Goes (offer_control size) (of_done st r)) Control (control_frame size)
      (λ h. control_goes size _ (enter_feeds st.settings st.flow Control (control_frame size)))
      (λ n. record { feeds = idle; settings = refl })
  step_goes select =
      select_case ok (λ (r : Result Selected Refused). Goes select (of_selected st r))
      (record { feeds = select_feeds st.settings st.flow ok.flow; settings = refl })
  step_goes age = age_case ok (λ (r : Done). Goes age (of_done st r)) (record { feeds = idle; settings = refl })
  step_goes (hear xs bytes) =
      hear_cases ok (λ (r : Done). Goes (hear xs bytes) (of_done st r)) xs
      (λ t g. record { feeds = idle; settings = refl })
      (λ n. record { feeds = idle; settings = refl })
  step_goes tell = record { feeds = idle; settings = refl }
  step_goes show = record { feeds = idle; settings = refl }

-- ---- many calls

-- after any calls the station is in range, and its settings are what they were
pub after_ok : {st : Station} → StationOk st → (cs : List Call) → StationOk (after st cs)
after_ok ok [] = ok
after_ok {st = st} ok (c ∷ cs) = after_ok {st = (step c st).station} (range_kept ok c) cs

pub after_settings : {st : Station} → StationOk st → (cs : List Call) → (after st cs).settings ≡ st.settings
after_settings ok [] = refl
after_settings {st = st} ok (c ∷ cs) = after_settings {st = (step c st).station} (range_kept ok c) cs ∙ (step_goes ok c).settings

-- the calls feed each shaper its record over them
pub calls_feed : {st : Station} → StationOk st → (cs : List Call) → Feeds st.settings st.flow (after st cs).flow (λ (w : Which). record_of w st cs)
calls_feed {st} ok [] = none_feeds st.settings st.flow st.flow refl
calls_feed {st} ok (c ∷ cs) =
    let next = (step c st).station in
    feeds_then (step_goes ok c).feeds
    (subst (λ (s : Settings). Feeds s next.flow (after next cs).flow (λ (w : Which). record_of w next cs)) (step_goes ok c).settings (calls_feed {st = (step c st).station} (range_kept ok c) cs))

-- Over any calls from a fresh station, each lent what the one before left and none a new start, a shaper's credit equals that of its record: one event per
-- tick, one send per charge; and every send was permitted.
pub credit_of_record : (s : Settings) → SettingsOk s → (cs : List Call) (w : Which)
    → Recorded s w (credit_of (after (fresh_of s) cs).flow.credits w) (record_of w (fresh_of s) cs)
credit_of_record s ok cs w =
    let fed = calls_feed (fresh_ok ok) cs in
    let l = limits_for s w in
    let events = record_of w (fresh_of s) cs in
    record {
      ends = subst (λ (c : ℕ). credit_of (after (fresh_of s) cs).flow.credits w ≡ end_credit l c events) (start_credit s w) (fed.credit w);
      permitted = subst (λ (c : ℕ). Permitted l c events) (start_credit s w) (fed.permitted w);
      valid = fed.valid w;
    }

-- and the station is in range all the way:
pub reached_in_range : (s : Settings) → SettingsOk s → (cs : List Call) → StationOk (after (fresh_of s) cs)
reached_in_range s ok cs = after_ok (fresh_ok ok) cs

-- no call on it answers 1
pub reached_never_1 : (s : Settings) → SettingsOk s → (cs : List Call) (c : Call) → (step c (after (fresh_of s) cs)).answer.number ≡ 1 → ⊥
reached_never_1 s ok cs c = never_1 (reached_in_range s ok cs) c
