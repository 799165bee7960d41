-- Histories: any calls one after the other, refused ones among them, and what they are to each shaper.
-- Assumes nothing.
use Rattle.std.specs.Prelude.{ℕ, cond, List, [], ◌∷◌, ◌++◌, Result, ◌≡◌, eqb}
use Rattle.wire.specs.Wire.{Bytes}
use Rattle.shaper.specs.declared.Event.{Event}
use Rattle.shaper.specs.Credit.{end_credit, Permitted, AllValid}
use Rattle.shaper.specs.declared.Refused.{Refused}
use Rattle.shaper.specs.Refused.{number_said, afterwards}
use Rattle.settings.specs.declared.Settings.{Settings}
use Rattle.queue.specs.declared.Frame.{Frame}
use Rattle.queue.specs.Frame.{frame_of}
use Rattle.credits.specs.declared.Which.{Which}
use Rattle.credits.specs.Which.{bucket_of, limits_for}
use Rattle.flow.specs.Tick.{tick_events}
use Rattle.flow.specs.Events.{client_events}
use Rattle.selection.specs.Events.{select_events}
use Rattle.station.specs.declared.Station.{Station}
use Rattle.station.specs.declared.Client.{Client}
use Rattle.station.specs.declared.Selected.{Selected}
use Rattle.station.specs.Answers.{Done, origin_said, frame_said, rest_after}
use Rattle.station.specs.Calls.{share_for, tick_of, select_of, age_of}
use Rattle.station.specs.Offers.{mark_told, station_left, offer_client_of, offer_transit_of, offer_control_of}
use Rattle.station.specs.Hear.{hear_of, tell_of}
use Rattle.station.specs.Show.{show_of}

-- A call, with any numbers and any bytes: a call that is refused is a call.
pub data Call : Type 0 where
  tick : (a b c : ℕ) → Call
  offer_client : (class size hops : ℕ) → Call
  offer_transit : (class size hops eligible : ℕ) → Call
  offer_control : (size : ℕ) → Call
  select : Call
  age : Call
  hear : (frame : List ℕ) → Bytes frame → Call
  tell : Call
  show : Call

-- What a call answered: its number; the mark of a client's frame; where the selected frame came from, and that frame.
pub record Answer : Type 0 where
  pub number : ℕ
  pub mark : ℕ
  pub origin : ℕ
  pub frame : Frame

-- the answer, and the station afterwards
pub record Stepped : Type 0 where
  pub answer : Answer
  pub station : Station

abbrev pub numbered : ℕ → Station → Stepped
numbered n st = record { answer = record { number = n; mark = 0; origin = 0; frame = frame_of 0 }; station = st }

abbrev pub of_done : Station → Done → Stepped
of_done st r = numbered (number_said r) (afterwards st r)

abbrev pub of_client : Station → Result Client Refused → Stepped
of_client st r = record { answer = record { number = number_said r; mark = mark_told r; origin = 0; frame = frame_of 0 }; station = station_left st r }

abbrev pub of_selected : Station → Result Selected Refused → Stepped
of_selected st r = record { answer = record { number = number_said r; mark = 0; origin = origin_said r; frame = frame_said r }; station = rest_after st r }

-- Each call is lent what the one before left; telling and showing leave it as it is.
abbrev pub step : Call → Station → Stepped
step (tick a b c) st = of_done st (tick_of st a b c)
step (offer_client class size hops) st = of_client st (offer_client_of st class size hops)
step (offer_transit class size hops eligible) st = of_done st (offer_transit_of st class size hops eligible)
step (offer_control size) st = of_done st (offer_control_of st size)
step select st = of_selected st (select_of st)
step age st = of_done st (age_of st)
step (hear frame bytes) st = of_done st (hear_of st frame)
step tell st = numbered (number_said (tell_of st)) st
step show st = numbered (number_said (show_of st)) st

-- What a call with this answer was to a shaper: one event per tick that was carried out, one send per charge. No credit is asked.
abbrev pub trace : Which → Call → Answer → Station → List Event
trace w (tick a b c) r st =
    cond (eqb r.number 0) (tick_events st.settings st.flow (share_for st) (eqb a 1) (eqb b 1) (eqb c 1) w) []
trace w (offer_client class size hops) r st =
    client_events class size r.number r.mark w
trace w (offer_transit class size hops eligible) r st = []
trace w (offer_control size) r st = []
trace w select r st = select_events st.settings st.flow (record { origin = r.origin; frame = r.frame; flow = st.flow }) w
trace w age r st = []
trace w (hear frame bytes) r st = []
trace w tell r st = []
trace w show r st = []

-- the station after some calls
abbrev pub after : Station → List Call → Station
after st [] = st
after st (c ∷ cs) = after (step c st).station cs

-- the record of a shaper over them
abbrev pub record_of : Which → Station → List Call → List Event
record_of w st [] = []
record_of w st (c ∷ cs) = trace w c (step c st).answer st ++ record_of w (step c st).station cs

-- one shaper's record: from loLimit it ends at this credit, every send was permitted at its place, and each event is one of a record
pub record Recorded (s : Settings) (w : Which) (credit : ℕ) (events : List Event) : Type 0 where
  pub ends : credit ≡ end_credit (limits_for s w) (bucket_of s w).lo events
  pub permitted : Permitted (limits_for s w) (bucket_of s w).lo events
  pub valid : AllValid (limits_for s w) events
