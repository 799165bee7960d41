-- What calls by value on a station answer where they are refused: the number, so that the station stays as it was (`PartNames`); and what hearing a frame leaves. A start that is refused
-- stands in `Starts`, a client frame's 5, 6 and 7 in `Stages`. Assumes nothing.
use Rattle.std.specs.Prelude.{ℕ, ◌/◌, ◌%◌, ◌-◌, ◌≤◌, ◌<◌, List, ◌≡◌}
use Rattle.wire.specs.Wire.{be}
use Rattle.queue.specs.Frame.{FrameOk, frame_of}
use Rattle.queue.specs.Queue.{space_of}
use Rattle.advert.specs.Frame.{advert_in}
use Rattle.flow.specs.Offer.{queue_for}
use Rattle.flow.specs.Parts.{queue_of, capacity_of, bounds_of}
use Rattle.fair.specs.Advertise.{heard_of}
use Rattle.station.specs.declared.Station.{Station}
use Rattle.station.specs.Range.{StationOk}
use Rattle.station.specs.Answers.{with_fair, refused_of, done_of, not_chosen_of}
use Rattle.station.specs.Calls.{tick_of, select_of, age_of}
use Rattle.station.specs.Offers.{turned_of, offer_transit_of, offer_control_of, offer_client_of}
use Rattle.station.specs.Hear.{hear_of, not_told_of, tell_of}
use Rattle.station.specs.Show.{not_shown_of, show_of}
use Rattle.paper.specs.Acts.{YesNo}
use Rattle.paper.specs.Reasons.{WholeFrame}

-- A station outside its range: each call refuses it with 1, and leaves it.
pub record Lost (st : Station) : Type 0 where
  pub tick : (a b c : ℕ) → tick_of st a b c ≡ refused_of 1
  pub transit : (class size hops eligible : ℕ) → offer_transit_of st class size hops eligible ≡ refused_of 1
  pub control : (size : ℕ) → offer_control_of st size ≡ refused_of 1
  pub client : (class size hops : ℕ) → offer_client_of st class size hops ≡ turned_of 1 0
  pub select : select_of st ≡ not_chosen_of 1
  pub age : age_of st ≡ refused_of 1
  pub tell : tell_of st ≡ not_told_of 1
  pub show : show_of st ≡ not_shown_of 1

-- A station in range, and what it is given.
pub record Unfit (st : Station) : Type 0 where
  -- 3: a frame (class, hops, size, mark) or coded choice is outside its range.
  pub tick : (a b c : ℕ) → (YesNo a × YesNo b × YesNo c → ⊥) → tick_of st a b c ≡ refused_of 3
  pub transit : (class size hops eligible : ℕ) → (FrameOk (bounds_of st.settings) (record { size = size; hops = hops; class = class; mark = eligible }) → ⊥)
      → offer_transit_of st class size hops eligible ≡ refused_of 3
  pub control : (size : ℕ) → (FrameOk (bounds_of st.settings) (record { size = size; hops = 1; class = 0; mark = 0 }) → ⊥) → offer_control_of st size ≡ refused_of 3
  pub client : (class size hops : ℕ) → (FrameOk (bounds_of st.settings) (record { size = size; hops = hops; class = class; mark = 0 }) → ⊥)
      → offer_client_of st class size hops ≡ turned_of 3 0
  -- 13: a frame's hops reach the number of stations or more. A control frame, of 1 hop, never gets it: `Acts` and 4 below do not ask.
  pub transit_beyond : (class size hops eligible : ℕ) → FrameOk (bounds_of st.settings) (record { size = size; hops = hops; class = class; mark = eligible })
      → st.settings.site.stations ≤ hops → offer_transit_of st class size hops eligible ≡ refused_of 13
  pub client_beyond : (class size hops : ℕ) → FrameOk (bounds_of st.settings) (record { size = size; hops = hops; class = class; mark = 0 })
      → st.settings.site.stations ≤ hops → offer_client_of st class size hops ≡ turned_of 13 0
  -- 4: a frame's size exceeds the queue's space.
  pub transit_full : (class size hops eligible : ℕ) → FrameOk (bounds_of st.settings) (record { size = size; hops = hops; class = class; mark = eligible })
      → hops < st.settings.site.stations
      → space_of (queue_of st.flow (queue_for st.settings class)) (capacity_of st.settings (queue_for st.settings class)) < size
      → offer_transit_of st class size hops eligible ≡ refused_of 4
  pub control_full : (size : ℕ) → FrameOk (bounds_of st.settings) (record { size = size; hops = 1; class = 0; mark = 0 })
      → space_of st.flow.control st.settings.queues.control < size → offer_control_of st size ≡ refused_of 4

-- A fairness frame that a station hears. Its shape and its ringlet bit, held to the station's own, come before the station's range.
pub record Listens (st : Station) (frame : List ℕ) : Type 0 where
  pub broken : (WholeFrame frame → ⊥) → hear_of st frame ≡ refused_of 2
  pub own_ringlet_lem : WholeFrame frame → be 1 frame 1 / 128 ≡ st.settings.ringlet → hear_of st frame ≡ refused_of 2
  pub lost : WholeFrame frame → (be 1 frame 1 / 128 ≡ st.settings.ringlet → ⊥) → (StationOk st → ⊥) → hear_of st frame ≡ refused_of 1
  pub ttl : WholeFrame frame → (be 1 frame 1 / 128 ≡ st.settings.ringlet → ⊥) → StationOk st → ((193 ≤ be 1 frame 0) × (be 1 frame 0 ≤ 255) → ⊥)
      → hear_of st frame ≡ refused_of 3
  pub beyond : WholeFrame frame → (be 1 frame 1 / 128 ≡ st.settings.ringlet → ⊥) → StationOk st → (193 ≤ be 1 frame 0) × (be 1 frame 0 ≤ 255)
      → st.settings.site.stations ≤ 256 - be 1 frame 0 → hear_of st frame ≡ refused_of 13
  pub own_address_lem : WholeFrame frame → (be 1 frame 1 / 128 ≡ st.settings.ringlet → ⊥) → StationOk st → (193 ≤ be 1 frame 0) × (be 1 frame 0 ≤ 255)
      → 256 - be 1 frame 0 < st.settings.site.stations
      → (be 6 frame 2 / 4294967296 ≡ st.settings.address.high) × (be 6 frame 2 % 4294967296 ≡ st.settings.address.low)
      → hear_of st frame ≡ refused_of 11
  pub heard : WholeFrame frame → (be 1 frame 1 / 128 ≡ st.settings.ringlet → ⊥) → StationOk st → (193 ≤ be 1 frame 0) × (be 1 frame 0 ≤ 255)
      → 256 - be 1 frame 0 < st.settings.site.stations
      → ((be 6 frame 2 / 4294967296 ≡ st.settings.address.high) × (be 6 frame 2 % 4294967296 ≡ st.settings.address.low) → ⊥)
      → hear_of st frame ≡ done_of (with_fair st (heard_of st.fair (advert_in frame)))
