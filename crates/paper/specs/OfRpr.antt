-- Public functions of `rpr`, by name: two answers that meet the contract are equal.
-- Assumes nothing.
use Rattle.layout.specs.Layout.{station_length}
use Rattle.rpr.specs.Calls.{join_after, join_answer, settle_answer, summarize_after, summarize_answer, version_number}
use Rattle.rpr.specs.Movers.{roll_after, roll_answer, unroll_after, unroll_answer}
use Rattle.rpr.specs.Station.{age_after, age_answer, offer_client_after, offer_client_answer, offer_control_after, offer_control_answer, offer_transit_after, offer_transit_answer, read_frame_after, read_frame_answer, select_after, select_answer, show_after, show_answer, start_after, start_answer, tick_after, tick_answer, write_frame_after, write_frame_answer}
use Rattle.rpr.specs.Ways.{choose_answer, path_answer}
use Rattle.std.specs.Prelude.{List, ℕ, ◌≡◌}
use Rattle.paper.specs.Determined.{Determined, Determined²}

pub record Functions : Type 0 where
  -- rpr_station_length
  pub rpr_station_length : Determined (λ (r : ℕ). r ≡ station_length)
  -- rpr_start
  pub rpr_start : (settings station : List ℕ) → Determined² (λ (r : ℕ) (after-station : List ℕ). (r ≡ start_answer settings station) × (after-station ≡ start_after settings station))
  -- rpr_tick
  pub rpr_tick : (station : List ℕ) (a b c : ℕ) → Determined² (λ (r : ℕ) (after-station : List ℕ). (r ≡ tick_answer station a b c) × (after-station ≡ tick_after station a b c))
  -- rpr_offer_client
  pub rpr_offer_client : (station : List ℕ) (class size hops : ℕ) → Determined² (λ (r : ℕ) (after-station : List ℕ). (r ≡ offer_client_answer station class size hops) × (after-station ≡ offer_client_after station class size hops))
  -- rpr_offer_transit
  pub rpr_offer_transit : (station : List ℕ) (class size hops eligible : ℕ) → Determined² (λ (r : ℕ) (after-station : List ℕ). (r ≡ offer_transit_answer station class size hops eligible) × (after-station ≡ offer_transit_after station class size hops eligible))
  -- rpr_offer_control
  pub rpr_offer_control : (station : List ℕ) (size : ℕ) → Determined² (λ (r : ℕ) (after-station : List ℕ). (r ≡ offer_control_answer station size) × (after-station ≡ offer_control_after station size))
  -- rpr_select
  pub rpr_select : (station : List ℕ) → Determined² (λ (r : ℕ) (after-station : List ℕ). (r ≡ select_answer station) × (after-station ≡ select_after station))
  -- rpr_age
  pub rpr_age : (station : List ℕ) → Determined² (λ (r : ℕ) (after-station : List ℕ). (r ≡ age_answer station) × (after-station ≡ age_after station))
  -- rpr_read_frame
  pub rpr_read_frame : (station frame : List ℕ) → Determined² (λ (r : ℕ) (after-station : List ℕ). (r ≡ read_frame_answer station frame) × (after-station ≡ read_frame_after station frame))
  -- rpr_write_frame
  pub rpr_write_frame : (station room : List ℕ) → Determined² (λ (r : ℕ) (after-room : List ℕ). (r ≡ write_frame_answer station room) × (after-room ≡ write_frame_after station room))
  -- rpr_show
  pub rpr_show : (station room : List ℕ) → Determined² (λ (r : ℕ) (after-room : List ℕ). (r ≡ show_answer station room) × (after-room ≡ show_after station room))
  -- rpr_version
  pub rpr_version : Determined (λ (r : ℕ). r ≡ version_number)
  -- rpr_summarize
  pub rpr_summarize : («record» room : List ℕ) → Determined² (λ (r : ℕ) (after-room : List ℕ). (r ≡ summarize_answer «record» room) × (after-room ≡ summarize_after «record» room))
  -- rpr_join
  pub rpr_join : (first second room : List ℕ) → Determined² (λ (r : ℕ) (after-room : List ℕ). (r ≡ join_answer first second room) × (after-room ≡ join_after first second room))
  -- rpr_settle
  pub rpr_settle : (summary : List ℕ) (start : ℕ) → Determined (λ (r : ℕ). r ≡ settle_answer summary start)
  -- rpr_roll
  pub rpr_roll : («record» room : List ℕ) → Determined² (λ (r : ℕ) (after-room : List ℕ). (r ≡ roll_answer «record» room) × (after-room ≡ roll_after «record» room))
  -- rpr_unroll
  pub rpr_unroll : («record» room : List ℕ) → Determined² (λ (r : ℕ) (after-room : List ℕ). (r ≡ unroll_answer «record» room) × (after-room ≡ unroll_after «record» room))
  -- rpr_choose
  pub rpr_choose : (stations own target links side protection ring : ℕ) → Determined (λ (r : ℕ). r ≡ choose_answer stations own target links side protection ring)
  -- rpr_path
  pub rpr_path : (stations own target links home : ℕ) → Determined (λ (r : ℕ). r ≡ path_answer stations own target links home)
