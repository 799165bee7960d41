-- Public functions of `entry`, by name: two answers that meet the contract are equal.
-- Assumes nothing.
use Rattle.entry.specs.Brief.{brief_of, charge_brief_of, chosen_of, marked_of}
use Rattle.entry.specs.declared.Chosen.{Chosen}
use Rattle.shaper.specs.Refused.{afterwards}
use Rattle.shaper.specs.Shaper.{charge_of, ticked_of}
use Rattle.shaper.specs.declared.Refused.{Refused}
use Rattle.shaper.specs.declared.Shaper.{Shaper}
use Rattle.station.specs.Answers.{rest_after}
use Rattle.station.specs.Calls.{age_of, select_of, tick_of}
use Rattle.station.specs.Hear.{hear_of}
use Rattle.station.specs.Offers.{offer_client_of, offer_control_of, offer_transit_of, station_left}
use Rattle.station.specs.declared.Station.{Station}
use Rattle.std.specs.Prelude.{Bool, List, Result, ℕ, ◌≡◌}
use Rattle.paper.specs.Determined.{Determined, Determined²}

pub record Functions : Type 0 where
  -- shaper_tick
  pub shaper_tick : (s : Shaper) (waiting : Bool) (amount : ℕ) → Determined (λ (after-s : Shaper). after-s ≡ ticked_of s waiting amount)
  -- shaper_charge
  pub shaper_charge : (s : Shaper) (size : ℕ) → Determined² (λ (r : Result (Unit {0}) Refused) (after-s : Shaper). (r ≡ charge_brief_of (charge_of s size)) × (after-s ≡ afterwards s (charge_of s size)))
  -- tick
  pub tick : (s : Station) (a b c : ℕ) → Determined² (λ (r : Result (Unit {0}) Refused) (after-s : Station). (r ≡ brief_of (tick_of s a b c)) × (after-s ≡ afterwards s (tick_of s a b c)))
  -- offer_client
  pub offer_client : (s : Station) (class size hops : ℕ) → Determined² (λ (r : Result ℕ Refused) (after-s : Station). (r ≡ marked_of (offer_client_of s class size hops)) × (after-s ≡ station_left s (offer_client_of s class size hops)))
  -- offer_transit
  pub offer_transit : (s : Station) (class size hops eligible : ℕ) → Determined² (λ (r : Result (Unit {0}) Refused) (after-s : Station). (r ≡ brief_of (offer_transit_of s class size hops eligible)) × (after-s ≡ afterwards s (offer_transit_of s class size hops eligible)))
  -- offer_control
  pub offer_control : (s : Station) (size : ℕ) → Determined² (λ (r : Result (Unit {0}) Refused) (after-s : Station). (r ≡ brief_of (offer_control_of s size)) × (after-s ≡ afterwards s (offer_control_of s size)))
  -- select
  pub select : (s : Station) → Determined² (λ (r : Result Chosen Refused) (after-s : Station). (r ≡ chosen_of (select_of s)) × (after-s ≡ rest_after s (select_of s)))
  -- age
  pub age : (s : Station) → Determined² (λ (r : Result (Unit {0}) Refused) (after-s : Station). (r ≡ brief_of (age_of s)) × (after-s ≡ afterwards s (age_of s)))
  -- hear
  pub hear : (s : Station) (frame : List ℕ) → Determined² (λ (r : Result (Unit {0}) Refused) (after-s : Station). (r ≡ brief_of (hear_of s frame)) × (after-s ≡ afterwards s (hear_of s frame)))
