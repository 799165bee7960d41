-- Public functions of `station`, by name: two answers that meet the contract are equal.
-- Assumes nothing.
use Rattle.advert.specs.declared.Advert.{Advert}
use Rattle.decide.specs.Test.{test}
use Rattle.fair.specs.declared.Fair.{Fair}
use Rattle.selection.specs.declared.Sight.{Sight}
use Rattle.settings.specs.declared.Settings.{Settings}
use Rattle.shaper.specs.declared.Refused.{Refused}
use Rattle.station.specs.Calls.{age_of, fresh_of, select_of, start_of, tick_of}
use Rattle.station.specs.Hear.{hear_of, tell_of}
use Rattle.station.specs.Offers.{offer_client_of, offer_control_of, offer_transit_of}
use Rattle.station.specs.Pick.{pick_of, seen_as_of}
use Rattle.station.specs.Range.{station_ok}
use Rattle.station.specs.Show.{show_of}
use Rattle.station.specs.declared.Client.{Client}
use Rattle.station.specs.declared.Pick.{Pick}
use Rattle.station.specs.declared.Reading.{Reading}
use Rattle.station.specs.declared.Selected.{Selected}
use Rattle.station.specs.declared.Station.{Station}
use Rattle.std.specs.Prelude.{Bool, List, Result, ℕ, ◌≡◌}
use Rattle.paper.specs.Determined.{Determined}

pub record Functions : Type 0 where
  -- Station::offer_client
  pub station_offer_client : (self : Station) (class size hops : ℕ) → Determined (λ (r : Result Client Refused). r ≡ offer_client_of self class size hops)
  -- Station::offer_client_known (a leaf: it asks that good ≡ test (station_ok self))
  pub station_offer_client_known : (self : Station) (good : Bool) (class size hops : ℕ) → Determined (λ (r : Result Client Refused). r ≡ offer_client_of self class size hops)
  -- Station::offer_transit
  pub station_offer_transit : (self : Station) (class size hops eligible : ℕ) → Determined (λ (r : Result Station Refused). r ≡ offer_transit_of self class size hops eligible)
  -- Station::offer_transit_known (a leaf: it asks that good ≡ test (station_ok self))
  pub station_offer_transit_known : (self : Station) (good : Bool) (class size hops eligible : ℕ) → Determined (λ (r : Result Station Refused). r ≡ offer_transit_of self class size hops eligible)
  -- Station::offer_control
  pub station_offer_control : (self : Station) (size : ℕ) → Determined (λ (r : Result Station Refused). r ≡ offer_control_of self size)
  -- Station::offer_control_known (a leaf: it asks that good ≡ test (station_ok self))
  pub station_offer_control_known : (self : Station) (good : Bool) (size : ℕ) → Determined (λ (r : Result Station Refused). r ≡ offer_control_of self size)
  -- Station::hear
  pub station_hear : (self : Station) (frame : List ℕ) → Determined (λ (r : Result Station Refused). r ≡ hear_of self frame)
  -- Station::hear_known (a leaf: it asks that good ≡ test (station_ok self))
  pub station_hear_known : (self : Station) (good : Bool) (frame : List ℕ) → Determined (λ (r : Result Station Refused). r ≡ hear_of self frame)
  -- Station::tell
  pub station_tell : (self : Station) → Determined (λ (r : Result Advert Refused). r ≡ tell_of self)
  -- Station::tell_known (a leaf: it asks that good ≡ test (station_ok self))
  pub station_tell_known : (self : Station) (good : Bool) → Determined (λ (r : Result Advert Refused). r ≡ tell_of self)
  -- Station::fresh
  pub station_fresh : (settings : Settings) → Determined (λ (r : Station). r ≡ fresh_of settings)
  -- Station::in_range
  pub station_in_range : (self : Station) → Determined (λ (r : Bool). r ≡ test (station_ok self))
  -- Station::start
  pub station_start : (self : Station) (settings : Settings) → Determined (λ (r : Result Station Refused). r ≡ start_of self settings)
  -- Station::tick
  pub station_tick : (self : Station) (a b c : ℕ) → Determined (λ (r : Result Station Refused). r ≡ tick_of self a b c)
  -- Station::tick_known (a leaf: it asks that good ≡ test (station_ok self))
  pub station_tick_known : (self : Station) (good : Bool) (a b c : ℕ) → Determined (λ (r : Result Station Refused). r ≡ tick_of self a b c)
  -- Station::select
  pub station_select : (self : Station) → Determined (λ (r : Result Selected Refused). r ≡ select_of self)
  -- Station::age
  pub station_age : (self : Station) → Determined (λ (r : Result Station Refused). r ≡ age_of self)
  -- Station::age_known (a leaf: it asks that good ≡ test (station_ok self))
  pub station_age_known : (self : Station) (good : Bool) → Determined (λ (r : Result Station Refused). r ≡ age_of self)
  -- picked
  pub picked : (settings : Settings) (sight : Sight) (fair : Fair) → Determined (λ (r : Pick). r ≡ pick_of (seen_as_of settings sight fair))
  -- Station::show
  pub station_show : (self : Station) → Determined (λ (r : Result Reading Refused). r ≡ show_of self)
  -- Station::show_known (a leaf: it asks that good ≡ test (station_ok self))
  pub station_show_known : (self : Station) (good : Bool) → Determined (λ (r : Result Reading Refused). r ≡ show_of self)
