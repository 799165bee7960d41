-- What a frame changes that is heard, row by row; and the range. Assumes nothing.
use Prim.Native.Nat.{◌≤◌, ◌<◌}
use mathlib.Core.Path.{◌≡◌, refl}
use Rattle.advert.specs.declared.Advert.{Advert}
use Rattle.settings.specs.declared.Settings.{Settings}
use Rattle.settings.specs.Range.{SettingsOk}
use Rattle.heard.specs.Range.{hops_of}
use Rattle.heard.specs.Frame.{none_received}
use Rattle.heard.proofs.Frame.{received_clears, received_sets, received_in_range}
use Rattle.fair.specs.declared.Fair.{Fair}
use Rattle.fair.specs.Range.{FairOk}
use Rattle.fair.specs.Advertise.{with_received, heard_of}

module _ (f : Fair) (a : Advert) where
  -- A rate of 65,535 clears downstream congestion, with received ttl 255, received address and rate 0;
  pub heard_clears : a.rate ≡ 65535 → heard_of f a ≡ with_received none_received f
  heard_clears e = rw (received_clears a e)

  -- others set it.
  pub heard_sets : (a.rate ≡ 65535 → ⊥)
      → heard_of f a ≡ with_received (record { downstream = 1; ttl = a.ttl; high = a.high; low = a.low; rate = a.rate }) f
  heard_sets n = rw (received_sets a n)

  -- Local congestion and own rate hold till the next interval, and so do all rates.
  pub heard_holds : (heard_of f a).decided ≡ f.decided
  heard_holds = refl

-- ---- the range

-- a frame that leaves what is received in range leaves the state so
pub heard_in_range : (s : Settings) → SettingsOk s → (f : Fair) → FairOk s f → (a : Advert) → 193 ≤ a.ttl → a.ttl ≤ 255 → hops_of a.ttl < s.site.stations →
    a.high ≤ 65535 → a.rate ≤ 65535 → FairOk s (heard_of f a)
heard_in_range s good f ok a l m g h r =
    record {
      of_counters = ok.of_counters;
      of_smoothed = ok.of_smoothed;
      of_decided = ok.of_decided;
      since_below = ok.since_below;
      of_received = received_in_range s.site.stations a good.of_site.stations_least l m g h r;
    }
