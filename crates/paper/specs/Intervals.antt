-- An aging interval, with so many bytes in the secondary queue: what the two methods share, the aggressive one (document 01), the conservative one (document 02, A7), and
-- what a host sees of that one over its calls. Assumes nothing.
use Rattle.std.specs.Prelude.{ℕ, ◌+◌, ◌*◌, ◌-◌, ◌/◌, ◌≤◌, ◌<◌, min, List, ◌∷◌, ◌⊎◌, ◌≡◌, length}
use Rattle.settings.specs.declared.Settings.{Settings}
use Rattle.fair.specs.declared.Fair.{Fair}
use Rattle.fair.specs.Methods as methods
use Rattle.fair.specs.Methods.{Changes, Steps}
use Rattle.fair.specs.Age.{age_of, adjusted_now, row_for}
use Rattle.layout.specs.Reading.{reading_length}
use Rattle.rpr.specs.Lent.{Lending, memory_through, station_in}
use Rattle.rpr.specs.Steady.{EndsInterval, intervals_in}
use Rattle.rpr.specs.Method.{row_in, AlteredIn, AlteredWithinIn}

-- What the methods share: everything but whether the station counts as locally congested, localFairRate, from which two it follows, and the intervals since its change.
pub record Shares (f : Fair) (s : Settings) (held : ℕ) : Type 0 where
  -- Each stored number s becomes s − floor(s / lpCoef) + rate (document 02, A4).
  pub smoothed : (age_of f s held).smoothed
      ≡ record {
        add = f.smoothed.add - f.smoothed.add / s.fairness.lp + f.counters.add;
        fw = f.smoothed.fw - f.smoothed.fw / s.fairness.lp + f.counters.fw;
        addc = f.smoothed.addc - f.smoothed.addc / s.fairness.lp + f.counters.addc;
        fwc = f.smoothed.fwc - f.smoothed.fwc / s.fairness.lp + f.counters.fwc;
      }
  -- allowedRate: the smaller of localFairRate and unreservedRate if locally congested, else allowedRate + floor((unreservedRate − allowedRate) / rampUp). Until it leaves, a
  -- conservative station counts as locally congested.
  pub allowed : (age_of f s held).decided.congested ≡ 1 → (age_of f s held).decided.allowed ≡ min (age_of f s held).decided.local s.fairness.unreserved
  pub ramped : (age_of f s held).decided.congested ≡ 0 → (age_of f s held).decided.allowed ≡ f.decided.allowed + (s.fairness.unreserved - f.decided.allowed) / s.fairness.ramp
  -- allowedRateCongested: if downstream congested the smaller of unreservedRate and received × weight × unit, else ramped the same way.
  pub allowedc_congested : f.received.downstream ≡ 1 → (age_of f s held).decided.allowedc ≡ min s.fairness.unreserved (f.received.rate * s.fairness.weight * s.fairness.unit)
  pub allowedc_ramped : (f.received.downstream ≡ 1 → ⊥) → (age_of f s held).decided.allowedc ≡ f.decided.allowedc + (s.fairness.unreserved - f.decided.allowedc) / s.fairness.ramp
  -- Each counter becomes floor(rate × (ageCoef−1) / ageCoef).
  pub counters : (age_of f s held).counters
      ≡ record {
        add = f.counters.add * (s.fairness.age - 1) / s.fairness.age;
        fw = f.counters.fw * (s.fairness.age - 1) / s.fairness.age;
        addc = f.counters.addc * (s.fairness.age - 1) / s.fairness.age;
        fwc = f.counters.fwc * (s.fairness.age - 1) / s.fairness.age;
      }
  -- What was received stays.
  pub keeps : (age_of f s held).received ≡ f.received
  -- Own rate is floor(localFairRate / (weight × unit)), at most 65,534.
  pub own : (age_of f s held).decided.own ≡ min ((age_of f s held).decided.local / (s.fairness.weight * s.fairness.unit)) 65534

-- The aggressive method: document 01 unaltered.
pub record Ages (f : Fair) (s : Settings) (held : ℕ) : Type 0 where
  -- Locally congested: secondary bytes > low threshold. localFairRate: lpAddRate, as it is shown, if locally congested, else
  -- unreservedRate.
  pub congested : s.queues.threshold < held
      → ((age_of f s held).decided.congested ≡ 1) × ((age_of f s held).decided.local ≡ (age_of f s held).smoothed.add / s.fairness.lp)
  pub not_congested : held ≤ s.queues.threshold → ((age_of f s held).decided.congested ≡ 0) × ((age_of f s held).decided.local ≡ s.fairness.unreserved)
  -- So allowedRate goes by the test, as document 01 has it.
  pub allowed_congested : s.queues.threshold < held → (age_of f s held).decided.allowed ≡ min (age_of f s held).decided.local s.fairness.unreserved
  pub allowed_ramped : held ≤ s.queues.threshold → (age_of f s held).decided.allowed ≡ f.decided.allowed + (s.fairness.unreserved - f.decided.allowed) / s.fairness.ramp
  -- The count of intervals since a change is the other method's: it stays,
  pub since : (age_of f s held).since ≡ f.since
  -- and nothing else depends on it.
  pub unread : (n : ℕ)
      → age_of (record { counters = f.counters; smoothed = f.smoothed; decided = f.decided; since = n; received = f.received }) s held
      ≡ record {
        counters = (age_of f s held).counters;
        smoothed = (age_of f s held).smoothed;
        decided = (age_of f s held).decided;
        since = n;
        received = (age_of f s held).received;
      }

-- The conservative method: which row an interval takes, and local congestion, localFairRate and the intervals since its change that it leaves.
pub record Rows (f : Fair) (s : Settings) (held : ℕ) : Type 0 where
  -- enter congestion at lpAddRate, cut to unreservedRate; entry counts as a change;
  pub enters : f.decided.congested ≡ 0 → s.queues.threshold < held
      → (row_for f s held ≡ methods.enters)
      × (adjusted_now (age_of f s held) ≡ record { congested = 1; local = min ((age_of f s held).smoothed.add / s.fairness.lp) s.fairness.unreserved; since = 0 })
  pub rests : f.decided.congested ≡ 0 → held ≤ s.queues.threshold
      → (row_for f s held ≡ methods.rests) × (adjusted_now (age_of f s held) ≡ record { congested = f.decided.congested; local = f.decided.local; since = f.since })
  -- while congested and a fairness round trip has passed since the last change, reduce localFairRate by its rampDn-th part, rounded down; so does a step of 0;
  pub lowers : f.decided.congested ≡ 1 → s.queues.threshold < held → s.site.trip ≤ f.since + 1
      → (row_for f s held ≡ methods.lowers)
      × (adjusted_now (age_of f s held) ≡ record { congested = 1; local = f.decided.local - f.decided.local / s.site.down; since = 0 })
  -- once document 01's test is false, leave congestion, at unreservedRate, if the distance to it is less than rampUp,
  pub leaves : f.decided.congested ≡ 1 → held ≤ s.queues.threshold → s.fairness.unreserved - f.decided.local < s.fairness.ramp
      → (row_for f s held ≡ methods.leaves) × (adjusted_now (age_of f s held) ≡ record { congested = 0; local = s.fairness.unreserved; since = 0 })
  -- else after the same time raise it by the rampUp-th part of that distance, rounded down;
  pub raises : f.decided.congested ≡ 1 → held ≤ s.queues.threshold → s.fairness.ramp ≤ s.fairness.unreserved - f.decided.local → s.site.trip ≤ f.since + 1
      → (row_for f s held ≡ methods.raises)
      × (adjusted_now (age_of f s held)
      ≡ record { congested = 1; local = f.decided.local + (s.fairness.unreserved - f.decided.local) / s.fairness.ramp; since = 0 })
  -- until then it stays, and the station counts as locally congested.
  pub waits : f.decided.congested ≡ 1 → (s.queues.threshold < held) ⊎ (s.fairness.ramp ≤ s.fairness.unreserved - f.decided.local) → f.since + 1 < s.site.trip
      → (row_for f s held ≡ methods.waits) × (adjusted_now (age_of f s held) ≡ record { congested = 1; local = f.decided.local; since = f.since + 1 })

-- Over the host's calls, from an rpr_age to a later one: at least a round trip of intervals ends from the one, with it, to the other,
pub record Apart (mem : List ℕ) (l : Lending) (calls : List Lending) : Type 0 where
  -- where the first changes and the later one steps: two changes are a round trip apart, but for leaving and entering;
  pub rows : Changes (row_in mem) → Steps (row_in (memory_through mem (l ∷ calls))) → (station_in mem).settings.site.trip ≤ intervals_in mem (l ∷ calls)
  -- where rpr_show tells of a change of local congestion or localFairRate by the first, and by the later one of localFairRate, the station counting as locally congested
  -- before and after it.
  pub seen : (room : List ℕ) → length room ≡ reading_length → AlteredIn room l mem
      → (m : Lending) → EndsInterval m (memory_through mem (l ∷ calls)) → AlteredWithinIn room m (memory_through mem (l ∷ calls))
      → (station_in mem).settings.site.trip ≤ intervals_in mem (l ∷ calls)
