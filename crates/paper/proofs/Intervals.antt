-- An aging interval by either method, and the conservative one over the host's calls, by the laws beside each definition. Assumes nothing.
use Prim.Native.Nat.{ℕ}
use mathlib.Core.List.{List}
use mathlib.Core.Path.{◌≡◌, refl, ap}
use lib.ListN.{length, take}
use Rattle.wire.specs.Wire.{Bytes}
use Rattle.settings.specs.declared.Settings.{Settings}
use Rattle.fair.specs.declared.Fair.{Fair}
use Rattle.fair.proofs.Age as interval
use Rattle.fair.proofs.Rows as row
use Rattle.station.specs.Range.{StationOk}
use Rattle.layout.specs.Layout.{station_length}
use Rattle.rpr.specs.Lent.{Lending, memory_after, NoNewStart, station_in}
use Rattle.rpr.specs.Says.{Keeps}
use Rattle.rpr.specs.Steady.{EndsInterval}
use Rattle.rpr.proofs.Method.{lent_apart, seen_apart}
use Rattle.paper.specs.Intervals.{Shares, Ages, Rows, Apart}

pub shares : (f : Fair) (s : Settings) (held : ℕ) → Shares f s held
shares f s held =
    record {
      smoothed = interval.interval_smooths f s held;
      allowed = interval.flag_allowed f s held;
      ramped = interval.flag_ramped f s held;
      allowedc_congested = interval.downstream_allowed f s held;
      allowedc_ramped = interval.free_allowed f s held;
      counters = interval.interval_ages f s held;
      keeps = interval.interval_keeps f s held;
      own = interval.interval_own f s held;
    }

pub ages : (f : Fair) (s : Settings) (held : ℕ) → s.site.method ≡ 0 → Ages f s held
ages f s held chosen =
    let whole = interval.aggressive_unaltered f s held chosen in
    record {
      congested = λ full. (interval.full_congested f s held chosen full, interval.full_local f s held chosen full);
      not_congested = λ room. (interval.room_free f s held chosen room, interval.room_local f s held chosen room);
      allowed_congested = interval.full_allowed f s held chosen;
      allowed_ramped = interval.room_allowed f s held chosen;
      since = ap (λ (g : Fair). g.since) whole;
      unread = interval.aggressive_unread f s held chosen;
    }

pub rows : (f : Fair) (s : Settings) (held : ℕ) → s.site.method ≡ 1 → Rows f s held
rows f s held chosen =
    record {
      enters = row.row_enters f s held chosen;
      rests = row.row_rests f s held chosen;
      lowers = row.row_lowers f s held chosen;
      leaves = row.row_leaves f s held chosen;
      raises = row.row_raises f s held chosen;
      waits = row.row_waits f s held chosen;
    }

-- the station in the memory is kept there
pub apart : (mem : List ℕ) → Bytes (take station_length mem) → length (take station_length mem) ≡ station_length → StationOk (station_in mem)
    → (station_in mem).settings.site.method ≡ 1 → (l : Lending) → EndsInterval l mem → (calls : List Lending) → NoNewStart (memory_after l mem) calls → Apart mem l calls
apart mem bytes whole ok chosen l e calls none =
    let keeps : Keeps (take station_length mem) (station_in mem) = record { bytes = bytes; whole = whole; holds = refl; in_range_lem = ok } in
    record { rows = lent_apart mem keeps chosen l e calls none; seen = seen_apart mem keeps chosen l e calls none }
