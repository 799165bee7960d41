-- A station in range has no hops beyond its ring; so neither has one that came through any calls from a fresh one.
-- Assumes nothing.
use Prim.Native.Nat.{◌<◌}
use mathlib.Core.List.{List, [], ◌∷◌}
use mathlib.Core.Path.{sym, subst}
use native.Mathlib.Omega.{arith}
use borrow.Author.Tests.{ltb-true}
use Rattle.decide.proofs.Cases.{by_cases, of_each}
use Rattle.queue.specs.declared.Bounds.{Bounds}
use Rattle.queue.specs.declared.Frame.{Frame}
use Rattle.queue.specs.Queue.{frames_of}
use Rattle.queue.specs.Range.{AllOk}
use Rattle.settings.specs.declared.Settings.{Settings}
use Rattle.settings.specs.Range.{SettingsOk}
use Rattle.flow.specs.Parts.{queue_of, bounds_of, stage_holds}
use Rattle.heard.specs.Range.{hops_of}
use Rattle.fair.proofs.ReadBack.{told_in_ring}
use Rattle.station.specs.declared.Station.{Station}
use Rattle.station.specs.Hear.{Told, advert_said}
use Rattle.station.specs.Range.{StationOk}
use Rattle.station.specs.Calls.{fresh_of}
use Rattle.station.specs.History.{Call, after}
use Rattle.station.specs.Hops.{HopsBelow, WithinRing}
use Rattle.station.proofs.Range.{facts_in_range, fresh_ok}
use Rattle.station.proofs.Hear.{tell_done}
use Rattle.station.proofs.History.{after_settings, reached_in_range}

-- frames that may be held
all_below : (bounds : Bounds) (xs : List Frame) → AllOk bounds xs → HopsBelow bounds.stations xs
all_below bounds [] a = tt
all_below bounds (x ∷ xs) a = (a.0.ring, all_below bounds xs a.1)

pub in_range_within : {st : Station} → StationOk st → WithinRing st.settings.site.stations st
in_range_within {st} ok =
    record {
      queues = λ l. all_below (bounds_of st.settings) (frames_of (queue_of st.flow l)) (ok.flow.queues l).frames;
      stage =
          of_each (HopsBelow st.settings.site.stations) (stage_holds st.flow) _ _
          (λ e. by_cases ok.flow.stage (λ z. absurd (omega (arith, ltb-true 0 st.flow.stage e, z))) (λ x. (x.ring, tt)))
          (λ e. tt);
      received = ok.fair.of_received.ring;
      told =
          subst (λ (r : Told). hops_of (advert_said r).ttl < st.settings.site.stations) (sym (tell_done st (facts_in_range st ok)))
          (told_in_ring st.settings st.fair ok.settings ok.fair);
    }

-- A station whose every frame came through the calls holds no hops beyond its ring, and no frame that it tells has 256 − ttl beyond it.
pub reached_within : (s : Settings) → SettingsOk s → (cs : List Call) → WithinRing s.site.stations (after (fresh_of s) cs)
reached_within s good cs =
    subst (λ (t : Settings). WithinRing t.site.stations (after (fresh_of s) cs)) (after_settings (fresh_ok good) cs) (in_range_within (reached_in_range s good cs))
