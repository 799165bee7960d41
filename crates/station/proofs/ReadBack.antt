-- What a station tells, another one hears: the bytes are a whole frame of the other ringlet's bit and a ttl in range, and say what was told.
-- Assumes nothing.
use Prim.Native.Nat.{◌<◌}
use mathlib.Core.Bool.{false}
use mathlib.Core.Path.{◌≡◌, sym, ap, subst, ◌∙◌}
use Rattle.decide.specs.Test.{test, passes, decided}
use Rattle.decide.specs.Hops.{in_ring}
use Rattle.advert.specs.declared.Advert.{Advert}
use Rattle.advert.specs.Frame.{advert_bytes}
use Rattle.heard.specs.Range.{ttl_ok, hops_of}
use Rattle.heard.specs.Frame.{own_ringlet, own_address}
use Rattle.fair.specs.Advertise.{told_of}
use Rattle.fair.proofs.ReadBack.{frame_read_back}
use Rattle.station.specs.declared.Station.{Station}
use Rattle.station.specs.Range.{StationOk}
use Rattle.station.specs.Answers.{done_of}
use Rattle.station.specs.Hear.{changed_of, listen_of, Told, advert_said, tell_of, hear_of}
use Rattle.station.proofs.Range.{facts_in_range}
use Rattle.station.proofs.Hear.{frame_found, hear_whole, listen_done, tell_done}

-- stations in range; the low 32 bits of an address are a 32-bit number
module _ {st : Station} (ok : StationOk st) (own_low : st.settings.address.low < 4294967296) (low : st.fair.received.low < 4294967296) {t : Station} (good : StationOk t) where
  -- Reading a written frame, with the same ringlet and number of stations but an address it doesn't bear, is not refused, and takes what was told.
  pub told_heard : t.settings.ringlet ≡ st.settings.ringlet → t.settings.site.stations ≡ st.settings.site.stations
      → test (own_address t.settings (advert_said (tell_of st))) ≡ false
      → hear_of t (advert_bytes (advert_said (tell_of st))) ≡ done_of (changed_of t (advert_said (tell_of st)))
  told_heard same many other = subst Heard (sym told) said other
    where
      a : Advert
      a = told_of st.fair st.settings

      Heard : Advert → Type 0
      Heard x = test (own_address t.settings x) ≡ false → hear_of t (advert_bytes x) ≡ done_of (changed_of t x)

      told : (advert_said (tell_of st)) ≡ a
      told = ap (λ (r : Told). advert_said r) (tell_done st (facts_in_range st ok))

      said : Heard a
      said o =
          let back = frame_read_back st.settings st.fair ok.settings ok.fair own_low low in
          let found = frame_found (advert_bytes a) a back.parsed in
          hear_whole t (advert_bytes a) found.0
          ∙ ap (listen_of t) (sym found.1)
          ∙ listen_done t a
          (sym (decided (own_ringlet t.settings a) false (λ e. back.ringlet_other (e ∙ same))))
          (facts_in_range t good)
          (passes (ttl_ok a.ttl) back.ttl_in_range)
          (passes (in_ring t.settings.site.stations (hops_of a.ttl)) (rw many back.in_ring_lem))
          o
