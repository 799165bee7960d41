-- What a room holds: the reading of the station, and the frame that it advertises, which another station reads.
-- Assumes nothing.
use Rattle.shaper.specs.Refused.{number_said, afterwards}
use Prim.Native.Nat.{ℕ}
use mathlib.Core.Bool.{false}
use mathlib.Core.List.{List, [], ◌∷◌}
use mathlib.Core.Path.{◌≡◌, refl, sym, ap, subst, ◌∙◌}
use native.Mathlib.Omega.{arith}
use lib.ListN.{length}
use Rattle.decide.specs.Test.{test}
use Rattle.decide.specs.Refusal.{first_of}
use Rattle.decide.proofs.Given.{in_order_lem}
use Rattle.wire.specs.Wire.{Bytes}
use Rattle.wire.proofs.Numbers.{digits_be_bytes}
use Rattle.wire.proofs.Placed.{laid_out_bytes}
use Rattle.advert.specs.declared.Advert.{Advert}
use Rattle.advert.specs.Frame.{parts_of, advert_bytes}
use Rattle.heard.specs.Frame.{own_address}
use Rattle.fair.specs.Advertise.{told_of}
use Rattle.station.specs.declared.Station.{Station}
use Rattle.station.specs.Range.{StationOk}
use Rattle.station.specs.Answers.{Done, done_of}
use Rattle.station.specs.Calls.{range_fault}
use Rattle.station.specs.Hear.{changed_of, hear_of, Told, advert_said, tell_of}
use Rattle.station.specs.Show.{reading_of}
use Rattle.station.proofs.Range.{facts_in_range}
use Rattle.station.proofs.Hear.{tell_done}
use Rattle.station.proofs.ReadBack.{told_heard}
use Rattle.layout.specs.Layout.{station_at}
use Rattle.layout.specs.Reading.{reading_length, reading_at}
use Rattle.layout.proofs.Round.{reading_of_bytes, reading_fits, station_fits}
use Rattle.rpr.specs.Station.{read_frame_answer, read_frame_after, write_frame_answer, write_frame_after, show_answer, show_after}
use Rattle.rpr.specs.Lent.{read_frame}
use Rattle.rpr.proofs.Shape.{number_alone, taken_on}
use Rattle.rpr.proofs.Given.{whole_gives, then_whole_gives, done_back}
use Rattle.rpr.specs.Says.{Keeps}
use Rattle.rpr.proofs.Step.{keeps_fits, call_keeps}

-- a station in range is refused nothing for its range
pub no_row : (st : Station) → StationOk st → first_of (range_fault st ∷ []) ≡ 0
no_row st ok = rw (in_order_lem (range_fault st ∷ []) refl, facts_in_range st ok)

module _ {xs : List ℕ} {st : Station} (k : Keeps xs st) (room : List ℕ) where
  lent_row : first_of (range_fault (station_at xs) ∷ []) ≡ 0
  lent_row = ap (λ (s : Station). first_of (range_fault s ∷ [])) k.holds ∙ no_row st k.in_range_lem

  -- rpr_show: the room holds the reading
  pub show_done : length room ≡ reading_length → (show_answer xs room ≡ 0) × (reading_at (show_after xs room) ≡ reading_of st)
  unfolding show_answer show_after
  show_done h =
      let g = then_whole_gives _ room _ h _ _ _ _ xs k.whole (taken_on _ _ _ _ lent_row) in
      (sym g.0, ap reading_at (sym g.1) ∙ reading_of_bytes (reading_of (station_at xs)) (reading_fits (subst StationOk (sym k.holds) k.in_range_lem) (station_fits xs k.bytes)) ∙ ap reading_of k.holds)

  -- rpr_write_frame: the room holds the frame that the station advertises
  pub write_frame_done : length room ≡ 12 → (write_frame_answer xs room ≡ 0) × (write_frame_after xs room ≡ advert_bytes (told_of st.fair st.settings))
  unfolding write_frame_answer write_frame_after
  write_frame_done h =
      let g = then_whole_gives _ room _ h _ _ _ _ xs k.whole (taken_on _ _ _ _ lent_row) in
      (sym g.0, sym g.1 ∙ ap (λ (s : Station). advert_bytes (told_of s.fair s.settings)) k.holds)

-- ---- a frame that one station writes and another reads

frame_bytes : (a : Advert) → Bytes (advert_bytes a)
unfolding advert_bytes
frame_bytes a = laid_out_bytes (parts_of a) (digits_be_bytes 1 _, (digits_be_bytes 1 _, (digits_be_bytes 6 _, (digits_be_bytes 2 _, (digits_be_bytes 2 _, tt)))))

module _ {xs : List ℕ} {st : Station} (k : Keeps xs st) (room : List ℕ) (h : length room ≡ 12) {ys : List ℕ} {t : Station} (j : Keeps ys t) where
  abbrev told : Advert
  told = told_of st.fair st.settings

  module _ (same : t.settings.ringlet ≡ st.settings.ringlet) (many : t.settings.site.stations ≡ st.settings.site.stations) (other : test (own_address t.settings told) ≡ false) where
    heard : hear_of t (advert_bytes told) ≡ done_of (changed_of t told)
    heard =
        let f = keeps_fits k in
        let said : advert_said (tell_of st) ≡ told = ap (λ (r : Told). advert_said r) (tell_done st (facts_in_range st k.in_range_lem)) in
        subst (λ (a : Advert). test (own_address t.settings a) ≡ false → hear_of t (advert_bytes a) ≡ done_of (changed_of t a)) said
        (told_heard k.in_range_lem f.of_settings.of_address.1 (omega (arith, f.of_fair.of_received)) j.in_range_lem same many) other

    -- Reading a written frame, with the same ringlet and number of stations but an address it doesn't bear, is not refused, and takes what was told.
    pub written_read : (read_frame_answer ys (write_frame_after xs room) ≡ 0) × Keeps (read_frame_after ys (write_frame_after xs room)) (changed_of t told)
    unfolding read_frame_answer
    written_read =
        rw (write_frame_done k room h).1 (
          sym (whole_gives _ ys _ j.whole _ _ _ (done_back ys _ (station_at ys) _ (hear_of (station_at ys) (advert_bytes told)) refl (refl, refl))).0
              ∙ sym (number_alone _) ∙ ap (λ (r : Done). number_said r) (ap (λ (s : Station). hear_of s (advert_bytes told)) j.holds ∙ heard),
          subst (λ (r : Done). Keeps (read_frame_after ys (advert_bytes told)) (afterwards t r)) heard (call_keeps j (read_frame (advert_bytes told) (frame_bytes told)) _ refl),
        )
