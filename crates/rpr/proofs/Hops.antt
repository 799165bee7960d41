-- No hops beyond the ring, over any calls on one piece of memory. Assumes nothing.
use Prim.Native.Nat.{ℕ, ◌<◌}
use mathlib.Core.List.{List}
use mathlib.Core.Path.{◌≡◌, sym, ap, subst, ◌∙◌}
use native.Mathlib.Omega.{arith}
use lib.ListN.{take, get_or}
use Rattle.wire.specs.Wire.{be, Bytes}
use Rattle.settings.specs.Words.{settings_at}
use Rattle.heard.specs.Range.{hops_of}
use Rattle.advert.specs.declared.Advert.{Advert}
use Rattle.advert.specs.Frame.{advert_bytes, advert_in, AdvertFits}
use Rattle.advert.proofs.ReadBack.{parse_written}
use Rattle.fair.specs.Advertise.{told_of}
use Rattle.fair.proofs.ReadBack.{told_sound, told_in_ring}
use Rattle.station.specs.declared.Station.{Station}
use Rattle.station.specs.Range.{StationOk}
use Rattle.station.specs.Calls.{select_faults}
use Rattle.station.specs.Hops.{WithinRing}
use Rattle.station.proofs.Hear.{frame_found}
use Rattle.station.proofs.Hops.{in_range_within}
use Rattle.layout.specs.Layout.{station_length, station_at}
use Rattle.rpr.specs.Station.{start_answer, select_answer}
use Rattle.rpr.specs.Lent.{Lending, memory_through, NoNewStart, started_in}
use Rattle.rpr.specs.Told.{answer_byte}
use Rattle.rpr.specs.Says.{Keeps}
use Rattle.rpr.specs.Hops.{RingTold}
use Rattle.rpr.proofs.Shape.{right_length}
use Rattle.rpr.proofs.Chosen.{chosen_in_ring}
use Rattle.rpr.proofs.Station.{select_leaves, select_bytes}
use Rattle.rpr.proofs.Step.{keeps_fits}
use Rattle.rpr.proofs.Rooms.{no_row, write_frame_done}
use Rattle.rpr.proofs.Lent.{memory_keeps, kept_settings, begins}

-- the first byte of a fairness frame is its ttl
ttl_byte : (xs : List ℕ) → get_or xs 0 0 ≡ (advert_in xs).ttl
unfolding be
ttl_byte xs = omega arith

ttl_first : (a : Advert) → AdvertFits a → get_or (advert_bytes a) 0 0 ≡ a.ttl
ttl_first a fits = ttl_byte (advert_bytes a) ∙ sym (ap (λ (b : Advert). b.ttl) (frame_found (advert_bytes a) a (parse_written a fits)).1)

module _ {xs : List ℕ} {st : Station} (k : Keeps xs st) where
  lent_ok : StationOk (station_at xs)
  lent_ok = subst StationOk (sym k.holds) k.in_range_lem

  -- a selection is carried out, and gives the hops of the chosen frame
  select_ringed : answer_byte (select_answer xs) 3 < (station_at xs).settings.site.stations
  select_ringed =
      let carried = (select_leaves xs).0.byte_0 ∙ right_length station_length xs (select_faults (station_at xs)) k.whole ∙ no_row (station_at xs) lent_ok in
      subst (λ (n : ℕ). n < (station_at xs).settings.site.stations) (sym (ap (λ (bs : List ℕ). get_or bs 3 0) (select_bytes xs carried))) (chosen_in_ring lent_ok)

-- Of any station in range that the memory holds,
pub keeps_ringed : (mem : List ℕ) {st : Station} → Keeps (take station_length mem) st → RingTold st.settings.site.stations mem
keeps_ringed mem {st} k =
    record {
      within = subst (WithinRing st.settings.site.stations) (sym k.holds) (in_range_within k.in_range_lem);
      selected = subst (λ (s : Station). answer_byte (select_answer (take station_length mem)) 3 < s.settings.site.stations) k.holds (select_ringed k);
      written = λ room h.
          let f = keeps_fits k in
          let a = told_of st.fair st.settings in
          let sound = told_sound st.settings st.fair k.in_range_lem.settings k.in_range_lem.fair f.of_settings.of_address.1 (omega (arith, f.of_fair.of_received)) in
          let first = ap (λ (bs : List ℕ). get_or bs 0 0) (write_frame_done k room h).1 ∙ ttl_first a sound.fits in
          subst (λ (ttl : ℕ). hops_of ttl < st.settings.site.stations) (sym first) (told_in_ring st.settings st.fair k.in_range_lem.settings k.in_range_lem.fair);
    }

-- and so of one whose every frame came through the calls, from a start that was carried out, none of them a new start.
pub ring_told : (settings mem : List ℕ) → Bytes settings → start_answer settings (take station_length mem) ≡ 0
    → (ls : List Lending) → NoNewStart (started_in settings mem) ls
    → RingTold (settings_at settings 0).site.stations (memory_through (started_in settings mem) ls)
ring_told settings mem bytes z ls none =
    let started = started_in settings mem in
    let first = begins settings mem bytes z in
    subst (λ s. RingTold s.site.stations (memory_through started ls)) (kept_settings started ls first none) (keeps_ringed (memory_through started ls) (memory_keeps started ls first).keeps)
