-- The conservative method over any calls on one piece of memory. Assumes nothing.
use Prim.Native.Nat.{ℕ, ◌≤◌}
use mathlib.Core.List.{List, [], ◌∷◌}
use mathlib.Core.Logic.{inl, inr}
use mathlib.Core.Path.{◌≡◌, sym, ap, subst, ◌∙◌}
use native.Mathlib.Omega.{arith}
use lib.ListN.{length, take}
use Rattle.decide.proofs.Cases.{by_cases}
use Rattle.wire.specs.Wire.{Bytes}
use Rattle.settings.specs.declared.Settings.{Settings}
use Rattle.settings.specs.Words.{settings_at}
use Rattle.fair.specs.Methods.{Changes, Steps}
use Rattle.station.specs.declared.Reading.{Reading}
use Rattle.station.specs.declared.Station.{Station}
use Rattle.station.specs.History.{Call, after}
use Rattle.station.specs.Steady.{intervals}
use Rattle.station.specs.Method.{row_now, aged, FreeAtUnreserved}
use Rattle.station.proofs.Method as station
use Rattle.layout.specs.Layout.{station_length}
use Rattle.layout.specs.Reading.{reading_length, reading_at}
use Rattle.rpr.specs.Station.{start_answer}
use Rattle.rpr.specs.Lent.{LentCall, calls_of, NewStart, Lending, lent_to, memory_after, memory_through, NoNewStart, calls_on, started_in}
use Rattle.rpr.specs.Says.{Keeps}
use Rattle.rpr.specs.Steady.{shown_word, EndsInterval, intervals_in}
use Rattle.rpr.specs.Method.{local_word, congested_word, row_in, AlteredIn, AlteredWithinIn, RateTold, FreeTold}
use Rattle.rpr.proofs.Step.{start_in_range}
use Rattle.rpr.proofs.Rooms.{show_done}
use Rattle.rpr.proofs.Lent.{Through, memory_keeps, kept_settings, begins}
use Rattle.rpr.proofs.Steady.{age_first, one_more}

-- ---- what the words say

module _ (mem : List ℕ) {st : Station} (keeps : Keeps (take station_length mem) st) (room : List ℕ) (h : length room ≡ reading_length) where
  local_told : shown_word room mem local_word ≡ st.fair.decided.local
  unfolding reading_at
  local_told = ap (λ (r : Reading). r.decided.local) (show_done keeps room h).1

  congested_told : shown_word room mem congested_word ≡ st.fair.decided.congested
  unfolding reading_at
  congested_told = ap (λ (r : Reading). r.decided.congested) (show_done keeps room h).1

-- ---- an rpr_age

-- is no start, which ends no interval
no_start : (l : Lending) (mem : List ℕ) → EndsInterval l mem → NewStart l.call (lent_to l mem) → ⊥
no_start l mem e (settings, (bytes, q), z) = omega (arith, ap (λ (c : LentCall). intervals (calls_of c)) (sym e.0 ∙ q))

module _ (mem : List ℕ) {st : Station} (keeps : Keeps (take station_length mem) st) (l : Lending) (e : EndsInterval l mem) where
  aged_keeps : Keeps (take station_length (memory_after l mem)) (aged st)
  aged_keeps =
      let through = memory_keeps mem (l ∷ []) keeps in
      subst (Keeps (take station_length (memory_after l mem))) (through.follows (no_start l mem e, tt) ∙ ap (after st) (age_first l mem [] e)) through.keeps

  module _ (chosen : st.settings.site.method ≡ 1) (room : List ℕ) (h : length room ≡ reading_length) where
    -- What a host sees altered by it is a change, and a step where the station counts as locally congested before and after it.
    told_changes : AlteredIn room l mem → Changes (row_now st)
    told_changes altered =
        station.seen_changes keeps.in_range_lem chosen
        (by_cases altered
        (λ n. inl (λ q. n (congested_told mem keeps room h ∙ q ∙ sym (congested_told (memory_after l mem) aged_keeps room h))))
        (λ n. inr (λ q. n (local_told mem keeps room h ∙ q ∙ sym (local_told (memory_after l mem) aged_keeps room h)))))

    told_steps : AlteredWithinIn room l mem → Steps (row_now st)
    told_steps (before, behind, n) =
        station.seen_steps keeps.in_range_lem chosen (
          sym (congested_told mem keeps room h) ∙ before,
          sym (congested_told (memory_after l mem) aged_keeps room h) ∙ behind,
          λ q. n (local_told mem keeps room h ∙ q ∙ sym (local_told (memory_after l mem) aged_keeps room h)),
        )

-- ---- two changes are at least a round trip apart, but for leaving and entering

module _ (mem : List ℕ) {st : Station} (keeps : Keeps (take station_length mem) st) (chosen : st.settings.site.method ≡ 1)
    (l : Lending) (e : EndsInterval l mem) (ls : List Lending) (none : NoNewStart (memory_after l mem) ls) where
  through : Through mem (l ∷ ls) st
  through = memory_keeps mem (l ∷ ls) keeps

  none_new : NoNewStart mem (l ∷ ls)
  none_new = (no_start l mem e, none)

  -- From an rpr_age that changes, over any calls, to one that steps: so many intervals end from the one, with it, to the other.
  pub lent_apart : Changes (row_in mem) → Steps (row_in (memory_through mem (l ∷ ls))) → st.settings.site.trip ≤ intervals_in mem (l ∷ ls)
  lent_apart change steps =
      let rest : List Call = calls_on (memory_after l mem) ls in
      let last = through.keeps.holds ∙ through.follows none_new ∙ ap (after st) (age_first l mem ls e) in
      omega (
        arith,
        station.changes_apart keeps.in_range_lem chosen (subst (λ (s : Station). Changes (row_now s)) keeps.holds change) rest
            (subst (λ (s : Station). Steps (row_now s)) last steps),
        one_more l mem ls e,
      )

  -- The same by what a host sees: an rpr_age that alters, and then one that alters localFairRate while the station counts as locally congested before and after it.
  module _ (room : List ℕ) (h : length room ≡ reading_length) where
    pub seen_apart : AlteredIn room l mem → (m : Lending) → EndsInterval m (memory_through mem (l ∷ ls)) → AlteredWithinIn room m (memory_through mem (l ∷ ls))
        → st.settings.site.trip ≤ intervals_in mem (l ∷ ls)
    unfolding through
    seen_apart altered m ends within =
        let same = ap (λ (s : Settings). s.site.method) (kept_settings mem (l ∷ ls) keeps none_new) in
        lent_apart
        (subst (λ (s : Station). Changes (row_now s)) (sym keeps.holds) (told_changes mem keeps l e chosen room h altered))
        (subst (λ (s : Station). Steps (row_now s)) (sym through.keeps.holds) (told_steps (memory_through mem (l ∷ ls)) through.keeps m ends (same ∙ chosen) room h within))

-- ---- the conservative localFairRate never exceeds unreservedRate

-- Of any station in range that the memory holds,
pub keeps_rate : (mem : List ℕ) {st : Station} → Keeps (take station_length mem) st → (room : List ℕ) → length room ≡ reading_length → RateTold room st.settings mem
keeps_rate mem {st} keeps room h =
    ((show_done keeps room h).0, λ chosen. subst (λ (n : ℕ). n ≤ st.settings.fairness.unreserved) (sym (local_told mem keeps room h)) (station.in_range_rate keeps.in_range_lem chosen))

-- and of what any calls leave of it, none of them a new start;
pub lent_rate : (mem : List ℕ) {st : Station} → Keeps (take station_length mem) st → (ls : List Lending) → NoNewStart mem ls
    → (room : List ℕ) → length room ≡ reading_length → RateTold room st.settings (memory_through mem ls)
lent_rate mem keeps ls none room h =
    subst (λ (s : Settings). RateTold room s (memory_through mem ls)) (kept_settings mem ls keeps none) (keeps_rate (memory_through mem ls) (memory_keeps mem ls keeps).keeps room h)

-- so from a start that was carried out. There a station that does not count as locally congested has it at unreservedRate.
module _ (settings mem : List ℕ) (bytes : Bytes settings) (z : start_answer settings (take station_length mem) ≡ 0) (ls : List Lending) (none : NoNewStart (started_in settings mem) ls)
    (room : List ℕ) (h : length room ≡ reading_length) where
  pub rate_told : RateTold room (settings_at settings 0) (memory_through (started_in settings mem) ls)
  rate_told = lent_rate (started_in settings mem) (begins settings mem bytes z) ls none room h

  pub free_told : FreeTold room (settings_at settings 0) (memory_through (started_in settings mem) ls)
  free_told free =
      let last = memory_through (started_in settings mem) ls in
      let started = memory_keeps (started_in settings mem) ls (begins settings mem bytes z) in
      local_told last started.keeps room h
      ∙ subst FreeAtUnreserved (sym (started.follows none))
      (station.reached_free (settings_at settings 0) (start_in_range settings (take station_length mem) bytes z) (calls_on (started_in settings mem) ls))
      (sym (congested_told last started.keeps room h) ∙ free)
      ∙ ap (λ (s : Settings). s.fairness.unreserved) (kept_settings (started_in settings mem) ls (begins settings mem bytes z) none)
