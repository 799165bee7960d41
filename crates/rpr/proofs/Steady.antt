-- A steady rate over any calls on one piece of memory: where its counter stands at the rate at each of enough consecutive rpr_age, rpr_show gives the rate.
-- Assumes nothing.
use Prim.Native.Nat.{ℕ, suc, ◌+◌, ◌*◌, ◌^◌, ◌≤◌, ◌<◌}
use mathlib.Core.List.{List, [], ◌∷◌, ◌++◌}
use mathlib.Core.Logic.{◌⊎◌, inl, inr}
use mathlib.Core.Path.{◌≡◌, refl, sym, ap, subst, ◌∙◌}
use native.Mathlib.Omega.{arith}
use lib.ListN.{length, take}
use Rattle.decide.specs.Test.{split, ◌≡?◌}
use Rattle.decide.proofs.Cases.{by_cases}
use Rattle.rates.specs.Steady.{gap_of}
use Rattle.station.specs.declared.Reading.{Reading}
use Rattle.station.specs.declared.Station.{Station}
use Rattle.station.specs.History.{Call, step, after}
use Rattle.station.specs.Steady.{Rate, add, fw, add_congested, fw_congested, counter_of, shown_for, ends, intervals, SteadyAt}
use Rattle.station.proofs.Steady.{steady_shown, steady_shown_always}
use Rattle.layout.specs.Layout.{station_length}
use Rattle.layout.specs.Reading.{reading_length, reading_at}
use Rattle.rpr.specs.Lent.{LentCall, start, tick, offer_client, offer_transit, offer_control, select, age, read_frame, write_frame, show}
use Rattle.rpr.specs.Lent.{calls_of, Lending, lent_to, memory_after, memory_through, NoNewStart, calls_on}
use Rattle.rpr.specs.Says.{Keeps}
use Rattle.rpr.specs.Steady.{shown_word, counter_word, smoothed_word, EndsInterval, intervals_in, SteadyIn, GivesRate}
use Rattle.rpr.proofs.Step.{left}
use Rattle.rpr.proofs.Rooms.{show_done}
use Rattle.rpr.proofs.Lent.{memory_keeps, first_lent, first_left, short_same, whole_calls, short_calls}

-- ---- what the words say

module _ (mem : List ℕ) {st : Station} (keeps : Keeps (take station_length mem) st) (room : List ℕ) (h : length room ≡ reading_length) where
  counter_told : (k : Rate) → shown_word room mem (counter_word k) ≡ counter_of k st.fair.counters
  unfolding reading_at
  counter_told add = ap (λ (r : Reading). r.counters.add) (show_done keeps room h).1
  counter_told fw = ap (λ (r : Reading). r.counters.fw) (show_done keeps room h).1
  counter_told add_congested = ap (λ (r : Reading). r.counters.addc) (show_done keeps room h).1
  counter_told fw_congested = ap (λ (r : Reading). r.counters.fwc) (show_done keeps room h).1

  smoothed_told : (k : Rate) → shown_word room mem (smoothed_word k) ≡ shown_for k st
  unfolding reading_at
  smoothed_told add = ap (λ (r : Reading). r.smoothed.add) (show_done keeps room h).1
  smoothed_told fw = ap (λ (r : Reading). r.smoothed.fw) (show_done keeps room h).1
  smoothed_told add_congested = ap (λ (r : Reading). r.smoothed.addc) (show_done keeps room h).1
  smoothed_told fw_congested = ap (λ (r : Reading). r.smoothed.fwc) (show_done keeps room h).1

-- ---- an interval ends by rpr_age, and by nothing else

age_or_none : (c : LentCall) → (c ≡ age) ⊎ (intervals (calls_of c) ≡ 0)
age_or_none (start settings bytes) = inr refl
age_or_none (tick a b c) = inr refl
age_or_none (offer_client class size hops) = inr refl
age_or_none (offer_transit class size hops eligible) = inr refl
age_or_none (offer_control size) = inr refl
age_or_none select = inr refl
age_or_none age = inl refl
age_or_none (read_frame frame bytes) = inr refl
age_or_none (write_frame room) = inr refl
age_or_none (show room) = inr refl

intervals_append : (cs ds : List Call) → intervals (cs ++ ds) ≡ intervals cs + intervals ds
intervals_append [] ds = omega arith
intervals_append (c ∷ cs) ds = omega (arith, intervals_append cs ds)

module _ (l : Lending) (mem : List ℕ) (ls : List Lending) where
  -- an rpr_age is the first of the calls that the station had
  pub age_first : EndsInterval l mem → calls_on mem (l ∷ ls) ≡ calls_of age ++ calls_on (memory_after l mem) ls
  age_first e = whole_calls l mem ls e.1 ∙ ap (λ (c : LentCall). calls_of c ++ calls_on (memory_after l mem) ls) e.0

  pub one_more : EndsInterval l mem → intervals_in mem (l ∷ ls) ≡ suc (intervals_in (memory_after l mem) ls)
  one_more e = omega (arith, ap intervals (age_first e))

  pub no_more : (EndsInterval l mem → ⊥) → intervals_in mem (l ∷ ls) ≡ intervals_in (memory_after l mem) ls
  no_more n =
      let rest : List Call = calls_on (memory_after l mem) ls in
      by_cases (split (length (lent_to l mem) ≡? station_length))
      (λ w. by_cases (age_or_none l.call)
      (λ e. absurd (n (e, w)))
      (λ z. omega (arith, ap intervals (whole_calls l mem ls w), intervals_append (calls_of l.call) rest, z)))
      (λ w. ap intervals (short_calls l mem ls w))

-- ---- the calls on the station are steady where the lendings are

module _ (k : Rate) (rate : ℕ) where
  steady_append : (st : Station) (cs ds : List Call) → SteadyAt k rate st cs → SteadyAt k rate (after st cs) ds → SteadyAt k rate st (cs ++ ds)
  steady_append st [] ds a b = b
  steady_append st (c ∷ cs) ds a b = (a.0, steady_append (step c st).station cs ds a.1 b)

  -- calls that end no interval are steady at any rate
  none_ended : (st : Station) (cs : List Call) → intervals cs ≡ 0 → SteadyAt k rate st cs
  none_ended st [] z = tt
  none_ended st (c ∷ cs) z = (λ e. omega (arith, z, ap ends e), none_ended (step c st).station cs (omega (arith, z)))

  steady_call : (st : Station) (c : LentCall) → (c ≡ age → counter_of k st.fair.counters ≡ rate) → SteadyAt k rate st (calls_of c)
  steady_call st c at =
      by_cases (age_or_none c) (λ e. subst (λ (d : LentCall). SteadyAt k rate st (calls_of d)) (sym e) (λ f. at e, tt)) (none_ended st (calls_of c))

  module _ (room : List ℕ) (h : length room ≡ reading_length) where
    steady_lent : (mem : List ℕ) (ls : List Lending) {st : Station} → Keeps (take station_length mem) st → NoNewStart mem ls → SteadyIn room k rate mem ls
        → SteadyAt k rate st (calls_on mem ls)
    steady_lent mem [] keeps none at = tt
    steady_lent mem (l ∷ ls) {st} keeps none at =
        by_cases (split (length (lent_to l mem) ≡? station_length))
        (λ w.
        let one = left (subst (λ (xs : List ℕ). Keeps xs st) (first_lent l mem w) keeps) l.call in
        let next = subst (λ (xs : List ℕ). Keeps xs one.next) (sym (first_left l mem one.keeps.whole)) one.keeps in
        let rest = steady_lent (memory_after l mem) ls next none.1 at.1 in
        subst (SteadyAt k rate st) (sym (whole_calls l mem ls w))
        (steady_append st (calls_of l.call) (calls_on (memory_after l mem) ls)
        (steady_call st l.call (λ e. sym (counter_told mem keeps room h k) ∙ at.0 (e, w)))
        (subst (λ (s : Station). SteadyAt k rate s (calls_on (memory_after l mem) ls)) (one.follows none.0) rest)))
        (λ w.
        let next = subst (λ (m : List ℕ). Keeps (take station_length m) st) (sym (short_same l mem w)) keeps in
        subst (SteadyAt k rate st) (sym (short_calls l mem ls w)) (steady_lent (memory_after l mem) ls next none.1 at.1))

    module _ (mem : List ℕ) (ls : List Lending) {st : Station} (keeps : Keeps (take station_length mem) st) (none : NoNewStart mem ls) (at : SteadyIn room k rate mem ls) where
      told_after : shown_for k (after st (calls_on mem ls)) ≡ rate
          → GivesRate room (memory_through mem ls) k rate
      told_after e =
          let through = memory_keeps mem ls keeps in
          ((show_done through.keeps room h).0, smoothed_told (memory_through mem ls) through.keeps room h k ∙ ap (shown_for k) (through.follows none) ∙ e)

      -- Where the counter stands at the rate at each of enough consecutive rpr_age, rpr_show gives the rate: j × lpCoef of them, or more, where less than 2 ^ j was missing
      -- or too much,
      pub steady_told : (j : ℕ) → gap_of (shown_word room mem (smoothed_word k)) rate < 2 ^ j → j * st.settings.fairness.lp ≤ intervals_in mem ls
          → GivesRate room (memory_through mem ls) k rate
      steady_told j off many =
          told_after
          (steady_shown k rate keeps.in_range_lem (calls_on mem ls) (steady_lent mem ls keeps none at) j
          (subst (λ (n : ℕ). gap_of n rate < 2 ^ j) (smoothed_told mem keeps room h k) off) many)

      -- and 31 × lpCoef of them always.
      pub steady_told_always : 31 * st.settings.fairness.lp ≤ intervals_in mem ls
          → GivesRate room (memory_through mem ls) k rate
      steady_told_always many =
          told_after (steady_shown_always k rate keeps.in_range_lem (calls_on mem ls) (steady_lent mem ls keeps none at) many)
