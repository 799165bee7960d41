-- A steady rate over any calls, refused ones among them: what is stored is that of as many intervals, and after enough of them the rate is shown.
-- Assumes nothing.
use Rattle.shaper.specs.Refused.{afterwards}
use Prim.Native.Nat.{ℕ, ◌*◌, ◌^◌, ◌≤◌, ◌<◌}
use mathlib.Core.List.{List, [], ◌∷◌}
use mathlib.Core.Logic.{◌⊎◌, inl, inr}
use mathlib.Core.Path.{◌≡◌, refl, sym, ap, ◌∙◌}
use native.Mathlib.Omega.{arith}
use Rattle.decide.proofs.Cases.{by_cases}
use Rattle.rates.specs.Rates.{smoothed_of, shown_of}
use Rattle.rates.specs.Steady.{steady_of, gap_of}
use Rattle.rates.proofs.Steady.{steady_add, steady_arrives}
use Rattle.fair.specs.Four.{Four, Stored}
use Rattle.fair.specs.Range.{FourOk, StoredOk}
use Rattle.fair.specs.Age.{smooth_of}
use Rattle.settings.proofs.Range.{coef_bounds}
use Rattle.station.specs.declared.Station.{Station}
use Rattle.station.specs.Answers.{Done}
use Rattle.station.specs.Range.{StationOk}
use Rattle.station.specs.History.{Call, tick, offer_client, offer_transit, offer_control, select, age, hear, tell, show, step, after}
use Rattle.station.specs.Steady.{Rate, add, fw, add_congested, fw_congested, counter_of, stored_of, shown_for, ends, intervals, SteadyAt}
use Rattle.station.proofs.Interval.{age_ages, holds_till_interval}
use Rattle.station.proofs.Kept.{range_kept}
use Rattle.station.proofs.History.{step_goes, after_settings}

-- ---- each of the four

smooth_one : (k : Rate) (s : Stored) (lpCoef : ℕ) (r : Four) → stored_of k (smooth_of s lpCoef r) ≡ smoothed_of lpCoef (stored_of k s) (counter_of k r)
smooth_one add s lpCoef r = refl
smooth_one fw s lpCoef r = refl
smooth_one add_congested s lpCoef r = refl
smooth_one fw_congested s lpCoef r = refl

counter_most : (k : Rate) (r : Four) → FourOk r → counter_of k r ≤ 2147483647
counter_most add r ok = ok.add_most
counter_most fw r ok = ok.fw_most
counter_most add_congested r ok = ok.addc_most
counter_most fw_congested r ok = ok.fwc_most

shown_most : (k : Rate) (lpCoef : ℕ) (s : Stored) → StoredOk lpCoef s → shown_of lpCoef (stored_of k s) ≤ 2147483647
shown_most add lpCoef s ok = ok.add_most
shown_most fw lpCoef s ok = ok.fw_most
shown_most add_congested lpCoef s ok = ok.addc_most
shown_most fw_congested lpCoef s ok = ok.fwc_most

-- a call ends an interval, or none
pub one_or_none : (c : Call) → (c ≡ age) ⊎ (ends c ≡ 0)
one_or_none (tick a b c) = inr refl
one_or_none (offer_client class size hops) = inr refl
one_or_none (offer_transit class size hops eligible) = inr refl
one_or_none (offer_control size) = inr refl
one_or_none select = inr refl
one_or_none age = inl refl
one_or_none (hear frame bytes) = inr refl
one_or_none tell = inr refl
one_or_none show = inr refl

module _ (k : Rate) (rate : ℕ) where
  -- ---- one call

  module _ {st : Station} (ok : StationOk st) where
    -- what is stored, of as many intervals as the call ends
    aged_stored : counter_of k st.fair.counters ≡ rate
        → stored_of k (step age st).station.fair.smoothed ≡ steady_of st.settings.fairness.lp rate 1 (stored_of k st.fair.smoothed)
    unfolding steady_of
    aged_stored e =
        let c : ℕ = st.settings.fairness.lp in
        let s : Stored = st.fair.smoothed in
        ap (λ (d : Done). stored_of k (afterwards st d).fair.smoothed) (age_ages ok) ∙ smooth_one k s c st.fair.counters ∙ ap (smoothed_of c (stored_of k s)) e

    call_stored : (c : Call) → (c ≡ age → counter_of k st.fair.counters ≡ rate)
        → stored_of k (step c st).station.fair.smoothed ≡ steady_of st.settings.fairness.lp rate (ends c) (stored_of k st.fair.smoothed)
    unfolding steady_of
    call_stored c at =
        by_cases (one_or_none c)
        (λ e. rw e (aged_stored (at e)))
        (λ z. rw z (ap (stored_of k) (holds_till_interval st c (λ e. omega (arith, z, ap ends e))).1))

  -- ---- many calls

  steady_stored : {st : Station} → StationOk st → (cs : List Call) → SteadyAt k rate st cs
      → stored_of k (after st cs).fair.smoothed ≡ steady_of st.settings.fairness.lp rate (intervals cs) (stored_of k st.fair.smoothed)
  unfolding steady_of
  steady_stored ok [] at = refl
  steady_stored {st} ok (c ∷ cs) at =
      steady_stored {st = (step c st).station} (range_kept ok c) cs at.1
      ∙ rw ((step_goes ok c).settings, call_stored ok c at.0) (sym (steady_add st.settings.fairness.lp rate (ends c) (intervals cs) (stored_of k st.fair.smoothed)))

  -- the rate is one that a counter stands at
  steady_most : {st : Station} → StationOk st → (cs : List Call) → SteadyAt k rate st cs → 0 < intervals cs → rate ≤ 2147483647
  steady_most ok [] at some = omega arith
  steady_most {st} ok (c ∷ cs) at some =
      by_cases (one_or_none c)
      (λ e. omega (arith, at.0 e, counter_most k st.fair.counters ok.fair.of_counters))
      (λ z. steady_most {st = (step c st).station} (range_kept ok c) cs at.1 (omega (arith, z)))

  module _ {st : Station} (ok : StationOk st) (cs : List Call) (at : SteadyAt k rate st cs) where
    shown_after : shown_for k (after st cs) ≡ shown_of st.settings.fairness.lp (steady_of st.settings.fairness.lp rate (intervals cs) (stored_of k st.fair.smoothed))
    shown_after = rw (after_settings ok cs, steady_stored ok cs at) refl

    -- Where the counter stands at the rate at each of enough intervals the rate is shown: j × lpCoef of them, or more, where less than 2 ^ j was missing or too much,
    pub steady_shown : (j : ℕ) → gap_of (shown_for k st) rate < 2 ^ j → j * st.settings.fairness.lp ≤ intervals cs → shown_for k (after st cs) ≡ rate
    steady_shown j off many =
        let bounds = coef_bounds st.settings.fairness.lp ok.settings.of_fairness.lp_one_of in
        shown_after ∙ steady_arrives st.settings.fairness.lp (omega arith) rate j (intervals cs) (stored_of k st.fair.smoothed) off many

    -- and 31 × lpCoef of them always.
    pub steady_shown_always : 31 * st.settings.fairness.lp ≤ intervals cs → shown_for k (after st cs) ≡ rate
    steady_shown_always many =
        let bounds = coef_bounds st.settings.fairness.lp ok.settings.of_fairness.lp_one_of in
        let most = shown_most k st.settings.fairness.lp st.fair.smoothed ok.fair.of_smoothed in
        steady_shown 31 (omega (arith, most, steady_most ok cs at (omega arith))) many
