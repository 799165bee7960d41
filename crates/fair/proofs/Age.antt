-- The aging interval, row by row, and its range: each row follows from the definition by whether its test holds. Assumes nothing.
use Prim.Native.Nat.{ℕ, ◌+◌, ◌-◌, ◌*◌, ◌/◌, ◌^◌, ◌≤◌, ◌<◌, min}
use mathlib.Core.Bool.{Bool, true, false, cond}
use mathlib.Core.Logic.{◌↔◌}
use mathlib.Core.Path.{◌≡◌, refl, sym, ap, ◌∙◌}
use native.Mathlib.Omega.{arith}
use borrow.Author.Tests.{eq-eqb, ne_eqb}
use Rattle.decide.specs.Test.{test, Holds, passes, ◌≡?◌}
use Rattle.decide.proofs.Tests.{failing}
use Rattle.decide.proofs.Cases.{of_each}
use Rattle.rates.specs.Rates.{shown_of, ramped_of, allowance_of}
use Rattle.rates.proofs.Formulas.{smoothed_is, shown_is, aged_is, ramped_is, allowance_is, own_is}
use Rattle.rates.proofs.Bounds.{aged_within, ramped_within, allowance_within, own_within}
use Rattle.rates.proofs.Steady.{shown_range, shown_within}
use Rattle.settings.specs.declared.Fairness.{Fairness}
use Rattle.settings.specs.declared.Settings.{Settings}
use Rattle.settings.specs.Range.{SettingsOk}
use Rattle.fair.specs.Four.{Four, Stored}
use Rattle.fair.specs.declared.Fair.{Fair}
use Rattle.fair.specs.declared.Adjusted.{Adjusted}
use Rattle.fair.specs.Range.{FourOk, StoredOk, DecidedOk, FairOk}
use Rattle.fair.specs.Methods.{local_test, aggressive_of}
use Rattle.fair.specs.Age.{SumsFit, smooth_of, shown_four, lower_of, allowed_of, allowedc_of, new_decided, new_smoothed, adjusted_now, new_adjusted, age_of}
use Rattle.fair.proofs.Methods.{AdjustedOk, by_aggressive, aggressive_congested, aggressive_free, aggressive_since, adjusted_ok}

-- ---- the cases of each definition

-- Locally congested: secondary bytes > low threshold.
pub local_exactly : (s : Settings) (held : ℕ) → Holds (local_test s held) ↔ (s.queues.threshold < held)
local_exactly s held = (λ h. h, λ h. h)

module _ (old : ℕ) (g : Fairness) (a : Adjusted) where
  pub allowed_congested : a.congested ≡ 1 → allowed_of old g a ≡ min a.local g.unreserved
  unfolding allowed_of test
  allowed_congested e = rw (eq-eqb a.congested 1 e)

  pub allowed_ramped : (a.congested ≡ 1 → ⊥) → allowed_of old g a ≡ ramped_of old g.unreserved g.ramp
  unfolding allowed_of test
  allowed_ramped n = rw (ne_eqb a.congested 1 n)

module _ (f : Fair) (g : Fairness) where
  pub allowedc_congested : f.received.downstream ≡ 1 → allowedc_of f g ≡ allowance_of f.received.rate g.weight g.unit g.unreserved
  unfolding allowedc_of test
  allowedc_congested e = rw (eq-eqb f.received.downstream 1 e)

  pub allowedc_ramped : (f.received.downstream ≡ 1 → ⊥) → allowedc_of f g ≡ ramped_of f.decided.allowedc g.unreserved g.ramp
  unfolding allowedc_of test
  allowedc_ramped n = rw (ne_eqb f.received.downstream 1 n)

-- and the rate shown is floor(s / lpCoef), of each
pub shown_four_lem : (lpCoef : ℕ) (s : Stored) → shown_four lpCoef s ≡ record { add = s.add / lpCoef; fw = s.fw / lpCoef; addc = s.addc / lpCoef; fwc = s.fwc / lpCoef }
shown_four_lem n s = λ i. record { add = shown_is n s.add i; fw = shown_is n s.fw i; addc = shown_is n s.addc i; fwc = shown_is n s.fwc i }

-- ---- the interval, one law for each sentence: what both methods share

module _ (f : Fair) (s : Settings) (held : ℕ) where
  -- Each stored number s becomes s − floor(s / lpCoef) + rate, of the counters as they are before they age.
  pub interval_smooths :
      let n = s.fairness.lp in
      (age_of f s held).smoothed
      ≡ record {
        add = f.smoothed.add - f.smoothed.add / n + f.counters.add;
        fw = f.smoothed.fw - f.smoothed.fw / n + f.counters.fw;
        addc = f.smoothed.addc - f.smoothed.addc / n + f.counters.addc;
        fwc = f.smoothed.fwc - f.smoothed.fwc / n + f.counters.fwc;
      }
  interval_smooths = λ i. record {
    add = smoothed_is s.fairness.lp f.smoothed.add f.counters.add i;
    fw = smoothed_is s.fairness.lp f.smoothed.fw f.counters.fw i;
    addc = smoothed_is s.fairness.lp f.smoothed.addc f.counters.addc i;
    fwc = smoothed_is s.fairness.lp f.smoothed.fwc f.counters.fwc i;
  }

  -- Each counter becomes floor(rate × (ageCoef−1) / ageCoef).
  pub interval_ages :
      let n = s.fairness.age in
      (age_of f s held).counters
      ≡ record {
        add = f.counters.add * (n - 1) / n;
        fw = f.counters.fw * (n - 1) / n;
        addc = f.counters.addc * (n - 1) / n;
        fwc = f.counters.fwc * (n - 1) / n;
      }
  interval_ages = λ i. record {
    add = aged_is f.counters.add s.fairness.age i;
    fw = aged_is f.counters.fw s.fairness.age i;
    addc = aged_is f.counters.addc s.fairness.age i;
    fwc = aged_is f.counters.fwc s.fairness.age i;
  }

  -- Own rate is floor(localFairRate / (weight × unit)), at most 65,534.
  pub interval_own : (age_of f s held).decided.own ≡ min ((age_of f s held).decided.local / (s.fairness.weight * s.fairness.unit)) 65534
  interval_own = own_is (new_adjusted f s held).local s.fairness.weight s.fairness.unit

  -- what was received stays
  pub interval_keeps : (age_of f s held).received ≡ f.received
  interval_keeps = refl

  -- allowedRate: the smaller of localFairRate and unreservedRate if the station counts as locally congested,
  pub flag_allowed : (age_of f s held).decided.congested ≡ 1 → (age_of f s held).decided.allowed ≡ min (age_of f s held).decided.local s.fairness.unreserved
  flag_allowed e = allowed_congested f.decided.allowed s.fairness (new_adjusted f s held) e

  -- else allowedRate + floor((unreservedRate − allowedRate) / rampUp)
  pub flag_ramped : (age_of f s held).decided.congested ≡ 0 →
      (age_of f s held).decided.allowed ≡ f.decided.allowed + (s.fairness.unreserved - f.decided.allowed) / s.fairness.ramp
  flag_ramped z =
      allowed_ramped f.decided.allowed s.fairness (new_adjusted f s held) (λ e. omega (arith, z, e))
      ∙ ramped_is f.decided.allowed s.fairness.unreserved s.fairness.ramp

  -- allowedRateCongested: if downstream congested the smaller of unreservedRate and received × weight × unit
  pub downstream_allowed : f.received.downstream ≡ 1 →
      (age_of f s held).decided.allowedc ≡ min s.fairness.unreserved (f.received.rate * s.fairness.weight * s.fairness.unit)
  downstream_allowed e =
      allowedc_congested f s.fairness e ∙ allowance_is f.received.rate s.fairness.weight s.fairness.unit s.fairness.unreserved

  -- else ramped the same way
  pub free_allowed : (f.received.downstream ≡ 1 → ⊥) →
      (age_of f s held).decided.allowedc ≡ f.decided.allowedc + (s.fairness.unreserved - f.decided.allowedc) / s.fairness.ramp
  free_allowed n = allowedc_ramped f s.fairness n ∙ ramped_is f.decided.allowedc s.fairness.unreserved s.fairness.ramp

-- ---- with the aggressive method, document 01 holds unaltered

-- the count that comes with local congestion and localFairRate does not enter what is decided from them
module _ (f : Fair) (g : Fairness) (m n : ℕ) where
  uncounted : (congested local : ℕ)
      → new_decided f g (record { congested = congested; local = local; since = m }) ≡ new_decided f g (record { congested = congested; local = local; since = n })
  unfolding allowed_of
  uncounted congested local = refl

  either_uncounted : (shown : ℕ) (b : Bool)
      → new_decided f g (cond b (record { congested = 1; local = shown; since = m }) (record { congested = 0; local = g.unreserved; since = m }))
      ≡ new_decided f g (cond b (record { congested = 1; local = shown; since = n }) (record { congested = 0; local = g.unreserved; since = n }))
  either_uncounted shown true = uncounted 1 shown
  either_uncounted shown false = uncounted 0 g.unreserved

module _ (f : Fair) (s : Settings) (held : ℕ) (chosen : s.site.method ≡ 0) where
  -- The whole interval as document 01 has it, to the test and its two localFairRates; the count of the other method stays.
  pub aggressive_unaltered :
      let g = s.fairness in
      let lp = new_smoothed f s in
      let a : Adjusted =
      cond (test (local_test s held))
      (record { congested = 1; local = shown_of g.lp lp.add; since = f.since })
      (record { congested = 0; local = g.unreserved; since = f.since })
      in
      age_of f s held ≡ record { counters = lower_of f.counters g.age; smoothed = lp; decided = new_decided f g a; since = f.since; received = f.received }
  unfolding aggressive_of
  aggressive_unaltered =
      let now = adjusted_now f in
      let lp = new_smoothed f s in
      let by = by_aggressive s now lp held chosen in
      λ i. record {
        counters = lower_of f.counters s.fairness.age;
        smoothed = lp;
        decided = new_decided f s.fairness (by i);
        since = (ap (λ (a : Adjusted). a.since) by ∙ aggressive_since s now lp held) i;
        received = f.received;
      }

  -- Locally congested: secondary bytes > low threshold.
  module _ (full : s.queues.threshold < held) where
    at : new_adjusted f s held ≡ record { congested = 1; local = shown_of s.fairness.lp (new_smoothed f s).add; since = f.since }
    at = by_aggressive s (adjusted_now f) (new_smoothed f s) held chosen
        ∙ aggressive_congested s (adjusted_now f) (new_smoothed f s) held (passes (local_test s held) ((local_exactly s held).1 full))

    pub full_congested : (age_of f s held).decided.congested ≡ 1
    full_congested = ap (λ (a : Adjusted). a.congested) at

    -- localFairRate: lpAddRate, as it is shown, if locally congested
    pub full_local : (age_of f s held).decided.local ≡ (age_of f s held).smoothed.add / s.fairness.lp
    full_local = ap (λ (a : Adjusted). a.local) at ∙ shown_is s.fairness.lp (new_smoothed f s).add

    -- allowedRate: the smaller of localFairRate and unreservedRate if locally congested
    pub full_allowed : (age_of f s held).decided.allowed ≡ min (age_of f s held).decided.local s.fairness.unreserved
    full_allowed = flag_allowed f s held full_congested

  module _ (room : held ≤ s.queues.threshold) where
    at_room : new_adjusted f s held ≡ record { congested = 0; local = s.fairness.unreserved; since = f.since }
    at_room = by_aggressive s (adjusted_now f) (new_smoothed f s) held chosen
        ∙ aggressive_free s (adjusted_now f) (new_smoothed f s) held (failing (local_test s held) (λ h. let k = (local_exactly s held).0 h in omega arith))

    pub room_free : (age_of f s held).decided.congested ≡ 0
    room_free = ap (λ (a : Adjusted). a.congested) at_room

    -- else unreservedRate
    pub room_local : (age_of f s held).decided.local ≡ s.fairness.unreserved
    room_local = ap (λ (a : Adjusted). a.local) at_room

    -- else allowedRate + floor((unreservedRate − allowedRate) / rampUp)
    pub room_allowed : (age_of f s held).decided.allowed ≡ f.decided.allowed + (s.fairness.unreserved - f.decided.allowed) / s.fairness.ramp
    room_allowed = flag_ramped f s held room_free

-- the state with another number of intervals since a change
abbrev pub with_since : ℕ → Fair → Fair
with_since n f = record { counters = f.counters; smoothed = f.smoothed; decided = f.decided; since = n; received = f.received }

-- Nothing else depends on that count: any other one stays in its place.
pub aggressive_unread : (f : Fair) (s : Settings) (held : ℕ) → s.site.method ≡ 0 → (n : ℕ) → age_of (with_since n f) s held ≡ with_since n (age_of f s held)
unfolding allowedc_of
aggressive_unread f s held chosen n =
    let g = s.fairness in
    let lp = new_smoothed f s in
    let whole = aggressive_unaltered f s held chosen in
    let other = aggressive_unaltered (with_since n f) s held chosen in
    λ i. record {
      counters = lower_of f.counters g.age;
      smoothed = lp;
      decided =
          (ap (λ (x : Fair). x.decided) other
          ∙ either_uncounted f g n f.since (shown_of g.lp lp.add) (test (local_test s held))
          ∙ sym (ap (λ (x : Fair). x.decided) whole)) i;
      since = ap (λ (x : Fair). x.since) other i;
      received = f.received;
    }

-- ---- its range

allowed_within : (old : ℕ) (g : Fairness) (a : Adjusted) → old ≤ g.unreserved → allowed_of old g a ≤ g.unreserved
unfolding allowed_of
allowed_within old g a h =
    of_each (λ (n : ℕ). n ≤ g.unreserved) (test (a.congested ≡? 1)) _ _
    (λ e. omega arith)
    (λ e. ramped_within old g.unreserved g.ramp h)

allowedc_within : (f : Fair) (g : Fairness) → f.decided.allowedc ≤ g.unreserved → allowedc_of f g ≤ g.unreserved
unfolding allowedc_of
allowedc_within f g h =
    of_each (λ (n : ℕ). n ≤ g.unreserved) (test (f.received.downstream ≡? 1)) _ _
    (λ e. allowance_within f.received.rate g.weight g.unit g.unreserved)
    (λ e. ramped_within f.decided.allowedc g.unreserved g.ramp h)

-- the rates shown stay in their range, since each is at most the larger of the rate shown before and of the counter
pub smooth_in_range : (lpCoef : ℕ) (s : Stored) (rate : Four) → StoredOk lpCoef s → FourOk rate → StoredOk lpCoef (smooth_of s lpCoef rate)
smooth_in_range c s rate ok counted =
    record {
      add_most = omega (arith, shown_within c s.add rate.add, ok.add_most, counted.add_most);
      fw_most = omega (arith, shown_within c s.fw rate.fw, ok.fw_most, counted.fw_most);
      addc_most = omega (arith, shown_within c s.addc rate.addc, ok.addc_most, counted.addc_most);
      fwc_most = omega (arith, shown_within c s.fwc rate.fwc, ok.fwc_most, counted.fwc_most);
    }

-- a stored number in range has 40 bits,
pub stored_below : (lpCoef s : ℕ) → 0 < lpCoef → lpCoef ≤ 512 → shown_of lpCoef s ≤ 2147483647 → s < 2 ^ 40
stored_below c s p most ok = omega (arith, (shown_range c s p).0 ok)

-- so no sum passes 64 bits
pub sums_fit : (lpCoef : ℕ) (s : Stored) (rate : Four) → 0 < lpCoef → lpCoef ≤ 512 → StoredOk lpCoef s → FourOk rate → SumsFit s rate
sums_fit c s rate p most ok counted =
    let below : (x : ℕ) → shown_of c x ≤ 2147483647 → x < 2 ^ 40 = λ x. stored_below c x p most in (
      omega (arith, below s.add ok.add_most, counted.add_most),
      omega (arith, below s.fw ok.fw_most, counted.fw_most),
      omega (arith, below s.addc ok.addc_most, counted.addc_most),
      omega (arith, below s.fwc ok.fwc_most, counted.fwc_most),
    )

-- The allowed rates and own rate are in range by any local congestion and localFairRate that are: one law for both methods.
decided_in_range : (f : Fair) (s : Settings) (a : Adjusted) → DecidedOk s f.decided → AdjustedOk s a → DecidedOk s (new_decided f s.fairness a)
decided_in_range f s a ok adjusted =
    let g = s.fairness in
    record {
      own_most = own_within a.local g.weight g.unit;
      local_most = adjusted.local_most;
      allowed_most = allowed_within f.decided.allowed g a ok.allowed_most;
      allowedc_most = allowedc_within f g ok.allowedc_most;
      congested_most = adjusted.congested_most;
      local_within = adjusted.local_within;
    }

-- those of a state in range are
now_ok : (f : Fair) (s : Settings) → FairOk s f → AdjustedOk s (adjusted_now f)
now_ok f s ok =
    let d = ok.of_decided in
    record { congested_most = d.congested_most; local_most = d.local_most; local_within = d.local_within; since_below = ok.since_below }

-- an interval leaves a state in range
pub age_in_range : (f : Fair) (s : Settings) (held : ℕ) → SettingsOk s → FairOk s f → FairOk s (age_of f s held)
age_in_range f s held settings ok =
    let g = s.fairness in
    let smoothed = smooth_in_range g.lp f.smoothed f.counters ok.of_smoothed ok.of_counters in
    let adjusted = adjusted_ok s settings (adjusted_now f) (now_ok f s ok) (new_smoothed f s) held smoothed.add_most in
    record {
      of_counters =
          record {
            add_most = omega (arith, aged_within f.counters.add g.age);
            fw_most = omega (arith, aged_within f.counters.fw g.age);
            addc_most = omega (arith, aged_within f.counters.addc g.age);
            fwc_most = omega (arith, aged_within f.counters.fwc g.age);
          };
      of_smoothed = smoothed;
      of_decided = decided_in_range f s (new_adjusted f s held) ok.of_decided adjusted;
      since_below = adjusted.since_below;
      of_received = ok.of_received;
    }
