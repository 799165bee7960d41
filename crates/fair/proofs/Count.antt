-- Counting, row by row, and the test of refusal 7: each follows from the definition by whether its tests hold. Assumes nothing.
use Prim.Native.Nat.{ℕ, ◌+◌, ◌-◌, ◌≤◌, ◌<◌}
use mathlib.Core.Bool.{Bool, true, false}
use mathlib.Core.Path.{◌≡◌, refl, sym}
use Rattle.decide.specs.Test.{test, facts, passes, decided}
use Rattle.decide.proofs.Cases.{of_each}
use Rattle.rates.specs.Rates.{counted_of}
use Rattle.rates.proofs.Bounds.{counted_within}
use Rattle.settings.specs.declared.Settings.{Settings}
use Rattle.fair.specs.declared.Fair.{Fair}
use Rattle.fair.specs.Range.{FairOk}
use Rattle.fair.specs.Count.{hops_to_congestion, beyond, over, from_stage, from_secondary, raised_of, with_counters, count_of}

-- a counter stays in its range, whether it counts the frame or not
raised_within : (counts : Bool) (counter size : ℕ) → counter ≤ 2147483647 → raised_of counts counter size ≤ 2147483647
unfolding raised_of
raised_within counts counter size h =
    of_each (λ (n : ℕ). n ≤ 2147483647) counts (counted_of counter size) counter (λ e. counted_within counter size) (λ e. h)

module _ (f : Fair) where
  -- downstream congested and hops > hopsToCongestion, which is 256 − ttl
  pub beyond_exactly : (hops : ℕ) →
      (test (beyond f hops) ≡ true → (f.received.downstream ≡ 1) × (256 - f.received.ttl < hops))
      × ((f.received.downstream ≡ 1) × (256 - f.received.ttl < hops) → test (beyond f hops) ≡ true)
  beyond_exactly hops = (facts (beyond f hops), passes (beyond f hops))

  -- 7 exactly if downstream congested, hops > hopsToCongestion and addRateCongested + size > allowedRateCongested
  pub over_exactly : (size hops : ℕ) →
      (test (over f size hops) ≡ true → ((f.received.downstream ≡ 1) × (hops_to_congestion f < hops)) × (f.decided.allowedc < f.counters.addc + size))
      × (((f.received.downstream ≡ 1) × (hops_to_congestion f < hops)) × (f.decided.allowedc < f.counters.addc + size) → test (over f size hops) ≡ true)
  over_exactly size hops = (facts (over f size hops), passes (over f size hops))

  module _ (s : Settings) (hops size : ℕ) where
    -- An eligible stage frame adds its size to addRate, also to the Congested twin if downstream congested and hops > hopsToCongestion;
    pub stage_beyond : test (beyond f hops) ≡ true →
        count_of s f 4 1 hops size
        ≡ with_counters (record { add = counted_of f.counters.add size; fw = f.counters.fw; addc = counted_of f.counters.addc size; fwc = f.counters.fwc }) f
    unfolding test raised_of
    stage_beyond e = rw e

    pub stage_within : test (beyond f hops) ≡ false →
        count_of s f 4 1 hops size
        ≡ with_counters (record { add = counted_of f.counters.add size; fw = f.counters.fw; addc = f.counters.addc; fwc = f.counters.fwc }) f
    unfolding test raised_of
    stage_within e = rw e

    -- a secondary one to fwRate, and to its twin likewise.
    pub secondary_beyond : test (beyond f hops) ≡ true →
        count_of s f 3 1 hops size
        ≡ with_counters (record { add = f.counters.add; fw = counted_of f.counters.fw size; addc = f.counters.addc; fwc = counted_of f.counters.fwc size }) f
    unfolding test raised_of
    secondary_beyond e = rw e

    pub secondary_within : test (beyond f hops) ≡ false →
        count_of s f 3 1 hops size
        ≡ with_counters (record { add = f.counters.add; fw = counted_of f.counters.fw size; addc = f.counters.addc; fwc = f.counters.fwc }) f
    unfolding test raised_of
    secondary_within e = rw e

    -- a frame that is neither is not counted:
    pub not_counted : (origin mark : ℕ) → test (from_stage origin mark) ≡ false → test (from_secondary origin mark) ≡ false →
        count_of s f origin mark hops size ≡ f
    unfolding test raised_of
    not_counted origin mark a b = rw (a, b)

    -- one that is not eligible,
    pub unmarked : (origin mark : ℕ) → (mark ≡ 1 → ⊥) → count_of s f origin mark hops size ≡ f
    unmarked origin mark n =
        not_counted origin mark
        (sym (decided (from_stage origin mark) false (λ h. n h.1)))
        (sym (decided (from_secondary origin mark) false (λ h. n h.1)))

    -- and one from another place.
    pub other_origin : (origin mark : ℕ) → (origin ≡ 4 → ⊥) → (origin ≡ 3 → ⊥) → count_of s f origin mark hops size ≡ f
    other_origin origin mark n m =
        not_counted origin mark
        (sym (decided (from_stage origin mark) false (λ h. n h.0)))
        (sym (decided (from_secondary origin mark) false (λ h. m h.0)))

  -- Local congestion and own rate hold till the next interval: nothing but the counters changes.
  pub count_holds : (s : Settings) (origin mark hops size : ℕ) → with_counters f.counters (count_of s f origin mark hops size) ≡ f
  count_holds s origin mark hops size = refl

  -- a counted state is in range
  pub count_in_range : (s : Settings) (origin mark hops size : ℕ) → FairOk s f → FairOk s (count_of s f origin mark hops size)
  count_in_range s origin mark hops size ok =
      record {
        of_counters =
            record {
              add_most = raised_within _ _ size ok.of_counters.add_most;
              fw_most = raised_within _ _ size ok.of_counters.fw_most;
              addc_most = raised_within _ _ size ok.of_counters.addc_most;
              fwc_most = raised_within _ _ size ok.of_counters.fwc_most;
            };
        of_smoothed = ok.of_smoothed;
        of_decided = ok.of_decided;
        since_below = ok.since_below;
        of_received = ok.of_received;
      }
