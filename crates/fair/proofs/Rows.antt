-- An interval of the conservative method, one law a row; how far apart its changes are, and what of them can be seen. Assumes nothing.
use Prim.Native.Nat.{ℕ, ◌+◌, ◌-◌, ◌/◌, ◌≤◌, ◌<◌, min}
use mathlib.Core.Bool.{true, false}
use mathlib.Core.Logic.{◌⊎◌, inl, inr}
use mathlib.Core.Path.{◌≡◌, sym, ap, ◌∙◌}
use native.Mathlib.Omega.{arith}
use Rattle.decide.specs.Test.{test, passes}
use Rattle.decide.proofs.Tests.{failing}
use Rattle.decide.proofs.Cases.{by_cases, le_or}
use Rattle.rates.proofs.Formulas.{shown_is, ramped_is, reduced_is}
use Rattle.settings.specs.declared.Settings.{Settings}
use Rattle.fair.specs.declared.Fair.{Fair}
use Rattle.fair.specs.declared.Adjusted.{Adjusted}
use Rattle.fair.specs.Methods.{local_test, passed, near, changed_to, row_gives, conservative_of, enters, rests, lowers, leaves, raises, waits, Changes, Steps}
use Rattle.fair.specs.Age.{new_smoothed, adjusted_now, row_for, new_adjusted, age_of}
use Rattle.fair.proofs.Methods.{by_conservative, gives, takes_entry, takes_rest, takes_lower, takes_waiting_full, takes_leaving, takes_raise, takes_waiting_room}
use Rattle.fair.proofs.Methods.{since_next, change_counts, step_due, altered_changes, altered_steps, free_stays}

module _ (f : Fair) (s : Settings) (held : ℕ) (chosen : s.site.method ≡ 1) where
  by : new_adjusted f s held ≡ conservative_of s (adjusted_now f) (new_smoothed f s) held
  by = by_conservative s (adjusted_now f) (new_smoothed f s) held (λ e. omega (arith, chosen, e))

  -- document 01's test, now
  full : s.queues.threshold < held → test (local_test s held) ≡ true
  full h = passes (local_test s held) h

  room : held ≤ s.queues.threshold → test (local_test s held) ≡ false
  room h = failing (local_test s held) (λ k. omega (arith, h, k))

  -- a round trip since the last change, and not yet
  due : s.site.trip ≤ f.since + 1 → test (passed s (adjusted_now f)) ≡ true
  due h = passes (passed s (adjusted_now f)) h

  early : f.since + 1 < s.site.trip → test (passed s (adjusted_now f)) ≡ false
  early h = failing (passed s (adjusted_now f)) (λ k. omega (arith, h, k))

  far : s.fairness.ramp ≤ s.fairness.unreserved - f.decided.local → test (near s (adjusted_now f)) ≡ false
  far h = failing (near s (adjusted_now f)) (λ k. omega (arith, h, k))

  module _ (free : f.decided.congested ≡ 0) where
    -- enter congestion at lpAddRate, cut to unreservedRate; entry counts as a change
    pub row_enters : s.queues.threshold < held
        → (row_for f s held ≡ enters)
        × (adjusted_now (age_of f s held) ≡ record { congested = 1; local = min ((age_of f s held).smoothed.add / s.fairness.lp) s.fairness.unreserved; since = 0 })
    unfolding row_gives
    row_enters h =
        let row = takes_entry s (adjusted_now f) held free (full h) in (
          row,
          by
              ∙ gives s (adjusted_now f) held (new_smoothed f s) row
              ∙ ap (λ (n : ℕ). changed_to (min n s.fairness.unreserved)) (shown_is s.fairness.lp (new_smoothed f s).add),
        )

    -- not congested, and not now: nothing changes
    pub row_rests : held ≤ s.queues.threshold → (row_for f s held ≡ rests) × (adjusted_now (age_of f s held) ≡ adjusted_now f)
    unfolding row_gives
    row_rests h =
        let row = takes_rest s (adjusted_now f) held free (room h) in
        (row, by ∙ gives s (adjusted_now f) held (new_smoothed f s) row)

  module _ (congested : f.decided.congested ≡ 1) where
    not_free : f.decided.congested ≡ 0 → ⊥
    not_free z = omega (arith, congested, z)

    -- while congested and a round trip has passed since the last change, reduce localFairRate by its rampDn-th part, rounded down; a step of 0 is a change
    pub row_lowers : s.queues.threshold < held → s.site.trip ≤ f.since + 1
        → (row_for f s held ≡ lowers)
        × (adjusted_now (age_of f s held) ≡ record { congested = 1; local = f.decided.local - f.decided.local / s.site.down; since = 0 })
    unfolding row_gives
    row_lowers h t =
        let row = takes_lower s (adjusted_now f) held not_free (full h) (due t) in
        (row, by ∙ gives s (adjusted_now f) held (new_smoothed f s) row ∙ ap changed_to (reduced_is f.decided.local s.site.down))

    -- once the test is false leave congestion, at unreservedRate, if the distance to it is less than rampUp, without waiting
    pub row_leaves : held ≤ s.queues.threshold → s.fairness.unreserved - f.decided.local < s.fairness.ramp
        → (row_for f s held ≡ leaves) × (adjusted_now (age_of f s held) ≡ record { congested = 0; local = s.fairness.unreserved; since = 0 })
    unfolding row_gives
    row_leaves h d =
        let row = takes_leaving s (adjusted_now f) held not_free (room h) (passes (near s (adjusted_now f)) d) in
        (row, by ∙ gives s (adjusted_now f) held (new_smoothed f s) row)

    -- else after the same time raise it by the rampUp-th part of that distance, rounded down
    pub row_raises : held ≤ s.queues.threshold → s.fairness.ramp ≤ s.fairness.unreserved - f.decided.local → s.site.trip ≤ f.since + 1
        → (row_for f s held ≡ raises)
        × (adjusted_now (age_of f s held)
        ≡ record { congested = 1; local = f.decided.local + (s.fairness.unreserved - f.decided.local) / s.fairness.ramp; since = 0 })
    unfolding row_gives
    row_raises h d t =
        let row = takes_raise s (adjusted_now f) held not_free (room h) (far d) (due t) in
        (row, by ∙ gives s (adjusted_now f) held (new_smoothed f s) row ∙ ap changed_to (ramped_is f.decided.local s.fairness.unreserved s.fairness.ramp))

    -- until then it stays, and the station counts as locally congested
    pub row_waits : (s.queues.threshold < held) ⊎ (s.fairness.ramp ≤ s.fairness.unreserved - f.decided.local) → f.since + 1 < s.site.trip
        → (row_for f s held ≡ waits) × (adjusted_now (age_of f s held) ≡ record { congested = 1; local = f.decided.local; since = f.since + 1 })
    unfolding row_gives
    row_waits either t =
        let row : row_for f s held ≡ waits =
        by_cases (le_or held s.queues.threshold)
        (λ r. takes_waiting_room s (adjusted_now f) held not_free (room r) (far (by_cases either (λ h. absurd (omega (arith, h, r))) (λ d. d))) (early t))
        (λ h. takes_waiting_full s (adjusted_now f) held not_free (full h) (early t))
        in
        (row, by ∙ gives s (adjusted_now f) held (new_smoothed f s) row)

  -- ---- its changes

  -- a change begins the count of intervals anew
  pub change_anew : Changes (row_for f s held) → (age_of f s held).since ≡ 0
  change_anew h = ap (λ (a : Adjusted). a.since) by ∙ change_counts s (adjusted_now f) (new_smoothed f s) held (row_for f s held) h

  -- What is altered by an interval is a change of its row,
  pub seen_changes : f.decided.congested ≤ 1
      → (f.decided.congested ≡ (age_of f s held).decided.congested → ⊥) ⊎ (f.decided.local ≡ (age_of f s held).decided.local → ⊥) → Changes (row_for f s held)
  seen_changes flag h =
      altered_changes s (adjusted_now f) (new_smoothed f s) held flag
      (by_cases h
      (λ n. inl (λ e. n (e ∙ sym (ap (λ (a : Adjusted). a.congested) by))))
      (λ n. inr (λ e. n (e ∙ sym (ap (λ (a : Adjusted). a.local) by)))))

  -- and a step where the station counts as locally congested before and after it.
  pub seen_steps : f.decided.congested ≡ 1 → (age_of f s held).decided.congested ≡ 1 → (f.decided.local ≡ (age_of f s held).decided.local → ⊥)
      → Steps (row_for f s held)
  seen_steps before behind n =
      altered_steps s (adjusted_now f) (new_smoothed f s) held before
      (sym (ap (λ (a : Adjusted). a.congested) by) ∙ behind)
      (λ e. n (e ∙ sym (ap (λ (a : Adjusted). a.local) by)))

-- ---- by either method

module _ (f : Fair) (s : Settings) (held : ℕ) where
  -- an interval counts itself at most
  pub interval_since : (age_of f s held).since ≤ f.since + 1
  interval_since = since_next s (adjusted_now f) (new_smoothed f s) held

  -- a step waits for a round trip
  pub interval_due : Steps (row_for f s held) → s.site.trip ≤ f.since + 1
  interval_due = step_due s (adjusted_now f) (new_smoothed f s) held

  -- where not congested meant a localFairRate of unreservedRate it still does
  pub interval_free : (f.decided.congested ≡ 0 → f.decided.local ≡ s.fairness.unreserved)
      → (age_of f s held).decided.congested ≡ 0 → (age_of f s held).decided.local ≡ s.fairness.unreserved
  interval_free = free_stays s (adjusted_now f) (new_smoothed f s) held
