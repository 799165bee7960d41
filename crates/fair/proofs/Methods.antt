-- The two methods, case by case, and what they keep in range. Assumes nothing.
use Prim.Native.Nat.{ℕ, ◌+◌, ◌≤◌, ◌<◌}
use mathlib.Core.Bool.{true, false, cond}
use mathlib.Core.Logic.{◌⊎◌, inl, inr}
use mathlib.Core.Path.{◌≡◌, refl, sym, ap, subst}
use native.Mathlib.Omega.{arith}
use Rattle.decide.specs.Test.{test, facts, passes, split, ◌≡?◌}
use Rattle.decide.proofs.Tests.{fails, failing}
use Rattle.decide.proofs.Cases.{by_cases, of_each}
use Rattle.rates.specs.Rates.{shown_of, ramped_of, reduced_of}
use Rattle.rates.proofs.Bounds.{ramped_within, reduced_within}
use Rattle.settings.specs.declared.Settings.{Settings}
use Rattle.settings.specs.Range.{SettingsOk, aggressive}
use Rattle.fair.specs.Four.{Stored}
use Rattle.fair.specs.declared.Adjusted.{Adjusted}
use Rattle.fair.specs.Methods.{local_test, aggressive_of, passed, near, entry_rate, changed_to, unchanged, conservative_of, adjust_of}
use Rattle.fair.specs.Methods.{Row, enters, rests, lowers, leaves, raises, waits, row_of, row_gives, Changes, Steps}

module _ (s : Settings) (old : Adjusted) (lp : Stored) (held : ℕ) where
  -- ---- the method that is chosen

  pub by_aggressive : s.site.method ≡ 0 → adjust_of s old lp held ≡ aggressive_of s old lp held
  unfolding adjust_of
  by_aggressive e = rw (passes (aggressive s.site) e)

  pub by_conservative : (s.site.method ≡ 0 → ⊥) → adjust_of s old lp held ≡ conservative_of s old lp held
  unfolding adjust_of
  by_conservative n = rw (failing (aggressive s.site) n)

  -- ---- the aggressive one

  pub aggressive_congested : test (local_test s held) ≡ true
      → aggressive_of s old lp held ≡ record { congested = 1; local = shown_of s.fairness.lp lp.add; since = old.since }
  unfolding aggressive_of
  aggressive_congested e = rw e

  pub aggressive_free : test (local_test s held) ≡ false → aggressive_of s old lp held ≡ record { congested = 0; local = s.fairness.unreserved; since = old.since }
  unfolding aggressive_of
  aggressive_free e = rw e

  -- the count of the other method stays
  pub aggressive_since : (aggressive_of s old lp held).since ≡ old.since
  unfolding aggressive_of
  aggressive_since = of_each (λ (a : Adjusted). a.since ≡ old.since) (test (local_test s held)) _ _ (λ e. refl) (λ e. refl)

-- ---- the conservative one, row by row

module _ (s : Settings) (old : Adjusted) (held : ℕ) where
  module _ (free : old.congested ≡ 0) where
    pub takes_entry : test (local_test s held) ≡ true → row_of s old held ≡ enters
    unfolding row_of
    takes_entry full = rw (passes (old.congested ≡? 0) free, full)

    pub takes_rest : test (local_test s held) ≡ false → row_of s old held ≡ rests
    unfolding row_of
    takes_rest room = rw (passes (old.congested ≡? 0) free, room)

  module _ (congested : old.congested ≡ 0 → ⊥) where
    pub takes_lower : test (local_test s held) ≡ true → test (passed s old) ≡ true → row_of s old held ≡ lowers
    unfolding row_of
    takes_lower full due = rw (failing (old.congested ≡? 0) congested, full, due)

    pub takes_waiting_full : test (local_test s held) ≡ true → test (passed s old) ≡ false → row_of s old held ≡ waits
    unfolding row_of
    takes_waiting_full full early = rw (failing (old.congested ≡? 0) congested, full, early)

    module _ (room : test (local_test s held) ≡ false) where
      pub takes_leaving : test (near s old) ≡ true → row_of s old held ≡ leaves
      unfolding row_of
      takes_leaving close = rw (failing (old.congested ≡? 0) congested, room, close)

      pub takes_raise : test (near s old) ≡ false → test (passed s old) ≡ true → row_of s old held ≡ raises
      unfolding row_of
      takes_raise far due = rw (failing (old.congested ≡? 0) congested, room, far, due)

      pub takes_waiting_room : test (near s old) ≡ false → test (passed s old) ≡ false → row_of s old held ≡ waits
      unfolding row_of
      takes_waiting_room far early = rw (failing (old.congested ≡? 0) congested, room, far, early)

  module _ (lp : Stored) where
    -- an interval gives what its row gives
    pub gives : {r : Row} → row_of s old held ≡ r → conservative_of s old lp held ≡ row_gives r s old lp
    gives e = ap (λ (r : Row). row_gives r s old lp) e

    -- a step where a round trip has passed, and waiting where it has not: down while the test holds,
    module _ (congested : old.congested ≡ 0 → ⊥) where
      pub gives_full : test (local_test s held) ≡ true → cond (test (passed s old)) (changed_to (reduced_of old.local s.site.down)) (unchanged old) ≡ conservative_of s old lp held
      unfolding row_gives
      gives_full full =
          of_each (λ (a : Adjusted). a ≡ conservative_of s old lp held) (test (passed s old)) _ _
          (λ e. sym (gives (takes_lower congested full e)))
          (λ e. sym (gives (takes_waiting_full congested full e)))

      -- and up once it is false and unreservedRate is far
      pub gives_room : test (local_test s held) ≡ false → test (near s old) ≡ false
          → cond (test (passed s old)) (changed_to (ramped_of old.local s.fairness.unreserved s.fairness.ramp)) (unchanged old) ≡ conservative_of s old lp held
      unfolding row_gives
      gives_room room far =
          of_each (λ (a : Adjusted). a ≡ conservative_of s old lp held) (test (passed s old)) _ _
          (λ e. sym (gives (takes_raise congested room far e)))
          (λ e. sym (gives (takes_waiting_room congested room far e)))

-- What holds of each row where it is taken holds of the row that is.
module _ (s : Settings) (old : Adjusted) (held : ℕ) (P : Row → Type 0) where
  pub of_row :
      (old.congested ≡ 0 → P enters)
      → (old.congested ≡ 0 → P rests)
      → ((old.congested ≡ 0 → ⊥) → s.site.trip ≤ old.since + 1 → P lowers)
      → ((old.congested ≡ 0 → ⊥) → P leaves)
      → ((old.congested ≡ 0 → ⊥) → s.site.trip ≤ old.since + 1 → P raises)
      → ((old.congested ≡ 0 → ⊥) → old.since + 1 < s.site.trip → P waits)
      → P (row_of s old held)
  unfolding row_of
  of_row entry rest lower leaving raise waiting =
      of_each P (test (old.congested ≡? 0)) _ _
      (λ e. let free = facts (old.congested ≡? 0) e in of_each P (test (local_test s held)) _ _ (λ full. entry free) (λ room. rest free))
      (λ e.
      let congested = fails (old.congested ≡? 0) e in
      let due : test (passed s old) ≡ true → s.site.trip ≤ old.since + 1 = facts (passed s old) in
      let early : test (passed s old) ≡ false → old.since + 1 < s.site.trip = λ z. omega (arith, fails (passed s old) z) in
      of_each P (test (local_test s held)) _ _
      (λ full. of_each P (test (passed s old)) _ _ (λ z. lower congested (due z)) (λ z. waiting congested (early z)))
      (λ room.
      of_each P (test (near s old)) _ _
      (λ close. leaving congested)
      (λ far. of_each P (test (passed s old)) _ _ (λ z. raise congested (due z)) (λ z. waiting congested (early z)))))

-- ---- the range

-- local congestion, localFairRate and the intervals since its change are in their ranges
pub record AdjustedOk (s : Settings) (a : Adjusted) : Type 0 where
  pub congested_most : a.congested ≤ 1
  pub local_most : a.local ≤ 2147483647
  pub local_within : (s.site.method ≡ 0) ⊎ (a.local ≤ s.fairness.unreserved)
  pub since_below : a.since < s.site.trip

module _ (s : Settings) (settings : SettingsOk s) where
  -- a localFairRate of at most unreservedRate, which changed now
  changed_ok : (congested local : ℕ) → congested ≤ 1 → local ≤ s.fairness.unreserved → AdjustedOk s (record { congested = congested; local = local; since = 0 })
  changed_ok congested local c h =
      record {
        congested_most = c;
        local_most = omega (arith, settings.of_fairness.unreserved_most, h);
        local_within = inr h;
        since_below = omega (arith, settings.of_site.trip_least);
      }

  module _ (old : Adjusted) (ok : AdjustedOk s old) (lp : Stored) (held : ℕ) where
    aggressive_ok : shown_of s.fairness.lp lp.add ≤ 2147483647 → s.site.method ≡ 0 → AdjustedOk s (aggressive_of s old lp held)
    unfolding aggressive_of
    aggressive_ok h e =
        of_each (AdjustedOk s) (test (local_test s held)) _ _
        (λ z. record { congested_most = omega arith; local_most = h; local_within = inl e; since_below = ok.since_below })
        (λ z. record { congested_most = omega arith; local_most = settings.of_fairness.unreserved_most; local_within = inl e; since_below = ok.since_below })

    conservative_ok : old.local ≤ s.fairness.unreserved → AdjustedOk s (conservative_of s old lp held)
    unfolding row_gives
    conservative_ok within =
        of_row s old held (λ (r : Row). AdjustedOk s (row_gives r s old lp))
        (λ free. changed_ok 1 (entry_rate s lp) (omega arith) (omega arith))
        (λ free. ok)
        (λ congested due. changed_ok 1 (reduced_of old.local s.site.down) (omega arith) (omega (arith, reduced_within old.local s.site.down, within)))
        (λ congested. changed_ok 0 s.fairness.unreserved (omega arith) (omega arith))
        (λ congested due.
        changed_ok 1 (ramped_of old.local s.fairness.unreserved s.fairness.ramp) (omega arith)
        (ramped_within old.local s.fairness.unreserved s.fairness.ramp within))
        (λ congested early. record { congested_most = omega arith; local_most = ok.local_most; local_within = ok.local_within; since_below = early })

    -- either method leaves them so
    pub adjusted_ok : shown_of s.fairness.lp lp.add ≤ 2147483647 → AdjustedOk s (adjust_of s old lp held)
    adjusted_ok h =
        by_cases (split (s.site.method ≡? 0))
        (λ e. subst (AdjustedOk s) (sym (by_aggressive s old lp held e)) (aggressive_ok h e))
        (λ n. subst (AdjustedOk s) (sym (by_conservative s old lp held n)) (conservative_ok (by_cases ok.local_within (λ e. absurd (n e)) (λ w. w))))

module _ (s : Settings) (old : Adjusted) (lp : Stored) (held : ℕ) where
  -- ---- two changes are a round trip apart, but for leaving and entering

  -- an interval counts itself at most, by either method
  pub since_next : (adjust_of s old lp held).since ≤ old.since + 1
  unfolding adjust_of aggressive_of row_gives
  since_next =
      let Next : Adjusted → Type 0 = λ a. a.since ≤ old.since + 1 in
      of_each Next (test (aggressive s.site)) _ _
      (λ e. of_each Next (test (local_test s held)) _ _ (λ z. omega arith) (λ z. omega arith))
      (λ n. row_next (row_of s old held))
    where
      row_next : (r : Row) → (row_gives r s old lp).since ≤ old.since + 1
      row_next enters = omega arith
      row_next rests = omega arith
      row_next lowers = omega arith
      row_next leaves = omega arith
      row_next raises = omega arith
      row_next waits = omega arith

  -- a change begins the count anew,
  pub change_counts : (r : Row) → Changes r → (row_gives r s old lp).since ≡ 0
  unfolding row_gives
  change_counts enters h = refl
  change_counts rests h = elim h [ ]
  change_counts lowers h = refl
  change_counts leaves h = refl
  change_counts raises h = refl
  change_counts waits h = elim h [ ]

  -- and a step waits for a round trip
  pub step_due : Steps (row_of s old held) → s.site.trip ≤ old.since + 1
  step_due =
      of_row s old held (λ (r : Row). Steps r → s.site.trip ≤ old.since + 1)
      (λ free h. absurd h) (λ free h. absurd h) (λ congested due h. due) (λ congested h. absurd h) (λ congested due h. due) (λ congested early h. absurd h)

  -- ---- what of it can be seen

  -- Where local congestion or localFairRate is altered, that was a change;
  pub altered_changes : old.congested ≤ 1
      → (old.congested ≡ (conservative_of s old lp held).congested → ⊥) ⊎ (old.local ≡ (conservative_of s old lp held).local → ⊥) → Changes (row_of s old held)
  unfolding row_gives
  altered_changes flag =
      of_row s old held (λ (r : Row). (old.congested ≡ (row_gives r s old lp).congested → ⊥) ⊎ (old.local ≡ (row_gives r s old lp).local → ⊥) → Changes r)
      (λ free h. tt)
      (λ free h. by_cases h (λ n. n refl) (λ n. n refl))
      (λ congested due h. tt)
      (λ congested h. tt)
      (λ congested due h. tt)
      (λ congested early h. by_cases h (λ n. n (omega (arith, flag, congested))) (λ n. n refl))

  -- where localFairRate is altered while the station counts as locally congested, that was a step.
  pub altered_steps : old.congested ≡ 1 → (conservative_of s old lp held).congested ≡ 1 → (old.local ≡ (conservative_of s old lp held).local → ⊥) → Steps (row_of s old held)
  unfolding row_gives
  altered_steps one =
      of_row s old held (λ (r : Row). (row_gives r s old lp).congested ≡ 1 → (old.local ≡ (row_gives r s old lp).local → ⊥) → Steps r)
      (λ free c n. omega (arith, one, free))
      (λ free c n. n refl)
      (λ congested due c n. tt)
      (λ congested c n. omega (arith, c))
      (λ congested due c n. tt)
      (λ congested early c n. n refl)

  -- ---- not congested means unreservedRate, where it meant it before

  pub free_stays : (old.congested ≡ 0 → old.local ≡ s.fairness.unreserved) → (adjust_of s old lp held).congested ≡ 0 → (adjust_of s old lp held).local ≡ s.fairness.unreserved
  unfolding adjust_of aggressive_of row_gives
  free_stays before =
      let Stays : Adjusted → Type 0 = λ a. a.congested ≡ 0 → a.local ≡ s.fairness.unreserved in
      of_each Stays (test (aggressive s.site)) _ _
      (λ e. of_each Stays (test (local_test s held)) _ _ (λ full z. absurd (omega (arith, z))) (λ room z. refl))
      (λ n.
      of_row s old held (λ (r : Row). Stays (row_gives r s old lp))
      (λ free z. absurd (omega (arith, z)))
      (λ free. before)
      (λ congested due z. absurd (omega (arith, z)))
      (λ congested z. refl)
      (λ congested due z. absurd (omega (arith, z)))
      (λ congested early z. absurd (omega (arith, z))))
