-- The conservative method over any calls, refused ones among them. Assumes nothing.
use Rattle.shaper.specs.Refused.{afterwards}
use Prim.Native.Nat.{◌+◌, ◌≤◌}
use mathlib.Core.List.{List, [], ◌∷◌}
use mathlib.Core.Logic.{◌⊎◌}
use mathlib.Core.Path.{◌≡◌, refl, sym, ap, subst, ◌∙◌}
use native.Mathlib.Omega.{arith}
use Rattle.decide.proofs.Cases.{by_cases}
use Rattle.settings.specs.declared.Settings.{Settings}
use Rattle.settings.specs.Range.{SettingsOk}
use Rattle.fair.specs.declared.Decided.{Decided}
use Rattle.fair.specs.declared.Fair.{Fair}
use Rattle.fair.specs.Methods.{Changes, Steps}
use Rattle.fair.specs.Age as interval
use Rattle.fair.proofs.Rows as rows
use Rattle.station.specs.declared.Station.{Station}
use Rattle.station.specs.Answers.{Done}
use Rattle.station.specs.Range.{StationOk}
use Rattle.station.specs.Calls.{fresh_of}
use Rattle.station.specs.History.{Call, age, step, after}
use Rattle.station.specs.Steady.{ends, intervals}
use Rattle.station.specs.Method.{held_now, row_now, aged, Altered, AlteredWithin, RateWithin, FreeAtUnreserved}
use Rattle.station.proofs.Range.{fresh_ok}
use Rattle.station.proofs.Interval.{age_ages, holds_till_interval}
use Rattle.station.proofs.Kept.{range_kept}
use Rattle.station.proofs.History.{step_goes, after_ok, after_settings}
use Rattle.station.proofs.Steady.{one_or_none}

-- ---- one interval

module _ {st : Station} (ok : StationOk st) where
  -- the state that it leaves
  aged_fair : (aged st).fair ≡ interval.age_of st.fair st.settings (held_now st)
  aged_fair = ap (λ (d : Done). (afterwards st d).fair) (age_ages ok)

  module _ (chosen : st.settings.site.method ≡ 1) where
    change_anew : Changes (row_now st) → (aged st).fair.since ≡ 0
    change_anew h = ap (λ (f : Fair). f.since) aged_fair ∙ rows.change_anew st.fair st.settings (held_now st) chosen h

    -- What is altered by an interval is a change, and a step where the station counts as locally congested before and after it.
    pub seen_changes : Altered st → Changes (row_now st)
    seen_changes h =
        rows.seen_changes st.fair st.settings (held_now st) chosen ok.fair.of_decided.congested_most
        (subst
        (λ (f : Fair). (st.fair.decided.congested ≡ f.decided.congested → ⊥) ⊎ (st.fair.decided.local ≡ f.decided.local → ⊥))
        aged_fair
        h)

    pub seen_steps : AlteredWithin st → Steps (row_now st)
    seen_steps (before, behind, n) =
        rows.seen_steps st.fair st.settings (held_now st) chosen before
        (sym (ap (λ (f : Fair). f.decided.congested) aged_fair) ∙ behind)
        (λ e. n (e ∙ sym (ap (λ (f : Fair). f.decided.local) aged_fair)))

-- ---- any calls

-- the count grows by at most the intervals among them
since_through : {st : Station} → StationOk st → (cs : List Call) → (after st cs).fair.since ≤ st.fair.since + intervals cs
since_through ok [] = omega arith
since_through {st} ok (c ∷ cs) =
    let one : (step c st).station.fair.since ≤ st.fair.since + ends c =
    by_cases (one_or_none c)
    (λ e. subst (λ (d : Call). (step d st).station.fair.since ≤ st.fair.since + ends d) (sym e)
    (subst (λ (f : Fair). f.since ≤ st.fair.since + 1) (sym (aged_fair ok)) (rows.interval_since st.fair st.settings (held_now st))))
    (λ z. omega (arith, z, (holds_till_interval st c (λ e. omega (arith, z, ap ends e))).2))
    in
    omega (arith, one, since_through {st = (step c st).station} (range_kept ok c) cs)

-- Two changes are at least a round trip apart, but for leaving and entering: from an interval that changes, over any calls, to one that steps.
pub changes_apart : {st : Station} → StationOk st → st.settings.site.method ≡ 1 → Changes (row_now st)
    → (cs : List Call) → Steps (row_now (after (aged st) cs)) → st.settings.site.trip ≤ intervals cs + 1
changes_apart {st} ok chosen change cs steps =
    let next = range_kept ok age in
    let last = after (aged st) cs in
    let due = rows.interval_due last.fair last.settings (held_now last) steps in
    let same : last.settings ≡ st.settings = after_settings next cs ∙ (step_goes ok age).settings in
    omega (arith, due, ap (λ (s : Settings). s.site.trip) same, since_through next cs, change_anew ok chosen change)

-- The conservative localFairRate never exceeds unreservedRate, of any station in range,
pub in_range_rate : {st : Station} → StationOk st → RateWithin st
in_range_rate ok chosen = by_cases ok.fair.of_decided.local_within (λ e. absurd (omega (arith, chosen, e))) (λ w. w)

-- and over any calls.
pub conservative_within : {st : Station} → StationOk st → (cs : List Call) → RateWithin (after st cs)
conservative_within ok cs = in_range_rate (after_ok ok cs)

-- From a start, a station that does not count as locally congested has localFairRate at unreservedRate.
free_through : {st : Station} → StationOk st → FreeAtUnreserved st → (cs : List Call) → FreeAtUnreserved (after st cs)
free_through ok before [] = before
free_through {st} ok before (c ∷ cs) =
    free_through {st = (step c st).station} (range_kept ok c)
    (by_cases (one_or_none c)
    (λ e. subst (λ (d : Call). FreeAtUnreserved (step d st).station) (sym e)
    (λ z.
    ap (λ (f : Fair). f.decided.local) (aged_fair ok)
    ∙ rows.interval_free st.fair st.settings (held_now st) before (sym (ap (λ (f : Fair). f.decided.congested) (aged_fair ok)) ∙ z)
    ∙ sym (ap (λ (s : Settings). s.fairness.unreserved) (step_goes ok age).settings)))
    (λ z w.
    let same = (holds_till_interval st c (λ e. omega (arith, z, ap ends e))).0 in
    ap (λ (d : Decided). d.local) same
    ∙ before (sym (ap (λ (d : Decided). d.congested) same) ∙ w)
    ∙ sym (ap (λ (s : Settings). s.fairness.unreserved) (step_goes ok c).settings)))
    cs

pub reached_free : (s : Settings) → SettingsOk s → (cs : List Call) → FreeAtUnreserved (after (fresh_of s) cs)
reached_free s good cs = free_through (fresh_ok good) (λ z. refl) cs
