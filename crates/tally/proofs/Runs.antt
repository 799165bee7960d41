-- A run of equal ticks is one step by all that they bring: what it adds to the tally is the run's summary in closed form. So an item of a record is one step,
-- whatever it stands for. Assumes nothing.
use Prim.Native.Nat.{ℕ, ◌+◌, ◌-◌, ◌*◌, ◌≤◌}
use mathlib.Core.List.{List, ◌++◌}
use mathlib.Core.Path.{◌≡◌, ap, ◌∙◌}
use native.Mathlib.Nat.{mul-le-mul_left}
use native.Mathlib.Omega.{arith}
use lib.ListN.{replicate}
use Rattle.decide.specs.Test.{Holds}
use Rattle.decide.proofs.Cases.{by_cases}
use Rattle.shaper.specs.declared.Limits.{Limits}
use Rattle.shaper.specs.declared.Event.{Event}
use Rattle.shaper.specs.declared.Event.TheVariants.{Waiting, Idle, Send}
use Rattle.shaper.specs.Limits.{most_amount, most_events}
use Rattle.shaper.specs.Credit.{Valid, AllValid}
use Rattle.shaper.specs.Kind.{kind_of, number_of}
use Rattle.plain.specs.declared.Plain.{Plain}
use Rattle.plain.specs.Plain.{plain_run, plain_joined, plain_of}
use Rattle.plain.specs.Range.{count_ok}
use Rattle.plain.proofs.Meaning.{plain_append}
use Rattle.plain.proofs.Runs.{run_valid, run_limits, run_plain, run_sound}
use Rattle.tally.specs.declared.Tally.{Tally}
use Rattle.tally.specs.Tally.{pick_of, fall_of, step_of, plain_at, Ready}
use Rattle.tally.proofs.Laws.{number_max, tick_step, step_joined, more_ready, more_rest}

-- ---- what an item brings

-- what the events of a run bring, each at most 65,535
brought_max : (c x : ℕ) → x ≤ most_amount → c * x ≤ most_amount * c
brought_max c x h = let b = mul-le-mul_left c h in omega arith

module _ (l : Limits) (n : ℕ) (t : Tally) (p : Ready l n t) where
  -- Join of 1 then 2, where 2 is a run of equal ticks, or one event.
  pub run_joined : (e : Event) → Valid l e → (c : ℕ) → Holds (count_ok e c) →
      plain_at l (n + c) (step_of (l.hi - l.lo) (kind_of e) (c * number_of e) t) ≡ plain_joined (plain_at l n t) (plain_run l e c)
  unfolding pick_of fall_of
  run_joined (Waiting x) v c h = tick_step l n t p (c * x) 0 c
  run_joined (Idle x) v c h = tick_step l n t p (c * x) (l.hi - l.lo) c
  run_joined (Send z) v c h =
      let one : c ≡ 1 = by_cases h.1 (λ e. e) (λ k. absurd (omega arith)) in
      let size : c * z ≡ z = rw one (omega arith) in
      rw (size, one) (step_joined l n t p (Send z) v)

-- ---- a walk goes on

module _ (l : Limits) (n : ℕ) (t : Tally) (p : Ready l n t) (e : Event) (ok : Valid l e) (c : ℕ) (h : Holds (count_ok e c)) where
  abbrev next : Tally
  next = step_of (l.hi - l.lo) (kind_of e) (c * number_of e) t

  pub run_ready : n + c ≤ most_events → Ready l (n + c) next
  run_ready =
      more_ready l n t p (kind_of e) (c * number_of e) c (plain_run l e c) (run_sound l p.sound.0 e ok c h) (run_limits l e c) (run_joined l n t p e ok c h)
      (brought_max c (number_of e) (number_max l p.sound.0 e ok))

  -- the events of an item go over from what is left to what is tallied, and the summary of the whole stays
  pub run_rest : (es : List Event) → AllValid l es → plain_joined (plain_at l n t) (plain_of l (replicate c e ++ es)) ≡ plain_joined (plain_at l (n + c) next) (plain_of l es)
  run_rest es a =
      ap (plain_joined (plain_at l n t))
      (plain_append l p.sound.0 (replicate c e) es (run_valid l e ok c) a ∙ ap (λ (s : Plain). plain_joined s (plain_of l es)) (run_plain l p.sound.0 e ok c h))
      ∙ more_rest l n t p (kind_of e) (c * number_of e) c (plain_run l e c) (run_sound l p.sound.0 e ok c h) (run_limits l e c) (run_joined l n t p e ok c h) es a
