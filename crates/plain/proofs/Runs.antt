-- The summary of a run of equal ticks, in closed form: each tick more adds its amount, and leaves ceiling and need as they are.
-- Assumes nothing.
use Prim.Native.Nat.{ℕ, zero, suc, ◌+◌, ◌-◌, ◌*◌, ◌≤◌}
use mathlib.Core.List.{[], ◌∷◌}
use mathlib.Core.Path.{◌≡◌, refl, sym, ap, subst, ◌∙◌}
use native.Mathlib.Omega.{arith}
use lib.ListN.{replicate}
use Rattle.decide.specs.Test.{Holds}
use Rattle.decide.proofs.Cases.{by_cases}
use Rattle.shaper.specs.declared.Limits.{Limits}
use Rattle.shaper.specs.declared.Event.{Event}
use Rattle.shaper.specs.declared.Event.TheVariants.{Waiting, Idle, Send}
use Rattle.shaper.specs.Limits.{limits_ok}
use Rattle.shaper.specs.Credit.{Valid, AllValid}
use Rattle.plain.specs.declared.Plain.{Plain}
use Rattle.plain.specs.Plain.{plain_empty, plain_single, plain_ticks, plain_run, plain_joined, plain_of}
use Rattle.plain.specs.Range.{Sound, count_ok}
use Rattle.plain.proofs.Laws.{depth_least, depth_is, need_else, plain_eq, empty_right}
use Rattle.plain.proofs.Meaning.{single_limits, single_sound, plain_sound}

-- equal events are valid where one is
pub run_valid : (l : Limits) (e : Event) → Valid l e → (c : ℕ) → AllValid l (replicate c e)
run_valid l e v zero = tt
run_valid l e v (suc c) = (v, run_valid l e v c)

pub run_limits : (l : Limits) (e : Event) (c : ℕ) → (plain_run l e c).limits ≡ l
run_limits l (Waiting x) c = refl
run_limits l (Idle x) c = refl
run_limits l (Send z) c = refl

-- a tick before others of its kind
tick_before : (l : Limits) (f c x v : ℕ) → f ≤ l.hi → plain_joined (plain_ticks l f 1 x) (plain_ticks l f c v) ≡ plain_ticks l f (1 + c) (x + v)
tick_before l f c x v h =
    let a = plain_ticks l f 1 x in
    let b = plain_ticks l f c v in
    let d = depth_least a b in
    plain_eq _ _ refl refl refl refl (by_cases (depth_is a b) (λ e. omega arith) (λ e. e)) (need_else a b (omega arith) ∙ omega arith)

module _ (l : Limits) (ok : Holds (limits_ok l)) where
  -- one event alone is its own summary
  pub plain_alone : (e : Event) → Valid l e → plain_of l (e ∷ []) ≡ plain_single l e
  plain_alone e v =
      ap (λ m. plain_joined (plain_single l e) (plain_empty m)) (sym (single_limits l e))
      ∙ empty_right (plain_single l e) (single_sound l ok e v)

  -- ticks that leave the ceiling at one depth
  ticks : (f x : ℕ) → f ≤ l.hi → (e : Event) → Valid l e → plain_single l e ≡ plain_ticks l f 1 x → (c : ℕ) → plain_of l (replicate (suc c) e) ≡ plain_ticks l f (suc c) (suc c * x)
  ticks f x h e v s zero = plain_alone e v ∙ s ∙ ap (plain_ticks l f 1) (omega arith)
  ticks f x h e v s (suc c) =
      ap (plain_joined (plain_single l e)) (ticks f x h e v s c)
      ∙ ap (λ a. plain_joined a (plain_ticks l f (suc c) (suc c * x))) s
      ∙ tick_before l f (suc c) x (suc c * x) h
      ∙ plain_eq _ _ refl (omega arith) (omega arith) refl refl refl

  -- Run: accrued count × amount, ceiling hiLimit waiting, loLimit idle; need 0. Any item is the summary of its events.
  pub run_plain : (e : Event) → Valid l e → (c : ℕ) → Holds (count_ok e c) → plain_of l (replicate c e) ≡ plain_run l e c
  run_plain e v zero h = absurd (omega arith)
  run_plain (Waiting x) v (suc c) h = ticks 0 x (omega arith) (Waiting x) v refl c
  run_plain (Idle x) v (suc c) h = ticks (l.hi - l.lo) x (omega arith) (Idle x) v refl c
  run_plain (Send z) v (suc c) h =
      let one : suc c ≡ 1 = by_cases h.1 (λ e. e) (λ k. absurd (omega arith)) in
      ap (λ n. plain_of l (replicate n (Send z))) one ∙ plain_alone (Send z) v

  pub run_sound : (e : Event) → Valid l e → (c : ℕ) → Holds (count_ok e c) → Sound (plain_run l e c)
  run_sound e v c h = subst (λ (s : Plain). Sound s) (run_plain e v c h) (plain_sound l ok (replicate c e) (run_valid l e v c))
