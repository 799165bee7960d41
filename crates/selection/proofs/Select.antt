-- Selection, row by row: of the table's rows the first that holds.
-- Assumes nothing.
use Prim.Native.Nat.{ℕ}
use mathlib.Core.Bool.{Bool, true, false, cond}
use mathlib.Core.Logic.{inl, inr}
use mathlib.Core.Path.{◌≡◌, refl, subst}
use borrow.Author.Tests.{lt-ltb}
use Rattle.decide.specs.Test.{test, Holds, facts, passes}
use Rattle.decide.proofs.Tests.{fails, failing}
use Rattle.settings.specs.declared.Settings.{Settings}
use Rattle.credits.specs.declared.Which.TheVariants.{M, D}
use Rattle.credits.specs.Which.{permits_of}
use Rattle.flow.specs.declared.Flow.{Flow}
use Rattle.flow.specs.declared.Line.TheVariants.{Control, Primary, Secondary}
use Rattle.selection.specs.declared.Selected.{Selected}
use Rattle.selection.specs.Select.{control_ready, primary_ready, needy, stage_ready, secondary_ready, leaves, leaves_charged, leaves_stage, nothing_of, select_of, No, When, GoesExactly}

-- which row it was, and that none before it held
pub data Goes (s : Settings) (f : Flow) : Selected → Type 0 where
  control : test (control_ready s f) ≡ true → Goes s f (leaves_charged s f Control M)
  primary : test (control_ready s f) ≡ false → test (primary_ready f) ≡ true → Goes s f (leaves f Primary)
  pressed : test (control_ready s f) ≡ false → test (primary_ready f) ≡ false → test (needy s f) ≡ true → Goes s f (leaves f Secondary)
  staged : test (control_ready s f) ≡ false → test (primary_ready f) ≡ false → test (needy s f) ≡ false → test (stage_ready f) ≡ true → Goes s f (leaves_stage f)
  secondary : test (control_ready s f) ≡ false → test (primary_ready f) ≡ false → test (needy s f) ≡ false → test (stage_ready f) ≡ false
      → test (secondary_ready s f) ≡ true → Goes s f (leaves_charged s f Secondary D)
  nothing : test (control_ready s f) ≡ false → test (primary_ready f) ≡ false → test (needy s f) ≡ false → test (stage_ready f) ≡ false
      → test (secondary_ready s f) ≡ false → Goes s f (nothing_of f)

-- what a row gives is selected
pub goes_selected : (s : Settings) (f : Flow) {r : Selected} → Goes s f r → select_of s f ≡ r
unfolding select_of
goes_selected s f (control a) = rw a
goes_selected s f (primary a b) = rw (a, b)
goes_selected s f (pressed a b c) = rw (a, b, c)
goes_selected s f (staged a b c d) = rw (a, b, c, d)
goes_selected s f (secondary a b c d e) = rw (a, b, c, d, e)
goes_selected s f (nothing a b c d e) = rw (a, b, c, d, e)

-- M permits where control goes, D where the last row holds
pub control_permitted : (s : Settings) (f : Flow) → test (control_ready s f) ≡ true → permits_of s f.credits M ≡ true
control_permitted s f e = lt-ltb s.shapers.m.lo f.credits.m (facts (control_ready s f) e).1.1.1

pub secondary_permitted : (s : Settings) (f : Flow) → test (secondary_ready s f) ≡ true → permits_of s f.credits D ≡ true
secondary_permitted s f e = lt-ltb s.shapers.d.lo f.credits.d (facts (secondary_ready s f) e).1

-- ---- the table as laws: each row goes exactly when it holds and none before it does

module _ (s : Settings) (f : Flow) where
  rows : (a b c d e : Bool) → test (control_ready s f) ≡ a → test (primary_ready f) ≡ b → test (needy s f) ≡ c → test (stage_ready f) ≡ d → test (secondary_ready s f) ≡ e
      → Goes s f (cond a (leaves_charged s f Control M) (cond b (leaves f Primary) (cond c (leaves f Secondary) (cond d (leaves_stage f) (cond e (leaves_charged s f Secondary D) (nothing_of f))))))
  rows true b c d e p q r t u = control p
  rows false true c d e p q r t u = primary p q
  rows false false true d e p q r t u = pressed p q r
  rows false false false true e p q r t u = staged p q r t
  rows false false false false true p q r t u = secondary p q r t u
  rows false false false false false p q r t u = nothing p q r t u

  -- what is selected is some row's
  pub goes : Goes s f (select_of s f)
  unfolding select_of
  goes = rows (test (control_ready s f)) (test (primary_ready f)) (test (needy s f)) (test (stage_ready f)) (test (secondary_ready s f)) refl refl refl refl refl

  -- each row tells the condition of its origin
  told : {r : Selected} → Goes s f r → When s f r.origin
  told (control a) = facts (control_ready s f) a
  told (primary a b) = (fails (control_ready s f) a, facts (primary_ready f) b)
  told (pressed a b c) = (fails (control_ready s f) a, (fails (primary_ready f) b, inl (facts (needy s f) c)))
  told (staged a b c d) = (fails (control_ready s f) a, (fails (primary_ready f) b, (fails (needy s f) c, facts (stage_ready f) d)))
  told (secondary a b c d e) = (
    fails (control_ready s f) a,
    (fails (primary_ready f) b, inr (fails (needy s f) c, (fails (stage_ready f) d, facts (secondary_ready s f) e))),
  )
  told (nothing a b c d e) = (
    fails (control_ready s f) a,
    (fails (primary_ready f) b, (fails (needy s f) c, (fails (stage_ready f) d, fails (secondary_ready s f) e))),
  )

  -- an origin is answered only under its condition
  pub only_when : (origin : ℕ) → (select_of s f).origin ≡ origin → When s f origin
  only_when origin e = subst (When s f) e (told goes)

  -- control goes exactly when its head's size fits the space of both transit queues and M permits
  pub control_exactly : GoesExactly s f 1 (leaves_charged s f Control M)
  control_exactly = record { only = only_when 1; whenever = λ h. goes_selected s f (control (passes (control_ready s f) h)) }

  -- primary goes exactly when control does not and it holds a frame
  pub primary_exactly : GoesExactly s f 2 (leaves f Primary)
  primary_exactly =
      record { only = only_when 2; whenever = λ h. goes_selected s f (primary (failing (control_ready s f) h.0) (passes (primary_ready f) h.1)) }

  -- secondary goes only when mtu > its space, or when the stage is empty and D permits,
  pub secondary_only : (select_of s f).origin ≡ 3 → When s f 3
  secondary_only = only_when 3

  -- and does so: with nothing charged
  pub needy_goes : No (control_ready s f) → No (primary_ready f) → Holds (needy s f) → select_of s f ≡ leaves f Secondary
  needy_goes a b c = goes_selected s f (pressed (failing (control_ready s f) a) (failing (primary_ready f) b) (passes (needy s f) c))

  -- or with D charged
  pub secondary_goes : No (control_ready s f) → No (primary_ready f) → No (needy s f) → No (stage_ready f) → Holds (secondary_ready s f)
      → select_of s f ≡ leaves_charged s f Secondary D
  secondary_goes a b c d e =
      goes_selected s f (secondary (failing (control_ready s f) a) (failing (primary_ready f) b) (failing (needy s f) c) (failing (stage_ready f) d) (passes (secondary_ready s f) e))

  -- the stage goes exactly when none before it does and it holds a frame
  pub stage_exactly : GoesExactly s f 4 (leaves_stage f)
  stage_exactly =
      record {
        only = only_when 4;
        whenever = λ h. goes_selected s f (staged (failing (control_ready s f) h.0) (failing (primary_ready f) h.1.0) (failing (needy s f) h.1.1.0) (passes (stage_ready f) h.1.1.1));
      }

  -- nothing goes exactly when no row holds
  pub nothing_exactly : GoesExactly s f 0 (nothing_of f)
  nothing_exactly =
      record {
        only = only_when 0;
        whenever = λ h. goes_selected s f (nothing (failing (control_ready s f) h.0) (failing (primary_ready f) h.1.0) (failing (needy s f) h.1.1.0) (failing (stage_ready f) h.1.1.1.0) (failing (secondary_ready s f) h.1.1.1.1));
      }
