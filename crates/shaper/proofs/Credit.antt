-- The credit, row by row and over lists of events.
-- Assumes nothing.
use Prim.Native.Nat.{ℕ, ◌+◌, ◌≤◌, ◌<◌}
use mathlib.Core.Bool.{true}
use mathlib.Core.List.{List, [], ◌∷◌, ◌++◌}
use mathlib.Core.Path.{◌≡◌, refl}
use native.Mathlib.Omega.{arith}
use borrow.Author.Tests.{ltb-true, lt-ltb}
use Rattle.decide.specs.Test.{Holds}
use Rattle.shaper.specs.declared.Limits.{Limits}
use Rattle.shaper.specs.declared.Event.{Event}
use Rattle.shaper.specs.declared.Event.TheVariants.{Waiting, Idle, Send}
use Rattle.shaper.specs.Limits.{limits_ok}
use Rattle.shaper.specs.Credit.{Valid, AllValid, permits, next, Allowed, Permitted, end_credit}

-- ---- one law for each row

-- A send is permitted exactly when credit > loLimit.
pub permits_exactly : (c lo : ℕ) → (permits c lo ≡ true → lo < c) × (lo < c → permits c lo ≡ true)
permits_exactly c lo = (ltb-true lo c, lt-ltb lo c)

module _ (l : Limits) (c : ℕ) where
  -- A tick adds the amount; while traffic waits the sum is cut to hiLimit,
  pub waiting_adds : (x : ℕ) → c + x ≤ l.hi → next l c (Waiting x) ≡ c + x
  waiting_adds x h = omega arith

  pub waiting_cut : (x : ℕ) → l.hi ≤ c + x → next l c (Waiting x) ≡ l.hi
  waiting_cut x h = omega arith

  -- otherwise to loLimit.
  pub idle_adds : (x : ℕ) → c + x ≤ l.lo → next l c (Idle x) ≡ c + x
  idle_adds x h = omega arith

  pub idle_cut : (x : ℕ) → l.lo ≤ c + x → next l c (Idle x) ≡ l.lo
  idle_cut x h = omega arith

module _ (l : Limits) (ok : Holds (limits_ok l)) where
  -- then the size is taken off: the credit left and the size are the credit before, and something is left
  pub send_takes : (c z : ℕ) → Valid l (Send z) → Allowed l c (Send z) → (next l c (Send z) + z ≡ c) × (0 < next l c (Send z))
  send_takes c z v a = omega arith

  -- no event leaves more than hiLimit
  pub next_max : (e : Event) (c : ℕ) → c ≤ l.hi → next l c e ≤ l.hi
  next_max (Waiting x) c h = omega arith
  next_max (Idle x) c h = omega arith
  next_max (Send z) c h = omega arith

  pub end_max : (es : List Event) (c : ℕ) → c ≤ l.hi → end_credit l c es ≤ l.hi
  end_max [] c h = h
  end_max (e ∷ es) c h = end_max es (next l c e) (next_max e c h)

-- ---- lists of events

module _ (l : Limits) where
  pub end_append : (xs ys : List Event) (c : ℕ) → end_credit l c (xs ++ ys) ≡ end_credit l (end_credit l c xs) ys
  end_append [] ys c = refl
  end_append (e ∷ xs) ys c = end_append xs ys (next l c e)

  pub permitted_append : (xs ys : List Event) (c : ℕ) → Permitted l c xs → Permitted l (end_credit l c xs) ys → Permitted l c (xs ++ ys)
  permitted_append [] ys c p q = q
  permitted_append (e ∷ xs) ys c p q = (p.0, permitted_append xs ys (next l c e) p.1 q)

  pub valid_append : (xs ys : List Event) → AllValid l xs → AllValid l ys → AllValid l (xs ++ ys)
  valid_append [] ys v w = w
  valid_append (e ∷ xs) ys v w = (v.0, valid_append xs ys v.1 w)

  -- more credit never permits less, and never ends lower
  next_mono : (e : Event) (c d : ℕ) → c ≤ d → next l c e ≤ next l d e
  next_mono (Waiting x) c d h = omega arith
  next_mono (Idle x) c d h = omega arith
  next_mono (Send z) c d h = omega arith

  allowed_mono : (e : Event) (c d : ℕ) → c ≤ d → Allowed l c e → Allowed l d e
  allowed_mono (Waiting x) c d h a = a
  allowed_mono (Idle x) c d h a = a
  allowed_mono (Send z) c d h a = omega arith

  pub permitted_mono : (es : List Event) (c d : ℕ) → c ≤ d → Permitted l c es → Permitted l d es
  permitted_mono [] c d h p = p
  permitted_mono (e ∷ es) c d h p = (allowed_mono e c d h p.0, permitted_mono es (next l c e) (next l d e) (next_mono e c d h) p.1)

  pub end_mono : (es : List Event) (c d : ℕ) → c ≤ d → end_credit l c es ≤ end_credit l d es
  end_mono [] c d h = h
  end_mono (e ∷ es) c d h = end_mono es (next l c e) (next l d e) (next_mono e c d h)
