-- Permissions and charges, shaper by shaper.
-- Assumes nothing.
use Prim.Native.Nat.{ℕ, ◌<◌}
use mathlib.Core.Bool.{true, cond, and-true, false≢true}
use mathlib.Core.List.{List, [], ◌∷◌}
use mathlib.Core.Logic.{◌↔◌, ⊎_elim}
use mathlib.Core.Path.{◌≡◌, refl, sym, ap, ◌∙◌}
use borrow.Author.Tests.{eqb-true, ltb-true, lt-ltb}
use lib.Dec.{eqb}
use Rattle.decide.specs.Test.{both, either}
use Rattle.shaper.specs.declared.Event.TheVariants.{Send}
use Rattle.shaper.specs.Credit.{next}
use Rattle.settings.specs.declared.Settings.{Settings}
use Rattle.credits.specs.declared.Credits.{Credits}
use Rattle.credits.specs.declared.Which.{Which}
use Rattle.credits.specs.declared.Which.TheVariants.{M, A, B, C, D}
use Rattle.credits.specs.Which.{bucket_of, credit_of, limits_for, with_credit, permits_of, permits_all, number_of, member, sends, fed}

-- a shaper's number tells it
abbrev which_of : ℕ → Which
which_of n = cond (eqb n 0) M (cond (eqb n 1) A (cond (eqb n 2) B (cond (eqb n 3) C D)))

which_number : (w : Which) → which_of (number_of w) ≡ w
which_number M = refl
which_number A = refl
which_number B = refl
which_number C = refl
which_number D = refl

-- two shapers have two numbers
pub same_which : (v w : Which) → number_of v ≡ number_of w → v ≡ w
same_which v w e = sym (which_number v) ∙ ap which_of e ∙ which_number w

-- A send is permitted exactly when credit > loLimit.
pub permits_exactly : (s : Settings) (c : Credits) (w : Which) → (permits_of s c w ≡ true) ↔ ((bucket_of s w).lo < credit_of c w)
permits_exactly s c w = (ltb-true (bucket_of s w).lo (credit_of c w), lt-ltb (bucket_of s w).lo (credit_of c w))

module _ (s : Settings) (c : Credits) where
  -- a charge to one shaper takes the size off its credit, and leaves the others
  pub charge_one : (w : Which) (z : ℕ) → with_credit c w (next (limits_for s w) (credit_of c w) (Send z)) ≡ fed s c (sends (w ∷ []) z)
  charge_one M z = refl
  charge_one A z = refl
  charge_one B z = refl
  charge_one C z = refl
  charge_one D z = refl

  -- what is asked of one
  pub permits_one : (w : Which) → permits_of s c w ≡ permits_all s c (w ∷ [])
  permits_one w = sym (and-true (permits_of s c w))

  -- where all permit, the first does and the others do
  pub permits_first : (w : Which) (ws : List Which) → permits_all s c (w ∷ ws) ≡ true → permits_of s c w ≡ true
  permits_first w ws e = (both (permits_of s c w) (permits_all s c ws) e).0

  pub permits_rest : (w : Which) (ws : List Which) → permits_all s c (w ∷ ws) ≡ true → permits_all s c ws ≡ true
  permits_rest w ws e = (both (permits_of s c w) (permits_all s c ws) e).1

  -- where all permit, each of them does
  pub permits_member : (v : Which) (ws : List Which) → permits_all s c ws ≡ true → member v ws ≡ true → permits_of s c v ≡ true
  permits_member v [] e m = absurd (false≢true m)
  permits_member v (w ∷ ws) e m =
      ⊎_elim
      (λ k. ap (permits_of s c) (same_which v w (eqb-true (number_of v) (number_of w) k)) ∙ permits_first w ws e)
      (λ k. permits_member v ws (permits_rest w ws e) k)
      (either (eqb (number_of v) (number_of w)) (member v ws) m)
