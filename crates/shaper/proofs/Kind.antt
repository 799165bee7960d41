-- Kind and number say which event it is.
-- Assumes nothing.
use Prim.Native.Nat.{ℕ}
use mathlib.Core.Path.{◌≡◌, refl}
use Rattle.shaper.specs.declared.Event.{Event}
use Rattle.shaper.specs.declared.Event.TheVariants.{Waiting, Idle, Send}
use Rattle.shaper.specs.Kind.{kind_of, number_of, event_of}

pub event_of_lem : (e : Event) → event_of (kind_of e) (number_of e) ≡ e
unfolding event_of
event_of_lem (Waiting x) = refl
event_of_lem (Idle x) = refl
event_of_lem (Send z) = refl

pub event_1 : (n : ℕ) → event_of 1 n ≡ Waiting n
unfolding event_of
event_1 n = refl

pub event_2 : (n : ℕ) → event_of 2 n ≡ Idle n
unfolding event_of
event_2 n = refl

pub event_3 : (n : ℕ) → event_of 3 n ≡ Send n
unfolding event_of
event_3 n = refl
