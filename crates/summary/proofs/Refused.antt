-- Each call gives a number exactly when its row applies and none before it does.
-- Assumes nothing.
use Prim.Native.Nat.{ℕ, zero, suc}
use mathlib.Core.Bool.{Bool, true, false}
use mathlib.Core.Path.{◌≡◌, refl}
use lib.Dec.{leb}
use Rattle.decide.specs.Refusal.{first_of, RefusedExactly}
use Rattle.decide.proofs.Number.{number_told}
use Rattle.decide.proofs.Given.{refused_exactly}
use Rattle.shaper.specs.declared.Limits.{Limits}
use Rattle.shaper.specs.declared.Event.{Event}
use Rattle.summary.specs.declared.Summary.{Summary}
use Rattle.summary.specs.Answer.{answered, empty_faults, empty_answer, single_faults, single_answer, counted_faults, counted_answer, join_faults, join_of, settle_faults, settled, settle_of, answer_number, outcome_number}

answered_number : (n : ℕ) (s : Summary) → answer_number (answered n s) ≡ n
answered_number zero s = refl
answered_number (suc n) s = number_told (suc n)

settled_number : (n : ℕ) (s : Summary) (c : ℕ) → outcome_number (settled n s c) ≡ n
settled_number zero s c = go (leb s.need c) refl
  where
    go : (b : Bool) → leb s.need c ≡ b → outcome_number (settled zero s c) ≡ zero
    go true e = rw e
    go false e = rw e
settled_number (suc n) s c = number_told (suc n)

pub empty_refused_exactly : (l : Limits) → RefusedExactly (answer_number (empty_answer l)) (empty_faults l)
unfolding empty_answer
empty_refused_exactly l = refused_exactly (empty_faults l) refl _ (answered_number (first_of (empty_faults l)) _)

pub single_refused_exactly : (l : Limits) (e : Event) → RefusedExactly (answer_number (single_answer l e)) (single_faults l e)
unfolding single_answer
single_refused_exactly l e = refused_exactly (single_faults l e) refl _ (answered_number (first_of (single_faults l e)) _)

pub counted_refused_exactly : (l : Limits) (e : Event) (c : ℕ) → RefusedExactly (answer_number (counted_answer l e c)) (counted_faults l e c)
unfolding counted_answer
counted_refused_exactly l e c = refused_exactly (counted_faults l e c) refl _ (answered_number (first_of (counted_faults l e c)) _)

pub join_refused_exactly : (a b : Summary) → RefusedExactly (answer_number (join_of a b)) (join_faults a b)
unfolding join_of
join_refused_exactly a b = refused_exactly (join_faults a b) refl _ (answered_number (first_of (join_faults a b)) _)

pub settle_refused_exactly : (s : Summary) (c : ℕ) → RefusedExactly (outcome_number (settle_of s c)) (settle_faults s c)
unfolding settle_of
settle_refused_exactly s c = refused_exactly (settle_faults s c) refl _ (settled_number (first_of (settle_faults s c)) s c)
