-- `wrap::path` meets its contract: each refusal is a row of the definition, and what the walk answers is that of the whole course.
-- Assumes nothing.
use mathlib.Core.Bool.{true, false}
use mathlib.Core.Logic.{◌⊎◌, inl, inr}
use mathlib.Core.Path.{◌≡◌, sym, ap, ◌∙◌}
use lib.ListN.{length}
use Prim.Native.Nat.{ℕ, ◌+◌, ◌*◌}
use native.Mathlib.Omega.{arith}
use Rattle.std.proofs.lemmas.Result.{err_from_is_err_and}
use Rattle.decide.specs.Test.{test}
use Rattle.decide.proofs.Cases.{by_cases, true_or_false}
use Rattle.ring.specs.declared.Way.{Way}
use Rattle.ring.specs.declared.Way.TheVariants.{Left, Right}
use Rattle.ring.proofs.Faults.{in_place, placed}
use Rattle.wrap.specs.Walking.{at_home, side_of, course_of, bad_home}
use Rattle.wrap.proofs.Exactly.{home_exactly}
use Rattle.wrap.proofs.Answers.{misplaced_path, refused_home, moved}
use Rattle.wrap.proofs.path.Goals as goal
use Rattle.wrap.proofs.path.Goals.{in-1, in-2}

-- a home side that is coded
known : {home : ℕ} {way : Way} → ((home ≡ 1) × (way ≡ Left)) ⊎ ((home ≡ 2) × (way ≡ Right)) → (test (bad_home home) ≡ false) × (way ≡ side_of home)
known {home} (inl p) = ((home_exactly home).1 (inl p.0), p.1 ∙ sym (ap side_of p.0))
known {home} (inr p) = ((home_exactly home).1 (inr p.0), p.1 ∙ sym (ap side_of p.0))

-- one that is neither 1 nor 2
unknown : {home : ℕ} → (home ≡ 1 → ⊥) → (home ≡ 2 → ⊥) → test (bad_home home) ≡ true
unknown {home} f g =
    by_cases (true_or_false (test (bad_home home))) (λ e. e)
    (λ e. by_cases ((home_exactly home).0 e) (λ i. absurd (f i)) (λ i. absurd (g i)))

pub returns-in_err-misplaced : goal.returns-in_err-misplaced
returns-in_err-misplaced c =
    let a = c.args in
    let p = err_from_is_err_and c.from_residual.result c.from_residual.ensures.1 in
    rw (p.1, p.2) (misplaced_path a.stations a.own a.target a.links a.home c.in_err-misplaced.field-0.0 (sym c.in_err-misplaced.ensures))

pub returns-in_default : goal.returns-in_default
returns-in_default c =
    let a = c.args in
    refused_home a.stations a.own a.target a.links a.home (in_place a.stations a.own a.target a.links (sym c.in_ok-misplaced.ensures))
    (unknown (λ e. omega arith) (λ e. omega arith))

pub overflow_mul-most : goal.overflow_mul-most
overflow_mul-most c =
    let a = c.args in
    let p = placed a.stations a.own a.target a.links (in_place a.stations a.own a.target a.links (sym c.in_ok-misplaced.ensures)) in
    omega arith

pub invariant_of-start : goal.invariant_of-start
invariant_of-start c =
    let a = c.args in
    let p = placed a.stations a.own a.target a.links (in_place a.stations a.own a.target a.links (sym c.in_ok-misplaced.ensures)) in
    record { stands = record { small = p.small; station = p.station } }

pub returns : goal.returns
returns c =
    let a = c.args in
    let k = known (elim c.match-home.branch [ in-1 w ↦ inl (w.in-1.is, w.home-is) | in-2 w ↦ inr (w.in-2.is, w.home-is) ]) in
    moved a.stations a.own a.target a.links a.home (in_place a.stations a.own a.target a.links (sym c.in_ok-misplaced.ensures)) k.0
    (c.home_walk-hops.ensures
    ∙ ap (λ (w : Way). 0 + length (course_of a.stations a.links a.target w (2 * a.stations) at_home a.own).links) k.1)
