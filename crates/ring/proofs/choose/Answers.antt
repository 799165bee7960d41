-- `ring::choose` meets its contract: each refusal is a row of the definition, and in range the choice goes by its sides.
-- Assumes nothing.
use mathlib.Core.Path.{sym, ◌∙◌}
use Rattle.std.proofs.lemmas.Result.{err_from_is_err_and}
use Rattle.decide.specs.Test.{test}
use Rattle.ring.proofs.Faults.{in_place, placed, misplaced_choice, refused_code, in_range_lem}
use Rattle.ring.proofs.choose.Goals as goal

pub returns-in_err-misplaced : goal.returns-in_err-misplaced
returns-in_err-misplaced c =
    let a = c.args in
    let p = err_from_is_err_and c.from_residual.result c.from_residual.ensures.1 in
    rw (p.1, p.2)
    (misplaced_choice a.stations a.own a.target a.links a.side a.protection a.ring c.in_err-misplaced.field-0.0 (sym c.in_err-misplaced.ensures))

pub returns-then-side-protection : goal.returns-then-side-protection
unfolding test
returns-then-side-protection c =
    let a = c.args in
    refused_code a.stations a.own a.target a.links a.side a.protection a.ring
    (in_place a.stations a.own a.target a.links (sym c.in_ok-misplaced.ensures))
    c.if-side-protection.true

pub invariant_of-place : goal.invariant_of-place
invariant_of-place c =
    let a = c.args in
    record { placed = placed a.stations a.own a.target a.links (in_place a.stations a.own a.target a.links (sym c.in_ok-misplaced.ensures)) }

pub returns : goal.returns
unfolding test
returns c =
    let a = c.args in
    c.goes.ensures
    ∙ in_range_lem a.stations a.own a.target a.links a.side a.protection a.ring
    (in_place a.stations a.own a.target a.links (sym c.in_ok-misplaced.ensures))
    c.if-side-protection.false
