-- `ring::misplaced` meets its contract: each return is a row of the definition.
-- Assumes nothing.
use native.Mathlib.Omega.{arith}
use borrow.Author.Tests.{lt-ltb, le-ltb}
use Rattle.decide.specs.Test.{test}
use Rattle.decide.specs.Refusal.{refused_or}
use Rattle.ring.proofs.Faults.{bad_size_lem, bad_word_lem, bad_index_lem, good, misplaced_by}
use Rattle.ring.proofs.Exactly.{size_exactly}
use Rattle.ring.proofs.misplaced.Goals as goal

pub returns-then-stations : goal.returns-then-stations
unfolding test refused_or
returns-then-stations c =
    let a = c.args in
    misplaced_by a.stations a.own a.target a.links (bad_size_lem a.stations a.own a.target a.links c.if-stations.true)

pub overflow_shr-links : goal.overflow_shr-links
unfolding test
overflow_shr-links c =
    let h = (size_exactly c.args.stations).0 c.if-stations.false in
    omega arith

pub returns-then-links-stations-gt0 : goal.returns-then-links-stations-gt0
unfolding test refused_or
returns-then-links-stations-gt0 c =
    let a = c.args in
    misplaced_by a.stations a.own a.target a.links
    (bad_word_lem a.stations a.own a.target a.links c.if-stations.false (lt-ltb _ _ c.if-links-stations-gt0.true))

pub returns-then-stations-own : goal.returns-then-stations-own
unfolding test refused_or
returns-then-stations-own c =
    let a = c.args in
    misplaced_by a.stations a.own a.target a.links
    (bad_index_lem a.stations a.own a.target a.links c.if-stations.false (le-ltb _ _ c.if-links-stations-gt0.false) c.if-stations-own.true)

pub returns : goal.returns
unfolding test refused_or
returns c =
    let a = c.args in
    misplaced_by a.stations a.own a.target a.links
    (good a.stations a.own a.target a.links c.if-stations.false (le-ltb _ _ c.if-links-stations-gt0.false) c.if-stations-own.false)
