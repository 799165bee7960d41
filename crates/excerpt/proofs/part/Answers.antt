-- Where the events stand as in a record of the old form, their summary is that of such a record; else the walk's answer is the answer.
-- Assumes nothing.
use Prim.Native.Nat.{ℕ, ◌+◌, ◌-◌, ◌*◌, ◌≤◌}
use mathlib.Core.Bool.{false}
use mathlib.Core.Path.{◌≡◌, sym, ap, ◌∙◌}
use native.Mathlib.Omega.{arith}
use lib.ListN.{length, take, drop}
use Rattle.std.specs.Prelude.{Ok}
use Rattle.tally.proofs.Laws.{start_ready}
use Rattle.account.specs.Account.{events_of}
use Rattle.excerpt.proofs.Faults.{fault_early, fault_there, item_none}
use Rattle.excerpt.proofs.Walk.{part_start, part_end, excerpt_stops}
use Rattle.excerpt.proofs.Plain.{plain_excerpt}
use Rattle.excerpt.proofs.part.Goals as goal

pub ended-requires : goal.ended-requires
ended-requires c = rw c.start.ensures (start_ready c.args.limits c.requires.0)

pub returns-then-count-eq0 : goal.returns-then-count-eq0
returns-then-count-eq0 c =
    let a = c.args in
    let bytes = λ (j : ℕ). c.type_inv.s j in
    let ready = start_ready a.limits c.requires.0 in
    ap Ok c.ended.ensures ∙ rw (c.start.ensures, c.if-count-eq0.true)
    (sym (part_start a.limits c.requires.0 a.s.now (λ j. (bytes j).fits) 0 a.place ∙ part_end a.limits 0 _ ready a.s.now a.place))

pub returns-then-at-lt-HEADER : goal.returns-then-at-lt-HEADER
returns-then-at-lt-HEADER c =
    let a = c.args in
    sym (excerpt_stops a.limits a.count a.s.now a.place 2 (omega (arith, c.if-count-eq0.false)) (omega arith) (fault_early a.limits.mtu a.s.now a.place c.if-at-lt-HEADER.true))

pub returns-then-s-at : goal.returns-then-s-at
returns-then-s-at c =
    let a = c.args in
    let none = item_none a.limits.mtu a.s.now a.place.at c.if-s-at.true in
    let there = fault_there a.limits.mtu a.s.now a.place.at a.place.gone 2 c.if-at-lt-HEADER.false none (omega arith) in
    sym (excerpt_stops a.limits a.count a.s.now a.place 2 (omega (arith, c.if-count-eq0.false)) (omega arith) (there ∙ rw c.if-gone-ne0.false))

pub returns-in-Ok : goal.returns-in-Ok
returns-in-Ok c =
    let a = c.args in
    let sum = c.in-Ok.sum in
    let six : a.place.at + 6 * a.count - a.place.at ≡ 6 * a.count = omega arith in
    let e : events_of false a.limits a.count (take (a.place.at + 6 * a.count - a.place.at) (drop a.place.at a.s.now)) ≡ Ok sum = cc in
    let room : a.place.at + 6 * a.count ≤ length a.s.now = omega (arith, c.if-s-at-2.false, c.if-s-at.false) in
    sym (rw c.if-gone-ne0.false (plain_excerpt a.limits a.s.now a.count a.place.at sum room c.if-at-lt-HEADER.false (rw six at e)))
