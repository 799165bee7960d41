-- The loop keeps: the part of the events so far, within the bounds of so many.
-- Assumes nothing.
use Rattle.std.proofs.Common.{◌≡◌, ℕ, ◌+◌, ◌*◌, ap, ◌∙◌, add-one, arith}
use Rattle.tally.specs.declared.Part.{Part}
use Rattle.tally.proofs.Applied.{none_within, within_roomy}
use Rattle.account.specs.Lanes.{part_after, part_of}
use Rattle.account.proofs.Made.{after_within}
use Rattle.account.proofs.eight.Goals as goal

pub loop-i-init : goal.loop-i-init
unfolding part_of
loop-i-init c = (omega arith, rw c.none-p.ensures (none_within c.args.rise), c.none-p.ensures)

pub event-p-requires : goal.event-p-requires
event-p-requires c =
    let L = c.loop-i in
    let pre = c.requires in
    let h = c.loop-i-test.true in
    (within_roomy _ L.i L.p h pre.1 L.invariant.1, omega arith, pre.1, pre.2)

pub loop-i-preserved : goal.loop-i-preserved
unfolding part_of
loop-i-preserved c =
    let L = c.loop-i in
    let a = c.args in
    let bytes = λ (j : ℕ). (c.type_inv.s j).fits in
    let xs = a.s.now in
    let h = c.loop-i-test.true in
    let e = c.event-p.ensures in
    let at = a.from + 6 * L.i in (
      omega arith,
      rw e (after_within a.rise (a.span + 16) xs at L.i L.p c.requires.1 bytes h L.invariant.1),
      rw (add-one L.i) (e ∙ ap (λ (p : Part). part_after a.rise (a.span + 16) xs at p) L.invariant.2),
    )

pub returns : goal.returns
returns c =
    let L = c.loop-i in
    let all : L.i ≡ 8 = omega arith in
    rw all at L.invariant.2
