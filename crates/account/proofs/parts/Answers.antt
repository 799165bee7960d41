-- The loop keeps: the parts so far stand side by side.
-- Assumes nothing.
use Rattle.std.proofs.Common.{◌≡◌, ℕ, ◌+◌, ◌*◌, ◌≤◌, refl, arith, length-set, rules}
use Rattle.tally.proofs.Applied.{lanes_none, lanes_more}
use Rattle.account.specs.Lanes.{part_of}
use Rattle.account.proofs.Made.{part_within}
use Rattle.account.proofs.parts.Goals as goal

pub loop-i-init : goal.loop-i-init
loop-i-init c = (omega arith, refl, refl, refl, omega arith, lanes_none _ _ _ refl refl)

pub overflow_add-total : goal.overflow_add-total
overflow_add-total c =
    let a = c.args in
    let L = c.loop-i in
    let bytes = λ (j : ℕ). (c.type_inv.s j).fits in
    let w = part_within a.rise (a.span + 16) a.s.now (a.from + 48 * L.i) 8 c.requires.1 bytes (omega arith) in
    let few : c.eight-p.result.total ≤ 524280 = rw c.eight-p.ensures w.total_max in
    search rules

pub loop-i-preserved : goal.loop-i-preserved
loop-i-preserved c =
    let a = c.args in
    let L = c.loop-i in
    let bytes = λ (j : ℕ). (c.type_inv.s j).fits in
    let h = c.loop-i-test.true in
    let e = c.eight-p.ensures in
    let w = part_within a.rise (a.span + 16) a.s.now (a.from + 48 * L.i) 8 c.requires.1 bytes (omega arith) in
    let few : c.eight-p.result.total ≤ 524280 = rw e w.total_max in (
      omega arith,
      simp length-set L.invariant.1,
      simp length-set L.invariant.2,
      simp length-set L.invariant.3,
      omega (arith, few, L.invariant.4),
      lanes_more _ _ (λ (j : ℕ). part_of a.rise (a.span + 16) a.s.now (a.from + 48 * j) 8) L.i c.eight-p.result L.invariant.5 h L.invariant.1 L.invariant.2 L.invariant.3 e w,
    )

pub returns : goal.returns
returns c =
    let L = c.loop-i in
    let all : L.i ≡ 8 = omega arith in
    rw all at L.invariant.5
