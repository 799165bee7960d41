-- The parts are those of the row from the block on; a row of good parts is passed (`rows_passed`).
-- Assumes nothing.
use Rattle.std.proofs.Common.{◌≡◌, ℕ, ◌+◌, ◌-◌, ◌*◌, ◌≤◌, sym, ◌∙◌, arith}
use Rattle.decide.specs.Test.{Holds}
use Rattle.shaper.specs.declared.Limits.{Limits}
use Rattle.shaper.specs.Limits.{limits_ok, most_events}
use Rattle.tally.specs.Part.{Lanes}
use Rattle.tally.proofs.Laws.{within_more}
use Rattle.tally.proofs.Applied.{lanes_fit, all_good, over_applied}
use Rattle.account.specs.Lanes.{part_of}
use Rattle.account.proofs.Made.{rows_passed}
use Rattle.account.proofs.block.Goals as goal

-- what the settings' range says of the numbers that the block reader takes from them
ranges : (l : Limits) → Holds (limits_ok l) → (l.lo ≤ l.hi) × (16 ≤ l.mtu) × (l.hi - l.lo ≤ 1048576) × (l.mtu - 16 ≤ 9200) × (l.mtu - 16 + 16 ≡ l.mtu)
ranges l ok = omega arith

pub overflow_sub-rise : goal.overflow_sub-rise
overflow_sub-rise c = (ranges c.args.limits c.requires.1.sound.0).0

pub overflow_sub-limits : goal.overflow_sub-limits
overflow_sub-limits c = (ranges c.args.limits c.requires.1.sound.0).1

pub parts-made-requires : goal.parts-made-requires
parts-made-requires c =
    let r = ranges c.args.limits c.requires.1.sound.0 in
    (c.requires.0, r.2, r.3)

pub over-t-requires : goal.over-t-requires
over-t-requires c =
    let a = c.args in
    let p = c.requires.1 in
    (within_more a.n most_events a.start p.few p.within, lanes_fit _ c.parts-made.result _ (ranges a.limits p.sound.0).2 c.parts-made.ensures, (ranges a.limits p.sound.0).2)

pub returns : goal.returns
returns c =
    let a = c.args in
    let pre = c.requires in
    let bytes = λ (j : ℕ). (c.type_inv.s j).fits in
    let l = a.limits in
    let whole = (ranges l pre.1.sound.0).4 in
    let side : Lanes (l.hi - l.lo) c.parts-made.result (λ j. part_of (l.hi - l.lo) l.mtu a.s.now (a.from + 48 * j) 8) 8 = rw whole at c.parts-made.ensures in
    record { good_value = side.good; steady = λ g. rw (c.over-t.ensures, over_applied (l.hi - l.lo) a.start c.parts-made.result _ side (ranges l pre.1.sound.0).2 (within_more a.n most_events a.start pre.1.few pre.1.within)) (rows_passed l a.s.now bytes a.from a.n a.start pre.1 pre.3 8 pre.2 pre.0 (all_good _ 8 (sym side.good ∙ g))) }
