-- The lines of the first k pairs of events stand already; each turn writes the next behind them: `event_turn`.
-- Assumes nothing.
use mathlib.Core.Bool.{Bool, true, false, ◌&&◌, true≢false}
use mathlib.Core.Path.{◌≡◌, refl, sym, ap, ◌∙◌}
use Prim.Native.Nat.{◌+◌}
use native.Mathlib.Omega.{arith}
use lib.ListN.{length}
use Rattle.wire.specs.Wire.{Bytes}
use Rattle.wire.proofs.Puts.{put_nil}
use Rattle.record.proofs.Fields.{good_facts}
use Rattle.report.proofs.Filled.{filled_more}
use Rattle.apart.specs.Turn.{turn_of, line_text, line_if}
use Rattle.apart.specs.Page.{passed_of}
use Rattle.apart.proofs.Walked.{walk_none, walk_more, text_more}
use Rattle.apart.proofs.Turns.{turn_short}
use Rattle.apart.proofs.Quick.{level_few, level_fits, passed_none, passed_next, event_turn}
use Rattle.apart.proofs.events.Goals as goal

-- where the test is passed both are events
yes : (x y : Bool) → (x && y) ≡ true → (x ≡ true) × (y ≡ true)
yes true true e = (refl, refl)
yes true false e = absurd (true≢false (sym e))
yes false y e = absurd (true≢false (sym e))

pub loop-k-init : goal.loop-k-init
loop-k-init c =
    let a = c.args in
    let none = walk_none a.a a.b a.first.now a.second.now a.walk in
    let few = level_few a.first.now a.second.now a.walk.first a.walk.second in
    (omega arith, omega (arith, c.level-most.ensures), level_fits a.first.now a.second.now a.walk.first a.walk.second _ c.level-most.ensures, refl, refl, refl, omega arith, passed_none a.walk ∙ sym none.0, rw none.1 (omega arith, sym (put_nil _ _)))

pub put_if-end-requires : goal.put_if-end-requires
put_if-end-requires c =
    let a = c.args in
    let l = c.loop-k in
    let o = l.invariant.2 (omega arith) in
    let h = yes _ _ c.if-not-is_event.false in
    let t = event_turn a.a a.b a.first.now a.second.now (passed_of a.walk l.k) o.whole o.other_whole (omega (arith, o.fits)) (omega (arith, o.other_fits))
    (good_facts _ _ _ _ (sym c.is_event.ensures ∙ h.0))
    (good_facts _ _ _ _ (sym c.is_event-in-loop-k.ensures ∙ h.1)) in
    let bytes : Bytes a.first.now = λ j. (c.type_inv.first j).fits in
    let others : Bytes a.second.now = λ j. (c.type_inv.second j).fits in
    let short = turn_short a.a a.b a.first.now a.second.now (passed_of a.walk l.k) bytes others (omega arith) in
    let lined : line_if (a.walk.position + l.k) c.event_in-e.result c.event_in-f.result
    ≡ line_text (a.walk.position + l.k) (turn_of a.a a.b a.first.now a.second.now (passed_of a.walk l.k)).line
    = rw (c.event_in-e.ensures, c.event_in-f.ensures) (sym t.1) in
    omega (arith, ap length lined, short, l.invariant.8.0)

pub loop-k-preserved : goal.loop-k-preserved
loop-k-preserved c =
    let a = c.args in
    let l = c.loop-k in
    let o = l.invariant.2 (omega arith) in
    let h = yes _ _ c.if-not-is_event.false in
    let t = event_turn a.a a.b a.first.now a.second.now (passed_of a.walk l.k) o.whole o.other_whole (omega (arith, o.fits)) (omega (arith, o.other_fits))
    (good_facts _ _ _ _ (sym c.is_event.ensures ∙ h.0))
    (good_facts _ _ _ _ (sym c.is_event-in-loop-k.ensures ∙ h.1)) in
    let bytes : Bytes a.first.now = λ j. (c.type_inv.first j).fits in
    let others : Bytes a.second.now = λ j. (c.type_inv.second j).fits in
    let short = turn_short a.a a.b a.first.now a.second.now (passed_of a.walk l.k) bytes others (omega arith) in
    let lined : line_if (a.walk.position + l.k) c.event_in-e.result c.event_in-f.result
    ≡ line_text (a.walk.position + l.k) (turn_of a.a a.b a.first.now a.second.now (passed_of a.walk l.k)).line
    = rw (c.event_in-e.ensures, c.event_in-f.ensures) (sym t.1) in
    let same = l.invariant.7 in
    let more = text_more a.a a.b a.first.now a.second.now l.k a.walk in
    let call = c.put_if-end.ensures in
    let size = ap length lined in (
      omega arith,
      l.invariant.1,
      l.invariant.2,
      refl,
      refl,
      omega arith,
      omega (arith, call.value, size, short),
      sym (rw (walk_more a.a a.b a.first.now a.second.now l.k a.walk, ← same) (passed_next a.walk _ l.k o.whole o.other_whole t.0)),
      rw (more, ← same, ← lined) (filled_more _ _ _ _ _ _ _ _ l.invariant.8 (call.value, call.s_after) (omega (arith, call.value, size, short))),
    )
