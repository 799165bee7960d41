-- The lines of the first k turns stand already; each turn writes the next behind them, and none is longer than 88 bytes.
-- Assumes nothing.
use mathlib.Core.Path.{◌≡◌, refl, sym, ap, ◌∙◌}
use Prim.Native.Nat.{◌+◌, ◌-◌, ◌≤◌}
use native.Mathlib.Omega.{arith}
use lib.ListN.{length}
use Rattle.wire.specs.Wire.{Bytes}
use Rattle.wire.proofs.Puts.{put_nil}
use Rattle.record.specs.Items.{most_of_run}
use Rattle.report.proofs.Filled.{filled_more}
use Rattle.apart.specs.Turn.{turn_of, line_text}
use Rattle.apart.specs.Page.{walk_of, walk_text}
use Rattle.apart.proofs.Turns.{turn_short, turn_near}
use Rattle.apart.proofs.Walked.{walk_none, walk_more, text_more, stays, silent}
use Rattle.apart.proofs.walk_on.Goals as goal

pub loop-k-init : goal.loop-k-init
loop-k-init c =
    let a = c.args in
    let none = walk_none a.a a.b a.first.now a.second.now a.walk in
    (omega arith, refl, omega arith, omega arith, sym none.0, rw none.1 (omega arith, sym (put_nil _ _)))

pub returns-then-turn : goal.returns-then-turn
returns-then-turn c =
    let a = c.args in
    let l = c.loop-k in
    let turned : c.turn-turn.result ≡ turn_of a.a a.b a.first.now a.second.now (walk_of l._k a.a a.b a.first.now a.second.now a.walk)
    = rw (← l.invariant.4) c.turn-turn.ensures in
    let all : l._k + (a.most - l._k) ≡ a.most = omega arith in
    let stops = ap (λ t. t.stops) (sym turned) ∙ c.if-turn.true in
    let same = ap (λ m. walk_of m a.a a.b a.first.now a.second.now a.walk) (sym all) ∙ stays a.a a.b a.first.now a.second.now l._k a.walk stops (a.most - l._k) ∙ sym l.invariant.4 in
    let text = ap (λ m. walk_text m a.a a.b a.first.now a.second.now a.walk) (sym all) ∙ silent a.a a.b a.first.now a.second.now l._k a.walk stops (a.most - l._k) in
    record {
      value = rw (same, text, ← l.invariant.5.0) refl;
      end_bound = omega arith;
      room_after = rw text l.invariant.5.1;
    }

pub put_line-end-requires : goal.put_line-end-requires
put_line-end-requires c =
    let a = c.args in
    let l = c.loop-k in
    let bytes : Bytes a.first.now = λ j. (c.type_inv.first j).fits in
    let others : Bytes a.second.now = λ j. (c.type_inv.second j).fits in
    let short : length (line_text l.now.position c.turn-turn.result.line) ≤ 88
    = rw c.turn-turn.ensures (turn_short a.a a.b a.first.now a.second.now l.now bytes others (omega arith)) in
    omega (arith, short)

pub loop-k-preserved : goal.loop-k-preserved
loop-k-preserved c =
    let a = c.args in
    let l = c.loop-k in
    let bytes : Bytes a.first.now = λ j. (c.type_inv.first j).fits in
    let others : Bytes a.second.now = λ j. (c.type_inv.second j).fits in
    let short : length (line_text l.now.position c.turn-turn.result.line) ≤ 88
    = rw c.turn-turn.ensures (turn_short a.a a.b a.first.now a.second.now l.now bytes others (omega arith)) in
    let near : c.turn-turn.result.walk.position ≤ l.now.position + most_of_run
    = rw c.turn-turn.ensures (turn_near a.a a.b a.first.now a.second.now l.now bytes others) in
    let turned : c.turn-turn.result ≡ turn_of a.a a.b a.first.now a.second.now (walk_of l._k a.a a.b a.first.now a.second.now a.walk)
    = rw (← l.invariant.4) c.turn-turn.ensures in
    let call = c.put_line-end.ensures in
    let more = text_more a.a a.b a.first.now a.second.now l._k a.walk in
    let line = ap (λ x. line_text x.position c.turn-turn.result.line) l.invariant.4 ∙ ap (λ x. line_text (walk_of l._k a.a a.b a.first.now a.second.now a.walk).position x.line) turned in (
      omega arith,
      omega arith,
      omega (arith, near),
      omega (arith, short, call.value),
      ap (λ x. x.walk) turned ∙ sym (walk_more a.a a.b a.first.now a.second.now l._k a.walk),
      rw (more, ← line) (filled_more _ _ _ _ _ _ _ _ l.invariant.5 (call.value, call.s_after) (omega (arith, short, call.value))),
    )
