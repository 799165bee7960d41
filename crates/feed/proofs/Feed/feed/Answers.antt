-- What is left of the chunk, fed from here, gives what the whole chunk gives from the start.
-- Assumes nothing.
use Prim.Native.Nat.{◌+◌, ◌-◌}
use mathlib.Core.Path.{refl, sym, ap, ◌∙◌}
use native.Mathlib.Omega.{arith}
use lib.ListN.{length, drop, length-drop}
use lib.Seq.{take_all}
use Rattle.feed.specs.Feed.{fed_of}
use Rattle.feed.proofs.Rows.{fed_next, fed_end}
use Rattle.feed.proofs.Feed.feed.Goals as goal

pub loop-i-init : goal.loop-i-init
loop-i-init c = refl

pub returns-then-is_between : goal.returns-then-is_between
returns-then-is_between c =
    let at = c.loop-i in
    let xs = c.args.chunk.now in
    c.items.ensures ∙ ap (fed_of at.next) (take_all (length xs - at.i) (drop at.i xs) (omega (arith, length-drop at.i xs))) ∙ at.invariant

pub loop-i-preserved : goal.loop-i-preserved
loop-i-preserved c =
    let xs = c.args.chunk.now in
    let at = c.loop-i in
    ap (λ f. fed_of f (drop (at.i + 1) xs)) c.byte-next.ensures ∙ sym (fed_next at.next xs at.i (omega arith)) ∙ at.invariant

pub returns : goal.returns
returns c =
    let at = c.loop-i in
    sym (fed_end at.next c.args.chunk.now at.i (omega arith)) ∙ at.invariant
