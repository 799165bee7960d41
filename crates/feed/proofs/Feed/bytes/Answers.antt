-- What is left of the chunk, fed from here, gives what the whole chunk gives from the start.
-- Assumes nothing.
use Prim.Native.Nat.{◌+◌}
use mathlib.Core.Path.{refl, sym, ap, ◌∙◌}
use native.Mathlib.Omega.{arith}
use lib.ListN.{drop}
use Rattle.feed.specs.Feed.{fed_of}
use Rattle.feed.proofs.Rows.{fed_next, fed_end}
use Rattle.feed.proofs.Feed.bytes.Goals as goal

pub loop-b-init : goal.loop-b-init
loop-b-init c = refl

pub loop-b-preserved : goal.loop-b-preserved
loop-b-preserved c =
    let xs = c.args.chunk.now in
    let at = c.loop-b in
    ap (λ f. fed_of f (drop (at.b-index + 1) xs)) c.byte-next.ensures ∙ sym (fed_next at.next xs at.b-index (omega arith)) ∙ at.invariant

pub returns : goal.returns
returns c =
    let at = c.loop-b in
    sym (fed_end at.next c.args.chunk.now at.b-index (omega arith)) ∙ at.invariant
