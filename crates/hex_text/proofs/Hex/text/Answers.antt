-- What is left of the chunk, read from here, gives what the whole chunk gives from the start.
-- Assumes nothing.
use mathlib.Core.Path.{refl, sym, ◌∙◌}
use native.Mathlib.Omega.{arith}
use lib.Seq.{length-take-le}
use Rattle.hex_text.proofs.Rows.{text_end}
use Rattle.hex_text.proofs.Hex.text.Goals as goal

pub loop-i-init : goal.loop-i-init
loop-i-init c = (omega arith, (refl, refl))

pub slice_bounds-decode-end : goal.slice_bounds-decode-end
slice_bounds-decode-end c = omega arith

pub decode-part-requires : goal.decode-part-requires
decode-part-requires c = (c.codes-codes.ensures, (c.loop-i-test.true, omega arith))

pub slice_bounds-room-end : goal.slice_bounds-room-end
slice_bounds-room-end c = c.decode-part.ensures.fits

pub slice_bounds-feed-end : goal.slice_bounds-feed-end
slice_bounds-feed-end c = sym (length-take-le _ _ c.decode-part.ensures.fits)

pub loop-i-smaller : goal.loop-i-smaller
loop-i-smaller c = omega arith

pub loop-i-preserved : goal.loop-i-preserved
loop-i-preserved c =
    let at = c.loop-i in
    let part = c.decode-part.ensures in
    (part.within, (rw c.feed-feed.ensures (part.same at.next.feed ∙ at.invariant.1.0), part.size ∙ at.invariant.1.1))

pub returns : goal.returns
returns c =
    let at = c.loop-i in
    sym (text_end at.next c.args.chunk.now at.i (omega arith)) ∙ at.invariant.1.0
