-- `layout::push_frame` meets its contract. Numbers cut to 32 bits have the same bytes in a queue: `low_pushed`.
-- Assumes nothing.
use mathlib.Core.Path.{ap, ◌∙◌}
use native.Mathlib.Omega.{arith}
use Rattle.wire.specs.Wire.{put}
use Rattle.slots.specs.Slots.{queue_at}
use Rattle.layout.specs.Layout.{place_of}
use Rattle.layout.proofs.Anew.{place_within, low_pushed}
use Rattle.layout.proofs.push_frame.Goals as goal

pub push-requires : goal.push-requires
push-requires c =
    omega (arith, c.place.ensures, place_within c.args.line, c.requires)

pub returns : goal.returns
returns c =
    let a : _ = c.args in
    (rw (c.place.ensures, c.low-4.ensures, c.low-3.ensures, c.low-2.ensures, c.low.ensures) at c.push.ensures)
    ∙ ap (put a.s.now (place_of a.line)) (low_pushed (queue_at a.s.now (place_of a.line)) a.class a.size a.hops a.mark)
