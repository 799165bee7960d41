-- `slots::push` meets its contract. Bytes held and count are cut to their bytes, which leaves the bytes: `pushed_bytes`.
-- Assumes nothing.
use Prim.Native.Nat.{ℕ}
use mathlib.Core.List.{List}
use mathlib.Core.Path.{ap, ◌∙◌}
use Rattle.wire.specs.Wire.{put}
use Rattle.slots.specs.Slots.{queue_at}
use Rattle.slots.proofs.Anew.{pushed_bytes}
use Rattle.slots.proofs.push.Goals as goal

pub returns : goal.returns
returns c =
    let a : _ = c.args in
    (rw (c.word.ensures, c.read-q.ensures) at c.write_slot.ensures)
    ∙ ap (λ (l : List ℕ). put a.s.now a.at l) (pushed_bytes (queue_at a.s.now a.at) a.f)
