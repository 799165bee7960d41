-- The quick way first, and then turn by turn: `page_made`.
-- Assumes nothing.
use mathlib.Core.Path.{◌≡◌}
use Prim.Native.Nat.{◌+◌, ◌-◌, ◌*◌, ◌≤◌}
use native.Mathlib.Omega.{arith}
use Rattle.apart.specs.Page.{most_turns}
use Rattle.apart.proofs.Walked.{page_made}
use Rattle.apart.proofs.page.Goals as goal

pub returns : goal.returns
returns c =
    let a = c.args in
    let g = c.events-begun in
    let call = c.walk_on.ensures in
    let left : c.less-left.result ≡ most_turns - g.result.turns = c.less-left.ensures in
    let end : c.walk_on.result.end ≤ g.result.end + 88 * c.less-left.result = call.end_bound in
    let f = page_made a.a a.b a.first.now a.second.now a.walk g.result g.ensures.begins _ _ _ _ _ g.ensures.room_after left call.value call.room_after
    (omega (arith, left, end, g.ensures.begins.short, g.ensures.begins.few, c.requires.1)) in
    record { value = f.0; room_after = f.1 }
