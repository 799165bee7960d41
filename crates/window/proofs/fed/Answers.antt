-- Equal chunks behind equal ones are a row, and all others the other.
-- Assumes nothing.
use mathlib.Core.Bool.{false, ◌&&◌}
use mathlib.Core.Path.{◌≡◌, sym, ◌∙◌}
use Rattle.window.specs.Both.{alike_of}
use Rattle.window.proofs.Chunks.{fed_same, fed_other}
use Rattle.window.proofs.fed.Goals.{then-same+else-alike, else-same}
use Rattle.window.proofs.fed.Goals as goal

pub returns-then-alike : goal.returns-then-alike
returns-then-alike c =
    let a = c.args in
    rw (fed_same a.before a.first.now a.second.now c.if-same.true (sym c.alike.ensures ∙ c.if-alike.true), c.feed-one.ensures)

pub returns : goal.returns
returns c =
    let a = c.args in
    let o : (a.before.same && alike_of a.first.now a.second.now) ≡ false =
    elim c.if-same.branch [
      | then-same+else-alike w ↦ rw w.if-same.true (sym w.alike.ensures ∙ w.if-alike.false)
      | else-same w ↦ rw w.if-same.false
    ] in
    rw (fed_other a.before a.first.now a.second.now o, c.feed-one.ensures, c.feed-two.ensures)
