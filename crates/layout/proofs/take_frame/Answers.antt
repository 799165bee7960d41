-- `layout::take_frame` meets its contract, origin by origin.
-- Assumes nothing.
use Prim.Native.Nat.{ℕ}
use mathlib.Core.Path.{sym, ap, ◌∙◌}
use borrow.Author.Rules.{rules}
use borrow.Author.Tests.{ne_eqb}
use Rattle.layout.specs.Layout.{taken_from}
use Rattle.layout.proofs.take_frame.Goals as goal

pub returns-in-1 : goal.returns-in-1
returns-in-1 c =
    (rw c.place.ensures at c.take.ensures) ∙ sym (ap (λ (n : ℕ). taken_from n c.args.s.now) c.in-1.is)

pub returns-in_default : goal.returns-in_default
returns-in_default c =
    let n : ℕ = c.args.origin in
    rw (ne_eqb n 1 (search rules), ne_eqb n 2 (search rules), ne_eqb n 3 (search rules))
