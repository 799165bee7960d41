-- Each refusal by its row; the ceiling at the depth of the size.
-- Assumes nothing.
use Rattle.std.specs.Prelude.{Ok}
use Prim.Native.Nat.{◌+◌}
use mathlib.Core.Bool.{false}
use mathlib.Core.Path.{sym, ap, ◌∙◌}
use native.Mathlib.Omega.{arith}
use lib.IntN.{ℤ}
use mir.Facts.{to_z-of_z}
use mir.Syntax.{w64}
use mir.Val.{to_z, of_z}
use Rattle.decide.specs.Test.{passes, decided}
use Rattle.shaper.specs.declared.Event.TheVariants.{Send}
use Rattle.shaper.specs.Credit.{event_ok}
use Rattle.plain.proofs.Ceiling.{ceiling_fits}
use Rattle.summary.proofs.Integers.{pos_less}
use Rattle.summary.proofs.Rows.{single_1, single_3, single_made}
use Rattle.summary.proofs.Summary.send.Goals as goal

pub returns-then-not-in_range : goal.returns-then-not-in_range
returns-then-not-in_range c = sym (single_1 _ _ (sym c.in_range.ensures ∙ c.if-not-in_range.true))

pub returns-then-size-lt-MIN_SIZE : goal.returns-then-size-lt-MIN_SIZE
returns-then-size-lt-MIN_SIZE c = sym (single_3 _ _ (sym c.in_range.ensures ∙ c.if-not-in_range.false) (sym (decided (event_ok c.args.limits (Send _)) false (λ h. omega arith))))

pub returns-then-limits-size : goal.returns-then-limits-size
returns-then-limits-size c = sym (single_3 _ _ (sym c.in_range.ensures ∙ c.if-not-in_range.false) (sym (decided (event_ok c.args.limits (Send _)) false (λ h. omega arith))))

pub returns : goal.returns
returns c =
    let l = c.args.limits in
    let z = c.args.size in
    ap (λ (x : ℤ). Ok (record { limits = l; events = 1; accrued = 0; sent = z; ceiling = x; need = l.lo + 1 }))
    (ap (λ (x : ℤ). to_z w64 (of_z w64 x)) c.ceiling_of-ceiling.ensures
    ∙ to_z-of_z {w = w64} (record { sfits = ceiling_fits l.hi z (omega arith) (omega arith) })
    ∙ sym (pos_less l.hi z))
    ∙ sym (single_made _ _ (sym c.in_range.ensures ∙ c.if-not-in_range.false) (passes (event_ok l (Send z)) (omega arith)))
