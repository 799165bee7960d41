-- Field by field; the ceiling at a depth fits its 64 bits.
-- Assumes nothing.
use mathlib.Core.Path.{refl, ap, ◌∙◌}
use lib.IntN.{ℤ}
use mir.Syntax.{w64}
use mir.Val.{to_z, of_z}
use mir.Facts.{to_z-of_z}
use native.Mathlib.Omega.{arith}
use Rattle.plain.proofs.Ceiling.{ceiling_fits}
use Rattle.summary.specs.Plain.{signed_from}
use Rattle.summary.proofs.Paper.{signed_eq}
use Rattle.summary.proofs.signed.Goals as goal

pub returns : goal.returns
returns c =
    let p = c.args.p in
    signed_eq _ (signed_from p) refl refl refl refl
    (ap (λ (z : ℤ). to_z w64 (of_z w64 z)) c.ceiling_of-ceiling.ensures ∙ to_z-of_z {w = w64} (record { sfits = ceiling_fits p.limits.hi p.depth (omega arith) (omega arith) })) refl
