-- Below the index each place has its character's code.
-- Assumes nothing.
use mathlib.Core.Path.{◌≡◌, refl, ap, ◌∙◌}
use native.Mathlib.Omega.{arith}
use lib.ListN.{length-set}
use lib.Seq.{get_or-set_same, get_or-set_other}
use Rattle.decide.proofs.Cases.{by_cases, le_or}
use Rattle.hex_text.specs.Decoded.{code_of}
use Rattle.hex_text.proofs.codes.Goals as goal

pub loop-c-init : goal.loop-c-init
loop-c-init c = (refl, λ k h. absurd (omega arith))

pub loop-c-preserved : goal.loop-c-preserved
loop-c-preserved c =
    let at = c.loop-c in (
      length-set at.codes at.c c.code_of.result ∙ at.invariant.0,
      λ k h.
          by_cases (le_or at.c k)
          (λ p. let e : k ≡ at.c = omega arith in
          rw (e, get_or-set_same at.codes at.c c.code_of.result 0 (omega arith)) (c.code_of.ensures ∙ ap code_of c.glyph_of.ensures))
          (λ p. get_or-set_other at.codes at.c k c.code_of.result 0 (λ q. omega arith) ∙ at.invariant.1 k p),
    )

pub returns : goal.returns
returns c = λ k h. c.loop-c.invariant.1 k (omega arith)
