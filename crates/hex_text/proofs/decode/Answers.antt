-- Each step leaves the whole as it was, and fills the room by at most one byte for each character.
-- Assumes nothing.
use mathlib.Core.Path.{refl, ◌∙◌}
use native.Mathlib.Omega.{arith}
use Rattle.hex_text.specs.Decoded.{decoded_to}
use Rattle.hex_text.proofs.Steps.{decoded}
use Rattle.hex_text.proofs.decode.Goals as goal

pub loop-at-init : goal.loop-at-init
loop-at-init c = (λ f. refl, (omega arith, (omega arith, (omega arith, refl))))

pub returns-then-room-at : goal.returns-then-room-at
returns-then-room-at c =
    let first = decoded_to c.args.place c.args.from 0 in
    decoded _ c.args.room.now _ first _ c.loop-at.invariant.0 refl (omega arith) (omega arith) (omega arith) (omega arith)

pub step-at-requires : goal.step-at-requires
step-at-requires c = (c.requires.0, (c.loop-at-test.true, c.if-room-at.false))

pub loop-at-smaller : goal.loop-at-smaller
loop-at-smaller c = omega arith

pub loop-at-preserved : goal.loop-at-preserved
loop-at-preserved c =
    let step = c.step-at.ensures in
    (λ f. step.same f ∙ c.loop-at.invariant.0 f, (step.within, (omega arith, (omega arith, omega arith))))

pub returns : goal.returns
returns c =
    let first = decoded_to c.args.place c.args.from 0 in
    decoded _ c.args.room.now _ first _ c.loop-at.invariant.0 refl (omega arith) (omega arith) (omega arith) (omega arith)
