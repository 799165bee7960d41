-- The blocks halved so far, until they are one.
-- Assumes nothing.
use native.Mathlib.Omega.{arith}
use borrow.Author.Rules.{rules}
use Rattle.stretch.proofs.Parting.{halving_start, halving_step, halving_falls, halving_block, halving_size, halving_end}
use Rattle.stretch.proofs.parts.parted_at.Goals as goal

pub loop-a-init : goal.loop-a-init
loop-a-init c = halving_start c.requires.0

pub overflow_mul-h : goal.overflow_mul-h
overflow_mul-h c = omega (arith, halving_size c.loop-a.invariant)

pub loop-a-smaller : goal.loop-a-smaller
loop-a-smaller c = halving_falls c.loop-a.invariant

pub loop-a-preserved : goal.loop-a-preserved
loop-a-preserved c = halving_step c.loop-a.invariant (search rules)

pub overflow_mul-result : goal.overflow_mul-result
overflow_mul-result c = omega (arith, halving_block c.loop-a.invariant)

pub returns : goal.returns
returns c = halving_end c.loop-a.invariant (search rules)
