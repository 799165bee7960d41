-- The flow that a selection leaves.
-- Assumes nothing.
use Rattle.std.specs.Prelude.{ℕ, cond, eqb}
use Rattle.queue.specs.Queue.{taken}
use Rattle.credits.specs.declared.Credits.{Credits}
use Rattle.flow.specs.declared.Flow.{Flow}
use Rattle.flow.specs.declared.Line.{Line}
use Rattle.flow.specs.declared.Line.TheVariants.{Control, Primary, Secondary}
use Rattle.flow.specs.Parts.{queue_of, with_credits, with_stage, with_queue}

-- The chosen frame leaves its queue.
abbrev pub without_first : Flow → Line → Flow
without_first f l = with_queue f l (taken (queue_of f l))

-- the same of the queue that an origin names: 1 control, 2 primary, 3 secondary; no other names one
abbrev pub without_named : Flow → ℕ → Flow
without_named f origin =
    cond (eqb origin 1) (without_first f Control) (cond (eqb origin 2) (without_first f Primary) (cond (eqb origin 3) (without_first f Secondary) f))

-- and with these credits and this stage
abbrev pub left_of : Flow → ℕ → Credits → ℕ → Flow
left_of f origin c w = with_stage (with_credits (without_named f origin) c) w
