-- A product of two numbers within their bounds is within the product of the bounds.
-- Assumes nothing.
use Rattle.std.proofs.Common.{ℕ, ◌*◌, ◌≤◌, refl, mul-le-mul, arith}
use Rattle.shaper.specs.Limits.{most_amount, most_events}
use Rattle.account.proofs.brought.Goals as goal

bound : (number count : ℕ) → number ≤ most_amount → count ≤ most_events → count * number ≤ most_amount * most_events
bound number count h k = let b = mul-le-mul k h in omega arith

pub overflow_mul-result : goal.overflow_mul-result
overflow_mul-result c = record { fits = omega (arith, bound c.args.number c.args.count c.requires.0 c.requires.1) }

pub returns : goal.returns
returns c = (refl, bound c.args.number c.args.count c.requires.0 c.requires.1)
