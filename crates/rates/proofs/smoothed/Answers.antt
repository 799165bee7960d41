-- `rates::smoothed` meets its contract. A part is at most what was stored, so the difference is no less than 0, and the sum is at most the one that must fit.
-- Assumes nothing.
use mathlib.Core.Path.{◌≡◌}
use Prim.Native.Nat.{ℕ}
use native.Mathlib.Omega.{arith}
use Rattle.rates.specs.Rates.{part_of, smoothed_of, shown_of}
use Rattle.rates.proofs.Bounds.{part_le}
use Rattle.rates.proofs.smoothed.Goals as goal

part_shown : (stored coef shown : ℕ) → shown ≡ shown_of coef stored → shown ≡ part_of stored coef
unfolding shown_of
part_shown stored coef shown e = e

pub overflow_sub-result : goal.overflow_sub-result
overflow_sub-result c = omega (arith, part_shown c.args.stored c.args.coef c.shown.result c.shown.ensures, part_le c.args.stored c.args.coef)

pub returns : goal.returns
unfolding smoothed_of
returns c = rw (part_shown c.args.stored c.args.coef c.shown.result c.shown.ensures)
