-- `advert::put8` meets its contract. A store is the put of one byte, and a byte loses nothing in one.
-- Assumes nothing.
use Rattle.wire.specs.Wire.{digits, digits_be}
use Rattle.wire.proofs.Puts.{put_sets}
use mathlib.Core.Path.{◌≡◌, sym, ap, ◌∙◌}
use Prim.Native.Nat.{ℕ, ◌%◌}
use native.Mathlib.Omega.{arith}
use lib.ListN.{set}
use Rattle.advert.proofs.put8.Goals as goal

pub returns : goal.returns
unfolding digits digits_be
returns c =
    let a : _ = c.args in
    let e : a.v % 256 ≡ a.v = omega arith in
    ap (λ (b : ℕ). set a.s.now a.at b) (sym e)
    ∙ sym (put_sets a.s.now (digits_be 1 a.v) a.at (omega arith))
