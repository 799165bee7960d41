-- The number that stands for `n` tells its sign.
-- Assumes nothing.
use mathlib.Core.Path.{◌≡◌, ap, ◌∙◌}
use mathlib.Core.List.{◌++◌}
use Prim.Native.Nat.{ℕ, ◌+◌, ◌-◌, ◌<◌, ◌≤◌}
use native.Mathlib.Omega.{arith}
use mir.Facts.{to_z-of_z}
use mir.Syntax.{w64}
use mir.Val.{SFits, to_z, of_z}
use lib.IntN.{ℤ}
use lib.ListN.{length}
use Rattle.wire.specs.Signed.{unsigned_of}
use Rattle.report.specs.Text.{ascii, numeral, signed_numeral}
use Rattle.report.proofs.Numeral.{signed_numeral_low, signed_numeral_high}
use Rattle.report.proofs.Filled.{filled_more}
use Rattle.report.proofs.put_signed.Goals as goal

stands : (z : ℤ) (u : ℕ) → SFits w64 z → u ≡ unsigned_of (to_z w64 (of_z w64 z)) → u ≡ unsigned_of z
stands z u f e = e ∙ ap unsigned_of (to_z-of_z f)

low : (z : ℤ) (u : ℕ) → SFits w64 z → u ≡ unsigned_of (to_z w64 (of_z w64 z)) → u < 9223372036854775808 → signed_numeral z ≡ numeral u
low z u f e h = signed_numeral_low z f.sfits u (stands z u f e) h

high : (z : ℤ) (u : ℕ) → SFits w64 z → u ≡ unsigned_of (to_z w64 (of_z w64 z)) → 9223372036854775808 ≤ u →
    signed_numeral z ≡ ascii "-" ++ numeral (18446744073709551615 - u + 1)
high z u f e h = signed_numeral_high z f.sfits u (stands z u f e) h

longer : (z : ℤ) (u : ℕ) → SFits w64 z → u ≡ unsigned_of (to_z w64 (of_z w64 z)) → 9223372036854775808 ≤ u →
    length (signed_numeral z) ≡ length (numeral (18446744073709551615 - u + 1)) + 1
longer z u f e h = ap length (high z u f e h) ∙ omega arith

pub put_numeral-requires : goal.put_numeral-requires
put_numeral-requires c =
    omega (arith, ap length (low c.args.n c.unsigned64-bits.result c.ranges.n c.unsigned64-bits.ensures c.if-bits-lt9223372036854775808.true))

pub returns-then-bits-lt9223372036854775808 : goal.returns-then-bits-lt9223372036854775808
returns-then-bits-lt9223372036854775808 c =
    let e = low c.args.n c.unsigned64-bits.result c.ranges.n c.unsigned64-bits.ensures c.if-bits-lt9223372036854775808.true in
    record { value = rw e c.put_numeral.ensures.value; s_after = rw e c.put_numeral.ensures.s_after }

pub put_words-next-requires : goal.put_words-next-requires
put_words-next-requires c =
    omega (arith, longer c.args.n c.unsigned64-bits.result c.ranges.n c.unsigned64-bits.ensures c.if-bits-lt9223372036854775808.false)

pub put_numeral-requires-2 : goal.put_numeral-requires-2
put_numeral-requires-2 c =
    omega (arith, longer c.args.n c.unsigned64-bits.result c.ranges.n c.unsigned64-bits.ensures c.if-bits-lt9223372036854775808.false)

pub returns : goal.returns
returns c =
    let e = high c.args.n c.unsigned64-bits.result c.ranges.n c.unsigned64-bits.ensures c.if-bits-lt9223372036854775808.false in
    let l = longer c.args.n c.unsigned64-bits.result c.ranges.n c.unsigned64-bits.ensures c.if-bits-lt9223372036854775808.false in
    let a = c.put_words-next.ensures in
    let b = c.put_numeral-2.ensures in
    let f = filled_more _ _ _ _ _ _ _ _ (a.value, a.s_after) (b.value, b.s_after) (omega (arith, l)) in
    record { value = rw e f.0; s_after = rw e f.1 }
