-- From the first digit on, a turn for each: behind each stand the repeats that the digits so far make.
-- Assumes nothing.
use Prim.Native.Nat.{ℕ, suc, ◌-◌, ◌/◌, ◌%◌, ◌^◌}
use mathlib.Core.Path.{◌≡◌, ap, ◌∙◌}
use native.Mathlib.Nat.{sub-zero, div-one}
use native.Mathlib.Omega.{arith}
use lib.Dec.{eqb}
use lib.Count.{count_leading_zeros, leading_le}
use Rattle.heartbeat.specs.Doubling.{twice_of, doubling, digits_in, doubling_of}
use Rattle.heartbeat.proofs.Doubling.{doubling_joins, doubling_next}
use Rattle.heartbeat.proofs.doubled.Goals as goal

pub overflow_cast-digits : goal.overflow_cast-digits
overflow_cast-digits c = omega (arith, leading_le 64 c.args.repeats)

pub overflow_sub-digits : goal.overflow_sub-digits
overflow_sub-digits c = leading_le 64 c.args.repeats

pub loop-digit-init : goal.loop-digit-init
unfolding digits_in doubling
loop-digit-init c =
    let e : digits_in c.args.repeats - (64 - count_leading_zeros 64 c.args.repeats) ≡ 0 = omega arith in
    (omega arith, rw (e, c.none-all.ensures))

pub overflow_shr-repeats : goal.overflow_shr-repeats
unfolding digits_in
overflow_shr-repeats c = omega (arith, c.loop-digit.invariant.0)

pub twice-all-requires : goal.twice-all-requires
unfolding digits_in
twice-all-requires c =
    let L = c.loop-digit in
    let a = c.args in
    let k = digits_in a.repeats - L.digit in
    rw L.invariant.1 (omega (arith, doubling_joins k a.one (a.repeats / 2 ^ L.digit)))

pub loop-digit-preserved : goal.loop-digit-preserved
loop-digit-preserved c =
    let L = c.loop-digit in
    let a = c.args in
    let k = digits_in a.repeats in
    let d : ℕ = L.digit - 1 in
    let e : L.digit ≡ suc d = omega arith in (
      omega (arith, L.invariant.0),
      c.twice-all.ensures
          ∙ ap (twice_of (eqb (a.repeats / 2 ^ d % 2) 1) a.one) (L.invariant.1 ∙ ap (λ (n : ℕ). doubling (k - n) a.one (a.repeats / 2 ^ n)) e)
          ∙ doubling_next a.one a.repeats k d (omega (arith, L.invariant.0)),
    )

pub returns : goal.returns
unfolding doubling_of
returns c =
    let a = c.args in
    let z : c.loop-digit.digit ≡ 0 = omega arith in
    c.loop-digit.invariant.1
    ∙ ap (λ (n : ℕ). doubling (digits_in a.repeats - n) a.one (a.repeats / 2 ^ n)) z
    ∙ rw (sub-zero (digits_in a.repeats), div-one a.repeats)
