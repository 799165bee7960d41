-- A number below 10 is one digit (`numeral_one`); any other is the numeral of its tenth, which the call of itself writes, and one digit behind it
-- (`numeral_more`). The number falls.
-- Assumes nothing.
use mathlib.Core.Path.{◌≡◌, ap, ◌∙◌}
use mathlib.Core.List.{[], ◌∷◌}
use Prim.Native.Nat.{ℕ, ◌+◌, ◌≤◌, ◌/◌, ◌%◌}
use native.Mathlib.Omega.{arith}
use lib.ListN.{length, length-append}
use Rattle.report.specs.Text.{digit, numeral}
use Rattle.report.proofs.Numeral.{numeral_one, numeral_more}
use Rattle.report.proofs.Filled.{filled_one, filled_more}
use Rattle.report.proofs.+put_numeral.Goals as goal

longer : (n : ℕ) → 10 ≤ n → length (numeral n) ≡ length (numeral (n / 10)) + 1
longer n h = ap length (numeral_more n h) ∙ length-append (numeral (n / 10)) (digit (n % 10) ∷ [])

pub bounds-s-at : goal.bounds-s-at
bounds-s-at t c = omega (arith, ap length (numeral_one c.args.n c.if-n-lt10.true))

pub returns-then-n-lt10 : goal.returns-then-n-lt10
returns-then-n-lt10 t c =
    let a = c.args in
    let one = numeral_one a.n c.if-n-lt10.true in
    let f = filled_one a.s.now a.at (digit a.n) (omega (arith, ap length one)) in
    record { value = rw one f.0; s_after = rw one f.1 }

pub put_numeral-last-requires : goal.put_numeral-last-requires
put_numeral-last-requires t c = (omega arith, omega (arith, longer c.args.n c.if-n-lt10.false))

pub bounds-s-last : goal.bounds-s-last
bounds-s-last t c = omega (arith, longer c.args.n c.if-n-lt10.false)

pub overflow_add-result-2 : goal.overflow_add-result-2
overflow_add-result-2 t c = omega (arith, longer c.args.n c.if-n-lt10.false)

pub returns : goal.returns
returns t c =
    let a = c.args in
    let large = c.if-n-lt10.false in
    let call = c.put_numeral-last in
    let f = filled_more a.s.now (numeral (a.n / 10)) (digit (a.n % 10) ∷ []) call.new.s _ a.at call.result _ (call.ensures.value, call.ensures.s_after)
    (filled_one call.new.s call.result (digit (a.n % 10)) (omega (arith, longer a.n large)))
    (omega (arith, longer a.n large)) in
    record { value = rw (numeral_more a.n large) f.0; s_after = rw (numeral_more a.n large) f.1 }
