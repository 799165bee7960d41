-- The credit at the end is at most hiLimit, so that it fits its four bytes of the answer.
-- Assumes nothing.
use Rattle.std.specs.Prelude.{Ok, Some}
use Prim.Native.Nat.{ℕ, ◌≤◌}
use mathlib.Core.Path.{◌≡◌}
use native.Mathlib.Omega.{arith}
use Rattle.decide.proofs.Cases.{by_cases, true_or_false, le_or}
use Rattle.plain.specs.Plain.{plain_end_of}
use Rattle.plain.proofs.Laws.{in_range_small, in_range_sound, ends}
use Rattle.summary.specs.declared.Summary.{Summary}
use Rattle.summary.specs.Range.{in_range}
use Rattle.summary.specs.Answer.{settle_of}
use Rattle.summary.specs.Plain.{plain_from}
use Rattle.summary.proofs.Paper.{in_range_plain, settled_plain}
use Rattle.summary.proofs.Rows.{settle_3_summary, settle_3_credit, settles, settles_not}

pub end_most : (s : Summary) (c end : ℕ) → settle_of s c ≡ Ok (Some end) → end ≤ 1048576
end_most s c end e =
    by_cases (true_or_false (in_range s))
    (λ r. by_cases (le_or c s.limits.hi)
    (λ k. by_cases (le_or s.need c)
    (λ n.
    let p = in_range_plain s r in
    let x = settles s c r k n in
    let y = settled_plain s c r k n in
    let z : end ≡ plain_end_of (plain_from s) c = cc in
    let w = ends (plain_from s) c (in_range_sound (plain_from s) p) k n in
    let m = in_range_small (plain_from s) p in
    omega arith)
    (λ n. let x = settles_not s c r k n in let z : ◌≡◌ {A = ℕ} 0 1 = cc in absurd (omega arith)))
    (λ k. let x = settle_3_credit s c r k in let z : ◌≡◌ {A = ℕ} 0 1 = cc in absurd (omega arith)))
    (λ r. let x = settle_3_summary s c r in let z : ◌≡◌ {A = ℕ} 0 1 = cc in absurd (omega arith))
