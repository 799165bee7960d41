-- What the comparison tells is the test of a size (`sized_by`).
-- Assumes nothing.
use Rattle.std.proofs.Common.{◌≡◌, ℕ, ◌+◌, ◌*◌, ◌%◌, ◌<◌, not, ℤ, ap, ◌∙◌, arith, w32, to_z, of_z}
use lib.Signed.{lt_z}
use mir.ValLaws.{to_z-of_z, to_z-Fits}
use Rattle.account.proofs.Heads.{sized_by}
use Rattle.account.proofs.sized.Goals as goal

-- a signed number that is kept and read again
kept : (n : ℕ) (z : ℤ) → n < 4294967296 → z ≡ to_z w32 n → to_z w32 (of_z w32 z) ≡ to_z w32 n
kept n z h e = rw e (to_z-of_z w32 (to_z w32 n) (to_z-Fits w32 n (record { fits = h })))

pub returns : goal.returns
returns c =
    let a = c.args in
    let most = 2147483648 + a.span * 65536 + 65535 in
    let there = (a.tail + 2146435072) % 4294967296 in
    let first = kept most c.signed-most.result (omega (arith, c.requires)) c.signed-most.ensures in
    let second = kept there c.signed.result (omega arith) (rw c.wrapping_add_u32.ensures.value at c.signed.ensures) in
    ap (λ (z : ℤ). not (lt_z z (to_z w32 (of_z w32 c.signed.result)))) first
    ∙ ap (λ (z : ℤ). not (lt_z (to_z w32 most) z)) second
    ∙ sized_by a.span a.tail c.requires c.ranges.tail.fits
