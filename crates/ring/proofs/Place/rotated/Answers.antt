-- `Place::rotated` meets its contract: nothing is shifted out, and the two parts have no digit in common.
-- Assumes nothing.
use mathlib.Core.Path.{◌≡◌, sym, ap, ◌∙◌, subst}
use Prim.Native.Nat.{ℕ, zero, ◌-◌, ◌*◌, ◌/◌, ◌%◌, ◌^◌, ◌<◌}
use native.Mathlib.Nat.{mod-lt, mod-eq_of_lt, one-mul}
use native.Mathlib.Omega.{arith}
use lib.Bits.{bit_or, or_shifted_r}
use lib.Pow.{pow_pos, pow-lt, shl_exact}
use Rattle.ring.specs.Links.{rotated_of, Stands}
use Rattle.ring.proofs.Around.{high_lt}
use Rattle.ring.proofs.Distances.{stands}
use borrow.Author.Rules.{rules}
use Rattle.ring.proofs.Place.rotated.Goals as goal

-- `1 << k` is `2 ^ k`
one_shl : (k : ℕ) → k < 64 → (1 * 2 ^ k) % 2 ^ 64 ≡ 2 ^ k
one_shl k h = ap (λ (x : ℕ). x % 2 ^ 64) (one-mul (2 ^ k)) ∙ mod-eq_of_lt (pow-lt h)

joined : (n own w : ℕ) → Stands n own w → bit_or (w / 2 ^ own) ((w % ((1 * 2 ^ own) % 2 ^ 64) * 2 ^ (n - own)) % 2 ^ 64) ≡ rotated_of n own w
joined n own w s =
    ap (bit_or (w / 2 ^ own))
    (ap (λ (d : ℕ). (w % d * 2 ^ (n - own)) % 2 ^ 64) (one_shl own (omega arith))
    ∙ shl_exact own (n - own) 64 (mod-lt w (pow_pos own)) (omega arith))
    ∙ or_shifted_r (w % 2 ^ own) (n - own) (w / 2 ^ own) (high_lt n own w s)

pub nonzero_rem-low : goal.nonzero_rem-low
nonzero_rem-low c = subst (λ (x : ℕ). zero < x) (sym (one_shl c.args.self.own (search rules))) (pow_pos c.args.self.own)

pub returns : goal.returns
returns c = joined c.args.self.stations c.args.self.own c.args.self.links (stands c.args.self.placed)
