-- The shaper permits, so its charge takes the size off: `charge_one`.
-- Assumes nothing.
use mathlib.Core.Path.{sym, ap, ◌∙◌}
use Rattle.shaper.specs.declared.Shaper.{Shaper}
use Rattle.shaper.specs.Refused.{afterwards}
use Rattle.shaper.proofs.Charge.{permitted}
use Rattle.credits.specs.Which.{credit_of, limits_for}
use Rattle.credits.proofs.Charge.{charge_one}
use Rattle.credits.proofs.Credits.charge.Goals as goal

pub unwrap-after-requires : goal.unwrap-after-requires
unwrap-after-requires c =
    let x = c.args in
    let before : Shaper = record { limits = limits_for x.settings x.which; credit = credit_of x.self x.which } in
    rw (c.charge.ensures, c.credit.ensures, c.limits.ensures, c.bucket-bucket.ensures, permitted before x.size c.requires)

pub returns : goal.returns
returns c =
    let x = c.args in
    let s = x.settings in
    let w = x.which in
    let before : Shaper = record { limits = limits_for s w; credit = credit_of x.self w } in
    let after = ap (afterwards before) (sym c.unwrap-after.ensures ∙ c.charge.ensures) in
    c.with_credit.ensures
    ∙ rw (after, c.credit.ensures, c.limits.ensures, c.bucket-bucket.ensures)
    (rw (permitted before x.size c.requires) (charge_one s x.self w x.size))
