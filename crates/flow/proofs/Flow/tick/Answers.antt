-- Each credit is that after its own tick.
-- Assumes nothing.
use Prim.Native.Nat.{ℕ}
use mathlib.Core.Bool.{◌||◌}
use mathlib.Core.Path.{◌≡◌, ap, ◌∙◌}
use Rattle.credits.specs.declared.Which.TheVariants.{M, C, D}
use Rattle.flow.proofs.Tick.{ticks, tick_each}
use Rattle.flow.proofs.Flow.tick.Goals as goal

pub returns : goal.returns
returns c =
    let x = c.args in
    let s = x.settings in
    let f = x.self in
    let of_m : c.ticked.result ≡ ticks s f M c.holds_frame-control.result s.shapers.m.amount = c.ticked.ensures in
    let of_c : c.ticked-4.result ≡ ticks s f C (x.b || x.c) c.amount_c-amount.result = c.ticked-4.ensures in
    let of_d : c.ticked-5.result ≡ ticks s f D ((x.b || x.c) || (c.stage_holds.result || c.holds_frame.result)) s.shapers.d.amount =
    c.ticked-5.ensures
    in
    tick_each s f x.share x.a x.b x.c
    (of_m ∙ rw c.holds_frame-control.ensures)
    c.ticked-2.ensures
    c.ticked-3.ensures
    (of_c ∙ ap (λ (given : ℕ). ticks s f C (x.b || x.c) given) c.amount_c-amount.ensures)
    (of_d ∙ rw (c.stage_holds.ensures, c.holds_frame.ensures))
