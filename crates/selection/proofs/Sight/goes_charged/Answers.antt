-- The charge is for the frame that goes.
-- Assumes nothing.
use mathlib.Core.Path.{◌≡◌, sym, ap, ◌∙◌}
use mathlib.Core.List.{[], ◌∷◌}
use Rattle.queue.specs.Queue.{first_frame}
use Rattle.queue.specs.declared.Queue.{Queue}
use Rattle.credits.specs.declared.Credits.{Credits}
use Rattle.flow.specs.Parts.{queue_of}
use Rattle.credits.specs.Which.{sends, fed}
use Rattle.selection.specs.Pick.{seen_in}
use Rattle.selection.proofs.Picking.{front_seen, of_front, front_picked}
use Rattle.selection.proofs.Sight.goes_charged.Goals as goal

pub returns : goal.returns
returns c =
    let x = c.args in
    let f = x.self in
    let e : c.goes-next.result ≡ of_front f f.credits x.line = c.goes-next.ensures ∙ front_picked f f.credits x.line in
    let w = x.settings in
    let k : Queue → Credits = λ (q : Queue). fed w f.credits (sends (x.which ∷ []) (first_frame q).size) in
    rw (c.charge-credits.ensures, e)
    (ap (λ (q : Queue). of_front f (k q) x.line) (sym (front_seen f x.line)) ∙ sym (front_picked f (k (queue_of (seen_in f) x.line)) x.line))
