-- The rows are tried in their order: each return is one of them.
-- Assumes nothing.
use mathlib.Core.Path.{sym, ◌∙◌}
use native.Mathlib.Omega.{arith}
use Rattle.credits.specs.Way.{needs_of, way_of}
use Rattle.credits.proofs.Short.{permits_short, denied_short}
use Rattle.flow.proofs.Offer.{client_full, client_barred, client_over, client_taken}
use Rattle.flow.proofs.Flow.client.Goals as goal

pub returns-then-stage_holds : goal.returns-then-stage_holds
returns-then-stage_holds c =
    let x = c.args in
    let s = x.settings in
    let f = x.self in
    rw c.into.ensures (sym (client_full (way_of s f.credits x.class) s f x.class x.size x.hops x.over (sym c.stage_holds.ensures ∙ c.if-stage_holds.true)))

pub returns-then-short-gt0 : goal.returns-then-short-gt0
returns-then-short-gt0 c =
    let x = c.args in
    let s = x.settings in
    let f = x.self in
    let empty = sym c.stage_holds.ensures ∙ c.if-stage_holds.false in
    let short = rw c.way-way.ensures at c.short_all-short.ensures in
    let barred = denied_short s f.credits (needs_of (way_of s f.credits x.class)) (omega (arith, c.if-short-gt0.true, short)) in
    rw short (sym (client_barred (way_of s f.credits x.class) s f x.class x.size x.hops x.over empty barred))

pub returns-then-mark-over : goal.returns-then-mark-over
returns-then-mark-over c =
    let x = c.args in
    let s = x.settings in
    let f = x.self in
    let empty = sym c.stage_holds.ensures ∙ c.if-stage_holds.false in
    let permitted = (permits_short s f.credits (needs_of c.way-way.result)).1 (omega (arith, c.if-short-gt0.false, c.short_all-short.ensures)) in
    rw c.into-then-mark-over.ensures
    (sym (client_over (way_of s f.credits x.class) s f x.class x.size x.hops x.over empty (rw c.way-way.ensures at permitted) (rw (c.mark-mark.ensures, c.way-way.ensures) at c.if-mark-over.true)))

pub pay-paid-requires : goal.pay-paid-requires
pay-paid-requires c =
    let x = c.args in
    (permits_short x.settings x.self.credits (needs_of c.way-way.result)).1 (omega (arith, c.if-short-gt0.false, c.short_all-short.ensures))

pub returns : goal.returns
returns c =
    let x = c.args in
    let s = x.settings in
    let f = x.self in
    let empty = sym c.stage_holds.ensures ∙ c.if-stage_holds.false in
    let permitted = (permits_short s f.credits (needs_of c.way-way.result)).1 (omega (arith, c.if-short-gt0.false, c.short_all-short.ensures)) in
    rw (c.word-word.ensures, c.pay-paid.ensures, c.mark-mark.ensures, c.way-way.ensures)
    (sym (client_taken (way_of s f.credits x.class) s f x.class x.size x.hops x.over empty (rw c.way-way.ensures at permitted) (rw (c.mark-mark.ensures, c.way-way.ensures) at c.if-mark-over.false)))
