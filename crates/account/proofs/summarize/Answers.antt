-- A header that stands leaves all behind it to `events`; one that does not is the record's fault.
-- Assumes nothing.
use Rattle.std.specs.Prelude.{◌≡◌, Err}
use borrow.Author.Rules.{rules}
use Rattle.std.proofs.Common.{◌-◌, length, drop, sym, ap, ◌∙◌, arith, length-drop, take_all}
use Rattle.shaper.specs.Limits.{most_events}
use Rattle.record.proofs.Steps.{header_stands}
use Rattle.account.specs.Account.{events_of}
use Rattle.account.proofs.Rest.{rest_start, rest_unreadable}
use Rattle.account.proofs.summarize.Goals as goal

-- the equation that `header_stands` is given: the header that was found stands
pub slice_bounds-events-count : goal.slice_bounds-events-count
slice_bounds-events-count c = (header_stands _ _ (sym c.header_of.ensures ∙ c.in_ok-limits.was)).long

pub slice_bounds-events-start : goal.slice_bounds-events-start
slice_bounds-events-start c = (header_stands _ _ (sym c.header_of.ensures ∙ c.in_ok-limits.was)).long

pub events-requires : goal.events-requires
events-requires c = ((header_stands _ _ (sym c.header_of.ensures ∙ c.in_ok-limits.was)).in_range_lem, omega arith)

pub returns : goal.returns
returns c =
    let a = c.args in
    let xs = a.s.now in
    c.events.ensures
    ∙ ap (events_of a.runs _ most_events) (take_all (length xs - 14) (drop 14 xs) (omega (arith, length-drop 14 xs)))
    ∙ sym (rest_start a.runs xs _ (sym c.header_of.ensures ∙ c.in_ok-limits.was))

pub returns-in_err-limits : goal.returns-in_err-limits
returns-in_err-limits c =
    let a = c.args in
    let e : c.from_residual.result ≡ Err c.in_err-limits.field-0.0 = search rules in
    rw e (sym (rest_unreadable a.runs a.s.now _ (sym c.header_of.ensures ∙ c.in_err-limits.was)))
