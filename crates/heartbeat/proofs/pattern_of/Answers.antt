-- A header that stands leaves all behind it to `events`; one that does not is the pattern's fault.
-- Assumes nothing.
use Rattle.std.specs.Prelude.{◌≡◌, Err}
use borrow.Author.Rules.{rules}
use Rattle.std.proofs.Common.{◌-◌, length, drop, sym, ap, ◌∙◌, arith, length-drop, take_all, true}
use Rattle.record.proofs.Steps.{header_stands}
use Rattle.account.specs.Account.{events_of}
use Rattle.heartbeat.specs.Heartbeat.{most_of_pattern, many_told}
use Rattle.heartbeat.proofs.Pattern.{pattern_start, pattern_unreadable}
use Rattle.heartbeat.proofs.pattern_of.Goals as goal

pub slice_bounds-events-count : goal.slice_bounds-events-count
slice_bounds-events-count c = (header_stands _ _ (sym c.header_of.ensures ∙ c.in_ok-limits.was)).long

pub slice_bounds-events-start : goal.slice_bounds-events-start
slice_bounds-events-start c = (header_stands _ _ (sym c.header_of.ensures ∙ c.in_ok-limits.was)).long

pub events-requires : goal.events-requires
events-requires c = ((header_stands _ _ (sym c.header_of.ensures ∙ c.in_ok-limits.was)).in_range_lem, omega arith)

pub returns : goal.returns
returns c =
    let xs = c.args.pattern.now in
    c.many_told.ensures
    ∙ ap many_told
    (c.events.ensures
    ∙ ap (events_of true _ most_of_pattern) (take_all (length xs - 14) (drop 14 xs) (omega (arith, length-drop 14 xs))))
    ∙ pattern_start xs _ (sym c.header_of.ensures ∙ c.in_ok-limits.was)

pub returns-in_err-limits : goal.returns-in_err-limits
returns-in_err-limits c =
    let e : c.from_residual.result ≡ Err c.in_err-limits.field-0.0 = search rules in
    rw e (pattern_unreadable c.args.pattern.now _ (sym c.header_of.ensures ∙ c.in_err-limits.was))
