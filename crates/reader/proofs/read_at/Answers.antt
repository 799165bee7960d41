-- What stands at the place, or the header's fault.
-- Assumes nothing.
use mathlib.Core.Path.{sym, ◌∙◌}
use borrow.Author.Rules.{rules}
use Rattle.reader.proofs.Rows.{next_settings, next_unreadable}
use Rattle.reader.proofs.read_at.Goals as goal

pub returns-in_err-limits : goal.returns-in_err-limits
returns-in_err-limits c =
    let a = c.args in
    rw (next_unreadable a.bytes.now a.place _ (sym c.header_of.ensures ∙ c.in_err-limits.was)) (search rules)

pub returns : goal.returns
returns c =
    let read = sym c.header_of.ensures ∙ c.in_ok-limits.was in
    (rw c.may_come-left.ensures at c.event_within.ensures) ∙ sym (next_settings _ _ _ read)
