-- `fair::Fair::told` meets its contract: each return is a case of the definition, and in range ttl and rates fit their fields.
-- Assumes nothing.
use mathlib.Core.Path.{sym, ◌∙◌}
use Rattle.fair.proofs.Told.{told_free, told_own, told_last, told_passed}
use Rattle.fair.proofs.Fair.told.Goals as goal

pub returns-then-is_uncongested : goal.returns-then-is_uncongested
returns-then-is_uncongested c = let a = c.args in
    c.own_frame.ensures ∙ sym (told_free a.self a.settings (sym c.is_uncongested.ensures ∙ c.if-is_uncongested.true))

pub returns-then-own_counts : goal.returns-then-own_counts
returns-then-own_counts c = let a = c.args in
    c.own_frame-then-own_counts.ensures
    ∙ sym
    (told_own a.self a.settings
    (sym c.is_uncongested.ensures ∙ c.if-is_uncongested.false)
    (sym c.own_counts.ensures ∙ c.if-own_counts.true))

pub returns-then-last_hop : goal.returns-then-last_hop
returns-then-last_hop c = let a = c.args in
    c.own_frame-then-last_hop.ensures
    ∙ sym
    (told_last a.self a.settings
    (sym c.is_uncongested.ensures ∙ c.if-is_uncongested.false)
    (sym c.own_counts.ensures ∙ c.if-own_counts.false)
    (sym c.last_hop.ensures ∙ c.if-last_hop.true))

pub returns : goal.returns
returns c = let a = c.args in
    rw c.other_ringlet.ensures
    (sym
    (told_passed a.self a.settings
    (sym c.is_uncongested.ensures ∙ c.if-is_uncongested.false)
    (sym c.own_counts.ensures ∙ c.if-own_counts.false)
    (sym c.last_hop.ensures ∙ c.if-last_hop.false)))
