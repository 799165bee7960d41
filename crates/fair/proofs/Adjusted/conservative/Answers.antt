-- `fair::Adjusted::conservative` meets its contract: each return is what its rows of the definition give.
-- Assumes nothing.
use mathlib.Core.Path.{sym, ap, ◌∙◌}
use Rattle.fair.specs.Methods.{changed_to, row_gives}
use Rattle.fair.proofs.Methods.{takes_entry, takes_rest, takes_leaving, gives, gives_full, gives_room}
use Rattle.fair.proofs.Adjusted.conservative.Goals as goal

pub returns-then-full : goal.returns-then-full
unfolding row_gives
returns-then-full c =
    let a = c.args in
    c.changed_to.ensures
    ∙ ap changed_to c.entry_rate.ensures
    ∙ sym (gives a.settings a.self a.held a.smoothed (takes_entry a.settings a.self a.held c.if-self-eq0.true (sym c.local_test-full.ensures ∙ c.if-full.true)))

pub returns-then-self-eq0 : goal.returns-then-self-eq0
unfolding row_gives
returns-then-self-eq0 c =
    let a = c.args in
    sym (gives a.settings a.self a.held a.smoothed (takes_rest a.settings a.self a.held c.if-self-eq0.true (sym c.local_test-full.ensures ∙ c.if-full.false)))

pub returns-then-full-2 : goal.returns-then-full-2
returns-then-full-2 c =
    let a = c.args in
    (rw c.reduced.ensures at c.stepped.ensures)
    ∙ gives_full a.settings a.self a.held a.smoothed c.if-self-eq0.false (sym c.local_test-full.ensures ∙ c.if-full-2.true)

pub returns-then-is_near : goal.returns-then-is_near
unfolding row_gives
returns-then-is_near c =
    let a = c.args in
    sym
    (gives a.settings a.self a.held a.smoothed
    (takes_leaving a.settings a.self a.held c.if-self-eq0.false (sym c.local_test-full.ensures ∙ c.if-full-2.false)
    (sym c.is_near.ensures ∙ c.if-is_near.true)))

pub returns : goal.returns
returns c =
    let a = c.args in
    (rw c.ramped.ensures at c.stepped-2.ensures)
    ∙ gives_room a.settings a.self a.held a.smoothed c.if-self-eq0.false (sym c.local_test-full.ensures ∙ c.if-full-2.false)
    (sym c.is_near.ensures ∙ c.if-is_near.false)
