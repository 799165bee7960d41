-- The tests are made in the table's order: each return is a row.
-- Assumes nothing.
use mathlib.Core.Path.{sym, ap, ◌∙◌}
use Rattle.decide.specs.Test.{test}
use Rattle.selection.specs.Pick.{seen_in, pick_from}
use Rattle.selection.proofs.Select.{control, primary, pressed, staged, secondary, nothing, goes_selected, control_permitted, secondary_permitted}
use Rattle.selection.proofs.Sight.pick.Goals as goal

pub goes_charged-requires : goal.goes_charged-requires
goes_charged-requires c = let x = c.args in control_permitted x.settings (seen_in x.self) (sym c.control_ready.ensures ∙ c.if-control_ready.true)

pub returns-then-control_ready : goal.returns-then-control_ready
unfolding test
returns-then-control_ready c =
    let x = c.args in
    c.goes_charged.ensures
    ∙ ap pick_from (sym (goes_selected x.settings (seen_in x.self) (control (sym c.control_ready.ensures ∙ c.if-control_ready.true))))

pub returns-then-holds_frame : goal.returns-then-holds_frame
unfolding test
returns-then-holds_frame c =
    let x = c.args in
    c.goes.ensures
    ∙ ap pick_from (sym (goes_selected x.settings (seen_in x.self) (primary (sym c.control_ready.ensures ∙ c.if-control_ready.false) (sym c.holds_frame.ensures ∙ c.if-holds_frame.true))))

pub returns-then-needy : goal.returns-then-needy
unfolding test
returns-then-needy c =
    let x = c.args in
    c.goes-then-needy.ensures
    ∙ ap pick_from (sym (goes_selected x.settings (seen_in x.self) (pressed (sym c.control_ready.ensures ∙ c.if-control_ready.false) (sym c.holds_frame.ensures ∙ c.if-holds_frame.false) (sym c.needy.ensures ∙ c.if-needy.true))))

pub returns-then-stage_holds : goal.returns-then-stage_holds
unfolding test
returns-then-stage_holds c =
    let x = c.args in
    c.stage_goes.ensures
    ∙ ap pick_from (sym (goes_selected x.settings (seen_in x.self) (staged (sym c.control_ready.ensures ∙ c.if-control_ready.false) (sym c.holds_frame.ensures ∙ c.if-holds_frame.false) (sym c.needy.ensures ∙ c.if-needy.false) (sym c.stage_holds.ensures ∙ c.if-stage_holds.true))))

pub goes_charged-requires-then-secondary_ready : goal.goes_charged-requires-then-secondary_ready
goes_charged-requires-then-secondary_ready c = let x = c.args in secondary_permitted x.settings (seen_in x.self) (sym c.secondary_ready.ensures ∙ c.if-secondary_ready.true)

pub returns-then-secondary_ready : goal.returns-then-secondary_ready
unfolding test
returns-then-secondary_ready c =
    let x = c.args in
    c.goes_charged-then-secondary_ready.ensures
    ∙ ap pick_from (sym (goes_selected x.settings (seen_in x.self) (secondary (sym c.control_ready.ensures ∙ c.if-control_ready.false) (sym c.holds_frame.ensures ∙ c.if-holds_frame.false) (sym c.needy.ensures ∙ c.if-needy.false) (sym c.stage_holds.ensures ∙ c.if-stage_holds.false) (sym c.secondary_ready.ensures ∙ c.if-secondary_ready.true))))

pub returns : goal.returns
unfolding test
returns c =
    let x = c.args in
    c.nothing_goes.ensures
    ∙ ap pick_from (sym (goes_selected x.settings (seen_in x.self) (nothing (sym c.control_ready.ensures ∙ c.if-control_ready.false) (sym c.holds_frame.ensures ∙ c.if-holds_frame.false) (sym c.needy.ensures ∙ c.if-needy.false) (sym c.stage_holds.ensures ∙ c.if-stage_holds.false) (sym c.secondary_ready.ensures ∙ c.if-secondary_ready.false))))
