-- The outcome from loLimit is packed, or the number of the refusal alone.
-- Assumes nothing.
use Rattle.std.specs.Prelude.{Ok}
use mathlib.Core.Path.{◌≡◌, sym, ap, ◌∙◌}
use Rattle.heartbeat.specs.Heartbeat.{heartbeats_of, from_low_of, outcome_told, heartbeat_answer}
use Rattle.heartbeat.proofs.rpr_heartbeat.Goals as goal

pub returns-in-Ok-Some : goal.returns-in-Ok-Some
unfolding heartbeat_answer
returns-in-Ok-Some c =
    let said : from_low_of (heartbeats_of c.args.pattern.now c.args.repeats) ≡ c.from_low.result = sym (c.from_low.ensures ∙ ap from_low_of c.heartbeats.ensures) in
    c.permitted.ensures ∙ ap outcome_told (sym (said ∙ c.in-Ok-Some.is ∙ ap Ok c.in-Ok-Some.field-0-is))

pub returns-in-Ok-None : goal.returns-in-Ok-None
unfolding heartbeat_answer
returns-in-Ok-None c =
    let said : from_low_of (heartbeats_of c.args.pattern.now c.args.repeats) ≡ c.from_low.result = sym (c.from_low.ensures ∙ ap from_low_of c.heartbeats.ensures) in
    ap outcome_told (sym (said ∙ c.in-Ok-None.is ∙ ap Ok c.in-Ok-None.field-0-is))

pub returns-in-Err : goal.returns-in-Err
unfolding heartbeat_answer
returns-in-Err c =
    let said : from_low_of (heartbeats_of c.args.pattern.now c.args.repeats) ≡ c.from_low.result = sym (c.from_low.ensures ∙ ap from_low_of c.heartbeats.ensures) in
    c.number.ensures ∙ ap outcome_told (sym (said ∙ c.in-Err.is))
