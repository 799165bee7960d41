-- The pattern's summary is repeated; a refusal stays.
-- Assumes nothing.
use Rattle.std.specs.Prelude.{◌≡◌, Err}
use borrow.Author.Rules.{rules}
use Rattle.std.proofs.Common.{sym, ◌∙◌}
use Rattle.heartbeat.specs.Heartbeat.{heartbeats_of}
use Rattle.heartbeat.proofs.heartbeats.Goals as goal

pub returns : goal.returns
unfolding heartbeats_of
returns c = rw (sym c.pattern_of.ensures ∙ c.in_ok-pattern_of.was) c.repeated.ensures

pub returns-in_err-pattern_of : goal.returns-in_err-pattern_of
unfolding heartbeats_of
returns-in_err-pattern_of c =
    let e : c.from_residual.result ≡ Err c.in_err-pattern_of.field-0.0 = search rules in
    rw (e, sym c.pattern_of.ensures ∙ c.in_err-pattern_of.was)
