-- `fair::Adjusted::adjust` meets its contract: the method that the settings choose.
-- Assumes nothing.
use mathlib.Core.Path.{sym, ◌∙◌}
use Rattle.decide.specs.Test.{facts}
use Rattle.decide.proofs.Tests.{fails}
use Rattle.settings.specs.Range.{aggressive}
use Rattle.fair.proofs.Methods.{by_aggressive, by_conservative}
use Rattle.fair.proofs.Adjusted.adjust.Goals as goal

pub returns-then-is_aggressive : goal.returns-then-is_aggressive
returns-then-is_aggressive c = let a = c.args in
    c.aggressive.ensures
    ∙ sym (by_aggressive a.settings a.self a.smoothed a.held (facts (aggressive a.settings.site) (sym c.is_aggressive.ensures ∙ c.if-is_aggressive.true)))

pub returns : goal.returns
returns c = let a = c.args in
    c.conservative.ensures
    ∙ sym (by_conservative a.settings a.self a.smoothed a.held (fails (aggressive a.settings.site) (sym c.is_aggressive.ensures ∙ c.if-is_aggressive.false)))
