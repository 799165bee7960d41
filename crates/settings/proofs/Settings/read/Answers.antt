-- `settings::Settings::read` meets its contract. Each word, or group of words, is what stands at its place.
-- Assumes nothing.
use Rattle.settings.specs.Words.{settings_at}
use Rattle.settings.proofs.Settings.read.Goals as goal

pub returns : goal.returns
unfolding settings_at
returns c = cc
