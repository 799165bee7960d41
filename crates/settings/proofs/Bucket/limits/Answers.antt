-- `settings::Bucket::limits` meets its contract. Each limit is the setting itself.
-- Assumes nothing.
use mathlib.Core.Path.{refl}
use Rattle.settings.proofs.Bucket.limits.Goals as goal

pub returns : goal.returns
returns c = refl
