-- Public functions of `selection`, by name: two answers that meet the contract are equal.
-- Assumes nothing.
use Rattle.flow.specs.declared.Flow.{Flow}
use Rattle.selection.specs.Pick.{pick_of, seen_in, sight_of}
use Rattle.selection.specs.declared.Pick.{Pick}
use Rattle.selection.specs.declared.Sight.{Sight}
use Rattle.settings.specs.declared.Settings.{Settings}
use Rattle.std.specs.Prelude.{◌≡◌}
use Rattle.paper.specs.Determined.{Determined}

pub record Functions : Type 0 where
  -- Sight::of
  pub sight_of_lem : (flow : Flow) → Determined (λ (r : Sight). r ≡ sight_of flow)
  -- Sight::pick
  pub sight_pick : (self : Sight) (settings : Settings) → Determined (λ (r : Pick). r ≡ pick_of settings (seen_in self))
