-- Public functions of `credits`, by name: two answers that meet the contract are equal.
-- Assumes nothing.
use Rattle.credits.specs.Range.{credits_ok}
use Rattle.credits.specs.Short.{short_all}
use Rattle.credits.specs.Way.{mark_of, needs_of, way_of}
use Rattle.credits.specs.Which.{fed, sends}
use Rattle.credits.specs.declared.Credits.{Credits}
use Rattle.credits.specs.declared.Way.{Way}
use Rattle.credits.specs.declared.Which.{Which}
use Rattle.decide.specs.Test.{test}
use Rattle.settings.specs.declared.Settings.{Settings}
use Rattle.std.specs.Prelude.{Bool, [], ℕ, ◌∷◌, ◌≡◌}
use Rattle.paper.specs.Determined.{Determined}

pub record Functions : Type 0 where
  -- Credits::in_range
  pub credits_in_range : (self : Credits) (settings : Settings) → Determined (λ (r : Bool). r ≡ test (credits_ok settings self))
  -- Credits::charge (a leaf: it asks that permits_of settings self which ≡ true)
  pub credits_charge : (self : Credits) (settings : Settings) (which : Which) (size : ℕ) → Determined (λ (r : Credits). r ≡ fed settings self (sends (which ∷ []) size))
  -- Credits::way
  pub credits_way : (self : Credits) (settings : Settings) (class : ℕ) → Determined (λ (r : Way). r ≡ way_of settings self class)
  -- Credits::short_all
  pub credits_short_all : (self : Credits) (settings : Settings) (way : Way) → Determined (λ (r : ℕ). r ≡ short_all settings self (needs_of way))
  -- Credits::pay (a leaf: it asks that permits_all settings self (needs_of way) ≡ true)
  pub credits_pay : (self : Credits) (settings : Settings) (way : Way) (size : ℕ) → Determined (λ (r : Credits). r ≡ fed settings self (sends (needs_of way) size))
  -- Way::mark
  pub way_mark : (self : Way) → Determined (λ (r : ℕ). r ≡ mark_of self)
