-- Public functions of `fair`, by name: two answers that meet the contract are equal.
-- Assumes nothing.
use Rattle.advert.specs.declared.Advert.{Advert}
use Rattle.decide.specs.Test.{test}
use Rattle.fair.specs.Advertise.{heard_of, told_of}
use Rattle.fair.specs.Age.{age_of, shown_four}
use Rattle.fair.specs.Count.{beyond, count_of, over}
use Rattle.fair.specs.Four.{Four, Stored}
use Rattle.fair.specs.Methods.{adjust_of}
use Rattle.fair.specs.Range.{fair_ok, four_ok}
use Rattle.fair.specs.Start.{start_of}
use Rattle.fair.specs.declared.Adjusted.{Adjusted}
use Rattle.fair.specs.declared.Fair.{Fair}
use Rattle.rates.specs.Rates.{share_of}
use Rattle.settings.specs.declared.Settings.{Settings}
use Rattle.std.specs.Prelude.{Bool, ℕ, ◌≡◌}
use Rattle.paper.specs.Determined.{Determined}

pub record Functions : Type 0 where
  -- Adjusted::adjust (a leaf: it asks that StoredOk settings.fairness.lp smoothed)
  pub adjusted_adjust : (self : Adjusted) (settings : Settings) (smoothed : Stored) (held : ℕ) → Determined (λ (r : Adjusted). r ≡ adjust_of settings self smoothed held)
  -- Fair::told (a leaf: it asks that FairOk settings self)
  pub fair_told : (self : Fair) (settings : Settings) → Determined (λ (r : Advert). r ≡ told_of self settings)
  -- Fair::heard
  pub fair_heard : (self : Fair) (advert : Advert) → Determined (λ (r : Fair). r ≡ heard_of self advert)
  -- Four::in_range
  pub four_in_range : (self : Four) → Determined (λ (r : Bool). r ≡ test (four_ok self))
  -- Stored::shown (a leaf: it asks that StoredOk coef self)
  pub stored_shown : (self : Stored) (coef : ℕ) → Determined (λ (r : Four). r ≡ shown_four coef self)
  -- Fair::in_range
  pub fair_in_range : (self : Fair) (settings : Settings) → Determined (λ (r : Bool). r ≡ test (fair_ok settings self))
  -- Fair::start
  pub fair_start : (settings : Settings) → Determined (λ (r : Fair). r ≡ start_of settings)
  -- Fair::is_beyond
  pub fair_is_beyond : (self : Fair) (hops : ℕ) → Determined (λ (r : Bool). r ≡ test (beyond self hops))
  -- Fair::is_over
  pub fair_is_over : (self : Fair) (size hops : ℕ) → Determined (λ (r : Bool). r ≡ test (over self size hops))
  -- Fair::count
  pub fair_count : (self : Fair) (settings : Settings) (origin mark hops size : ℕ) → Determined (λ (r : Fair). r ≡ count_of settings self origin mark hops size)
  -- Fair::age (a leaf: it asks that SettingsOk settings × FairOk settings self)
  pub fair_age : (self : Fair) (settings : Settings) (held : ℕ) → Determined (λ (r : Fair). r ≡ age_of self settings held)
  -- Fair::share
  pub fair_share : (self : Fair) (settings : Settings) → Determined (λ (r : ℕ). r ≡ share_of self.decided.allowed settings.fairness.age settings.fairness.ticks)
