-- Public functions of `settings`, by name: two answers that meet the contract are equal.
-- Assumes nothing.
use Rattle.decide.specs.Test.{test}
use Rattle.settings.specs.Range.{address_of, aggressive, bucket_ok, fairness_ok, limits_of, queues_ok, settings_ok, shapers_ok, usual_of}
use Rattle.settings.specs.Words.{settings_at, settings_bytes}
use Rattle.settings.specs.declared.Address.{Address}
use Rattle.settings.specs.declared.Bucket.{Bucket}
use Rattle.settings.specs.declared.Fairness.{Fairness}
use Rattle.settings.specs.declared.Queues.{Queues}
use Rattle.settings.specs.declared.Settings.{Settings}
use Rattle.settings.specs.declared.Shapers.{Shapers}
use Rattle.settings.specs.declared.Site.{Site}
use Rattle.shaper.specs.declared.Limits.{Limits}
use Rattle.std.specs.Prelude.{Bool, List, ℕ, ◌≡◌}
use Rattle.wire.specs.Wire.{put}
use Rattle.paper.specs.Determined.{Determined}

pub record Functions : Type 0 where
  -- Settings::in_range
  pub settings_in_range : (self : Settings) → Determined (λ (r : Bool). r ≡ test (settings_ok self))
  -- Address::number
  pub address_number : (self : Address) → Determined (λ (r : ℕ). r ≡ address_of self)
  -- Bucket::in_range
  pub bucket_in_range : (self : Bucket) (mtu : ℕ) → Determined (λ (r : Bool). r ≡ test (bucket_ok mtu self))
  -- Bucket::limits
  pub bucket_limits : (self : Bucket) (mtu : ℕ) → Determined (λ (r : Limits). r ≡ limits_of mtu self)
  -- Shapers::in_range
  pub shapers_in_range : (self : Shapers) (mtu : ℕ) → Determined (λ (r : Bool). r ≡ test (shapers_ok mtu self))
  -- Queues::in_range
  pub queues_in_range : (self : Queues) (mtu : ℕ) → Determined (λ (r : Bool). r ≡ test (queues_ok mtu self))
  -- Fairness::usual
  pub fairness_usual : (weight unit ticks unreserved : ℕ) → Determined (λ (r : Fairness). r ≡ usual_of weight unit ticks unreserved)
  -- Fairness::in_range
  pub fairness_in_range : (self : Fairness) → Determined (λ (r : Bool). r ≡ test (fairness_ok self))
  -- Site::is_aggressive
  pub site_is_aggressive : (self : Site) → Determined (λ (r : Bool). r ≡ test (aggressive self))
  -- in_range_at (a leaf: it asks that at + settings_length ≤ length s.now)
  pub in_range_at : (s : List ℕ) (at : ℕ) → Determined (λ (r : Bool). r ≡ test (settings_ok (settings_at s at)))
  -- Settings::read (a leaf: it asks that at + settings_length ≤ length s.now)
  pub settings_read : (s : List ℕ) (at : ℕ) → Determined (λ (r : Settings). r ≡ settings_at s at)
  -- Settings::write (a leaf: it asks that at + settings_length ≤ length s.old)
  pub settings_write : (self : Settings) (s : List ℕ) (at : ℕ) → Determined (λ (after-s : List ℕ). after-s ≡ put s at (settings_bytes self))
