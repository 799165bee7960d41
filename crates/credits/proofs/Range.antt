-- The settings, shaper by shaper; and no events take a credit out of its range.
-- Assumes nothing.
use Prim.Native.Nat.{◌≤◌}
use mathlib.Core.List.{List}
use mathlib.Core.Path.{◌≡◌, refl}
use Rattle.decide.specs.Test.{Holds}
use Rattle.shaper.specs.declared.Event.{Event}
use Rattle.shaper.specs.Limits.{limits_ok}
use Rattle.shaper.specs.Credit.{end_credit}
use Rattle.shaper.proofs.Credit.{end_max}
use Rattle.settings.specs.declared.Settings.{Settings}
use Rattle.settings.specs.Range.{BucketOk, SettingsOk}
use Rattle.settings.proofs.Range.{limits_hold}
use Rattle.credits.specs.declared.Credits.{Credits}
use Rattle.credits.specs.declared.Which.{Which}
use Rattle.credits.specs.declared.Which.TheVariants.{M, A, B, C, D}
use Rattle.credits.specs.Which.{bucket_of, credit_of, limits_for, fed}

-- ---- the settings, shaper by shaper

module _ {s : Settings} (ok : SettingsOk s) where
  pub bucket_ok_lem : (w : Which) → BucketOk s.mtu (bucket_of s w)
  bucket_ok_lem M = ok.of_m
  bucket_ok_lem A = ok.of_a
  bucket_ok_lem B = ok.of_b
  bucket_ok_lem C = ok.of_c
  bucket_ok_lem D = ok.of_d

  pub limits_ok_lem : (w : Which) → Holds (limits_ok (limits_for s w))
  limits_ok_lem w = limits_hold s.mtu (bucket_of s w) ok.mtu_least ok.mtu_most (bucket_ok_lem w)

-- ---- the credits that events leave

module _ (s : Settings) (c : Credits) (events : Which → List Event) where
  -- a shaper's credit is that of its events
  pub credit_fed : (w : Which) → credit_of (fed s c events) w ≡ end_credit (limits_for s w) (credit_of c w) (events w)
  credit_fed M = refl
  credit_fed A = refl
  credit_fed B = refl
  credit_fed C = refl
  credit_fed D = refl

  -- and at most hiLimit
  pub fed_ok : SettingsOk s → ((w : Which) → credit_of c w ≤ (bucket_of s w).hi) → (w : Which) → credit_of (fed s c events) w ≤ (bucket_of s w).hi
  fed_ok ok h w = rw (credit_fed w) (end_max (limits_for s w) (limits_ok_lem ok w) (events w) (credit_of c w) (h w))
