-- The distances as plain differences, and their sum: both by the remainder of a sum below twice the stations.
-- Assumes nothing.
use Prim.Native.Nat.{ℕ, ◌+◌, ◌-◌, ◌%◌, ◌≤◌, ◌<◌}
use mathlib.Core.Logic.{◌⊎◌, inl, inr}
use mathlib.Core.Path.{◌≡◌, ap, ◌∙◌}
use native.Mathlib.Nat.{mod-lt, mod-eq_of_lt, mod-eq-sub-mod}
use native.Mathlib.Omega.{arith}
use Rattle.decide.proofs.Cases.{by_cases, le_or}
use Rattle.ring.specs.declared.Way.TheVariants.{Left, Right}
use Rattle.ring.specs.Links.{Stands}
use Rattle.ring.specs.Choosing.{distance_of, Between, Placed}

-- two stations that differ
pub lower_or_higher : (own target : ℕ) → (own ≡ target → ⊥) → (own < target) ⊎ (target < own)
lower_or_higher own target differ =
    by_cases (le_or own target)
    (λ h. by_cases (le_or target own) (λ k. absurd (differ (omega arith))) (λ k. inl k))
    (λ h. inr h)

pub between : {stations own target links : ℕ} → Placed stations own target links → Between stations own target
between place = record { small = place.small; station = place.station; reached = place.reached }

pub stands : {stations own target links : ℕ} → Placed stations own target links → Stands stations own links
stands place = record { small = place.small; station = place.station; clear = place.clear }

module _ (stations own target : ℕ) (b : Between stations own target) where
  -- a target with a higher number lies ahead on the right
  pub right_ahead : own < target → distance_of Right stations own target ≡ target - own
  unfolding distance_of
  right_ahead h =
      mod-eq-sub-mod (let i : stations ≤ target + (stations - own) = omega arith in i)
      ∙ ap (λ (x : ℕ). x % stations) (let e : target + (stations - own) - stations ≡ target - own = omega arith in e)
      ∙ mod-eq_of_lt (let i : target - own < stations = omega arith in i)

  -- and one with a lower number past the last station
  pub right_round : target < own → distance_of Right stations own target ≡ target + (stations - own)
  unfolding distance_of
  right_round h = mod-eq_of_lt (let i : target + (stations - own) < stations = omega arith in i)

  -- the two sides make up the ring
  pub whole_ring : distance_of Right stations own target + distance_of Left stations own target ≡ stations
  unfolding distance_of
  whole_ring = let h = mod-lt (target + (stations - own)) {m = stations} (let i : 0 < stations = omega arith in i) in omega arith
