-- The station so many hops on, from which the distance and the run are read: after `distance` hops it is the target, and not before; the links of a
-- run are usable, and the next one is not. Assumes nothing.
use mathlib.Core.Path.{◌≡◌, refl, sym, ap, ◌∙◌}
use mathlib.Core.Bool.{Bool, true, false, cond}
use mathlib.Core.Logic.{◌⊎◌, inl, inr}
use Prim.Native.Nat.{ℕ, zero, suc, ◌+◌, ◌-◌, ◌%◌, ◌≤◌, ◌<◌}
use native.Mathlib.Nat.{mod-eq_of_lt, mod-eq-sub-mod, mod-add-mod, add-mod_right, add-zero}
use native.Mathlib.Omega.{arith}
use Rattle.decide.proofs.Cases.{by_cases, le_or}
use Rattle.ring.specs.declared.Way.{Way}
use Rattle.ring.specs.declared.Way.TheVariants.{Left, Right}
use Rattle.ring.specs.Links.{other_of, next_of, ahead_of, run_of, station_after}
use Rattle.ring.specs.Choosing.{distance_of, Between}
use Rattle.ring.proofs.Around.{next_of_lt}
use Rattle.ring.proofs.Distances.{lower_or_higher, right_ahead, right_round, whole_ring}

-- ---- the station so many hops on

pub after_lt : (way : Way) (n at i : ℕ) → at < n → station_after way n at i < n
after_lt way n at zero h = h
after_lt way n at (suc i) h = after_lt way n (next_of way n at) i (next_of_lt way n at h)

pub after_suc : (way : Way) (n at i : ℕ) → station_after way n at (suc i) ≡ next_of way n (station_after way n at i)
after_suc way n at zero = refl
after_suc way n at (suc i) = after_suc way n (next_of way n at) i

-- a hop and one back
pub back : (way : Way) (n at : ℕ) → at < n → next_of (other_of way) n (next_of way n at) ≡ at
back Right n at h =
    mod-add-mod (at + 1) n (n - 1) ∙ ap (λ (x : ℕ). x % n) (let e : at + 1 + (n - 1) ≡ at + n = omega arith in e) ∙ add-mod_right at n ∙ mod-eq_of_lt h
back Left n at h =
    mod-add-mod (at + (n - 1)) n 1 ∙ ap (λ (x : ℕ). x % n) (let e : at + (n - 1) + 1 ≡ at + n = omega arith in e) ∙ add-mod_right at n ∙ mod-eq_of_lt h

-- the number of that station
spot : Way → ℕ → ℕ → ℕ → ℕ
spot Right n at i = at + i
spot Left n at i = at + (n - i)

after_is : (way : Way) (n at i : ℕ) → at < n → i ≤ n → station_after way n at i ≡ spot way n at i % n
unfolding spot
after_is Right n at zero h l = sym (ap (λ (x : ℕ). x % n) (add-zero at) ∙ mod-eq_of_lt h)
after_is Left n at zero h l = sym (ap (λ (x : ℕ). x % n) (let e : at + (n - zero) ≡ at + n = omega arith in e) ∙ add-mod_right at n ∙ mod-eq_of_lt h)
after_is Right n at (suc i) h l =
    after_suc Right n at i ∙ ap (next_of Right n) (after_is Right n at i h (omega arith)) ∙ mod-add-mod (at + i) n 1
    ∙ ap (λ (x : ℕ). x % n) (let e : at + i + 1 ≡ at + suc i = omega arith in e)
after_is Left n at (suc i) h l =
    after_suc Left n at i ∙ ap (next_of Left n) (after_is Left n at i h (omega arith)) ∙ mod-add-mod (at + (n - i)) n (n - 1)
    ∙ ap (λ (x : ℕ). x % n) (let e : at + (n - i) + (n - 1) ≡ at + (n - suc i) + n = omega arith in e) ∙ add-mod_right (at + (n - suc i)) n

-- ---- the target lies past a run that is shorter than its distance

rest_of : (x n t : ℕ) → x < n + n → x % n ≡ t → (x ≡ t) ⊎ (x ≡ t + n)
rest_of x n t h e =
    by_cases (le_or n x)
    (λ l. let p = mod-eq-sub-mod l in let q = mod-eq_of_lt (let k : x - n < n = omega arith in k) in inr (omega arith))
    (λ l. let p = mod-eq_of_lt l in inl (omega arith))

module _ (n own target : ℕ) (b : Between n own target) (differ : own ≡ target → ⊥) where
  abbrev right : ℕ
  right = distance_of Right n own target

  -- the target lies ahead, or past the last station
  either : ((own < target) × (right ≡ target - own)) ⊎ ((target < own) × (right ≡ target + (n - own)))
  either =
      by_cases (lower_or_higher own target differ)
      (λ h. inl (h, right_ahead n own target b h))
      (λ h. inr (h, right_round n own target b h))

  pub covered : (way : Way) → distance_of way n own target ≤ n
  covered Left = let w = whole_ring n own target b in omega arith
  covered Right = let w = whole_ring n own target b in omega arith

  short_of_lem : (way : Way) (i : ℕ) → i < distance_of way n own target → spot way n own i % n ≡ target → ⊥
  unfolding spot
  short_of_lem Right i l e =
      by_cases either
      (λ h. by_cases (rest_of (own + i) n target (omega arith) e) (λ p. omega arith) (λ p. omega arith))
      (λ h. by_cases (rest_of (own + i) n target (omega arith) e) (λ p. omega arith) (λ p. omega arith))
  short_of_lem Left i l e =
      let w = whole_ring n own target b in
      by_cases either
      (λ h. by_cases (rest_of (own + (n - i)) n target (omega arith) e) (λ p. omega arith) (λ p. omega arith))
      (λ h. by_cases (rest_of (own + (n - i)) n target (omega arith) e) (λ p. omega arith) (λ p. omega arith))

  -- as many hops as the distance are not too few,
  pub arrives : (way : Way) → station_after way n own (distance_of way n own target) ≡ target
  unfolding spot
  arrives way = after_is way n own (distance_of way n own target) b.station (covered way) ∙ there way
    where
      at_target : (x : ℕ) → x ≡ own + right → x % n ≡ target
      at_target x e =
          by_cases either
          (λ h. ap (λ (y : ℕ). y % n) (let f : x ≡ target = omega arith in f) ∙ mod-eq_of_lt b.reached)
          (λ h. ap (λ (y : ℕ). y % n) (let f : x ≡ target + n = omega arith in f) ∙ add-mod_right target n ∙ mod-eq_of_lt b.reached)

      there : (w : Way) → spot w n own (distance_of w n own target) % n ≡ target
      there Left = at_target (own + (n - distance_of Left n own target)) (let w = whole_ring n own target b in omega arith)
      there Right = at_target (own + right) refl

  -- and fewer are
  pub not_before_lem : (way : Way) (i : ℕ) → i < distance_of way n own target → station_after way n own i ≡ target → ⊥
  not_before_lem way i l e =
      let c = covered way in
      short_of_lem way i l (sym (after_is way n own i b.station (omega arith)) ∙ e)

-- ---- the links of a run

-- every link of a run is usable
pub run_on : (way : Way) (n w m at i : ℕ) → i < run_of way n w m at → ahead_of way n w (station_after way n at i) ≡ true
unfolding run_of
run_on way n w zero at i l = absurd (omega arith)
run_on way n w (suc m) at i l = go (run_on way n w m (next_of way n at)) (ahead_of way n w at) refl i l
  where
    rest : ℕ
    rest = run_of way n w m (next_of way n at)

    go : ((j : ℕ) → j < rest → ahead_of way n w (station_after way n (next_of way n at) j) ≡ true) → (b : Bool) → ahead_of way n w at ≡ b
        → (j : ℕ) → j < cond b (suc rest) zero → ahead_of way n w (station_after way n at j) ≡ true
    go ih true e zero k = e
    go ih true e (suc j) k = ih j (omega arith)
    go ih false e j k = absurd (omega arith)

-- past a run that is not the whole way round the link ahead is unusable
pub run_ends : (way : Way) (n w m at : ℕ) → run_of way n w m at < m → ahead_of way n w (station_after way n at (run_of way n w m at)) ≡ false
unfolding run_of
run_ends way n w zero at l = absurd (omega arith)
run_ends way n w (suc m) at l = go (run_ends way n w m (next_of way n at)) (ahead_of way n w at) refl l
  where
    rest : ℕ
    rest = run_of way n w m (next_of way n at)

    go : (rest < m → ahead_of way n w (station_after way n (next_of way n at) rest) ≡ false) → (b : Bool) → ahead_of way n w at ≡ b
        → cond b (suc rest) zero < suc m
        → ahead_of way n w (station_after way n at (cond b (suc rest) zero)) ≡ false
    go ih true e k = ih (omega arith)
    go ih false e k = e
