-- Links and the stations that they join.
-- Assumes nothing.
use mathlib.Core.Path.{◌≡◌, refl, sym, ap, ◌∙◌}
use Prim.Native.Nat.{ℕ, ◌+◌, ◌-◌, ◌%◌, ◌<◌}
use native.Mathlib.Nat.{mod-eq_of_lt, mod_self, zero-add}
use native.Mathlib.Omega.{arith}
use Rattle.ring.specs.declared.Way.{Way}
use Rattle.ring.specs.declared.Way.TheVariants.{Left, Right}
use Rattle.ring.specs.Links.{other_of, next_of, link_of}
use Rattle.ring.proofs.Hops.{back}

-- Link k joins k and k+1,
pub joins_next : (stations k : ℕ) → k + 1 < stations → (link_of Right stations k ≡ k) × (next_of Right stations k ≡ k + 1)
joins_next stations k h = (refl, mod-eq_of_lt h)

-- the last joins 0:
pub last_joins : (stations : ℕ) → 0 < stations → next_of Right stations (stations - 1) ≡ 0
last_joins stations h = ap (λ (x : ℕ). x % stations) (let e : stations - 1 + 1 ≡ stations = omega arith in e) ∙ mod_self stations

-- it is the last station's own link, and the one to the left of station 0;
pub last_link : (stations : ℕ) → 0 < stations → (link_of Right stations (stations - 1) ≡ stations - 1) × (link_of Left stations 0 ≡ stations - 1)
last_link stations h = (refl, mod-eq_of_lt (let i : 0 + (stations - 1) < stations = omega arith in i) ∙ zero-add (stations - 1))

-- the link ahead of a station is, seen from the station there, the link back.
pub both_ends : (way : Way) (stations at : ℕ) → at < stations → link_of way stations at ≡ link_of (other_of way) stations (next_of way stations at)
both_ends Left stations at h = refl
both_ends Right stations at h = sym (back Right stations at h)
