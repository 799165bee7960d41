-- What an answer of the choice holds fits a byte: a code, and numbers of hops below 64.
-- Assumes nothing.
use Prim.Native.Nat.{ℕ, ◌≤◌, ◌<◌}
use mathlib.Core.Bool.{Bool, cond}
use mathlib.Core.Path.{◌≡◌, ap}
use native.Mathlib.Omega.{arith}
use Rattle.decide.proofs.Cases.{of_each}
use Rattle.ring.specs.declared.Way.{Way}
use Rattle.ring.specs.declared.Way.TheVariants.{Left, Right}
use Rattle.ring.specs.declared.Choice.{Choice}
use Rattle.ring.specs.Choosing.{code_of, wrapping_of, distance_of, way_of, along_of, choose_of, chosen_as, Between}
use Rattle.ring.proofs.Distances.{between, whole_ring}
use Rattle.ring.proofs.Faults.{same_choice, chosen_means}

-- the code of a side, the hops on it and the ttl
pub record Small (code distance ttl : ℕ) : Type 0 where
  pub side : code ≤ 2
  pub hops : distance < 64
  pub life : ttl < 64

code_small : (way : Way) → code_of way ≤ 2
code_small Left = omega arith
code_small Right = omega arith

distance_small : (way : Way) (stations own target : ℕ) → Between stations own target → distance_of way stations own target < 64
distance_small Left stations own target b = let w = whole_ring stations own target b in let s = b.small in omega arith
distance_small Right stations own target b = let w = whole_ring stations own target b in let s = b.small in omega arith

module _ (stations own target links side protection ring : ℕ) where
  abbrev way : Way
  way = way_of stations own target links side protection

  abbrev far : ℕ
  far = distance_of way stations own target

  pub chosen_small : (code distance ttl : ℕ) (mark : Bool)
      → choose_of stations own target links side protection ring ≡ chosen_as code distance ttl mark → Small code distance ttl
  unfolding along_of
  chosen_small code distance ttl mark e =
      let m = chosen_means stations own target links side protection ring code distance ttl mark e in
      let p = m.0 in
      let d = distance_small way stations own target (between p) in
      let t = of_each (λ (x : ℕ). x < 64) (wrapping_of ring) 63 far (λ q. omega arith) (λ q. d) in
      let same = same_choice m.1 in
      let is_code : code ≡ code_of way = ap (λ (c : Choice). c.side) same in
      let is-far : distance ≡ far = ap (λ (c : Choice). c.distance) same in
      let is-ttl : ttl ≡ cond (wrapping_of ring) 63 far = ap (λ (c : Choice). c.ttl) same in
      let c = code_small way in
      record { side = omega arith; hops = omega arith; life = omega arith }
