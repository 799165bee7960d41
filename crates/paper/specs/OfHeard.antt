-- Public functions of `heard`, by name: two answers that meet the contract are equal.
-- Assumes nothing.
use Rattle.advert.specs.declared.Advert.{Advert}
use Rattle.decide.specs.Hops.{in_ring}
use Rattle.decide.specs.Test.{test}
use Rattle.heard.specs.Frame.{last_hop, none_received, other_ringlet, own_address, own_frame, own_ringlet, received_of}
use Rattle.heard.specs.Range.{hops_of, received_ok, ttl_ok}
use Rattle.heard.specs.declared.Received.{Received}
use Rattle.settings.specs.declared.Settings.{Settings}
use Rattle.std.specs.Prelude.{Bool, ℕ, ◌≡◌}
use Rattle.paper.specs.Determined.{Determined}

pub record Functions : Type 0 where
  -- Received::none
  pub received_none : Determined (λ (r : Received). r ≡ none_received)
  -- Received::in_range
  pub received_in_range : (self : Received) (stations : ℕ) → Determined (λ (r : Bool). r ≡ test (received_ok stations self))
  -- ttl_ok
  pub ttl_ok_lem : (ttl : ℕ) → Determined (λ (r : Bool). r ≡ test (ttl_ok ttl))
  -- hops_of
  pub hops_of_lem : (ttl : ℕ) → Determined (λ (r : ℕ). r ≡ hops_of ttl)
  -- ttl_in_ring
  pub ttl_in_ring : (stations ttl : ℕ) → Determined (λ (r : Bool). r ≡ test (in_ring stations (hops_of ttl)))
  -- is_own_ringlet
  pub is_own_ringlet : (settings : Settings) (advert : Advert) → Determined (λ (r : Bool). r ≡ test (own_ringlet settings advert))
  -- is_own_address
  pub is_own_address : (settings : Settings) (advert : Advert) → Determined (λ (r : Bool). r ≡ test (own_address settings advert))
  -- received_from
  pub received_from : (advert : Advert) → Determined (λ (r : Received). r ≡ received_of advert)
  -- own_frame
  pub own_frame_lem : (settings : Settings) (rate : ℕ) → Determined (λ (r : Advert). r ≡ own_frame settings rate)
  -- other_ringlet
  pub other_ringlet_lem : (settings : Settings) → Determined (λ (r : ℕ). r ≡ other_ringlet settings)
  -- last_hop
  pub last_hop_lem : (settings : Settings) (ttl : ℕ) → Determined (λ (r : Bool). r ≡ test (last_hop settings ttl))
