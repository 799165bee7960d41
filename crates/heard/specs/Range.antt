-- The range of what was received: "own and received rates at most 65,534" and "a received ttl 193 to 255", with no hops beyond the ring (document 02,
-- A5). Assumes nothing.
use Rattle.std.specs.Prelude.{ℕ, ◌-◌, ◌≤◌, ◌<◌}
use Rattle.decide.specs.Test.{Test, ◌≤?◌, ◌∧?◌}
use Rattle.decide.specs.Hops.{in_ring}
use Rattle.heard.specs.declared.Received.{Received}

-- ttl 193 to 255, received and in a frame alike
abbrev pub ttl_ok : ℕ → Test
ttl_ok ttl = 193 ≤? ttl ∧? ttl ≤? 255

-- hopsToCongestion = 256 − ttl.
abbrev pub hops_of : ℕ → ℕ
hops_of ttl = 256 - ttl

-- received rate and ttl, on a ring of so many stations; a flag, 0 or 1; and the high 16 bits of the received address
abbrev pub received_ok : ℕ → Received → Test
received_ok stations r =
    r.rate ≤? 65534 ∧? ttl_ok r.ttl ∧? in_ring stations (hops_of r.ttl) ∧? r.downstream ≤? 1 ∧? r.high ≤? 65535

-- ---- the same as named facts

pub record ReceivedOk (stations : ℕ) (r : Received) : Type 0 where
  pub rate_most : r.rate ≤ 65534
  pub ttl_least : 193 ≤ r.ttl
  pub ttl_most : r.ttl ≤ 255
  pub ring : hops_of r.ttl < stations
  pub downstream_most : r.downstream ≤ 1
  pub high_most : r.high ≤ 65535
