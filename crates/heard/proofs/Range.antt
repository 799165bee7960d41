-- The range test of what was received says exactly the named facts, both ways; and nothing received is in range on every ring.
-- Assumes nothing.
use Prim.Native.Nat.{ℕ, ◌≤◌}
use native.Mathlib.Omega.{arith}
use Rattle.decide.specs.Test.{Holds}
use Rattle.heard.specs.declared.Received.{Received}
use Rattle.heard.specs.Range.{received_ok, ReceivedOk}
use Rattle.heard.specs.Frame.{none_received}

module _ (stations : ℕ) (r : Received) where
  pub received_facts : Holds (received_ok stations r) → ReceivedOk stations r
  received_facts h =
      record { rate_most = omega arith; ttl_least = omega arith; ttl_most = omega arith; ring = omega arith; downstream_most = omega arith; high_most = omega arith }

  pub received_holds : ReceivedOk stations r → Holds (received_ok stations r)
  received_holds ok = omega arith

-- nothing received is in range: its ttl of 255 tells of 1 hop, and every ring has 2 stations or more
pub none_received_ok : (stations : ℕ) → 2 ≤ stations → ReceivedOk stations none_received
none_received_ok stations l = received_facts stations none_received (omega arith)
