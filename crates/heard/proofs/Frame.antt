-- A received frame that goes no further; what a frame leaves as received, row by row; the faults that it can have; and the range. Assumes nothing.
use Prim.Native.Nat.{ℕ, ◌-◌, ◌≤◌, ◌<◌}
use mathlib.Core.Bool.{true, false, true≢false}
use mathlib.Core.Logic.{◌↔◌}
use mathlib.Core.Path.{◌≡◌, sym, ◌∙◌}
use native.Mathlib.Omega.{arith}
use borrow.Author.Tests.{eq-eqb, ne_eqb, not-true}
use Rattle.decide.specs.Test.{test, Holds, split, facts, passes, decided, ◌≡?◌}
use Rattle.decide.proofs.Cases.{by_cases, le_or}
use Rattle.decide.proofs.Hops.{out_exactly}
use Rattle.advert.specs.declared.Advert.{Advert}
use Rattle.settings.specs.declared.Settings.{Settings}
use Rattle.settings.specs.Range.{SiteOk}
use Rattle.heard.specs.Range.{ttl_ok, hops_of, ReceivedOk}
use Rattle.heard.specs.Frame.{last_hop, none_received, received_of, own_ringlet, own_address, ttl_fault, ring_fault}
use Rattle.heard.proofs.Range.{none_received_ok}

-- a received frame goes no further exactly if its ttl is the least that is in range on the ring
pub last_exactly : (s : Settings) → SiteOk s.site → (ttl : ℕ) → Holds (last_hop s ttl) ↔ (ttl ≡ 257 - s.site.stations)
last_exactly s ok ttl = let l = ok.stations_least in let m = ok.stations_most in (λ h. omega arith, λ h. omega arith)

-- what a frame leaves as received: one that clears, and others
module _ (a : Advert) where
  pub received_clears : a.rate ≡ 65535 → received_of a ≡ none_received
  unfolding received_of test
  received_clears e = rw (eq-eqb a.rate 65535 e)

  pub received_sets : (a.rate ≡ 65535 → ⊥) → received_of a ≡ record { downstream = 1; ttl = a.ttl; high = a.high; low = a.low; rate = a.rate }
  unfolding received_of test
  received_sets n = rw (ne_eqb a.rate 65535 n)

module _ (s : Settings) (a : Advert) where
  -- 2: the frame's ringlet bit is the station's own
  pub own_ringlet_exactly : (test (own_ringlet s a) ≡ true → a.ringlet ≡ s.ringlet) × (a.ringlet ≡ s.ringlet → test (own_ringlet s a) ≡ true)
  own_ringlet_exactly = (facts (own_ringlet s a), passes (own_ringlet s a))

  -- 3: the frame's ttl, which is a byte, is below 193
  pub ttl_exactly : a.ttl ≤ 255 → ((ttl_fault a).applies ≡ true → a.ttl < 193) × (a.ttl < 193 → (ttl_fault a).applies ≡ true)
  ttl_exactly m = (
    λ e. by_cases (le_or 193 a.ttl) (λ l. absurd (true≢false (sym (passes (ttl_ok a.ttl) (l, m)) ∙ not-true _ e))) (λ g. g),
    λ g. rw (sym (decided (ttl_ok a.ttl) false (λ h. omega arith))),
  )

  -- 13: the hops that the frame tells of reach the number of stations or more
  pub ring_exactly : ((ring_fault s a).applies ≡ true → s.site.stations ≤ hops_of a.ttl) × (s.site.stations ≤ hops_of a.ttl → (ring_fault s a).applies ≡ true)
  ring_exactly = out_exactly s.site.stations (hops_of a.ttl)

  -- 11: the frame's address is the station's own, in both its parts
  pub own_address_exactly :
      (test (own_address s a) ≡ true → (a.high ≡ s.address.high) × (a.low ≡ s.address.low))
      × ((a.high ≡ s.address.high) × (a.low ≡ s.address.low) → test (own_address s a) ≡ true)
  own_address_exactly = (facts (own_address s a), passes (own_address s a))

-- ---- the range

-- a frame with a ttl of 193 to 255, hops within the ring, and an address and a rate as any frame has, leaves what is received in range
pub received_in_range : (stations : ℕ) (a : Advert) → 2 ≤ stations → 193 ≤ a.ttl → a.ttl ≤ 255 → hops_of a.ttl < stations → a.high ≤ 65535 → a.rate ≤ 65535 →
    ReceivedOk stations (received_of a)
received_in_range stations a s l m g h r =
    by_cases (split (a.rate ≡? 65535))
    (λ e. rw (received_clears a e) (none_received_ok stations s))
    (λ n. rw (received_sets a n)
    (record { rate_most = omega (arith, r, n); ttl_least = l; ttl_most = m; ring = g; downstream_most = omega arith; high_most = h }))
