-- What a station advertises, and what a received frame changes. Assumes nothing.
use Rattle.std.specs.Prelude.{◌-◌, cond}
use Rattle.decide.specs.Test.{Test, test, ◌≤?◌, ◌≡?◌, ◌∧?◌, ◌∨?◌}
use Rattle.advert.specs.declared.Advert.{Advert}
use Rattle.settings.specs.declared.Settings.{Settings}
use Rattle.heard.specs.declared.Received.{Received}
use Rattle.heard.specs.Frame.{other_ringlet, own_frame, last_hop, received_of}
use Rattle.fair.specs.declared.Fair.{Fair}

-- ---- told

-- the received rate, its address, ttl less 1
abbrev pub passed_on_of : Fair → Settings → Advert
passed_on_of f s = record {
  ringlet = other_ringlet s;
  ttl = f.received.ttl - 1;
  high = f.received.high;
  low = f.received.low;
  rate = f.received.rate;
}

-- not congested either way
abbrev pub uncongested : Fair → Test
uncongested f = f.decided.congested ≡? 0 ∧? f.received.downstream ≡? 0

-- only locally congested, or both and own ≤ received
abbrev pub own_counts : Fair → Test
own_counts f =
    f.decided.congested ≡? 1 ∧? f.received.downstream ≡? 0
    ∨? f.decided.congested ≡? 1 ∧? f.received.downstream ≡? 1 ∧? f.decided.own ≤? f.received.rate

-- Advertise 65,535 (FULL_RATE) when not congested either way; own rate when only locally congested, or both and own ≤ received; else the received
-- rate, its address, ttl less 1, but FULL_RATE when the received hops are the number of stations less 1.
unfoldable pub told_of : Fair → Settings → Advert
told_of f s =
    cond (test (uncongested f)) (own_frame s 65535)
    (cond (test (own_counts f)) (own_frame s f.decided.own)
    (cond (test (last_hop s f.received.ttl)) (own_frame s 65535) (passed_on_of f s)))

-- ---- heard

-- the state with something else received
abbrev pub with_received : Received → Fair → Fair
with_received r f = record { counters = f.counters; smoothed = f.smoothed; decided = f.decided; since = f.since; received = r }

abbrev pub heard_of : Fair → Advert → Fair
heard_of f a = with_received (received_of a) f
