-- A fairness frame as a station with these settings writes it and takes it in. Assumes nothing.
use Rattle.std.specs.Prelude.{ℕ, ◌-◌, cond, not}
use Rattle.decide.specs.Test.{Test, test, ◌≡?◌, ◌∧?◌}
use Rattle.decide.specs.Hops.{in_ring}
use Rattle.decide.specs.Refusal.{Fault, fault}
use Rattle.advert.specs.declared.Advert.{Advert}
use Rattle.settings.specs.declared.Settings.{Settings}
use Rattle.heard.specs.declared.Received.{Received}
use Rattle.heard.specs.Range.{ttl_ok, hops_of}

-- ---- told

-- A written frame bears the other ringlet's bit.
abbrev pub other_ringlet : Settings → ℕ
other_ringlet s = 1 - s.ringlet

-- Own and FULL frames use own address and ttl 255.
abbrev pub own_frame : Settings → ℕ → Advert
own_frame s rate = record { ringlet = other_ringlet s; ttl = 255; high = s.address.high; low = s.address.low; rate = rate }

-- A received frame goes no further, where document 01 said ttl 193, when the received hops are the number of stations less 1.
abbrev pub last_hop : Settings → ℕ → Test
last_hop s ttl = hops_of ttl ≡? s.site.stations - 1

-- ---- heard

-- no congestion downstream, received ttl 255, received address and rate 0
abbrev pub none_received : Received
none_received = record { downstream = 0; ttl = 255; high = 0; low = 0; rate = 0 }

-- A rate of 65,535 clears downstream congestion, others set it. A frame that clears it sets received ttl 255, received address and rate 0.
unfoldable pub received_of : Advert → Received
received_of a =
    cond (test (a.rate ≡? 65535))
    none_received
    (record { downstream = 1; ttl = a.ttl; high = a.high; low = a.low; rate = a.rate })

-- ---- the faults of a frame that is heard

-- a ringlet bit equal to the station's own: 2
abbrev pub own_ringlet : Settings → Advert → Test
own_ringlet s a = a.ringlet ≡? s.ringlet

-- a fairness frame bears this station's own address: 11
abbrev pub own_address : Settings → Advert → Test
own_address s a = a.high ≡? s.address.high ∧? a.low ≡? s.address.low

abbrev pub ringlet_fault : Settings → Advert → Fault
ringlet_fault s a = fault 2 (test (own_ringlet s a))

-- ttl 193 to 255, else 3
abbrev pub ttl_fault : Advert → Fault
ttl_fault a = fault 3 (not (test (ttl_ok a.ttl)))

-- a fairness frame whose hops reach the number of stations or more: 13, whatever its rate
abbrev pub ring_fault : Settings → Advert → Fault
ring_fault s a = fault 13 (not (test (in_ring s.site.stations (hops_of a.ttl))))

abbrev pub address_fault : Settings → Advert → Fault
address_fault s a = fault 11 (test (own_address s a))
