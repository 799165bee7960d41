-- Fairness frames: what one that is heard can be refused for, in order, and changes; and what the station tells.
-- Assumes nothing.
use Rattle.std.specs.Prelude.{ℕ, not, List, [], ◌∷◌, Result, Ok, Err}
use Rattle.decide.specs.Test.{test}
use Rattle.decide.specs.Refusal.{Fault, fault, first_of, refused_or}
use Rattle.shaper.specs.declared.Refused.{Refused}
use Rattle.shaper.specs.Refused.{refused}
use Rattle.advert.specs.declared.Advert.{Advert}
use Rattle.advert.specs.Frame.{whole, advert_in}
use Rattle.heard.specs.Frame.{ringlet_fault, ttl_fault, ring_fault, address_fault}
use Rattle.fair.specs.Advertise.{heard_of, told_of}
use Rattle.station.specs.declared.Station.{Station}
use Rattle.station.specs.Answers.{with_fair, Done, refused_of, done_of}
use Rattle.station.specs.Calls.{range_fault}

-- ---- hear

-- what a frame says can be refused for: its ringlet bit against the lent station's own (2), whatever else is in that station; the station's range (1);
-- the frame's ttl (3); its hops against the number of stations (13); its address (11)
abbrev pub listen_faults : Station → Advert → List Fault
listen_faults st a = ringlet_fault st.settings a ∷ range_fault st ∷ ttl_fault a ∷ ring_fault st.settings a ∷ address_fault st.settings a ∷ []

-- A rate of 65,535 clears downstream congestion, others set it.
abbrev pub changed_of : Station → Advert → Station
changed_of st a = with_fair st (heard_of st.fair a)

abbrev pub listen_of : Station → Advert → Done
listen_of st a = refused_or refused_of (first_of (listen_faults st a)) (done_of (changed_of st a))

-- Another length, type, header kind .. : 2.
abbrev pub hear_faults : Station → List ℕ → List Fault
hear_faults st xs = fault 2 (not (test (whole xs))) ∷ listen_faults st (advert_in xs)

abbrev pub hear_of : Station → List ℕ → Done
hear_of st xs = refused_or refused_of (first_of (hear_faults st xs)) (done_of (changed_of st (advert_in xs)))

-- ---- tell

abbrev pub tell_faults : Station → List Fault
tell_faults st = range_fault st ∷ []

-- what telling answers: the frame that is advertised, or a refusal
abbrev pub Told : Type 0
Told = Result Advert Refused

-- a refusal tells nothing
abbrev pub not_told_of : ℕ → Told
not_told_of n = Err (refused n 0)

-- the frame in the answer, each part 0 where it is refused
abbrev pub advert_said : Told → Advert
advert_said (Ok a) = a
advert_said (Err e) = record { ringlet = 0; ttl = 0; high = 0; low = 0; rate = 0 }

-- the frame that the station advertises
abbrev pub tell_of : Station → Told
tell_of st = refused_or not_told_of (first_of (tell_faults st)) (Ok (told_of st.fair st.settings))
