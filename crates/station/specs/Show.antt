-- The reading of a station.
-- Assumes nothing.
use Rattle.std.specs.Prelude.{ℕ, cond, List, [], ◌∷◌, Result, Ok, Err, eqb}
use Rattle.decide.specs.Refusal.{Fault, first_of, refused_or}
use Rattle.shaper.specs.declared.Refused.{Refused}
use Rattle.shaper.specs.Refused.{refused}
use Rattle.queue.specs.declared.Queue.{Queue}
use Rattle.queue.specs.Frame.{frame_of}
use Rattle.fair.specs.Start.{none_counted}
use Rattle.fair.specs.Age.{shown_four}
use Rattle.station.specs.declared.Station.{Station}
use Rattle.station.specs.declared.Held.{Held}
use Rattle.station.specs.declared.Reading.{Reading}
use Rattle.station.specs.Calls.{range_fault}

-- a queue: frames, bytes
abbrev pub held_in : Queue → Held
held_in q = record { frames = q.count; bytes = q.held }

-- stage: frames (0 or 1), bytes
unfoldable pub held_on : ℕ → Held
held_on w = cond (eqb w 0) (record { frames = 0; bytes = 0 }) (record { frames = 1; bytes = (frame_of w).size })

-- the credits of M, A, B, C, D; what control, primary and secondary queue and the stage hold; the counters, the smoothed rates as they are shown, what
-- intervals decide, and what was received
abbrev pub reading_of : Station → Reading
reading_of st =
    record {
      credits = st.flow.credits;
      control = held_in st.flow.control;
      primary = held_in st.flow.primary;
      secondary = held_in st.flow.secondary;
      stage = held_on st.flow.stage;
      counters = st.fair.counters;
      smoothed = shown_four st.settings.fairness.lp st.fair.smoothed;
      decided = st.fair.decided;
      received = st.fair.received;
    }

abbrev pub show_faults : Station → List Fault
show_faults st = range_fault st ∷ []

-- a reading that says nothing: each word 0
abbrev pub blank_of : Reading
blank_of =
    record {
      credits = record { m = 0; a = 0; b = 0; c = 0; d = 0 };
      control = record { frames = 0; bytes = 0 };
      primary = record { frames = 0; bytes = 0 };
      secondary = record { frames = 0; bytes = 0 };
      stage = record { frames = 0; bytes = 0 };
      counters = none_counted;
      smoothed = none_counted;
      decided = record { local = 0; allowed = 0; allowedc = 0; own = 0; congested = 0 };
      received = record { downstream = 0; ttl = 0; high = 0; low = 0; rate = 0 };
    }

-- what showing answers: the reading, or a refusal
abbrev pub Shown : Type 0
Shown = Result Reading Refused

-- a refusal shows nothing
abbrev pub not_shown_of : ℕ → Shown
not_shown_of n = Err (refused n 0)

-- the reading in the answer
abbrev pub reading_said : Shown → Reading
reading_said (Ok r) = r
reading_said (Err e) = blank_of

abbrev pub show_of : Station → Shown
show_of st = refused_or not_shown_of (first_of (show_faults st)) (Ok (reading_of st))
