-- A station as bytes, each number least byte first: what is written, part behind part, and what is read, each number at its place.
-- Assumes nothing.
use Rattle.std.specs.Prelude.{ℕ, ◌+◌, ◌*◌, ◌^◌, ◌<◌, cond, List, [], ◌∷◌, eqb, length}
use Rattle.wire.specs.Wire.{le, put}
use Rattle.wire.specs.Parts.{Part, number, bytes_part, group, laid_out}
use Rattle.settings.specs.Words.{settings_length, word, settings_part, settings_at, Fits32, SettingsFit}
use Rattle.queue.specs.declared.Frame.{Frame}
use Rattle.queue.specs.Queue.{pushed, taken}
use Rattle.credits.specs.declared.Credits.{Credits}
use Rattle.flow.specs.declared.Line.{Line}
use Rattle.flow.specs.declared.Line.TheVariants.{Control, Primary, Secondary}
use Rattle.fair.specs.Four.{Four, Stored}
use Rattle.fair.specs.declared.Decided.{Decided}
use Rattle.heard.specs.declared.Received.{Received}
use Rattle.fair.specs.declared.Fair.{Fair}
use Rattle.station.specs.declared.Station.{Station}
use Rattle.slots.specs.Slots.{queue_length, queue_bytes, queue_at, WordsFit, QueueFits}
use Rattle.wire.specs.Words.{words_bytes, words_length}

-- ---- how many bytes each part takes, and where it stands: behind the one before

-- five credits; four counters, or four rates; what intervals decide; what was received: words of 4 bytes
abbrev pub credits_length : ℕ
credits_length = 4 * 5

abbrev pub four_length : ℕ
four_length = 4 * 4

abbrev pub decided_length : ℕ
decided_length = 4 * 5

abbrev pub received_length : ℕ
received_length = 4 * 5

-- four stored numbers of smoothed rates, 8 bytes each
abbrev pub stored_length : ℕ
stored_length = 4 * 8

-- in the fairness state, behind the counters: the stored numbers of the smoothed rates, what intervals decide, the intervals since a change, what was received
abbrev pub smoothed_place : ℕ
smoothed_place = four_length

abbrev pub decided_place : ℕ
decided_place = smoothed_place + stored_length

abbrev pub since_place : ℕ
since_place = decided_place + decided_length

abbrev pub received_place : ℕ
received_place = since_place + 4

abbrev pub fair_length : ℕ
fair_length = received_place + received_length

-- in a station, behind the credits: the queues, the stage's word, the fairness state, the settings
abbrev pub place_of : Line → ℕ
place_of Control = credits_length
place_of Primary = credits_length + queue_length
place_of Secondary = credits_length + 2 * queue_length

abbrev pub stage_place : ℕ
stage_place = place_of Secondary + queue_length

abbrev pub fair_place : ℕ
fair_place = stage_place + 4

abbrev pub settings_place : ℕ
settings_place = fair_place + fair_length

-- how many bytes a station takes
abbrev pub station_length : ℕ
station_length = settings_place + settings_length

-- ---- what is written: the parts, one after another

-- words as one part
abbrev pub words_part : List ℕ → Part
words_part vs = record { size = 4 * length vs; bytes = words_bytes vs; sized = words_length vs }

-- the credits of M, A, B, C, D
abbrev pub credits_words : Credits → List ℕ
credits_words c = c.m ∷ c.a ∷ c.b ∷ c.c ∷ c.d ∷ []

-- addRate, fwRate, addRateCongested, fwRateCongested, or the same smoothed as they are shown
abbrev pub four_words : Four → List ℕ
four_words r = r.add ∷ r.fw ∷ r.addc ∷ r.fwc ∷ []

-- what is stored for the same smoothed
abbrev pub stored_parts : Stored → List Part
stored_parts s = number 8 s.add ∷ number 8 s.fw ∷ number 8 s.addc ∷ number 8 s.fwc ∷ []

abbrev pub stored_bytes : Stored → List ℕ
stored_bytes s = laid_out (stored_parts s)

-- localFairRate, allowedRate, allowedRateCongested, own rate; locally congested
abbrev pub decided_words : Decided → List ℕ
decided_words d = d.local ∷ d.allowed ∷ d.allowedc ∷ d.own ∷ d.congested ∷ []

-- downstream congested; what was received: ttl, address (high 16, low 32 bits), rate
abbrev pub received_words : Received → List ℕ
received_words r = r.downstream ∷ r.ttl ∷ r.high ∷ r.low ∷ r.rate ∷ []

-- the fairness state
abbrev pub fair_parts : Fair → List Part
fair_parts f =
    words_part (four_words f.counters)
    ∷ group (stored_parts f.smoothed)
    ∷ words_part (decided_words f.decided)
    ∷ word f.since
    ∷ words_part (received_words f.received)
    ∷ []

abbrev pub fair_bytes : Fair → List ℕ
fair_bytes f = laid_out (fair_parts f)

-- credits; control, primary and secondary queue; the stage's word, 0 where empty; the fairness state; the settings
abbrev pub station_parts : Part → Part → Part → Station → List Part
station_parts control primary secondary st =
    words_part (credits_words st.flow.credits)
    ∷ control
    ∷ primary
    ∷ secondary
    ∷ word st.flow.stage
    ∷ group (fair_parts st.fair)
    ∷ settings_part st.settings
    ∷ []

-- A queue takes 518 bytes where it has its 128 slots.
unfoldable pub station_bytes : Station → List ℕ
station_bytes st =
    laid_out
    (station_parts
    (bytes_part (queue_bytes st.flow.control))
    (bytes_part (queue_bytes st.flow.primary))
    (bytes_part (queue_bytes st.flow.secondary))
    st)

-- ---- what is read: each number at its place

unfoldable pub credits_at : List ℕ → ℕ → Credits
credits_at xs at = record { m = le 4 xs at; a = le 4 xs (at + 4); b = le 4 xs (at + 8); c = le 4 xs (at + 12); d = le 4 xs (at + 16) }

abbrev pub four_at : List ℕ → ℕ → Four
four_at xs at = record { add = le 4 xs at; fw = le 4 xs (at + 4); addc = le 4 xs (at + 8); fwc = le 4 xs (at + 12) }

abbrev pub stored_at : List ℕ → ℕ → Stored
stored_at xs at = record { add = le 8 xs at; fw = le 8 xs (at + 8); addc = le 8 xs (at + 16); fwc = le 8 xs (at + 24) }

abbrev pub decided_at : List ℕ → ℕ → Decided
decided_at xs at =
    record { local = le 4 xs at; allowed = le 4 xs (at + 4); allowedc = le 4 xs (at + 8); own = le 4 xs (at + 12); congested = le 4 xs (at + 16) }

abbrev pub received_at : List ℕ → ℕ → Received
received_at xs at =
    record { downstream = le 4 xs at; ttl = le 4 xs (at + 4); high = le 4 xs (at + 8); low = le 4 xs (at + 12); rate = le 4 xs (at + 16) }

unfoldable pub fair_at : List ℕ → ℕ → Fair
fair_at xs at =
    record {
      counters = four_at xs at;
      smoothed = stored_at xs (at + smoothed_place);
      decided = decided_at xs (at + decided_place);
      since = le 4 xs (at + since_place);
      received = received_at xs (at + received_place);
    }

unfoldable pub station_at : List ℕ → Station
station_at xs =
    record {
      settings = settings_at xs settings_place;
      flow =
          record {
            credits = credits_at xs 0;
            control = queue_at xs (place_of Control);
            primary = queue_at xs (place_of Primary);
            secondary = queue_at xs (place_of Secondary);
            stage = le 4 xs stage_place;
          };
      fair = fair_at xs fair_place;
    }

-- ---- what is written anew of a queue

-- a frame is pushed to a queue
abbrev pub pushed_at : List ℕ → Line → Frame → List ℕ
pushed_at xs l x = put xs (place_of l) (queue_bytes (pushed (queue_at xs (place_of l)) x))

-- the first frame of a queue is taken
abbrev pub taken_at : List ℕ → Line → List ℕ
taken_at xs l = put xs (place_of l) (queue_bytes (taken (queue_at xs (place_of l))))

-- the same by where a selected frame comes from: 1 control, 2 primary, 3 secondary; else nothing is taken
abbrev pub taken_from : ℕ → List ℕ → List ℕ
taken_from origin xs = cond (eqb origin 1) (taken_at xs Control) (cond (eqb origin 2) (taken_at xs Primary) (cond (eqb origin 3) (taken_at xs Secondary) xs))

-- ---- each number fits its bytes, and each queue has its 128 slots

pub record StoredFits (s : Stored) : Type 0 where
  pub add : s.add < 256 ^ 8
  pub fw : s.fw < 256 ^ 8
  pub addc : s.addc < 256 ^ 8
  pub fwc : s.fwc < 256 ^ 8

pub record FairFits (f : Fair) : Type 0 where
  pub of_counters : WordsFit (four_words f.counters)
  pub of_smoothed : StoredFits f.smoothed
  pub of_decided : WordsFit (decided_words f.decided)
  pub of_since : Fits32 f.since
  pub of_received : WordsFit (received_words f.received)

pub record StationFits (st : Station) : Type 0 where
  pub of_credits : WordsFit (credits_words st.flow.credits)
  pub of_control : QueueFits st.flow.control
  pub of_primary : QueueFits st.flow.primary
  pub of_secondary : QueueFits st.flow.secondary
  pub of_stage : Fits32 st.flow.stage
  pub of_fair : FairFits st.fair
  pub of_settings : SettingsFit st.settings
