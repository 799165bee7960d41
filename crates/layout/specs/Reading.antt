-- A reading as 31 words of 4 bytes, least byte first.
-- Assumes nothing.
use Rattle.std.specs.Prelude.{ℕ, ◌+◌, ◌*◌, List, [], ◌∷◌}
use Rattle.wire.specs.Wire.{le}
use Rattle.wire.specs.Parts.{Part, laid_out}
use Rattle.station.specs.declared.Held.{Held}
use Rattle.station.specs.declared.Reading.{Reading}
use Rattle.slots.specs.Slots.{WordsFit}
use Rattle.layout.specs.Layout.{words_part, credits_words, four_words, decided_words, received_words, credits_at, four_at, decided_at, received_at}

-- how many bytes a reading takes
abbrev pub reading_length : ℕ
reading_length = 4 * 31

-- ---- what is written: the words, one after another

-- a queue or the stage: frames, bytes
abbrev pub held_words : Held → List ℕ
held_words h = h.frames ∷ h.bytes ∷ []

-- the credits; what control, primary and secondary queue and the stage hold; the counters, the smoothed rates as they are
-- shown, what intervals decide, what was received
abbrev pub reading_parts : Reading → List Part
reading_parts r =
    words_part (credits_words r.credits)
    ∷ words_part (held_words r.control)
    ∷ words_part (held_words r.primary)
    ∷ words_part (held_words r.secondary)
    ∷ words_part (held_words r.stage)
    ∷ words_part (four_words r.counters)
    ∷ words_part (four_words r.smoothed)
    ∷ words_part (decided_words r.decided)
    ∷ words_part (received_words r.received)
    ∷ []

unfoldable pub reading_bytes : Reading → List ℕ
reading_bytes r = laid_out (reading_parts r)

-- ---- what is read: each number at its place

abbrev pub held_at : List ℕ → ℕ → Held
held_at xs at = record { frames = le 4 xs at; bytes = le 4 xs (at + 4) }

unfoldable pub reading_at : List ℕ → Reading
reading_at xs =
    record {
      credits = credits_at xs 0;
      control = held_at xs 20;
      primary = held_at xs 28;
      secondary = held_at xs 36;
      stage = held_at xs 44;
      counters = four_at xs 52;
      smoothed = four_at xs 68;
      decided = decided_at xs 84;
      received = received_at xs 104;
    }

-- ---- numbers of 32 bits

pub record ReadingFits (r : Reading) : Type 0 where
  pub of_credits : WordsFit (credits_words r.credits)
  pub of_control : WordsFit (held_words r.control)
  pub of_primary : WordsFit (held_words r.primary)
  pub of_secondary : WordsFit (held_words r.secondary)
  pub of_stage : WordsFit (held_words r.stage)
  pub of_counters : WordsFit (four_words r.counters)
  pub of_smoothed : WordsFit (four_words r.smoothed)
  pub of_decided : WordsFit (decided_words r.decided)
  pub of_received : WordsFit (received_words r.received)
