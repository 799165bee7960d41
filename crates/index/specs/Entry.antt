-- An entry of an index as 40 bytes, little-endian: the events covered, the first event's place (the byte of its item, and how many of that item's events come before it) and need,
-- 4 bytes each; accrued, sent and ceiling (two's complement), 8 each. The settings are the record's.
-- Assumes nothing.
use Rattle.std.specs.Prelude.{List, [], ◌∷◌, ℕ, ◌+◌}
use Rattle.wire.specs.Wire.{le}
use Rattle.wire.specs.Parts.{Part, number, laid_out}
use Rattle.wire.specs.Signed.{signed_of, unsigned_of}
use Rattle.shaper.specs.declared.Limits.{Limits}
use Rattle.summary.specs.declared.Summary.{Summary}
use Rattle.excerpt.specs.declared.Place.{Place}

abbrev pub entry_parts : Place → Summary → List Part
entry_parts p s =
    number 4 s.events
    ∷ number 4 p.at
    ∷ number 4 p.gone
    ∷ number 4 s.need
    ∷ number 8 s.accrued
    ∷ number 8 s.sent
    ∷ number 8 (unsigned_of s.ceiling)
    ∷ []

-- the bytes of an entry
unfoldable pub entry_bytes : Place → Summary → List ℕ
entry_bytes p s = laid_out (entry_parts p s)

-- the summary that the entry at a byte holds, under the record's settings
unfoldable pub summary_in : Limits → List ℕ → ℕ → Summary
summary_in l xs at =
    record {
      limits = l;
      events = le 4 xs at;
      accrued = le 8 xs (at + 16);
      sent = le 8 xs (at + 24);
      ceiling = signed_of (le 8 xs (at + 32));
      need = le 4 xs (at + 12);
    }

-- and its first event's place
unfoldable pub place_in : List ℕ → ℕ → Place
place_in xs at = record { at = le 4 xs (at + 4); gone = le 4 xs (at + 8) }
