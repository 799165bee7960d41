-- A summary as 48 bytes, words little-endian: mtu, loLimit, hiLimit and events 4 bytes each; accrued, sent, ceiling (two's complement) and need 8 each.
-- Assumes nothing.
use Rattle.std.specs.Prelude.{List, [], ◌∷◌, ℕ, ◌<◌, Ok, Err}
use Rattle.std.specs.Int.Signed.{mag}
use Rattle.wire.specs.Wire.{le}
use Rattle.wire.specs.Parts.{Part, number, laid_out}
use Rattle.wire.specs.Signed.{signed_of, unsigned_of}
use Rattle.summary.specs.declared.Summary.{Summary}
use Rattle.summary.specs.Answer.{Answer}

-- how many bytes a summary takes
abbrev pub sheet_length : ℕ
sheet_length = 48

-- the fields in their order
abbrev pub sheet_parts : Summary → List Part
sheet_parts s =
    number 4 s.limits.mtu
    ∷ number 4 s.limits.lo
    ∷ number 4 s.limits.hi
    ∷ number 4 s.events
    ∷ number 8 s.accrued
    ∷ number 8 s.sent
    ∷ number 8 (unsigned_of s.ceiling)
    ∷ number 8 s.need
    ∷ []

-- the bytes of a summary
unfoldable pub sheet_of : Summary → List ℕ
sheet_of s = laid_out (sheet_parts s)

-- a summary in the room, or the room as it was where there is none
abbrev pub handed : List ℕ → Answer → List ℕ
handed room (Ok s) = sheet_of s
handed room (Err r) = room

-- the summary that bytes hold: each field at its place
unfoldable pub summary_at : List ℕ → Summary
summary_at xs =
    record {
      limits = record { mtu = le 4 xs 0; lo = le 4 xs 4; hi = le 4 xs 8 };
      events = le 4 xs 12;
      accrued = le 8 xs 16;
      sent = le 8 xs 24;
      ceiling = signed_of (le 8 xs 32);
      need = le 8 xs 40;
    }

-- each field fits its bytes
pub record SummaryFits (s : Summary) : Type 0 where
  pub mtu : s.limits.mtu < 4294967296
  pub lo : s.limits.lo < 4294967296
  pub hi : s.limits.hi < 4294967296
  pub events : s.events < 4294967296
  pub accrued : s.accrued < 18446744073709551616
  pub sent : s.sent < 18446744073709551616
  pub ceiling : mag s.ceiling < 9223372036854775808
  pub need : s.need < 18446744073709551616
