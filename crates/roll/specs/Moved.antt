-- What the movers answer and leave: an old record in the new form, and either form in the old one.
-- Assumes nothing.
use Rattle.std.specs.Prelude.{ℕ, true, false, cond, List, leb, length, Result, Ok, Err}
use Rattle.decide.specs.declared.refusal.Refusal.{Refusal}
use Rattle.decide.specs.Number.{number_in, refusal_of}
use Rattle.wire.specs.Wire.{put}
use Rattle.record.specs.Record.{written}
use Rattle.record.specs.Items.{written_items}
use Rattle.record.specs.Read.{Read, unreadable, whole, read_in}
use Rattle.roll.specs.Rolled.{rolled}

-- how many bytes were written, or why none were
abbrev pub Moved : Type 0
Moved = Result ℕ Refusal

-- the number of each: 0 where bytes were written
abbrev pub moved_number : Moved → ℕ
moved_number (Ok n) = 0
moved_number (Err r) = number_in r

-- what is to be written, or the number of the record's earliest fault
pub data Output : Type 0 where
  refused : ℕ → Output
  bytes : List ℕ → Output

-- A mover turns an old record into the new form; kind 4 where an old record is moved is 2,
abbrev pub rolled_read : Read → Output
rolled_read (unreadable n) = refused n
rolled_read (whole l es) = bytes (written_items l (rolled es))

unfoldable pub rolled_bytes : List ℕ → Output
rolled_bytes xs = rolled_read (read_in false xs)

-- and back.
abbrev pub unrolled_read : Read → Output
unrolled_read (unreadable n) = refused n
unrolled_read (whole l es) = bytes (written l es)

unfoldable pub unrolled_bytes : List ℕ → Output
unrolled_bytes xs = unrolled_read (read_in true xs)

-- Work into lent room; bytes past the output stay. Room too short is 12, last.
unfoldable pub moved_of : Output → List ℕ → Moved
moved_of (refused n) room = Err (refusal_of n)
moved_of (bytes ys) room = cond (leb (length ys) (length room)) (Ok (length ys)) (Err (refusal_of 12))

unfoldable pub left_of : Output → List ℕ → List ℕ
left_of (refused n) room = room
left_of (bytes ys) room = cond (leb (length ys) (length room)) (put room 0 ys) room
