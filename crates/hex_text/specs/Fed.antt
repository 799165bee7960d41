-- A text fed character by character: what is kept of the characters so far, and what they come to.
-- Assumes nothing.
use Rattle.std.specs.Prelude.{ℕ, ◌+◌, ◌*◌, ◌%◌, Bool, true, false, cond, ◌||◌, List, [], ◌∷◌, eqb, Err}
use Rattle.decide.specs.Number.{number_in, refusal_of}
use Rattle.summary.specs.Answer.{Answer}
use Rattle.feed.specs.declared.Stage.{Stage}
use Rattle.feed.specs.declared.Stage.TheVariants.{Heading, Summing, Stopped}
use Rattle.feed.specs.Feed as Feeding
use Rattle.hex_text.specs.declared.Glyph.{Glyph}
use Rattle.hex_text.specs.declared.Glyph.TheVariants.{Digit, Blank, Other}
use Rattle.hex_text.specs.declared.Place.{Place}
use Rattle.hex_text.specs.declared.Place.TheVariants.{Between, Behind, Lost}
use Rattle.hex_text.specs.declared.Hex.{Hex}
use Rattle.hex_text.specs.Hex.{glyph_of}

-- the byte of two digits
abbrev pub byte_of : ℕ → ℕ → ℕ
byte_of h l = (h % 16) * 16 + l % 16

abbrev pub start_of : Hex
start_of = record { feed = Feeding.start_of; place = Between }

abbrev pub placed_at : Hex → Place → Hex
placed_at x p = record { feed = x.feed; place = p }

-- the first digit of a byte is kept, the second makes the byte; past other text nothing counts
abbrev pub digit_at : Place → Hex → ℕ → Hex
digit_at Between x d = placed_at x (Behind d)
digit_at (Behind h) x d = record { feed = Feeding.fed_byte x.feed (byte_of h d); place = Between }
digit_at Lost x d = x

unfoldable pub read_digit : Hex → ℕ → Hex
read_digit x d = digit_at x.place x d

abbrev pub read_glyph : Glyph → Hex → Hex
read_glyph (Digit d) x = read_digit x d
read_glyph Blank x = x
read_glyph Other x = placed_at x Lost

unfoldable pub read_char : Hex → ℕ → Hex
read_char x c = read_glyph (glyph_of c) x

unfoldable pub read_text : Hex → List ℕ → Hex
read_text x [] = x
read_text x (c ∷ cs) = read_text (read_char x c) cs

-- chunk after chunk
unfoldable pub read_chunks : Hex → List (List ℕ) → Hex
read_chunks x [] = x
read_chunks x (cs ∷ chunks) = read_chunks (read_text x cs) chunks

-- a text may end behind a whole byte, and past no other text
abbrev pub is_whole : Place → Bool
is_whole Between = true
is_whole (Behind h) = false
is_whole Lost = false

unfoldable pub finish_of : Hex → Answer
finish_of x = cond (is_whole x.place) (Feeding.finish_of x.feed) (Err (refusal_of 2))

-- ---- what follows can change nothing

abbrev pub is_lost : Place → Bool
is_lost Between = false
is_lost (Behind h) = false
is_lost Lost = true

abbrev pub is_stopped_at_two : Stage → Bool
is_stopped_at_two Heading = false
is_stopped_at_two (Summing s) = false
is_stopped_at_two (Stopped r) = eqb (number_in r) 2

-- past other text, or past a fault 2 of the record: other text is 2 as well
abbrev pub ends_of : Hex → Bool
ends_of x = is_lost x.place || is_stopped_at_two x.feed.stage
