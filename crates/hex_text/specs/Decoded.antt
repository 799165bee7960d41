-- A part of a chunk decoded into a room, before its bytes are fed: what is read so far and what is left are the text.
-- Assumes nothing.
use Rattle.std.specs.Prelude.{ℕ, ◌+◌, ◌≤◌, ◌<◌, List, ◌≡◌, length, get_or, take, drop}
use Rattle.feed.specs.declared.Feed.{Feed}
use Rattle.feed.specs.Feed.{fed_of}
use Rattle.hex_text.specs.declared.Glyph.{Glyph}
use Rattle.hex_text.specs.declared.Glyph.TheVariants.{Digit, Blank, Other}
use Rattle.hex_text.specs.declared.Place.{Place}
use Rattle.hex_text.specs.declared.Hex.{Hex}
use Rattle.hex_text.specs.declared.Decoded.{Decoded}
use Rattle.hex_text.specs.Hex.{glyph_of}
use Rattle.hex_text.specs.Fed.{read_text}

-- ---- the table of characters

-- what a character is, as a number: a digit's value, or one past them
abbrev pub code_of : Glyph → ℕ
code_of (Digit d) = d
code_of Blank = 16
code_of Other = 17

abbrev pub Table : List ℕ → Type 0
Table codes = (c : ℕ) → c < 256 → get_or codes c 0 ≡ code_of (glyph_of c)

-- ---- a part of a chunk

abbrev pub decoded_to : Place → ℕ → ℕ → Decoded
decoded_to p i n = record { place = p; next = i; count = n }

-- the text so far: the room's bytes are fed behind those before
abbrev pub so_far : List ℕ → Decoded → Feed → Hex
so_far room d f = record { feed = fed_of f (take d.count room); place = d.place }

-- the text with the whole chunk: the rest is read from there
abbrev pub onwards : List ℕ → List ℕ → Decoded → Feed → Hex
onwards chunk room d f = read_text (so_far room d f) (drop d.next chunk)

-- a step goes on in the chunk and puts one byte into the room at most, and the whole stays the same, whatever was fed before
pub record Steps (chunk before : List ℕ) (d : Decoded) (after : List ℕ) (e : Decoded) : Type 0 where
  pub same : (f : Feed) → onwards chunk after e f ≡ onwards chunk before d f
  pub further : d.next < e.next
  pub within : e.next ≤ length chunk
  pub one_more : e.count ≤ d.count + 1
  pub size : length after ≡ length before

-- so do all steps from a character on
pub record Decodes (chunk : List ℕ) (start : ℕ) (place : Place) (before after : List ℕ) (e : Decoded) : Type 0 where
  pub same : (f : Feed) → onwards chunk after e f ≡ read_text (record { feed = f; place = place }) (drop start chunk)
  pub further : start < e.next
  pub within : e.next ≤ length chunk
  pub fits : e.count ≤ length after
  pub size : length after ≡ length before
