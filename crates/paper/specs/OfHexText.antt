-- Public functions of `hex_text`, by name: two answers that meet the contract are equal.
-- Assumes nothing.
use Rattle.decide.specs.declared.refusal.Refusal.{Refusal}
use Rattle.hex_text.specs.Fed.{ends_of, finish_of, is_whole, read_text, start_of}
use Rattle.hex_text.specs.Hex.{glyph_of}
use Rattle.hex_text.specs.declared.Glyph.{Glyph}
use Rattle.hex_text.specs.declared.Hex.{Hex}
use Rattle.std.specs.Prelude.{Bool, List, Result, ℕ, ◌≡◌}
use Rattle.summary.specs.declared.Summary.{Summary}
use Rattle.paper.specs.Determined.{Determined}

pub record Functions : Type 0 where
  -- Hex::new
  pub hex_new : Determined (λ (r : Hex). r ≡ start_of)
  -- Hex::text
  pub hex_text : (self : Hex) (chunk : List ℕ) → Determined (λ (r : Hex). r ≡ read_text self chunk)
  -- Hex::finish
  pub hex_finish : (self : Hex) → Determined (λ (r : Result Summary Refusal). r ≡ finish_of self)
  -- Hex::is_text
  pub hex_is_text : (self : Hex) → Determined (λ (r : Bool). r ≡ is_whole self.place)
  -- Hex::ends
  pub hex_ends : (self : Hex) → Determined (λ (r : Bool). r ≡ ends_of self)
  -- glyph_of
  pub glyph_of_lem : (c : ℕ) → Determined (λ (r : Glyph). r ≡ glyph_of c)
