-- What is left of a text, from any place in it: its digits go on where the place stands, and other text or an odd digit in it is no hex.
-- It is said of whatever is told of the bytes of a text that may end, and otherwise.
-- Assumes nothing.
use Prim.Native.Nat.{ℕ, ◌+◌, ◌*◌, ◌<◌}
use mathlib.Core.Bool.{Bool, false, cond, ◌&&◌}
use mathlib.Core.List.{List, [], ◌∷◌}
use mathlib.Core.Path.{◌≡◌, refl, ◌∙◌}
use Rattle.feed.specs.declared.Feed.{Feed}
use Rattle.feed.specs.Feed.{fed_byte, fed_of}
use Rattle.hex_text.specs.declared.Glyph.{Glyph}
use Rattle.hex_text.specs.declared.Glyph.TheVariants.{Digit, Blank, Other}
use Rattle.hex_text.specs.declared.Place.{Place}
use Rattle.hex_text.specs.declared.Place.TheVariants.{Between, Behind, Lost}
use Rattle.hex_text.specs.declared.Hex.{Hex}
use Rattle.hex_text.specs.Hex.{glyph_of, all_hex, digits_of, pairs, even}
use Rattle.hex_text.specs.Fed.{read_digit, read_text, is_whole}
use Rattle.hex_text.proofs.Rows.{digit_between, digit_behind, digit_lost, char_digit, char_blank, char_other}
use Rattle.hex_text.proofs.Digits.{digit_small, byte_pair, even_more}

-- a digit that is kept is below 16
abbrev pub Kept : Place → Type 0
Kept Between = Unit {0}
Kept (Behind h) = h < 16
Kept Lost = Unit {0}

module _ {A : Type 0} (told : Feed → A) (otherwise : A) where
  unfoldable pub answer_of : Hex → A
  answer_of x = cond (is_whole x.place) (told x.feed) otherwise

  -- the answer from between two bytes of a text whose bytes so far are in f, if it is clean and its digits are ds
  abbrev pub answer : Feed → Bool → List ℕ → A
  answer f clean ds = cond (clean && even ds) (told (fed_of f (pairs ds))) otherwise

  abbrev pub answer_at : Place → Feed → Bool → List ℕ → A
  answer_at Between f clean ds = answer f clean ds
  answer_at (Behind h) f clean ds = answer f clean (h ∷ ds)
  answer_at Lost f clean ds = otherwise

  abbrev Goes : List ℕ → Hex → Type 0
  Goes cs x = answer_of (read_text x cs) ≡ answer_at x.place x.feed (all_hex cs) (digits_of cs)

  -- other text
  refused : (p : Place) (f : Feed) (ds : List ℕ) → otherwise ≡ answer_at p f false ds
  refused Between f ds = refl
  refused (Behind h) f ds = refl
  refused Lost f ds = refl

  module _ (c : ℕ) (cs : List ℕ) (x : Hex) (k : Kept x.place) (go : (y : Hex) → Kept y.place → Goes cs y) where
    -- a digit more
    from_digit : (d : ℕ) → glyph_of c ≡ Digit d → answer_of (read_text (read_digit x d) cs) ≡ answer_at x.place x.feed (all_hex cs) (d ∷ digits_of cs)
    unfolding fed_of
    from_digit d g = by x.place refl k
      where
        by : (p : Place) → x.place ≡ p → Kept p → answer_of (read_text (read_digit x d) cs) ≡ answer_at p x.feed (all_hex cs) (d ∷ digits_of cs)
        by Between e s = rw (digit_between x d e) (go _ (digit_small c d g))
        by (Behind h) e s =
            rw (digit_behind x d h e, byte_pair h d s (digit_small c d g), even_more h d (digits_of cs))
            (go (record { feed = fed_byte x.feed (16 * h + d); place = Between }) tt)
        by Lost e s = rw (digit_lost x d e) (go x k ∙ rw e)

    from_char : Goes (c ∷ cs) x
    unfolding read_text
    from_char = by (glyph_of c) refl
      where
        by : (g : Glyph) → glyph_of c ≡ g → Goes (c ∷ cs) x
        by (Digit d) g = rw (char_digit x c d g, g) (from_digit d g)
        by Blank g = rw (char_blank x c g, g) (go x k)
        by Other g = rw (char_other x c g, g) (go _ tt ∙ refused x.place x.feed (digits_of cs))

  from_end : (x : Hex) → Goes [] x
  unfolding answer_of read_text fed_of
  from_end x = by x.place refl
    where
      by : (p : Place) → x.place ≡ p → answer_of x ≡ answer_at p x.feed (all_hex []) []
      by Between e = rw e
      by (Behind h) e = rw e
      by Lost e = rw e

  pub goes : (cs : List ℕ) (x : Hex) → Kept x.place → Goes cs x
  goes [] x k = from_end x
  goes (c ∷ cs) x k = from_char c cs x k (goes cs)
