-- What a step of decoding does, row by row: each by what stands at the next character, and by the place in the text.
-- Assumes nothing.
use Prim.Native.Nat.{ℕ, ◌+◌, ◌≤◌, ◌<◌}
use mathlib.Core.List.{List, [], ◌∷◌}
use mathlib.Core.Path.{◌≡◌, refl, sym, ap, ◌∙◌}
use native.Mathlib.Numerals.{add-one}
use native.Mathlib.Omega.{arith}
use lib.ListN.{length, get_or, take, drop, set, length-set}
use lib.Seq.{take-suc-set}
use Rattle.feed.specs.declared.Feed.{Feed}
use Rattle.feed.specs.Feed.{fed_byte, fed_of}
use Rattle.feed.proofs.Promises.{fed_chunks_lem}
use Rattle.hex_text.specs.declared.Glyph.{Glyph}
use Rattle.hex_text.specs.declared.Glyph.TheVariants.{Digit, Blank, Other}
use Rattle.hex_text.specs.declared.Place.TheVariants.{Between, Behind, Lost}
use Rattle.hex_text.specs.declared.Hex.{Hex}
use Rattle.hex_text.specs.declared.Decoded.{Decoded}
use Rattle.hex_text.specs.Hex.{glyph_of}
use Rattle.hex_text.specs.Fed.{byte_of, placed_at, read_char, read_text}
use Rattle.hex_text.specs.Decoded.{decoded_to, so_far, onwards, Steps, Decodes}
use Rattle.hex_text.proofs.Rows.{digit_between, digit_behind, digit_lost, char_digit, char_blank, char_other, text_next}

-- a byte behind those in the room is the next that is fed
fed_more : (f : Feed) (room : List ℕ) (n b : ℕ) → n < length room → fed_of f (take (n + 1) (set room n b)) ≡ fed_byte (fed_of f (take n room)) b
unfolding fed_of
fed_more f room n b h = rw (add-one, take-suc-set room n b h) (fed_chunks_lem f (take n room) (b ∷ []))

-- past other text nothing counts
module _ (x : Hex) (lost : x.place ≡ Lost) where
  lost_char : (c : ℕ) → read_char x c ≡ x
  lost_char c = by (glyph_of c) refl
    where
      by : (g : Glyph) → glyph_of c ≡ g → read_char x c ≡ x
      by (Digit d) g = char_digit x c d g ∙ digit_lost x d lost
      by Blank g = char_blank x c g
      by Other g = char_other x c g ∙ rw (sym lost)

  pub lost_stays : (cs : List ℕ) → read_text x cs ≡ x
  unfolding read_text
  lost_stays [] = refl
  lost_stays (c ∷ cs) = rw (lost_char c) (lost_stays cs)

-- ---- one character more

module _ (chunk room : List ℕ) (d : Decoded) (more : d.next < length chunk) where
  -- what the whole is, by what the character does
  by_char : (f : Feed) (x : Hex) → read_char (so_far room d f) (get_or chunk d.next 0) ≡ x → read_text x (drop (d.next + 1) chunk) ≡ onwards chunk room d f
  by_char f x e = sym (text_next (so_far room d f) chunk d.next more ∙ ap (λ y. read_text y (drop (d.next + 1) chunk)) e)

  -- past other text the chunk is read
  passed : ((f : Feed) → read_char (so_far room d f) (get_or chunk d.next 0) ≡ placed_at (so_far room d f) Lost) →
      Steps chunk room d room (decoded_to Lost (length chunk) d.count)
  passed e = record {
    same = λ f.
        let x : Hex = placed_at (so_far room d f) Lost in
        lost_stays x refl (drop (length chunk) chunk) ∙ sym (lost_stays x refl (drop (d.next + 1) chunk)) ∙ by_char f x (e f);
    further = more;
    within = omega arith;
    one_more = omega arith;
    size = refl;
  }

  pub step_other : glyph_of (get_or chunk d.next 0) ≡ Other → Steps chunk room d room (decoded_to Lost (length chunk) d.count)
  step_other g = passed (λ f. char_other (so_far room d f) (get_or chunk d.next 0) g)

  pub step_lost : d.place ≡ Lost → Steps chunk room d room (decoded_to Lost (length chunk) d.count)
  step_lost p = passed (λ f. lost_char (so_far room d f) p (get_or chunk d.next 0) ∙ rw p)

  pub step_blank : glyph_of (get_or chunk d.next 0) ≡ Blank → Steps chunk room d room (decoded_to d.place (d.next + 1) d.count)
  step_blank g = record {
    same = λ f. by_char f _ (char_blank (so_far room d f) (get_or chunk d.next 0) g);
    further = omega arith;
    within = omega arith;
    one_more = omega arith;
    size = refl;
  }

  module _ (x : ℕ) (g : glyph_of (get_or chunk d.next 0) ≡ Digit x) where
    pub step_first : d.place ≡ Between → Steps chunk room d room (decoded_to (Behind x) (d.next + 1) d.count)
    step_first p = record {
      same = λ f. by_char f _ (char_digit (so_far room d f) (get_or chunk d.next 0) x g ∙ digit_between (so_far room d f) x p);
      further = omega arith;
      within = omega arith;
      one_more = omega arith;
      size = refl;
    }

    pub step_second : (h : ℕ) → d.place ≡ Behind h → d.count < length room →
        Steps chunk room d (set room d.count (byte_of h x)) (decoded_to Between (d.next + 1) (d.count + 1))
    step_second h p space = record {
      same = λ f. rw (fed_more f room d.count (byte_of h x) space)
          (by_char f _ (char_digit (so_far room d f) (get_or chunk d.next 0) x g ∙ digit_behind (so_far room d f) x h p));
      further = omega arith;
      within = omega arith;
      one_more = omega arith;
      size = length-set room d.count (byte_of h x);
    }

-- ---- both digits of a byte

pub step_pair : (chunk room : List ℕ) (d : Decoded) (x y : ℕ) → d.next + 1 < length chunk → d.count < length room → d.place ≡ Between →
    glyph_of (get_or chunk d.next 0) ≡ Digit x → glyph_of (get_or chunk (d.next + 1) 0) ≡ Digit y →
    Steps chunk room d (set room d.count (byte_of x y)) (decoded_to Between (d.next + 2) (d.count + 1))
step_pair chunk room d x y more space p g h =
    let one = step_first chunk room d (omega arith) x g p in
    let two = step_second chunk room (decoded_to (Behind x) (d.next + 1) d.count) more y h x refl space in
    let past : d.next + 2 ≡ d.next + 1 + 1 = omega arith in
    record {
      same = λ f.
          ap (λ i. onwards chunk (set room d.count (byte_of x y)) (decoded_to Between i (d.count + 1)) f) past ∙ two.same f ∙ one.same f;
      further = omega arith;
      within = omega arith;
      one_more = omega arith;
      size = two.size;
    }

-- ---- all steps, from no byte in the room

pub decoded : (chunk before after : List ℕ) (d e : Decoded) → ((f : Feed) → onwards chunk after e f ≡ onwards chunk before d f) → d.count ≡ 0 →
    d.next < e.next → e.next ≤ length chunk → e.count ≤ length after → length after ≡ length before →
    Decodes chunk d.next d.place before after e
unfolding fed_of
decoded chunk before after d e all none further within fits size = record {
  same = λ f. all f ∙ rw none;
  further = further;
  within = within;
  fits = fits;
  size = size;
}
