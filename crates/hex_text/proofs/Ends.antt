-- Past other text, and past a fault 2 of the record, every text that follows comes to 2.
-- Assumes nothing.
use Prim.Native.Nat.{ℕ}
use mathlib.Core.Bool.{true}
use mathlib.Core.List.{List, [], ◌∷◌}
use mathlib.Core.Logic.{◌⊎◌, inl, inr}
use mathlib.Core.Path.{◌≡◌, refl, ap}
use borrow.Author.Tests.{eqb-true}
use Rattle.decide.proofs.Cases.{by_cases, true_or_false}
use Rattle.std.specs.Prelude.{Err}
use Rattle.decide.specs.Number.{number_in, refusal_of}
use Rattle.decide.specs.declared.refusal.Refusal.{Refusal}
use Rattle.summary.specs.Answer.{Answer, answer_number}
use Rattle.feed.specs.declared.Stage.{Stage}
use Rattle.feed.specs.declared.Stage.TheVariants.{Heading, Summing, Stopped}
use Rattle.feed.proofs.Rows.{byte_stopped, finish_stopped}
use Rattle.hex_text.specs.declared.Glyph.{Glyph}
use Rattle.hex_text.specs.declared.Glyph.TheVariants.{Digit, Blank, Other}
use Rattle.hex_text.specs.declared.Place.{Place}
use Rattle.hex_text.specs.declared.Place.TheVariants.{Between, Behind, Lost}
use Rattle.hex_text.specs.declared.Hex.{Hex}
use Rattle.hex_text.specs.Hex.{glyph_of}
use Rattle.hex_text.specs.Fed.{byte_of, read_digit, read_char, read_text, is_whole, finish_of, is_lost, is_stopped_at_two, ends_of}
use Rattle.hex_text.proofs.Rows.{digit_between, digit_behind, digit_lost, char_digit, char_blank, char_other, finish_whole, finish_cut}
use Rattle.hex_text.proofs.Steps.{lost_stays}

-- the tests
lost_place : (p : Place) → is_lost p ≡ true → p ≡ Lost
lost_place Between e = cc
lost_place (Behind h) e = cc
lost_place Lost e = refl

stopped_stage : (s : Stage) → is_stopped_at_two s ≡ true → (f : Refusal) × (number_in f ≡ 2) × (s ≡ Stopped f)
stopped_stage Heading e = cc
stopped_stage (Summing m) e = cc
stopped_stage (Stopped f) e = (f, eqb-true (number_in f) 2 e, refl)

-- a record past its fault stays so
module _ (f : Refusal) (x : Hex) (stopped : x.feed.stage ≡ Stopped f) where
  stopped_digit : (d : ℕ) → (read_digit x d).feed ≡ x.feed
  stopped_digit d = by x.place refl
    where
      by : (p : Place) → x.place ≡ p → (read_digit x d).feed ≡ x.feed
      by Between e = rw (digit_between x d e)
      by (Behind h) e = rw (digit_behind x d h e) (byte_stopped x.feed (byte_of h d) f stopped)
      by Lost e = rw (digit_lost x d e)

  stopped_char : (c : ℕ) → (read_char x c).feed ≡ x.feed
  stopped_char c = by (glyph_of c) refl
    where
      by : (g : Glyph) → glyph_of c ≡ g → (read_char x c).feed ≡ x.feed
      by (Digit d) g = rw (char_digit x c d g) (stopped_digit d)
      by Blank g = rw (char_blank x c g)
      by Other g = rw (char_other x c g)

-- and the answer is its fault, or what other text or an odd digit is
module _ (P : Answer → Type 0) (f : Refusal) (own : P (Err f)) (other : P (Err (refusal_of 2))) where
  stopped_ends : (x : Hex) → x.feed.stage ≡ Stopped f → P (finish_of x)
  stopped_ends x s =
      by_cases (true_or_false (is_whole x.place))
      (λ e. rw (finish_whole x e, finish_stopped x.feed f s) own)
      (λ e. rw (finish_cut x e) other)

  stopped_all : (cs : List ℕ) (x : Hex) → x.feed.stage ≡ Stopped f → P (finish_of (read_text x cs))
  unfolding read_text
  stopped_all [] x s = stopped_ends x s
  stopped_all (c ∷ cs) x s = stopped_all cs (read_char x c) (rw (stopped_char f x s c) s)

lost_two : (cs : List ℕ) (x : Hex) → x.place ≡ Lost → finish_of (read_text x cs) ≡ Err (refusal_of 2)
lost_two cs x p = rw (lost_stays x p cs) (finish_cut x (rw p))

-- What is still to come changes nothing: the answer's number is 2.
pub ends_two : (x : Hex) → ends_of x ≡ true → (cs : List ℕ) → answer_number (finish_of (read_text x cs)) ≡ 2
ends_two x e cs =
    by_cases (true_or_false (is_lost x.place))
    (λ l. ap answer_number (lost_two cs x (lost_place x.place l)))
    (λ l. let s = stopped_stage x.feed.stage (rw l at e) in stopped_all (λ a. answer_number a ≡ 2) s.0 s.1 refl cs x s.2)

-- Past other text, and past the refusal of 2, it is that refusal.
pub ends_named : (x : Hex) → (is_lost x.place ≡ true) ⊎ (x.feed.stage ≡ Stopped (refusal_of 2)) → (cs : List ℕ) → finish_of (read_text x cs) ≡ Err (refusal_of 2)
ends_named x (inl l) cs = lost_two cs x (lost_place x.place l)
ends_named x (inr s) cs = stopped_all (λ a. a ≡ Err (refusal_of 2)) (refusal_of 2) refl refl cs x s
