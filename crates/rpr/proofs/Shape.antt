-- The laws of every call, whatever its rows: a slice of another length is 2 before all else; a refusal is its number, alone but for what 6 says to a client's
-- frame, and leaves the lent bytes.
-- Assumes nothing.
use Prim.Native.Nat.{ℕ, suc, ◌%◌, ◌≤◌, ◌<◌, max}
use mathlib.Core.Bool.{Bool, true, false, cond, not, ◌&&◌}
use mathlib.Core.List.{List, [], ◌∷◌}
use mathlib.Core.Logic.{⊎_elim}
use mathlib.Core.Path.{◌≡◌, refl, sym, ap, ◌∙◌}
use native.Mathlib.Omega.{arith}
use borrow.Author.Tests.{eq-eqb, ne_eqb, le-leb, leb-true}
use lib.Dec.{leb}
use lib.ListN.{length}
use Rattle.decide.specs.Test.{both}
use Rattle.decide.specs.Refusal.{Fault, order, First, nothing, row, earlier, first, number_of, first_of, refused_or, Among}
use Rattle.decide.proofs.Cases.{true_or_false, of_each}
use Rattle.decide.proofs.Given.{carried_out}
use Rattle.decide.proofs.Refused.{of_answer, carried_by, refused_by, number_by}
use Rattle.wire.specs.Wire.{digits}
use Rattle.shaper.specs.Short.{detail_of}
use Rattle.answer.specs.Bytes.{refused_bytes}
use Rattle.answer.proofs.Bytes.{packed_bytes}
use Rattle.rpr.specs.Shape.{answer_of, short_told, short_answer_of, after_of, other_length_of, alone, Bears, BearsShort, LeavesShort}

-- ---- lengths

module _ (n : ℕ) (xs : List ℕ) (fs : List Fault) where
  -- no row stands before one of a length
  before_all : (x : First) → earlier (other_length_of n xs) x ≡ row (other_length_of n xs)
  before_all nothing = refl
  before_all (row g) = rw (le-leb 0 g.rank (omega arith))

  -- a slice of another length is 2, whatever else applies
  pub wrong_length : (length xs ≡ n → ⊥) → first_of (other_length_of n xs ∷ fs) ≡ 2
  unfolding first_of first
  wrong_length h =
      ap (λ (b : Bool). number_of (cond (not b) (earlier (other_length_of n xs) (first fs)) (first fs))) (ne_eqb (length xs) n h)
      ∙ ap number_of (before_all (first fs))

  -- and one of the right length is passed over
  pub right_length : length xs ≡ n → first_of (other_length_of n xs ∷ fs) ≡ first_of fs
  unfolding first_of first
  right_length e = rw (eq-eqb (length xs) n e)

-- ---- numbers

-- the largest number of the table
abbrev largest : List ℕ → ℕ
largest [] = 0
largest (n ∷ ns) = max n (largest ns)

abbrev pub most_number : ℕ
most_number = largest order

-- each row bears a number of the table
abbrev pub numbered : List Fault → Bool
numbered [] = true
numbered (f ∷ fs) = (leb 1 f.number && leb f.number most_number) && numbered fs

earlier_most : (f : Fault) (x : First) → f.number ≤ most_number → number_of x ≤ most_number → number_of (earlier f x) ≤ most_number
earlier_most f nothing h k = h
earlier_most f (row g) h k = of_each (λ (x : First). number_of x ≤ most_number) (leb f.rank g.rank) (row f) (row g) (λ e. h) (λ e. k)

-- so the number that is given is at most the largest
pub first_most : (fs : List Fault) → numbered fs ≡ true → first_of fs ≤ most_number
unfolding first_of first
first_most [] e = omega arith
first_most (f ∷ fs) e =
    let p = both (leb 1 f.number && leb f.number most_number) (numbered fs) e in
    let h = leb-true f.number most_number (both (leb 1 f.number) (leb f.number most_number) p.0).1 in
    let k = first_most fs p.1 in
    of_each (λ (x : First). number_of x ≤ most_number) f.applies (earlier f (first fs)) (first fs) (λ a. earlier_most f (first fs) h k) (λ a. k)

among_numbered : (f : Fault) (fs : List Fault) → numbered fs ≡ true → Among f fs → 0 < f.number
among_numbered f [] e m = absurd m
among_numbered f (g ∷ gs) e m =
    let p = both (leb 1 g.number && leb g.number most_number) (numbered gs) e in
    ⊎_elim
    (λ q. let h = leb-true 1 g.number (both (leb 1 g.number) (leb g.number most_number) p.0).0 in
    let s : f.number ≡ g.number = ap (λ (x : Fault). x.number) q in
    omega arith)
    (λ k. among_numbered f gs p.1 k)
    m

pub number_alone : (n : ℕ) → n ≡ refused_or (λ m. m) n 0
number_alone n = sym (number_by (λ m. m) _ _ (λ m. refl) refl n)

-- no row applies where none counts,
pub free : (rows : List Fault) → numbered rows ≡ true → first_of rows ≡ 0 → (f : Fault) → Among f rows → f.applies ≡ false
free rows h e f m =
    ⊎_elim (λ a. absurd (carried_out rows (λ g k b. among_numbered g rows h k) e f m a)) (λ a. a) (true_or_false f.applies)

-- and so where 0 is answered
pub carried : (rows : List Fault) → numbered rows ≡ true → answer_of rows 0 ≡ 0 → (f : Fault) → Among f rows → f.applies ≡ false
unfolding answer_of
carried rows h e = free rows h (number_alone (first_of rows) ∙ e)

-- ---- bytes

pub digits_alone : (n : ℕ) → n ≤ most_number → digits 8 n ≡ alone n
unfolding digits
digits_alone n h = ap (λ (v : ℕ). digits 8 v) (omega arith) ∙ packed_bytes (alone n) (omega arith)

-- the same with what 6 says beside it
digits_short : (n short : ℕ) → n ≤ most_number → digits 8 (short_told short n) ≡ refused_bytes n (detail_of n short)
unfolding digits
digits_short n short h = packed_bytes (refused_bytes n (detail_of n short)) (omega arith)

-- ---- refusals

module _ (rows : List Fault) (said : ℕ) (old new : List ℕ) where
  -- the number of the row that counts, and the bytes as they were
  pub refused : (n : ℕ) → first_of rows ≡ suc n → (suc n ≡ answer_of rows said) × (old ≡ after_of rows old new)
  unfolding refused_or answer_of after_of
  refused n e = (rw e, rw e)

-- the same by the number alone: a refusal, and a call that was carried out
pub turned_down : (n said : ℕ) (old new : List ℕ) → (n ≡ 0 → ⊥) → (n ≡ refused_or (λ m. m) n said) × (old ≡ refused_or (λ m. old) n new)
turned_down n said old new h = let p : 0 < n = omega (arith, h) in (sym (refused_by _ _ n p), sym (refused_by _ _ n p))

pub taken_on : (n said : ℕ) (old new : List ℕ) → n ≡ 0 → (said ≡ refused_or (λ m. m) n said) × (new ≡ refused_or (λ m. old) n new)
taken_on n said old new e = (sym (carried_by _ _ n e), sym (carried_by _ _ n e))

bears : (n said : ℕ) → n ≤ most_number → said % 256 ≡ 0 → Bears n (refused_or (λ m. m) n said)
bears n said h b =
    of_answer _ _ (Bears n) n
    (λ z. record { byte_0 = b ∙ sym z; others = λ p. absurd (omega arith) })
    (λ p. record { byte_0 = omega arith; others = λ q. digits_alone n h })

bears_short : (short n said : ℕ) → n ≤ most_number → said % 256 ≡ 0 → BearsShort short n (refused_or (short_told short) n said)
unfolding digits
bears_short short n said h b =
    of_answer _ _ (BearsShort short n) n
    (λ z. record { byte_0 = b ∙ sym z; six = λ e. absurd (omega arith); others = λ p e. absurd (omega arith) })
    (λ p. record {
      byte_0 = omega arith;
      six = λ e. digits_short n short h ∙ ap (λ (m : ℕ). refused_bytes m (detail_of m short)) e;
      others = λ q e. digits_short n short h ∙ ap (λ (b : Bool). refused_bytes n (cond b short 0)) (ne_eqb n 6 e);
    })

-- Each refusal returns its number alone and leaves all lent bytes untouched.
pub refused_leaves : (rows : List Fault) (said : ℕ) (old new : List ℕ) → first_of rows ≤ most_number → said % 256 ≡ 0 →
    Bears (first_of rows) (answer_of rows said) × (0 < first_of rows → after_of rows old new ≡ old)
unfolding answer_of after_of
refused_leaves rows said old new h b = (bears (first_of rows) said h b, refused_by _ _ _)

-- Where 6 says how far short, the others are their number alone still.
pub short_leaves : (rows : List Fault) (short said : ℕ) (old new : List ℕ) → first_of rows ≤ most_number → said % 256 ≡ 0
    → LeavesShort rows short (short_answer_of rows short said) old (after_of rows old new)
unfolding short_answer_of after_of
short_leaves rows short said old new h b = (bears_short short (first_of rows) said h b, refused_by _ _ _)
