-- Two records read window by window: both are fed, and whether their windows and sums are equal.
-- Assumes nothing.
use Rattle.std.specs.Prelude.{ℕ, zero, suc, Bool, true, false, ◌&&◌, cond, List, [], ◌∷◌, eqb, ℤ, pos, negsuc, length, get_or, Ok, Err}
use Rattle.decide.specs.Test.{Test, ◌≡?◌, ◌∧?◌, test}
use Rattle.shaper.specs.Limits.{same_limits}
use Rattle.summary.specs.declared.Summary.{Summary}
use Rattle.feed.specs.Feed.{start_of, fed_of}
use Rattle.window.specs.declared.Pair.{Pair}
use Rattle.summary.specs.Answer.{Answer}

-- ---- equal windows and equal sums (`alike_exactly`, `same_summary_lem`, proofs/Equal.antt)

-- the first k bytes are equal
unfoldable pub alike_to : ℕ → List ℕ → List ℕ → Bool
alike_to zero w v = true
alike_to (suc k) w v = alike_to k w v && eqb (get_or w k 0) (get_or v k 0)

unfoldable pub alike_of : List ℕ → List ℕ → Bool
alike_of w v = eqb (length w) (length v) && alike_to (length w) w v

-- two signed numbers are equal
abbrev pub eq_ℤ : ℤ → ℤ → Bool
eq_ℤ (pos m) (pos n) = eqb m n
eq_ℤ (pos m) (negsuc n) = false
eq_ℤ (negsuc m) (pos n) = false
eq_ℤ (negsuc m) (negsuc n) = eqb m n

-- field by field
abbrev pub same_numbers : Summary → Summary → Test
same_numbers s t =
    same_limits s.limits t.limits ∧? s.events ≡? t.events ∧? s.accrued ≡? t.accrued ∧? s.sent ≡? t.sent ∧? s.need ≡? t.need

unfoldable pub same_summary : Summary → Summary → Bool
same_summary s t = test (same_numbers s t) && eq_ℤ s.ceiling t.ceiling

abbrev pub same_answer_of : Answer → Answer → Bool
same_answer_of (Ok s) (Ok t) = same_summary s t
same_answer_of (Ok s) (Err r) = false
same_answer_of (Err r) b = false

-- ---- both are fed

abbrev pub both_start : Pair
both_start = record { first = start_of; second = start_of; same = true }

-- A chunk of each. Where all chunks so far are equal, and these too, the first record's state stands for both (`fed_each`, proofs/Chunks.antt: each is then its own).
unfoldable pub both_fed : Pair → List ℕ → List ℕ → Pair
both_fed p w v =
    record {
      first = fed_of p.first w;
      second = cond (p.same && alike_of w v) (fed_of p.first w) (fed_of p.second v);
      same = p.same && alike_of w v;
    }

-- chunk after chunk of each; a record that has ended has empty ones
abbrev pub Chunks : Type 0
Chunks = List (List ℕ × List ℕ)

abbrev pub both_chunks : Pair → Chunks → Pair
both_chunks p [] = p
both_chunks p (c ∷ cs) = both_chunks (both_fed p c.0 c.1) cs

-- the chunks of the first, and of the second
abbrev pub first_chunks : Chunks → List (List ℕ)
first_chunks [] = []
first_chunks (c ∷ cs) = c.0 ∷ first_chunks cs

abbrev pub second_chunks : Chunks → List (List ℕ)
second_chunks [] = []
second_chunks (c ∷ cs) = c.1 ∷ second_chunks cs
