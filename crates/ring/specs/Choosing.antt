-- Which side a frame takes round the ring, and when it is refused.
-- Assumes nothing: these are definitions.
use Rattle.std.specs.Prelude.{ℕ, ◌+◌, ◌-◌, ◌/◌, ◌%◌, ◌^◌, ◌<◌, Bool, cond, not, ◌&&◌, List, [], ◌∷◌, ◌++◌, ◌≡◌, eqb, ltb, leb, Result, Ok, Err}
use Rattle.decide.specs.Test.{Test, test, ◌≤?◌, ◌<?◌, ◌≡?◌, ◌∨?◌}
use Rattle.decide.specs.Refusal.{Fault, fault, first_of, refused_or}
use Rattle.decide.specs.Number.{number_in, refusal_of}
use Rattle.decide.specs.declared.refusal.Refusal.{Refusal}
use Rattle.ring.specs.Links.{other_of, reach_of}
use Rattle.ring.specs.declared.Way.{Way}
use Rattle.ring.specs.declared.Way.TheVariants.{Left, Right}
use Rattle.ring.specs.declared.Choice.{Choice}

-- ---- the host's codes

-- Side: unspecified 0, left 1, right 2, default 3. A chosen side is answered by the same code.
abbrev pub code_of : Way → ℕ
code_of Left = 1
code_of Right = 2

-- Protection: unspecified 0, protected 1, unprotected 2. Unspecified means protected.
abbrev pub protected_of : ℕ → Bool
protected_of protection = not (eqb protection 2)

-- Ring: steering 0, wrapping 1.
abbrev pub wrapping_of : ℕ → Bool
wrapping_of ring = eqb ring 1

-- ---- what a choice answers

abbrev pub ChoiceAnswer : Type 0
ChoiceAnswer = Result Choice Refusal

-- the side taken, by its code, with its distance, ttl and wrap mark
abbrev pub chosen_as : ℕ → ℕ → ℕ → Bool → ChoiceAnswer
chosen_as code distance ttl mark = Ok (record { side = code; distance = distance; ttl = ttl; mark = mark })

-- or the refusal of a number
abbrev pub no_choice : ℕ → ChoiceAnswer
no_choice n = Err (refusal_of n)

-- ---- distances

-- To the right it is target less own, counted round the ring; to the left, the rest of the ring.
unfoldable pub distance_of : Way → ℕ → ℕ → ℕ → ℕ
distance_of Right stations own target = (target + (stations - own)) % stations
distance_of Left stations own target = stations - (target + (stations - own)) % stations

-- On a tie: right if the own index is lower than the target's, otherwise left (document 02, A9).
unfoldable pub tie_of : ℕ → ℕ → Way
tie_of own target = cond (ltb own target) Right Left

-- The shorter side.
unfoldable pub shorter_of : ℕ → ℕ → ℕ → Way
shorter_of stations own target =
    cond (ltb (distance_of Right stations own target) (distance_of Left stations own target)) Right
    (cond (ltb (distance_of Left stations own target) (distance_of Right stations own target)) Left
    (tie_of own target))

-- ---- the choice

-- a side reaches the target
unfoldable pub reaches_of : Way → ℕ → ℕ → ℕ → ℕ → Bool
reaches_of way stations own target links = leb (distance_of way stations own target) (reach_of way stations own links)

-- The side tried first: left or right where the host names it, else (default, or unspecified, which means default) the shorter.
unfoldable pub preferred_of : ℕ → ℕ → ℕ → ℕ → Way
preferred_of side stations own target = cond (eqb side (code_of Left)) Left (cond (eqb side (code_of Right)) Right (shorter_of stations own target))

-- Protected: that side if it reaches, else the other. Unprotected: that side regardless.
abbrev pub taken_of : Bool → Way → Bool → Way
taken_of protected way reaches = cond (protected && not reaches) (other_of way) way

-- The answer for a side: its distance, the ttl (the distance on a steering ring, 63 on a wrapping one) and the wrap mark (protected on a
-- wrapping ring).
unfoldable pub along_of : Way → ℕ → ℕ → ℕ → ℕ → ℕ → ChoiceAnswer
along_of way stations own target protection ring =
    chosen_as (code_of way) (distance_of way stations own target)
    (cond (wrapping_of ring) 63 (distance_of way stations own target))
    (protected_of protection && wrapping_of ring)

-- The side taken, where a way is usable.
abbrev pub way_of : ℕ → ℕ → ℕ → ℕ → ℕ → ℕ → Way
way_of stations own target links side protection =
    taken_of (protected_of protection) (preferred_of side stations own target)
    (reaches_of (preferred_of side stations own target) stations own target links)

-- No usable way: protected, and neither side reaches.
unfoldable pub no_way : ℕ → ℕ → ℕ → ℕ → ℕ → Bool
no_way stations own target links protection =
    protected_of protection && (not (reaches_of Left stations own target links) && not (reaches_of Right stations own target links))

-- The answer in range: 8 where there is no usable way.
unfoldable pub goes_of : ℕ → ℕ → ℕ → ℕ → ℕ → ℕ → ℕ → ChoiceAnswer
goes_of stations own target links side protection ring =
    cond (no_way stations own target links protection) (no_choice 8)
    (along_of (way_of stations own target links side protection) stations own target protection ring)

-- ---- refusals

-- 2 to 63 stations, else 1.
abbrev pub bad_size : ℕ → Test
bad_size stations = stations <? 2 ∨? 63 <? stations

-- Higher bits set give 3: something is left of the word above the ring's links.
abbrev pub bad_word : ℕ → ℕ → Test
bad_word stations links = 0 <? links / 2 ^ stations

-- Own and target index are the ring's, and differ, else 3.
abbrev pub bad_index : ℕ → ℕ → ℕ → Test
bad_index stations own target = stations ≤? own ∨? stations ≤? target ∨? own ≡? target

-- A coded choice outside its range gives 3.
abbrev pub bad_code : ℕ → ℕ → ℕ → Test
bad_code side protection ring = 3 <? side ∨? 2 <? protection ∨? 1 <? ring

-- The faults of a place on a ring, which choice and path share.
abbrev pub place_faults : ℕ → ℕ → ℕ → ℕ → List Fault
place_faults stations own target links =
    fault 1 (test (bad_size stations)) ∷ fault 3 (test (bad_word stations links)) ∷ fault 3 (test (bad_index stations own target)) ∷ []

-- What is amiss with a place: nothing, or the refusal of the number of its first fault.
unfoldable pub misplaced_of : ℕ → ℕ → ℕ → ℕ → Result (Unit {0}) Refusal
misplaced_of stations own target links = refused_or (λ n. Err (refusal_of n)) (first_of (place_faults stations own target links)) (Ok tt)

-- The choice's faults.
abbrev pub choose_faults : ℕ → ℕ → ℕ → ℕ → ℕ → ℕ → ℕ → List Fault
choose_faults stations own target links side protection ring =
    place_faults stations own target links
    ++ (fault 3 (test (bad_code side protection ring)) ∷ fault 8 (no_way stations own target links protection) ∷ [])

-- The choice, for any numbers at all: the number of the first fault alone, as a refusal, or the side chosen where there is none.
unfoldable pub choose_of : ℕ → ℕ → ℕ → ℕ → ℕ → ℕ → ℕ → ChoiceAnswer
choose_of stations own target links side protection ring =
    refused_or no_choice (first_of (choose_faults stations own target links side protection ring))
    (along_of (way_of stations own target links side protection) stations own target protection ring)

-- Document 01's number of an answer: 0 where the choice was made.
abbrev pub choice_number : ChoiceAnswer → ℕ
choice_number (Ok c) = 0
choice_number (Err r) = number_in r

-- two stations of a ring of at most 63
pub record Between (stations own target : ℕ) : Type 0 where
  pub small : stations < 64
  pub station : own < stations
  pub reached : target < stations

-- two different stations of a ring of 2 to 63, and no bit above its links
pub record Placed (stations own target links : ℕ) : Type 0 where
  pub ring : 1 < stations
  pub small : stations < 64
  pub station : own < stations
  pub reached : target < stations
  pub differ : own ≡ target → ⊥
  pub clear : links < 2 ^ stations
