-- A question (document 02, A1): the summary of just the stretch from event `first` to just before event `last`, from a record and its index, or the number of a refusal.
-- Assumes nothing.
use Rattle.std.specs.Prelude.{ℕ, ◌+◌, ◌*◌, ◌/◌, ◌%◌, Bool, true, false, not, ◌&&◌, ◌||◌, cond, List, [], ◌∷◌, ◌++◌, leb, ltb, eqb, length, Option, Some, None, Result, Ok, Err}
use Rattle.decide.specs.declared.refusal.Refusal.{Refusal}
use Rattle.decide.specs.Number.{number_in, refusal_of}
use Rattle.decide.specs.Refusal.{Fault, fault, rank_of, first_of}
use Rattle.wire.specs.Wire.{le}
use Rattle.shaper.specs.declared.Limits.{Limits}
use Rattle.shaper.specs.Limits.{most_events}
use Rattle.summary.specs.declared.Summary.{Summary}
use Rattle.summary.specs.Summary.{empty_of}
use Rattle.summary.specs.Answer.{Answer, answered}
use Rattle.record.specs.Read.{limits_at, header_faults}
use Rattle.record.specs.Step.{Header}
use Rattle.excerpt.specs.declared.Place.{Place}
use Rattle.excerpt.specs.Last.{events_left}
use Rattle.index.specs.Tree.{block_events, top_level}
use Rattle.index.specs.Entry.{place_in}
use Rattle.stretch.specs.declared.Found.{Found}
use Rattle.stretch.specs.declared.Found.TheVariants.{Nothing, Faulty, Outside, Sum}
use Rattle.stretch.specs.Found.{Source, source_of, found_in}

-- ---- the index

-- An index of B blocks has 80B − 40 bytes, and of none 0: else B − 1 is m / 80, and 40 are left.
unfoldable pub length_ok : ℕ → Bool
length_ok m = eqb m 0 || eqb (m % 80) 40

-- the number of the last block, B − 1, and the place of its first event
abbrev pub last_block : List ℕ → ℕ
last_block ix = length ix / 80

unfoldable pub last_place : List ℕ → Place
last_place ix = place_in ix (80 * last_block ix)

-- how many events stand from there to the record's end; 257 where it does not lead there in 256
unfoldable pub last_events : List ℕ → List ℕ → ℕ
last_events xs ix = events_left block_events (le 2 xs 4) xs (last_place ix)

-- The index is this record's: the place of its last block leads in 1 to 256 events to the record's end, and its byte less 14 does not exceed 6 × (256(B − 1) less the events before it in
-- its item), since no event takes more than 6 bytes. Of no block: the record is no longer than its header.
unfoldable pub belongs : List ℕ → List ℕ → Bool
belongs xs ix =
    cond (eqb (length ix) 0)
    (leb (length xs) 14)
    (leb 1 (last_events xs ix)
    && (leb (last_events xs ix) block_events && leb ((last_place ix).at + 6 * (last_place ix).gone) (14 + 6 * (block_events * last_block ix))))

-- how many events there are: 256(B − 1) and those of the last block
unfoldable pub events_counted : List ℕ → List ℕ → ℕ
events_counted xs ix = cond (eqb (length ix) 0) 0 (block_events * last_block ix + last_events xs ix)

-- ---- the answer

-- what a stretch comes to; an empty one comes to nothing, and uses no entry and reads no block
unfoldable pub stretched : Source → ℕ → ℕ → Found
stretched q first last = cond (leb last first) Nothing (found_in q first last top_level 0)

unfoldable pub found_of : List ℕ → List ℕ → ℕ → ℕ → Found
found_of xs ix first last = stretched (source_of (limits_at xs) xs ix (events_counted xs ix)) first last

-- the fault of a partly read block, or 0; whether an entry is out of range; and the summary, of an empty stretch the empty one
abbrev pub part_fault : Found → ℕ
part_fault Nothing = 0
part_fault (Faulty r) = number_in r
part_fault Outside = 0
part_fault (Sum s) = 0

abbrev pub has_fault : Found → Bool
has_fault Nothing = false
has_fault (Faulty r) = true
has_fault Outside = false
has_fault (Sum s) = false

abbrev pub is_outside : Found → Bool
is_outside Nothing = false
is_outside (Faulty r) = false
is_outside Outside = true
is_outside (Sum s) = false

abbrev pub summary_found : Limits → Found → Summary
summary_found l Nothing = empty_of l
summary_found l (Faulty r) = empty_of l
summary_found l Outside = empty_of l
summary_found l (Sum s) = s

-- a row that stands behind that of 9, one after the other
abbrev pub later : ℕ → ℕ → Bool → Fault
later i n b = record { rank = rank_of 9 + i; number = n; applies = b }

-- 2: a header that is none, an index of another length than its record needs, or of another record. 1: the header's settings. 9: over 1,000,000 events. Then 3 for a stretch that runs past
-- the end or backwards; then the earliest fault of the partly read blocks; then 3 for an entry used that is out of range.
abbrev pub stretch_faults : List ℕ → List ℕ → ℕ → ℕ → List Fault
stretch_faults xs ix first last =
    header_faults xs
    ++ (fault 2 (not (length_ok (length ix)))
    ∷ fault 2 (not (belongs xs ix))
    ∷ fault 9 (ltb most_events (events_counted xs ix))
    ∷ later 1 3 (ltb last first || ltb (events_counted xs ix) last)
    ∷ later 2 (part_fault (found_of xs ix first last)) (has_fault (found_of xs ix first last))
    ∷ later 3 3 (is_outside (found_of xs ix first last))
    ∷ [])

unfoldable pub stretch_of : List ℕ → List ℕ → ℕ → ℕ → Answer
stretch_of xs ix first last = answered (first_of (stretch_faults xs ix first last)) (summary_found (limits_at xs) (found_of xs ix first last))

-- ---- how the code goes

-- whether a header is one, its settings in range or not
unfoldable pub is_header : Header → Bool
is_header (Ok l) = true
is_header (Err r) = not (eqb (number_in r) 2)

-- the answer where 2, 1 and 9 do not apply
abbrev pub found_answer : Limits → Found → Answer
found_answer l Nothing = Ok (empty_of l)
found_answer l (Faulty r) = Err r
found_answer l Outside = Err (refusal_of 3)
found_answer l (Sum s) = Ok s

unfoldable pub asked_of : Limits → List ℕ → List ℕ → ℕ → ℕ → ℕ → Answer
asked_of l xs ix n first last = cond (ltb last first || ltb n last) (Err (refusal_of 3)) (found_answer l (stretched (source_of l xs ix n) first last))

-- the events of a record by an index of a right length: none where they are more than there may be, and 2 for an index of another record
abbrev pub Counted : Type 0
Counted = Result (Option ℕ) Refusal

unfoldable pub counted_of : List ℕ → List ℕ → Counted
counted_of xs ix = cond (belongs xs ix) (cond (ltb most_events (events_counted xs ix)) (Ok None) (Ok (Some (events_counted xs ix)))) (Err (refusal_of 2))
