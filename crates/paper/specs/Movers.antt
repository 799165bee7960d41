-- Request A8 of document 02, "Shorter records, and the way back": what the movers rpr_roll and rpr_unroll write, and that either form gives the same answers,
-- for the third condition. Why they refuse is in `Reasons`.
-- Assumes nothing.
use Rattle.std.specs.Prelude.{ℕ, suc, ◌*◌, ◌%◌, ◌≤◌, ◌<◌, true, ◌↔◌, ◌≡◌, pos, length, take, drop, replicate}
use mathlib.Core.List.{List, [], ◌∷◌, ◌++◌, flatten}
use Rattle.std.specs.Borrow.{Bor}
use Rattle.wire.specs.Wire.{digits, Bytes}
use Rattle.shaper.specs.declared.Limits.{Limits}
use Rattle.shaper.specs.declared.Event.{Event}
use Rattle.shaper.specs.declared.Event.TheVariants.{Waiting, Idle, Send}
use Rattle.shaper.specs.Limits.{LimitsOk}
use Rattle.shaper.specs.Kind.{kind_of}
use Rattle.summary.specs.Summary.{summary_of}
use Rattle.record.specs.Record.{written, WellFormed}
use Rattle.record.specs.Items.{Item, one, run, item_of, written_items, unrolled, Formed}
use Rattle.reader.specs.Walk.{new_of, walk_of}
use Rattle.feed.specs.Feed as feeding
use Rattle.feed.specs.Feed.{fed_chunks}
use Rattle.hex_text.specs.Hex.{digits_of, pairs, is_hex, text_of}
use Rattle.apart.specs.Text.{compare_of}
use Rattle.roll.specs.Rolled.{rolled, event_in, count_in, Longest}
use Rattle.rpr.specs.Calls.{summarize_answer, summarize_after}
use Rattle.rpr.specs.Movers.{roll_answer, roll_after, unroll_answer, unroll_after}

-- ---- what is written

-- Where a mover is carried out byte 0 of its answer is 0, and bytes 4 to 7 are the bytes written.
pub record Wrote (answer n : ℕ) : Type 0 where
  pub bytes : digits 8 answer ≡ (0 ∷ 0 ∷ 0 ∷ 0 ∷ []) ++ digits 4 n
  pub fits : n < 4294967296

-- "Work into lent room; bytes past the output stay."
pub record Leaves (output room : List ℕ) (answer : ℕ) (after : List ℕ) : Type 0 where
  pub counted : Wrote answer (length output)
  pub front : take (length output) after ≡ output
  pub behind : drop (length output) after ≡ drop (length output) room

-- these bytes are a record in the old form, and the room is long enough for its new one
pub record Rolls (xs room : List ℕ) : Type 0 where
  pub limits : Limits
  pub events : List Event
  pub bytes : xs ≡ written limits events
  pub formed : WellFormed limits events
  pub fits : length (written_items limits (rolled events)) ≤ length room

-- these bytes are a record in either form, and the room is long enough for its old one
pub record Unrolls (xs room : List ℕ) : Type 0 where
  pub limits : Limits
  pub items : List Item
  pub bytes : xs ≡ written_items limits items
  pub formed : Formed true limits items
  pub fits : length (written limits (unrolled items)) ≤ length room

-- "A mover turns an old record into the new form [..] and back."
pub record Moves : Type 0 where
  pub rolls : (l : Limits) (es : List Event) → WellFormed l es → (room : List ℕ) → length (written_items l (rolled es)) ≤ length room
      → Leaves (written_items l (rolled es)) room (roll_answer (written l es) room) (roll_after (written l es) room)
  pub unrolls : (l : Limits) (is : List Item) → Formed true l is → (room : List ℕ) → length (written l (unrolled is)) ≤ length room
      → Leaves (written l (unrolled is)) room (unroll_answer (written_items l is) room) (unroll_after (written_items l is) room)
  -- Nothing else is carried out.
  pub rolls_only : (xs room : List ℕ) → Bytes xs → roll_answer xs room % 256 ≡ 0 → Rolls xs room
  pub unrolls_only : (xs room : List ℕ) → Bytes xs → unroll_answer xs room % 256 ≡ 0 → Unrolls xs room
  -- The new form is never longer than the old one.
  pub shorter : (l : Limits) (es : List Event) → length (written_items l (rolled es)) ≤ length (written l es)

-- ---- the new form

-- "From the front, always taking the longest run it can."
pub record LongestTaken : Type 0 where
  pub none : rolled [] ≡ []
  -- Equal ticks are one item, where they are 65,535 or no more of them stand behind.
  pub ticks : (e : Event) (n : ℕ) (es : List Event) → kind_of e < 3 → 1 ≤ n → n ≤ 65535 → (n < 65535 → (fs : List Event) → es ≡ e ∷ fs → ⊥)
      → rolled (replicate n e ++ es) ≡ item_of e n ∷ rolled es
  -- A tick left alone stays a plain tick.
  pub alone : (e : Event) → item_of e 1 ≡ one e
  pub together : (e : Event) (n : ℕ) → 2 ≤ n → item_of e n ≡ run e n
  pub send : (z : ℕ) (es : List Event) → rolled (Send z ∷ es) ≡ one (Send z) ∷ rolled es

-- Runs are longest: no item below 65,535 stands before an equal tick or a run of it.
pub record LongestRuns : Type 0 where
  pub none : Longest []
  pub last : (i : Item) → Longest (i ∷ [])
  pub more : (i j : Item) (is : List Item)
      → Longest (i ∷ j ∷ is) ↔ ((count_in i < 65535 → kind_of (event_in i) < 3 → event_in i ≡ event_in j → ⊥) × Longest (j ∷ is))
  pub event : (e : Event) → (event_in (one e) ≡ e) × (count_in (one e) ≡ 1)
  pub run : (e : Event) (count : ℕ) → (event_in (run e count) ≡ e) × (count_in (run e count) ≡ count)

-- these bytes are a record whose runs are longest
pub record InLongest (xs : List ℕ) : Type 0 where
  pub limits : Limits
  pub items : List Item
  pub bytes : xs ≡ written_items limits items
  pub formed : Formed true limits items
  pub longest : Longest items

-- ---- either form

-- Two records give the same answers: by rpr_summarize and in its room, fed in chunks of any sizes, as hex text, walked by a reader, and where `compare` lists
-- them beside any other.
pub record SameAnswers (xs ys : List ℕ) : Type 0 where
  pub summarized : (room : List ℕ) → (summarize_answer xs room ≡ summarize_answer ys room) × (summarize_after xs room ≡ summarize_after ys room)
  pub fed : (chunks others : List (List ℕ)) → flatten chunks ≡ xs → flatten others ≡ ys
      → feeding.finish_of (fed_chunks feeding.start_of chunks) ≡ feeding.finish_of (fed_chunks feeding.start_of others)
  pub hex : (text other : List ℕ) → is_hex text ≡ true → is_hex other ≡ true → pairs (digits_of text) ≡ xs → pairs (digits_of other) ≡ ys → text_of text ≡ text_of other
  pub walked : (s t : Bor (List ℕ)) (n m : ℕ) → s.now ≡ xs → t.now ≡ ys → 1000000 ≤ n → 1000000 ≤ m → walk_of (suc n) (new_of s) ≡ walk_of (suc m) (new_of t)
  pub compared : (zs : List ℕ) → (compare_of xs zs ≡ compare_of ys zs) × (compare_of zs xs ≡ compare_of zs ys)

-- "Events are counted unrolled, so summaries, [..] and A3 give the same answers on either form."
pub record EitherForm : Type 0 where
  -- a record and what rpr_roll writes of it, or rpr_unroll
  pub of_rolled : (xs room : List ℕ) (n : ℕ) → Bytes xs → Wrote (roll_answer xs room) n → SameAnswers xs (take n (roll_after xs room))
  pub of_unrolled : (xs room : List ℕ) (n : ℕ) → Bytes xs → Wrote (unroll_answer xs room) n → SameAnswers xs (take n (unroll_after xs room))
  -- Whatever stands behind its items, a fault too, is found behind their events.
  pub behind : (l : Limits) (is : List Item) (rest : List ℕ) → Formed true l is → Bytes rest
      → SameAnswers (written_items l is ++ rest) (written l (unrolled is) ++ rest)

-- ---- a run's summary

-- Ticks add their amounts and are cut to one limit: accrued count × amount, ceiling hiLimit waiting, loLimit idle, need 0.
pub record RunClosed (l : Limits) (x count : ℕ) : Type 0 where
  pub waiting : summary_of l (replicate count (Waiting x)) ≡ record { limits = l; events = count; accrued = count * x; sent = 0; ceiling = pos l.hi; need = 0 }
  pub idle : summary_of l (replicate count (Idle x)) ≡ record { limits = l; events = count; accrued = count * x; sent = 0; ceiling = pos l.lo; need = 0 }

-- ---- together

pub record Movers : Type 0 where
  pub moves : Moves
  pub taken : LongestTaken
  pub longest : LongestRuns
  -- "Old to new to old gives the same bytes": what rpr_roll wrote of an old record, rpr_unroll writes back into any room that is as long as the record was.
  pub roll_back : (xs room again : List ℕ) (n : ℕ) → Bytes xs → Wrote (roll_answer xs room) n → length xs ≤ length again
      → let ys = take n (roll_after xs room) in Wrote (unroll_answer ys again) (length xs) × (take (length xs) (unroll_after ys again) ≡ xs)
  -- "New to old to new gives the same bytes exactly when the runs were already longest." A room as long as the old form is enough.
  pub unroll_again_exactly : (l : Limits) (is : List Item) → Formed true l is → (room again : List ℕ) (n m : ℕ) → Wrote (unroll_answer (written_items l is) room) n
      → let ys = take n (unroll_after (written_items l is) room) in
      Wrote (roll_answer ys again) m → (take m (roll_after ys again) ≡ written_items l is) ↔ Longest is
  pub unroll_again : (l : Limits) (is : List Item) → Formed true l is → (room again : List ℕ) (n : ℕ) → Wrote (unroll_answer (written_items l is) room) n
      → n ≤ length again → (m : ℕ) × Wrote (roll_answer (take n (unroll_after (written_items l is) room)) again) m
  -- What rpr_roll writes has longest runs.
  pub rolled_longest : (xs room : List ℕ) (n : ℕ) → Bytes xs → Wrote (roll_answer xs room) n → InLongest (take n (roll_after xs room))
  pub either_form : EitherForm
  pub run_closed : (l : Limits) (x count : ℕ) → LimitsOk l → x ≤ 65535 → 1 ≤ count → RunClosed l x count
