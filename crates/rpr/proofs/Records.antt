-- The three calls together, over the bytes of records: pieces that are summarized and joined leave the whole record's summary, and settling it says what
-- happened event by event. Each step reads back what the one before wrote. Assumes nothing.
use Rattle.std.specs.Prelude.{Ok}
use Prim.Native.Nat.{ℕ, ◌+◌, ◌≤◌}
use mathlib.Core.Bool.{true}
use mathlib.Core.List.{List, ◌++◌}
use mathlib.Core.Path.{◌≡◌, sym}
use lib.ListN.{length}
use Rattle.shaper.specs.Limits.{most_events}
use Rattle.shaper.specs.declared.Limits.{Limits}
use Rattle.shaper.specs.declared.Event.{Event}
use Rattle.shaper.specs.Credit.{Permitted, end_credit}
use Rattle.summary.specs.Summary.{summary_of}
use Rattle.summary.specs.Answer.{settle_of, Outcome}
use Rattle.summary.proofs.Promises.{summary_range, join_append, settle_exact}
use Rattle.record.specs.Record.{written, WellFormed}
use Rattle.record.specs.Items.{Item, written_items, unrolled, Formed}
use Rattle.account.proofs.Promises.{summarize_items, summarize_written}
use Rattle.sheet.specs.Sheet.{sheet_length, sheet_of, summary_at}
use Rattle.sheet.proofs.Round.{length_sheet, summary_of_bytes, in_range_fits}
use Rattle.rpr.specs.Calls.{summarize_after, settle_answer, EndsAt}
use Rattle.rpr.proofs.Rows.{JoinGives, summarize_whole, join_whole}
use Rattle.rpr.proofs.Promises.{settle_permitted, settle_not_permitted}

-- the room of a record, of either form, holds the summary of its events
pub items_room : (l : Limits) (is : List Item) → Formed true l is → (room : List ℕ) → length room ≡ sheet_length → summarize_after (written_items l is) room ≡ sheet_of (summary_of l (unrolled is))
items_room l is w room h = sym (summarize_whole (written_items l is) room h _ (sym (summarize_items true l is w))).1

module _ (l : Limits) (es : List Event) (w : WellFormed l es) where
  pub record_room : (room : List ℕ) → length room ≡ sheet_length → summarize_after (written l es) room ≡ sheet_of (summary_of l es)
  record_room room h = sym (summarize_whole (written l es) room h _ (sym (summarize_written true l es w))).1

  pub sheet_back : summary_at (sheet_of (summary_of l es)) ≡ summary_of l es
  sheet_back = summary_of_bytes (summary_of l es) (in_range_fits (summary_of l es) (summary_range l w.settings es w.valid w.few))

  -- settled from credit c, the summary says what happened event by event: permitted, and the credit at the end,
  module _ (c : ℕ) (most : c ≤ l.hi) where
    settled_as : (o : Outcome) → settle_of (summary_of l es) c ≡ o → settle_of (summary_at (sheet_of (summary_of l es))) c ≡ o
    settled_as o e = rw sheet_back e

    pub sheet_permitted : Permitted l c es → EndsAt (settle_answer (sheet_of (summary_of l es)) c) (end_credit l c es)
    sheet_permitted p =
        settle_permitted (sheet_of (summary_of l es)) c (length_sheet (summary_of l es)) _
        (settled_as _ ((settle_exact l w.settings es w.valid w.few c most).permitted p))

    -- or not
    pub sheet_not_permitted : (Permitted l c es → ⊥) → settle_answer (sheet_of (summary_of l es)) c ≡ 0
    sheet_not_permitted p =
        settle_not_permitted (sheet_of (summary_of l es)) c (length_sheet (summary_of l es))
        (settled_as _ ((settle_exact l w.settings es w.valid w.few c most).not_permitted p))

  -- and so does the room of the record
  module _ (room : List ℕ) (h : length room ≡ sheet_length) (c : ℕ) (most : c ≤ l.hi) where
    pub record_permitted : Permitted l c es → EndsAt (settle_answer (summarize_after (written l es) room) c) (end_credit l c es)
    record_permitted p = rw (record_room room h) (sheet_permitted c most p)

    pub record_not_permitted : (Permitted l c es → ⊥) → settle_answer (summarize_after (written l es) room) c ≡ 0
    record_not_permitted p = rw (record_room room h) (sheet_not_permitted c most p)

-- The bytes of two pieces' summaries, joined, are those of the whole record's.
module _ (l : Limits) (xs ys : List Event) (v : WellFormed l xs) (w : WellFormed l ys) (few : length xs + length ys ≤ most_events) where
  pub sheets_join : (room : List ℕ) → length room ≡ sheet_length
      → JoinGives (sheet_of (summary_of l xs)) (sheet_of (summary_of l ys)) room 0 (sheet_of (summary_of l (xs ++ ys)))
  sheets_join room h =
      join_whole (sheet_of (summary_of l xs)) (sheet_of (summary_of l ys)) room (length_sheet _) (length_sheet _) h
      (Ok (summary_of l (xs ++ ys)))
      (sym (rw (sheet_back l xs v, sheet_back l ys w) (join_append l v.settings xs ys v.valid w.valid few)))
