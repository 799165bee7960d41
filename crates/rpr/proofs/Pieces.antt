-- The pieces of a cut record, summarized and joined into rooms along any tree, leave in the last room what the whole record leaves there: each room holds the
-- summary of its events, so that it can be joined on. Assumes nothing.
use Prim.Native.Nat.{ℕ, ◌≤◌}
use mathlib.Core.Bool.{true}
use mathlib.Core.List.{List, ◌++◌}
use mathlib.Core.Path.{◌≡◌, sym, ap, ◌∙◌}
use native.Mathlib.Omega.{arith}
use lib.ListN.{length, length-append}
use Rattle.shaper.specs.declared.Limits.{Limits}
use Rattle.shaper.specs.declared.Event.{Event}
use Rattle.shaper.specs.Credit.{Permitted, end_credit}
use Rattle.summary.specs.Summary.{summary_of}
use Rattle.record.specs.Record.{written, WellFormed}
use Rattle.record.specs.Items.{Formed}
use Rattle.account.specs.Pieces as account
use Rattle.account.specs.Pieces.{Cuts}
use Rattle.account.proofs.Pieces.{part_left, part_right}
use Rattle.sheet.specs.Sheet.{sheet_length, sheet_of}
use Rattle.rpr.specs.Calls.{summarize_after, settle_answer, EndsAt}
use Rattle.rpr.specs.Pieces.{Rooms, piece, both, room_of, AllCarried, WholeRooms, tree_of, CutsRooms}
use Rattle.rpr.proofs.Rows.{JoinGives}
use Rattle.rpr.proofs.Promises.{summarize_carried}
use Rattle.rpr.proofs.Records.{items_room, record_room, sheet_permitted, sheet_not_permitted, sheets_join}

-- the last room holds the summary of the events
rooms_hold : (l : Limits) (es : List Event) (t : Rooms) → WellFormed l es → Cuts l es (tree_of t) → WholeRooms t
    → AllCarried t × (room_of t ≡ sheet_of (summary_of l es))
rooms_hold l es (piece bytes room) w (account.Cuts.whole is bs ok e) h =
    let f : Formed true l is = record { settings = w.settings; items = ok; few = w.few } in
    (summarize_carried bytes room l is f e h, ap (λ (xs : List ℕ). summarize_after xs room) e ∙ items_room l is f room h)
rooms_hold l es (both t u room) w (account.Cuts.parted xs ys a b c d) h =
    let p = part_left l xs ys w in
    let q = part_right l xs ys w in
    let first = rooms_hold l xs t p c h.0 in
    let second = rooms_hold l ys u q d h.1 in
    let joins : JoinGives (room_of t) (room_of u) room 0 (sheet_of (summary_of l (xs ++ ys))) = rw (first.1, second.1) (sheets_join l xs ys p q (omega (arith, w.few, length-append xs ys)) room h.2) in
    ((first.0, second.0, sym joins.0), sym joins.1)

module _ (l : Limits) (es : List Event) (t : Rooms) (w : WellFormed l es) (cut : CutsRooms l es t) where
  -- Every call on the way is carried out, and the last room is that of the whole record.
  pub rooms_joined : AllCarried t × ((room : List ℕ) → length room ≡ sheet_length → room_of t ≡ summarize_after (written l es) room)
  rooms_joined =
      let r = rooms_hold l es t w cut.0 cut.1 in
      (r.0, λ room h. r.1 ∙ sym (record_room l es w room h))

  -- Settled from credit c, it says what happened event by event: permitted, and the credit at the end, or not.
  module _ (c : ℕ) (most : c ≤ l.hi) where
    pub rooms_permitted : Permitted l c es → EndsAt (settle_answer (room_of t) c) (end_credit l c es)
    rooms_permitted p = rw (rooms_hold l es t w cut.0 cut.1).1 (sheet_permitted l es w c most p)

    pub rooms_not_permitted : (Permitted l c es → ⊥) → settle_answer (room_of t) c ≡ 0
    rooms_not_permitted p = rw (rooms_hold l es t w cut.0 cut.1).1 (sheet_not_permitted l es w c most p)
