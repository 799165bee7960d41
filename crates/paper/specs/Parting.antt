-- Request A3 of document 02, "List where two halls part": what the program `compare` prints of two record files, each in either form (A8), for the third
-- condition.
-- Assumes nothing.
use Rattle.decide.specs.declared.refusal.Refusal.{Refusal}
use Rattle.std.specs.Prelude.{Ok, Err, Some, None}
use Rattle.record.specs.Step.{placed}
use Rattle.std.specs.Prelude.{ℕ, suc, ◌+◌, ◌-◌, ◌≤◌, ◌<◌, min, true, false, ◌⊎◌, ◌↔◌, ◌≡◌, length, drop}
use mathlib.Core.List.{List, [], ◌∷◌, ◌++◌, flatten}
use Rattle.wire.specs.Wire.{Bytes}
use Rattle.shaper.specs.declared.Limits.{Limits}
use Rattle.shaper.specs.declared.Event.{Event}
use Rattle.shaper.specs.declared.Event.TheVariants.{Waiting, Idle, Send}
use Rattle.shaper.specs.Kind.{kind_of, number_of, event_of}
use Rattle.summary.specs.declared.Summary.{Summary}
use Rattle.summary.specs.Answer.{Answer}
use Rattle.summary.specs.Summary.{summary_of}
use Rattle.record.specs.Items.{Item, items_bytes, written_items, unrolled, ItemsOk, Formed}
use Rattle.record.specs.Step.{step_at}
use Rattle.account.specs.Account.{summarize_of}
use Rattle.report.specs.Text.{ascii, numeral, line}
use Rattle.report.specs.Report.{printed_of}
use Rattle.feed.specs.Feed.{start_of, fed_of, finish_of}
use Rattle.window.specs.declared.Pair.{Pair}
use Rattle.window.specs.Both.{alike_of, same_answer_of, both_start, both_fed, Chunks, both_chunks, first_chunks, second_chunks}
use Rattle.apart.specs.declared.Side.{Side}
use Rattle.apart.specs.declared.Place.{Place}
use Rattle.apart.specs.declared.Walk.{Walk}
use Rattle.apart.specs.declared.Stand.TheVariants as stand
use Rattle.apart.specs.declared.Finding.TheVariants as finding
use Rattle.apart.specs.Told.{Told, both, first_only, second_only, At, Listed, differ, list_from, list_of, position_of, InOrder}
use Rattle.apart.specs.Text.{setting_text, opening_text, event_text, told_text, list_text, closing_text, compare_of}
use Rattle.apart.specs.Turn.{stand_of, moved_of, turn_of, line_text}
use Rattle.apart.specs.Page.{walk_of, walk_text, page_of}
use Rattle.apart.specs.Pages as pages
use Rattle.apart.specs.Pages.{Cut, Page, page_text, pages_text, CutAt, InTurn, printed_by}
use Rattle.paper.specs.Reasons.{RecordRefused}

-- ---- the list

-- The list is told from the two lists of events alone, by position only. The position of the first of each is told too.
pub record ListRows : Type 0 where
  pub none : (n : ℕ) → list_from n [] [] ≡ []
  pub only_first : (n : ℕ) (e : Event) (es : List Event) → list_from n (e ∷ es) [] ≡ first_only n e ∷ list_from (suc n) es []
  pub only_second : (n : ℕ) (f : Event) (fs : List Event) → list_from n [] (f ∷ fs) ≡ second_only n f ∷ list_from (suc n) [] fs
  pub differing : (n : ℕ) (e f : Event) (es fs : List Event) → differ e f ≡ true → list_from n (e ∷ es) (f ∷ fs) ≡ both n e f ∷ list_from (suc n) es fs
  pub same : (n : ℕ) (e f : Event) (es fs : List Event) → differ e f ≡ false → list_from n (e ∷ es) (f ∷ fs) ≡ list_from (suc n) es fs
  -- kind or number differs
  pub differs : (e f : Event) → (differ e f ≡ true) ↔ ((kind_of e ≡ kind_of f → ⊥) ⊎ (number_of e ≡ number_of f → ⊥))
  pub alike : (e f : Event) → (differ e f ≡ false) ↔ (e ≡ f)
  -- positions are counted from 0
  pub from_0 : (es fs : List Event) → list_of es fs ≡ list_from 0 es fs

-- "The list must hold every difference and no others, and equal records give an empty list."
pub record ListHolds : Type 0 where
  -- Both events of a position are listed exactly if they stand there and differ in kind or number,
  pub differing : (es fs : List Event) (n : ℕ) (e f : Event) → Listed (both n e f) (list_of es fs)
      ↔ (At es n e × At fs n f × ((kind_of e ≡ kind_of f → ⊥) ⊎ (number_of e ≡ number_of f → ⊥)))
  -- and one alone exactly if it stands there and the other record has none at that position.
  pub only_first : (es fs : List Event) (n : ℕ) (e : Event) → Listed (first_only n e) (list_of es fs) ↔ (At es n e × (length fs ≤ n))
  pub only_second : (es fs : List Event) (n : ℕ) (f : Event) → Listed (second_only n f) (list_of es fs) ↔ (At fs n f × (length es ≤ n))
  -- In event order: each position is before those of all that is listed behind it.
  pub ordered : (es fs : List Event) → InOrder (list_of es fs)
  pub before : (t u : Told) (ts : List Told) → InOrder (t ∷ ts) → Listed u ts → position_of t < position_of u
  pub onward : (t : Told) (ts : List Told) → InOrder (t ∷ ts) → InOrder ts
  pub positions : (n : ℕ) (e f : Event) → (position_of (both n e f) ≡ n) × (position_of (first_only n e) ≡ n) × (position_of (second_only n f) ≡ n)
  -- Nothing exactly if both have the same events.
  pub empty : (es fs : List Event) → (list_of es fs ≡ []) ↔ (es ≡ fs)
  -- what a position and the list are, for these facts
  pub at_first : (d e : Event) (es : List Event) → At (d ∷ es) 0 e ↔ (e ≡ d)
  pub at_next : (d e : Event) (es : List Event) (n : ℕ) → At (d ∷ es) (suc n) e ↔ At es n e
  pub at_none : (n : ℕ) (e : Event) → At [] n e → ⊥
  pub listed_one : (t u : Told) (ts : List Told) → Listed t (u ∷ ts) ↔ ((t ≡ u) ⊎ Listed t ts)
  pub listed_none : (t : Told) → Listed t [] → ⊥

-- ---- its text, as bytes

pub record PartingText : Type 0 where
  -- "Settings that differ are printed first": `mtu A, B`, the first file's before the comma
  pub setting : (words : List ℕ) (a b : ℕ) → (a ≡ b → ⊥) → setting_text words a b ≡ words ++ numeral a ++ (ascii ", " ++ numeral b ++ ascii "\n")
  pub no_setting : (words : List ℕ) (a : ℕ) → setting_text words a a ≡ []
  pub settings : (l m : Limits)
      → opening_text l m
      ≡ setting_text (ascii "mtu ") l.mtu m.mtu ++ setting_text (ascii "loLimit ") l.lo m.lo ++ setting_text (ascii "hiLimit ") l.hi m.hi
  -- KIND is `waiting`, `idle` or `send`
  pub waiting : (x : ℕ) → event_text (Waiting x) ≡ ascii "waiting " ++ numeral x
  pub idle : (x : ℕ) → event_text (Idle x) ≡ ascii "idle " ++ numeral x
  pub send : (z : ℕ) → event_text (Send z) ≡ ascii "send " ++ numeral z
  -- `event N: KIND NUMBER, KIND NUMBER`
  pub differing : (n : ℕ) (e f : Event)
      → told_text (both n e f) ≡ ascii "event " ++ numeral n ++ ascii ": " ++ event_text e ++ ascii ", " ++ event_text f ++ ascii "\n"
  -- `first only, event N: KIND NUMBER` or `second only, event N: KIND NUMBER`
  pub only_first : (n : ℕ) (e : Event) → told_text (first_only n e) ≡ ascii "first only, event " ++ numeral n ++ ascii ": " ++ event_text e ++ ascii "\n"
  pub only_second : (n : ℕ) (f : Event) → told_text (second_only n f) ≡ ascii "second only, event " ++ numeral n ++ ascii ": " ++ event_text f ++ ascii "\n"
  -- a line for each, in the list's order
  pub no_line : list_text [] ≡ []
  pub a_line : (t : Told) (ts : List Told) → list_text (t ∷ ts) ≡ told_text t ++ list_text ts
  -- `first`, the six lines of `summarize`; `second`, its six lines
  pub summaries : (a b : Answer) → closing_text a b ≡ ascii "first\n" ++ printed_of a ++ ascii "second\n" ++ printed_of b

-- ---- the whole

pub record Compared : Type 0 where
  -- Both records as a writer writes them: the settings that differ, the list, and each summary under its own settings. Events are counted unrolled.
  pub parting : (l m : Limits) (is js : List Item) → Formed true l is → Formed true m js
      → compare_of (written_items l is) (written_items m js)
      ≡ opening_text l m ++ list_text (list_of (unrolled is) (unrolled js))
      ++ closing_text (Ok (summary_of l (unrolled is))) (Ok (summary_of m (unrolled js)))
  -- "Refusals: as for one record, the first file's before the second's."
  pub refused_first : (xs ys : List ℕ) (n : ℕ) → Bytes xs → 0 < n → RecordRefused xs n → compare_of xs ys ≡ line (ascii "refused ") (numeral n)
  pub refused_second : (l : Limits) (is : List Item) (ys : List ℕ) (n : ℕ) → Formed true l is → Bytes ys → 0 < n → RecordRefused ys n
      → compare_of (written_items l is) ys ≡ line (ascii "refused ") (numeral n)

-- ---- as the program reads and writes, for files of any length

-- What is said here is what its functions answer and put into the rooms that are written; that its loop calls them in turn is read in its source. It reads both
-- files twice. First to test them: both are fed, a chunk of each at a time.
pub record BothFed : Type 0 where
  -- What each comes to is what its bytes come to, however they are cut.
  pub summed : (cs : Chunks) → Bytes (flatten (first_chunks cs)) → Bytes (flatten (second_chunks cs))
      → (finish_of (both_chunks both_start cs).first ≡ summarize_of (flatten (first_chunks cs)))
      × (finish_of (both_chunks both_start cs).second ≡ summarize_of (flatten (second_chunks cs)))
  pub start : both_start ≡ record { first = start_of; second = start_of; same = true }
  pub no_chunk : (p : Pair) → both_chunks p [] ≡ p
  pub a_chunk : (p : Pair) (w v : List ℕ) (cs : Chunks) → both_chunks p ((w, v) ∷ cs) ≡ both_chunks (both_fed p w v) cs
  pub firsts : (first_chunks [] ≡ []) × ((w v : List ℕ) (cs : Chunks) → first_chunks ((w, v) ∷ cs) ≡ w ∷ first_chunks cs)
  pub seconds : (second_chunks [] ≡ []) × ((w v : List ℕ) (cs : Chunks) → second_chunks ((w, v) ∷ cs) ≡ v ∷ second_chunks cs)
  -- While all chunks are equal they are fed once; else each record is fed its own.
  pub once : (p : Pair) (w : List ℕ) → p.same ≡ true → both_fed p w w ≡ record { first = fed_of p.first w; second = fed_of p.first w; same = true }
  pub parted : (p : Pair) (w v : List ℕ) → p.same ≡ false → both_fed p w v ≡ record { first = fed_of p.first w; second = fed_of p.second v; same = false }
  pub parting : (p : Pair) (w v : List ℕ) → (w ≡ v → ⊥) → both_fed p w v ≡ record { first = fed_of p.first w; second = fed_of p.second v; same = false }
  pub alike : (w v : List ℕ) → (alike_of w v ≡ true) ↔ (w ≡ v)
  -- The second reading's summaries must equal the first's.
  pub equal : (s t : Summary) → (same_answer_of (Ok s) (Ok t) ≡ true) ↔ (s ≡ t)
  pub not_equal : (a : Answer) (r : Refusal) → (same_answer_of (Err r) a ≡ false) × (same_answer_of a (Err r) ≡ false)

-- Then to list them: two windows are walked together, from a place in each. A place is where an item begins, and how many of its events have gone by.
pub record Placed (side : Side) (w : List ℕ) (p : Place) : Type 0 where
  -- the item that stands there, an event or a run,
  pub item : (kind number count next : ℕ) → step_at side.mtu w p.at ≡ Ok (Some (placed kind number count next)) → p.gone < count
      → stand_of side w p ≡ stand.Events kind number count next
  -- behind the last byte of the last window the file's end,
  pub ended : step_at side.mtu w p.at ≡ Ok None → side.last ≡ true → stand_of side w p ≡ stand.Ended
  -- and else no whole item of this window.
  pub more : step_at side.mtu w p.at ≡ Ok None → side.last ≡ false → stand_of side w p ≡ stand.Unread
  pub cut : (r : Refusal) → step_at side.mtu w p.at ≡ Err r → stand_of side w p ≡ stand.Unread
  pub passed : (kind number count next : ℕ) → step_at side.mtu w p.at ≡ Ok (Some (placed kind number count next)) → count ≤ p.gone → stand_of side w p ≡ stand.Unread
  -- the place behind m more events of an item of so many, behind which the next begins
  pub within : (m count next : ℕ) → p.gone + m < count → moved_of p m count next ≡ record { at = p.at; gone = p.gone + m }
  pub behind : (m count next : ℕ) → count ≤ p.gone + m → moved_of p m count next ≡ record { at = next; gone = 0 }

-- A turn of a walk, by what stands at both places.
pub record Turns (a b : Side) (w v : List ℕ) (walk : Walk) : Type 0 where
  -- Two events that differ are listed, and passed.
  pub differing : (k x c next j y d behind : ℕ) → stand_of a w walk.first ≡ stand.Events k x c next → stand_of b v walk.second ≡ stand.Events j y d behind
      → differ (event_of k x) (event_of j y) ≡ true
      → turn_of a b w v walk
      ≡ record {
        walk = record { first = moved_of walk.first 1 c next; second = moved_of walk.second 1 d behind; position = walk.position + 1 };
        line = finding.Both (event_of k x) (event_of j y);
        stops = false;
      }
  -- Equal events are passed unlisted, as many at once as both items have left.
  pub same : (k x c next j y d behind : ℕ) → stand_of a w walk.first ≡ stand.Events k x c next → stand_of b v walk.second ≡ stand.Events j y d behind
      → differ (event_of k x) (event_of j y) ≡ false
      → let m = min (c - walk.first.gone) (d - walk.second.gone) in
      turn_of a b w v walk
      ≡ record {
        walk = record { first = moved_of walk.first m c next; second = moved_of walk.second m d behind; position = walk.position + m };
        line = finding.Nothing;
        stops = false;
      }
  -- An event that only one record has is listed, and passed.
  pub only_first : (k x c next : ℕ) → stand_of a w walk.first ≡ stand.Events k x c next → stand_of b v walk.second ≡ stand.Ended
      → turn_of a b w v walk
      ≡ record {
        walk = record { first = moved_of walk.first 1 c next; second = walk.second; position = walk.position + 1 };
        line = finding.First (event_of k x);
        stops = false;
      }
  pub only_second : (j y d behind : ℕ) → stand_of a w walk.first ≡ stand.Ended → stand_of b v walk.second ≡ stand.Events j y d behind
      → turn_of a b w v walk
      ≡ record {
        walk = record { first = walk.first; second = moved_of walk.second 1 d behind; position = walk.position + 1 };
        line = finding.Second (event_of j y);
        stops = false;
      }
  -- It stops where a window has no whole item left, and where both files have ended.
  pub unread_first : stand_of a w walk.first ≡ stand.Unread → turn_of a b w v walk ≡ record { walk = walk; line = finding.Nothing; stops = true }
  pub unread_second : stand_of b v walk.second ≡ stand.Unread → turn_of a b w v walk ≡ record { walk = walk; line = finding.Nothing; stops = true }
  pub both_ended : stand_of a w walk.first ≡ stand.Ended → stand_of b v walk.second ≡ stand.Ended
      → turn_of a b w v walk ≡ record { walk = walk; line = finding.Nothing; stops = true }
  -- So many turns, and what they list.
  pub no_turn : (walk_of 0 a b w v walk ≡ walk) × (walk_text 0 a b w v walk ≡ [])
  pub a_turn : (k : ℕ) → walk_of (suc k) a b w v walk ≡ walk_of k a b w v (turn_of a b w v walk).walk
  pub a_text : (k : ℕ) → walk_text (suc k) a b w v walk ≡ line_text walk.position (turn_of a b w v walk).line ++ walk_text k a b w v (turn_of a b w v walk).walk
  -- A page is at most 5,000 of them.
  pub page : page_of a b w v walk ≡ record { walk = walk_of 5000 a b w v walk; end = length (walk_text 5000 a b w v walk) }

pub record Paged : Type 0 where
  pub placed : (side : Side) (w : List ℕ) (p : Place) → Placed side w p
  pub turns : (a b : Side) (w v : List ℕ) (walk : Walk) → Turns a b w v walk
  pub lines : (n : ℕ) (e f : Event)
      → (line_text n finding.Nothing ≡ []) × (line_text n (finding.Both e f) ≡ told_text (both n e f)) × (line_text n (finding.First e) ≡ told_text (first_only n e))
      × (line_text n (finding.Second f) ≡ told_text (second_only n f))
  -- Write after write it is what the two files are to print, however their bytes are cut into windows: where both have summaries, the pages go through both files.
  pub printed : (xs ys : List ℕ) (ps : List Page)
      → ((s t : Summary) → summarize_of xs ≡ Ok s → summarize_of ys ≡ Ok t → InTurn s.limits t.limits 0 (drop 14 xs) 0 (drop 14 ys) 0 ps)
      → printed_by (summarize_of xs) (summarize_of ys) ps ≡ compare_of xs ys
  pub refusal : (r : Refusal) (b : Answer) (ps : List Page) → printed_by (Err r) b ps ≡ printed_of (Err r)
  pub other_refusal : (s : Summary) (r : Refusal) (ps : List Page) → printed_by (Ok s) (Err r) ps ≡ printed_of (Err r)
  pub writes : (s t : Summary) (ps : List Page)
      → printed_by (Ok s) (Ok t) ps ≡ opening_text s.limits t.limits ++ pages_text ps ++ closing_text (Ok s) (Ok t)
  pub no_page : pages_text [] ≡ []
  pub a_page : (p : Page) (ps : List Page) → pages_text (p ∷ ps) ≡ page_text p ++ pages_text ps
  -- A page is so many turns of a walk; or the same items stand in both files, which list nothing.
  pub walked : (c d : Cut) (walk : Walk) (k : ℕ) → page_text (pages.turns c d walk k) ≡ walk_text k c.side d.side c.window d.window walk
  pub equal : (is : List Item) (xs ys : List ℕ) → page_text (pages.equal is xs ys) ≡ []
  -- Pages go through what is left of both files, from a position on, g and h events of the first items having gone by: each begins where the one before ended,
  pub walked_on : (l m : Limits) (n : ℕ) (xs : List ℕ) (g : ℕ) (ys : List ℕ) (h : ℕ) (c d : Cut) (walk : Walk) (k : ℕ) (ps : List Page)
      → let end = walk_of k c.side d.side c.window d.window walk in
      InTurn l m n xs g ys h (pages.turns c d walk k ∷ ps)
      ↔ ((n ≡ walk.position)
      × CutAt l c walk.first.at walk.first.gone xs g
      × CutAt m d walk.second.at walk.second.gone ys h
      × InTurn l m end.position (drop end.first.at (c.window ++ c.rest)) end.first.gone (drop end.second.at (d.window ++ d.rest)) end.second.gone ps)
  pub equal_on : (l m : Limits) (n : ℕ) (xs : List ℕ) (g : ℕ) (ys : List ℕ) (h : ℕ) (is : List Item) (us vs : List ℕ) (ps : List Page)
      → InTurn l m n xs g ys h (pages.equal is us vs ∷ ps)
      ↔ ((g ≡ 0) × (h ≡ 0) × (xs ≡ items_bytes is ++ us) × (ys ≡ items_bytes is ++ vs) × ItemsOk true l is × ItemsOk true m is
      × InTurn l m (n + length (unrolled is)) us 0 vs 0 ps)
  -- and behind the last no byte of either is left.
  pub all_gone : (l m : Limits) (n : ℕ) (xs : List ℕ) (g : ℕ) (ys : List ℕ) (h : ℕ) → InTurn l m n xs g ys h [] ↔ ((xs ≡ []) × (ys ≡ []))
  -- A window stands at a place of its file: it begins there, under the file's mtu, and no byte stands behind the last.
  pub cut_at : (l : Limits) (c : Cut) (at gone : ℕ) (xs : List ℕ) (g : ℕ)
      → CutAt l c at gone xs g ↔ ((c.side.mtu ≡ l.mtu) × (xs ≡ drop at (c.window ++ c.rest)) × (g ≡ gone) × (c.side.last ≡ true → c.rest ≡ []))

pub record Parting : Type 0 where
  pub rows : ListRows
  pub holds : ListHolds
  pub text : PartingText
  pub compared : Compared
  pub fed : BothFed
  pub paged : Paged
