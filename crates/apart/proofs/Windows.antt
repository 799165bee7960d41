-- The pages of two files, however they are cut, are the list of the whole records, and what is printed by them is what the two files are to print.
-- Assumes nothing.
use Rattle.decide.proofs.Number.{number_told}
use Rattle.std.specs.Prelude.{Ok, Err}
use Prim.Native.Nat.{ℕ, zero, suc, ◌+◌}
use mathlib.Core.Bool.{true}
use mathlib.Core.List.{List, [], ◌∷◌, ◌++◌}
use mathlib.Core.Path.{◌≡◌, refl, sym, ap, ◌∙◌}
use native.Mathlib.Omega.{arith}
use native.Mathlib.Nat.{add_comm, suc-add}
use lib.ListN.{length, drop}
use lib.Seq.{take-append_seam, drop-append_seam}
use Rattle.decide.specs.Refusal.{first_of}
use Rattle.decide.specs.Test.{Holds}
use Rattle.shaper.specs.declared.Limits.{Limits}
use Rattle.shaper.specs.declared.Event.{Event}
use Rattle.shaper.specs.Limits.{limits_ok, most_events}
use Rattle.shaper.specs.Kind.{event_of}
use Rattle.summary.specs.declared.Summary.{Summary}
use Rattle.summary.specs.Summary.{summary_of}
use Rattle.summary.proofs.Promises.{summary_limits}
use Rattle.record.specs.Step.{Header}
use Rattle.record.specs.Items.{Item, items_bytes, unrolled, written_items, ItemsOk, Formed}
use Rattle.record.specs.Record.{written}
use Rattle.record.specs.Read.{item_faults, item_kind, item_number, Events, faulty, events, onward, gone_behind, bytes_behind, read_items, Read, unreadable, whole, under, read_record}
use Rattle.record.specs.Step.{header_of_of}
use Rattle.record.proofs.Steps.{read_by, read_header, header_stands}
use Rattle.record.proofs.Written.{behind, behind_faulty, behind_events, items_then, items_read, written_read}
use Rattle.record.proofs.Wrote.{formed_events}
use Rattle.report.specs.Report.{refused_text, printed_of}
use Rattle.account.specs.Account.{summarized, summarize_in, summarize_of}
use Rattle.apart.specs.Told.{list_from, list_of}
use Rattle.apart.specs.Text.{list_text, compared_text, compare_of}
use Rattle.apart.specs.Page.{walk_of, walk_text}
use Rattle.apart.specs.Pages.{Cut, bytes_of, Page, turns, equal, pages_text, CutAt, InTurn, printed_by}
use Rattle.apart.proofs.Grows.{list_cut}
use Rattle.apart.proofs.Listed.{same_empty}
use Rattle.apart.proofs.Onward.{From, walk_lists}

-- no byte more holds no event more
nothing_read : (late mtu left g : ℕ) → read_items true late mtu left g [] ≡ events []
unfolding read_items
nothing_read late mtu zero g = refl
nothing_read late mtu (suc left) g = refl

none_left : (late mtu left g : ℕ) (xs : List ℕ) (es : List Event) → xs ≡ [] → read_items true late mtu left g xs ≡ events es → es ≡ []
none_left late mtu left g xs es e r =
    let q = nothing_read late mtu left g in
    let read : read_items true late mtu left g [] ≡ events es = rw e at r in
    cc

-- what stands from a cut's place on
from_cut : (late : ℕ) (l : Limits) (c : Cut) (at gone : ℕ) (xs : List ℕ) (g left : ℕ) (es : List Event) → CutAt l c at gone xs g → read_items true late l.mtu left g xs ≡ events es →
    From late c.side.mtu (bytes_of c) (record { at = at; gone = gone }) es
from_cut late l c at gone xs g left es k r = record { left = left; reads = rw (k.settings, ← k.bytes, ← k.events) r }

-- ---- the same items in both files

-- an event before others that are read: it has no fault, and they are events
record Onto (n : ℕ) (e : Event) (r : Events) (es : List Event) : Type 0 where
  rest : List Event
  free : n ≡ 0
  reads : r ≡ events rest
  same : es ≡ e ∷ rest

onto : (n : ℕ) (e : Event) (r : Events) (es : List Event) → onward n e r ≡ events es → Onto n e r es
onto zero e (events fs) es q = record { rest = fs; free = refl; reads = refl; same = cc }
onto zero e (faulty n) es q = let z : ◌≡◌ {A = ℕ} 0 1 = cc in absurd (omega arith)
onto (suc n) e r es q = let z : ◌≡◌ {A = ℕ} 0 1 = cc in absurd (omega arith)

-- What is read where so many may come is read where more may.
more_may : (late mtu left more g : ℕ) (xs : List ℕ) (es : List Event) → read_items true late mtu left g xs ≡ events es → read_items true late mtu (left + more) g xs ≡ events es
unfolding read_items
more_may late mtu zero more g [] es r = nothing_read late mtu (0 + more) g ∙ r
more_may late mtu zero more g (x ∷ xs) es r = let z : ◌≡◌ {A = ℕ} 0 1 = cc in absurd (omega arith)
more_may late mtu (suc left) more g [] es r = nothing_read late mtu (suc left + more) g ∙ r
more_may late mtu (suc left) more g (x ∷ xs) es r =
    let o = onto (first_of (item_faults true mtu (x ∷ xs))) (event_of (item_kind (x ∷ xs)) (item_number (x ∷ xs)))
    (read_items true late mtu left (gone_behind g (x ∷ xs)) (bytes_behind g (x ∷ xs))) es r in
    let q = more_may late mtu left more (gone_behind g (x ∷ xs)) (bytes_behind g (x ∷ xs)) o.rest o.reads in
    rw (suc-add left more, o.free, q) (ap events (sym o.same))

-- events that are read behind the same items
record Gone (late : ℕ) (l : Limits) (is : List Item) (us : List ℕ) (left : ℕ) (es : List Event) : Type 0 where
  rest : List Event
  same : es ≡ unrolled is ++ rest
  reads : read_items true late l.mtu left 0 us ≡ events rest

items_gone : (late : ℕ) (l : Limits) → Holds (limits_ok l) → (is : List Item) (us : List ℕ) (left : ℕ) (es : List Event) → ItemsOk true l is →
    read_items true late l.mtu left 0 (items_bytes is ++ us) ≡ events es → Gone late l is us left es
items_gone late l ok is us left es v r =
    let more = more_may late l.mtu left (length (unrolled is)) 0 (items_bytes is ++ us) es r in
    let told : read_items true late l.mtu (length (unrolled is) + left) 0 (items_bytes is ++ us) ≡ events es = rw (add_comm left (length (unrolled is))) at more in
    by (read_items true late l.mtu left 0 us) refl (sym (items_then true late l ok is left us v) ∙ told)
  where
    by : (q : Events) → read_items true late l.mtu left 0 us ≡ q → behind (unrolled is) (read_items true late l.mtu left 0 us) ≡ events es → Gone late l is us left es
    by (events fs) g told =
        let all = behind_events (unrolled is) fs in
        let read : behind (unrolled is) (events fs) ≡ events es = rw g at told in
        record { rest = fs; same = cc; reads = g }
    by (faulty n) g told =
        let all = behind_faulty (unrolled is) n in
        let read : behind (unrolled is) (faulty n) ≡ events es = rw g at told in
        let z : ◌≡◌ {A = ℕ} 0 1 = cc in
        absurd (omega arith)

-- The same events before others list nothing.
same_before : (hs : List Event) (n : ℕ) (es fs us vs : List Event) → es ≡ hs ++ us → fs ≡ hs ++ vs → list_from (n + length hs) us vs ≡ list_from n es fs
same_before hs n es fs us vs x y =
    rw (x, y)
    (sym (list_cut (length hs) n (hs ++ us) (hs ++ vs) ∙ rw (take-append_seam hs us, take-append_seam hs vs, drop-append_seam hs us, drop-append_seam hs vs, same_empty n hs)))

-- ---- page after page

module _ (late : ℕ) (l m : Limits) (ok : Holds (limits_ok l)) (good : Holds (limits_ok m)) where
  pages_listed : (ps : List Page) (n : ℕ) (xs : List ℕ) (g : ℕ) (ys : List ℕ) (h : ℕ) (es fs : List Event) (left other : ℕ) → InTurn l m n xs g ys h ps →
      read_items true late l.mtu left g xs ≡ events es → read_items true late m.mtu other h ys ≡ events fs → pages_text ps ≡ list_text (list_from n es fs)
  unfolding list_from list_text
  pages_listed [] n xs g ys h es fs left other t r q =
      let a = none_left late l.mtu left g xs es t.0 r in
      let b = none_left late m.mtu other h ys fs t.1 q in
      rw (a, b)
  pages_listed (turns c d walk k ∷ ps) n xs g ys h es fs left other t r q =
      let f = from_cut late l c walk.first.at walk.first.gone xs g left es t.1 r in
      let e = from_cut late m d walk.second.at walk.second.gone ys h other fs t.2 q in
      let u = walk_lists late c.side d.side c.window c.rest d.window d.rest t.1.last t.2.last k walk es fs f e in
      let end = walk_of k c.side d.side c.window d.window walk in
      let x = ap (λ (z : ℕ). read_items true late z u.stands_first.left end.first.gone (drop end.first.at (bytes_of c))) (sym t.1.settings) ∙ u.stands_first.reads in
      let y = ap (λ (z : ℕ). read_items true late z u.stands_second.left end.second.gone (drop end.second.at (bytes_of d))) (sym t.2.settings) ∙ u.stands_second.reads in
      let behind = pages_listed ps _ _ _ _ _ u.first u.second u.stands_first.left u.stands_second.left t.3 x y in
      ap (λ (z : List ℕ). walk_text k c.side d.side c.window d.window walk ++ z) behind ∙ u.same ∙ rw t.0
  pages_listed (equal is us vs ∷ ps) n xs g ys h es fs left other t r q =
      let x = items_gone late l ok is us left es t.4 (rw (t.0, t.2) at r) in
      let y = items_gone late m good is vs other fs t.5 (rw (t.1, t.3) at q) in
      pages_listed ps _ us 0 vs 0 x.rest y.rest left other t.6 x.reads y.reads ∙ ap list_text (same_before (unrolled is) n es fs x.rest y.rest x.same y.same)

-- ---- the whole

-- a record that is read: its settings are in range, and its events stand behind the header
record Opened (xs : List ℕ) (l : Limits) (es : List Event) : Type 0 where
  in_range_lem : Holds (limits_ok l)
  reads : read_items true 9 l.mtu most_events 0 (drop 14 xs) ≡ events es

opened : (xs : List ℕ) (l : Limits) (es : List Event) → read_record xs ≡ whole l es → Opened xs l es
opened xs l es e = by (header_of_of xs) refl (sym (read_header true xs) ∙ e)
  where
    under_whole : (k : Limits) (r : Events) → under k r ≡ whole l es → (k ≡ l) × (r ≡ events es)
    under_whole k (events fs) q = (cc, cc)
    under_whole k (faulty n) q = let z : ◌≡◌ {A = ℕ} 0 1 = cc in absurd (omega arith)

    by : (h : Header) → header_of_of xs ≡ h → read_by true xs h ≡ whole l es → Opened xs l es
    by (Ok k) h q =
        let u = under_whole k (read_items true 9 k.mtu most_events 0 (drop 14 xs)) q in
        record { in_range_lem = rw u.0 at (header_stands xs k h).in_range_lem; reads = rw u.0 at u.1 }
    by (Err r) h q = let z : ◌≡◌ {A = ℕ} 0 1 = cc in absurd (omega arith)

-- Files read in windows: the pages, one behind the other, are the list of the whole records, however the windows are cut.
pub windows : (xs ys : List ℕ) (l m : Limits) (es fs : List Event) (ps : List Page) → read_record xs ≡ whole l es → read_record ys ≡ whole m fs →
    InTurn l m 0 (drop 14 xs) 0 (drop 14 ys) 0 ps → pages_text ps ≡ list_text (list_of es fs)
windows xs ys l m es fs ps r q t =
    let x = opened xs l es r in
    let y = opened ys m fs q in
    pages_listed 9 l m x.in_range_lem y.in_range_lem ps 0 (drop 14 xs) 0 (drop 14 ys) 0 es fs most_events most_events t x.reads y.reads

-- What is printed by what two files come to and by their pages is what the two files are to print: refusals first, then each line, byte by byte.
module _ (xs ys : List ℕ) (ps : List Page)
    (pages : (s t : Summary) → summarize_of xs ≡ Ok s → summarize_of ys ≡ Ok t → InTurn s.limits t.limits 0 (drop 14 xs) 0 (drop 14 ys) 0 ps) where
  summed : (zs : List ℕ) (l : Limits) (es : List Event) → read_record zs ≡ whole l es → (summarize_of zs ≡ Ok (summary_of l es)) × ((summary_of l es).limits ≡ l)
  unfolding summarize_in
  summed zs l es r = (ap summarized r, summary_limits l (opened zs l es r).in_range_lem es)

  printed_as : (r q : Read) → read_record xs ≡ r → read_record ys ≡ q → printed_by (summarized r) (summarized q) ps ≡ compared_text r q
  unfolding printed_of
  printed_as (unreadable n) q e f = ap refused_text (number_told n)
  printed_as (whole l es) (unreadable n) e f = ap refused_text (number_told n)
  printed_as (whole l es) (whole m fs) e f =
      let x = summed xs l es e in
      let y = summed ys m fs f in
      let t : InTurn l m 0 (drop 14 xs) 0 (drop 14 ys) 0 ps = rw (x.1, y.1) at (pages (summary_of l es) (summary_of m fs) x.0 y.0) in
      rw (windows xs ys l m es fs ps e f t, x.1, y.1)

  pub compare_printed : printed_by (summarize_of xs) (summarize_of ys) ps ≡ compare_of xs ys
  unfolding compare_of summarize_in
  compare_printed = printed_as (read_record xs) (read_record ys) refl refl

-- Records in either form print what their unrolled forms print.
pub either_form : (l m : Limits) (is js : List Item) → Formed true l is → Formed true m js →
    compare_of (written_items l is) (written_items m js) ≡ compare_of (written l (unrolled is)) (written m (unrolled js))
unfolding compare_of
either_form l m is js w v =
    rw (items_read true l is w, items_read true m js v, written_read true l (unrolled is) (formed_events true l is w), written_read true m (unrolled js) (formed_events true m js v))
