-- The third condition holds: a record's bytes are a writer's, so what is proved of its events holds of them.
-- Assumes nothing.
use Rattle.std.specs.Prelude.{Ok, Err, Some}
use Rattle.decide.specs.Number.{refusal_of}
use Rattle.decide.proofs.Number.{number_told, refused_alike}
use Rattle.record.specs.Step.{placed}
use Prim.Native.Nat.{suc, ℕ, ◌+◌, ◌≤◌, ◌<◌}
use mathlib.Core.Bool.{true, false}
use mathlib.Core.List.{List, [], ◌∷◌, ◌++◌}
use mathlib.Core.Logic.{◌↔◌}
use mathlib.Core.Path.{◌≡◌, refl, sym, ap, subst, ◌∙◌}
use native.Mathlib.Omega.{arith}
use denote.Ref.{Bor}
use lib.ListN.{length, take, length-append, length-replicate}
use Rattle.decide.proofs.Cases.{by_cases}
use Rattle.wire.specs.Wire.{Bytes}
use Rattle.shaper.specs.Limits.{most_events}
use Rattle.shaper.specs.declared.Limits.{Limits}
use Rattle.shaper.specs.declared.Event.{Event}
use Rattle.shaper.specs.Credit.{Valid}
use Rattle.shaper.specs.Kind.{kind_of, number_of, event_of}
use Rattle.summary.specs.Answer.{Answer}
use Rattle.summary.specs.Answer.{Outcome}
use Rattle.summary.specs.Answer.{answer_number}
use Rattle.summary.specs.Summary.{summary_of}
use Rattle.summary.proofs.Promises.{settle_exact, sent_below, summary_events, summary_accrued, summary_sent}
use Rattle.record.specs.Record.{written, event_bytes, WellFormed}
use Rattle.record.specs.Items.{Item, one, run, item_of, run_bytes, item_bytes, written_items, unrolled, ItemOk, Formed}
use Rattle.record.specs.Read.{Events, faulty, events, limits_at, under}
use Rattle.record.proofs.Written.{length_event, length_run, ones, ones_formed, ones_written}
use Rattle.record.proofs.Wrote.{formed_events}
use Rattle.record.proofs.Refused.{item_refused_exactly}
use Rattle.account.specs.Account.{summarized, summarize_in}
use Rattle.account.specs.Pieces.{piece, both, Cuts, parted}
use Rattle.account.proofs.Promises.{summarize_items, summarize_written, summarized_written}
use Rattle.account.proofs.Pieces as pieces
use Rattle.account.proofs.Pieces.{cut_joins, cut_in_run_joins}
use Rattle.reader.specs.Walk.{new_of, walk_of}
use Rattle.reader.specs.Place.{next_at, in_header}
use Rattle.reader.proofs.Refused.{next_refused_exactly}
use Rattle.reader.proofs.Found.{place_behind, found_item, found_items_end, found_items_faulty, found_items_over, found_items_passes}
use Rattle.reader.proofs.Rows.{moved_on, moved_event, moved_run, moved_end, moved_faulty}
use Rattle.reader.proofs.Walk.{walk_reads, walk_items}
use Rattle.settings.specs.declared.Settings.{Settings}
use Rattle.settings.specs.Range.{SettingsOk}
use Rattle.credits.specs.declared.Which.{Which}
use Rattle.credits.specs.Which.{bucket_of, limits_for}
use Rattle.credits.proofs.Range.{bucket_ok_lem, limits_ok_lem}
use Rattle.station.specs.History.{Recorded}
use Rattle.station.proofs.History.{credit_of_record}
use Rattle.sheet.specs.Sheet.{sheet_length, summary_at}
use Rattle.layout.specs.Layout.{station_length}
use Rattle.rpr.specs.Calls.{summarize_after, settle_answer, EndsAt}
use Rattle.rpr.specs.Pieces as rooms
use Rattle.rpr.specs.Pieces.{Rooms, CutsRooms}
use Rattle.rpr.proofs.Records.{items_room, record_room, sheet_back, sheet_permitted, sheet_not_permitted, record_permitted}
use Rattle.rpr.proofs.Promises.{summarize_carried}
use Rattle.rpr.proofs.Step.{start_in_range}
use Rattle.rpr.proofs.Pieces.{rooms_joined, rooms_permitted, rooms_not_permitted}
use Rattle.rpr.proofs.Told.{credit_of_told}
use Rattle.paper.specs.Reasons.{RecordRefused}
use Rattle.paper.specs.Third.{SummarySays, Account, LentAccount, LentPieces, CutInRun, Walking, Condition3, Night, NightAccounted, NightAccountedLent}
use Rattle.paper.proofs.Items.{header_given, item_given}
use Rattle.paper.proofs.Earliest.{finds, record_faults, old_record_faults}
use Rattle.paper.proofs.Files.{parts_ok}
use Rattle.paper.proofs.Program.{program}
use Rattle.paper.proofs.Parting.{parting}
use Rattle.paper.proofs.Movers.{movers}
use Rattle.paper.proofs.Heartbeats.{heartbeats}
use Rattle.paper.proofs.Summaries.{summary_rules, writes_items}

says : (l : Limits) (es : List Event) → WellFormed l es → (c : ℕ) → c ≤ l.hi → SummarySays l es (summary_of l es) c
says l es w c most =
    let x = settle_exact l w.settings es w.valid w.few c most in
    record {
      permitted = x.permitted;
      not_permitted = x.not_permitted;
      sent_below = sent_below l w.settings es w.valid w.few c most;
    }

account : (l : Limits) (is : List Item) → Formed true l is → Account (written_items l is) l (unrolled is)
account l is f =
    let es = unrolled is in
    let w = formed_events true l is f in
    record {
      summary = summary_of l es;
      summarized = summarize_items true l is f;
      is = refl;
      events = summary_events l w.settings es;
      accrued = summary_accrued l w.settings es;
      sent = summary_sent l w.settings es;
      joined = λ pieces cuts. cut_joins l es pieces cuts w;
      says = says l es w;
    }

module _ (l : Limits) (is : List Item) (f : Formed true l is) where
  formed : WellFormed l (unrolled is)
  formed = formed_events true l is f

  lent_account : (room : List ℕ) → length room ≡ sheet_length → LentAccount (written_items l is) l (unrolled is) room
  lent_account room h =
      let holds = items_room l is f room h in
      record {
        carried = summarize_carried (written_items l is) room l is f refl h;
        summarized = summarize_items true l is f ∙ ap Ok (sym (ap summary_at holds ∙ sheet_back l (unrolled is) formed));
        permitted = λ c most p. rw holds (sheet_permitted l (unrolled is) formed c most p);
        not_permitted = λ c most p. rw holds (sheet_not_permitted l (unrolled is) formed c most p);
      }

  lent_pieces : (t : Rooms) → CutsRooms l (unrolled is) t → LentPieces (written_items l is) l (unrolled is) t
  lent_pieces t cut =
      let joined = rooms_joined l (unrolled is) t formed cut in
      record {
        carried = joined.0;
        whole = λ room h. joined.1 room h ∙ record_room l (unrolled is) formed room h ∙ sym (items_room l is f room h);
        permitted = rooms_permitted l (unrolled is) t formed cut;
        not_permitted = rooms_not_permitted l (unrolled is) t formed cut;
      }

cut_in_run : (l : Limits) (is : List Item) (e : Event) (m n : ℕ) (js : List Item) → 1 ≤ m → 1 ≤ n → Formed true l (is ++ (run e (m + n) ∷ js))
    → CutInRun l is e m n js
cut_in_run l is e m n js a b w =
    let whole = is ++ (run e (m + n) ∷ js) in
    let front = written_items l (is ++ (item_of e m ∷ [])) in
    let behind = written_items l (item_of e n ∷ js) in
    let ok = parts_ok l is (run e (m + n) ∷ js) w.items in
    let sides = pieces.cut_in_run l is e m n js a b ok.0 ok.1.0 ok.1.1 in
    let cut : Cuts l (unrolled whole) (both (piece front) (piece behind)) =
    rw sides.events
    (parted (unrolled (is ++ (item_of e m ∷ []))) (unrolled (item_of e n ∷ js)) (piece front) (piece behind)
    (Cuts.whole (is ++ (item_of e m ∷ [])) front sides.left_ok refl) (Cuts.whole (item_of e n ∷ js) behind sides.right_ok refl)) in
    record {
      before = sides.left_ok;
      behind = sides.right_ok;
      cut = cut;
      joined = cut_in_run_joins l is e m n js a b w ok.0 ok.1.0 ok.1.1;
      rooms =
          λ first second room p q r.
          (lent_pieces l whole w (rooms.both (rooms.piece front first) (rooms.piece behind second) room) (cut, (p, q, r))).whole room r;
    }

-- the place behind one item more
behind_one : (l : Limits) (is : List Item) (i : Item) → length (written_items l (is ++ (i ∷ []))) ≡ length (written_items l is) + length (item_bytes i)
behind_one l is i = ap length ((writes_items l).next is i) ∙ length-append (written_items l is) (item_bytes i)

event_found : (l : Limits) (is : List Item) → Formed true l is → (e : Event) (rest : List ℕ) → Valid l e → length (unrolled is) < most_events
    → next_at (written_items l is ++ (event_bytes e ++ rest)) (place_behind l is) ≡ Ok (Some (placed (kind_of e) (number_of e) 1 (length (written_items l is) + 6)))
event_found l is w e rest v few =
    found_item l is w (one e) rest v (omega arith)
    ∙ ap (λ (n : ℕ). Ok (Some (placed (kind_of e) (number_of e) 1 n))) (behind_one l is (one e) ∙ ap (λ (k : ℕ). length (written_items l is) + k) (length_event e))

run_found : (l : Limits) (is : List Item) → Formed true l is → (e : Event) (count : ℕ) (rest : List ℕ) → ItemOk true l (run e count)
    → length (unrolled is) + count ≤ most_events
    → next_at (written_items l is ++ (run_bytes e count ++ rest)) (place_behind l is) ≡ Ok (Some (placed (kind_of e) (number_of e) count (length (written_items l is) + 10)))
run_found l is w e count rest v few =
    rw (length-replicate count e) at (found_item l is w (run e count) rest v (rw (length-replicate count e) few))
    ∙ ap (λ (n : ℕ). Ok (Some (placed (kind_of e) (number_of e) count n))) (behind_one l is (run e count) ∙ ap (λ (k : ℕ). length (written_items l is) + k) (length_run e count))

walking : Walking
unfolding walk_of event_of
walking =
    record {
      first = λ s. refl;
      item = λ kind number count next. refl;
      moves = moved_on;
      moves_event = moved_event;
      moves_run = moved_run;
      stays = λ r here. by_cases here (moved_end r) (λ h. moved_faulty r h.0 h.1);
      event_there = λ r l is e rest w v few here at. rw (here, at) (event_found l is w e rest v few);
      run_there = λ r l is e count rest w v few here at. rw (here, at) (run_found l is w e count rest v few);
      at_end = λ r l is w here at. rw (here, at) (found_items_end l is w);
      at_header = λ r n p g. (next_refused_exactly r.bytes.now r.place n p).1 (in_header ((header_given r.bytes.now n p).1 g));
      at_item = λ r l is rest n w few some here at p g.
          rw (here, at) (found_items_faulty l is w rest (refusal_of n) few ((item_refused_exactly true l.mtu rest 0 n some p).1 ((item_given l.mtu rest n p).1 g)));
      at_million = λ r l is rest w full some here at. rw (here, at) (found_items_over l is w rest full some);
      past_million = λ r l is rest w some free four over here at.
          rw (here, at) (found_items_passes l is w rest _ _ _ _ ((finds rest).run l.mtu 0 some free four) over);
      place = λ r. refl;
      kinds = λ x. (refl, refl, refl);
      counted = λ x. (refl, refl, refl);
      no_turn = λ r. refl;
      a_turn = λ n r. refl;
      waiting = λ number next es. refl;
      idle = λ number next es. refl;
      send = λ number next es. refl;
      none = λ kind number next rest. refl;
      again = λ kind number count next rest. refl;
      behind = λ kind number next m. refl;
      end = λ rest. refl;
      fault = λ m rest. refl;
    }

-- what a walk comes to as a record is refused exactly where it ends with a fault
ends_refused : (l : Limits) (m : ℕ) → 0 < m → (told : Events) → (summarized (under l told) ≡ Err (refusal_of m)) ↔ (told ≡ faulty m)
ends_refused l m p (faulty n) = (λ e. ap faulty (refused_alike n m e), λ e. ap (λ (t : Events). summarized (under l t)) e)
ends_refused l m p (events es) =
    (λ e. let z = ap answer_number e ∙ number_told m in absurd (omega arith), λ e. ap (λ (t : Events). summarized (under l t)) e)

walks_faults : (s : Bor (List ℕ)) (n : ℕ) → Bytes s.now → most_events ≤ n → (m : ℕ) → 0 < m
    → (walk_of (suc n) (new_of s) ≡ faulty m) ↔ RecordRefused s.now m
unfolding summarize_in
walks_faults s n bytes h m p =
    let same = ap summarized (walk_reads s n h) in
    let ends = ends_refused (limits_at s.now) m p (walk_of (suc n) (new_of s)) in
    let exactly = record_faults s.now bytes m p in
    (λ e. exactly.0 (refusal_of m) (number_told m) (sym same ∙ ends.1 e), λ c. ends.0 (same ∙ exactly.1 c))

pub third_condition : Condition3
third_condition =
    record {
      rules = summary_rules;
      program = program;
      parting = parting;
      records = account;
      no_others = summarized_written true;
      faults = record_faults;
      old_records = summarize_written false;
      old_faults = λ xs b n p. old_record_faults xs n p b;
      cut_in_run = cut_in_run;
      walks = walk_items;
      walks_faults = walks_faults;
      walking = walking;
      finding = finds;
      lent = lent_account;
      lent_pieces = lent_pieces;
      movers = movers;
      heartbeats = heartbeats;
    }

-- ---- a night's record

-- a record that ends at this credit, with every send permitted, says so
night : {s : Settings} → SettingsOk s → (w : Which) {credit : ℕ} {events : List Event} → Recorded s w credit events → length events ≤ most_events
    → Night s w events credit
night {s} ok w {credit} {events} r few =
    let l = limits_for s w in
    let lo = (bucket_of s w).lo in
    let formed : WellFormed l events = record { settings = limits_ok_lem ok w; valid = r.valid; few = few } in
    let most : lo ≤ l.hi = omega (arith, (bucket_ok_lem ok w).hi_least) in
    record {
      summary = summary_of l events;
      summarized = summarize_written true l events formed;
      settled = (says l events formed lo most).permitted r.permitted ∙ ap (λ (x : ℕ). Ok (Some x)) (sym r.ends);
      carried = λ room h. summarize_carried (written l events) room l (ones events) (ones_formed true l events formed) (sym (ones_written l events)) h;
      ends =
          λ room h. subst (EndsAt (settle_answer (summarize_after (written l events) room) lo)) (sym r.ends)
          (record_permitted l events formed room h lo most r.permitted);
    }

pub night_accounted : NightAccounted
night_accounted s ok calls w = night ok w (credit_of_record s ok calls w)

pub night_accounted_lent : NightAccountedLent
night_accounted_lent settings mem bytes z calls none w =
    night (start_in_range settings (take station_length mem) bytes z) w (credit_of_told settings mem bytes z calls none w)
