-- Where two halls part, by the laws of `apart` and `window`.
-- Assumes nothing.
use Rattle.decide.specs.declared.refusal.Refusal.{Refusal}
use Rattle.std.specs.Prelude.{Ok, Err}
use Rattle.decide.specs.Number.{refusal_of}
use Rattle.decide.proofs.Number.{number_told}
use Prim.Native.Nat.{ℕ, suc, ◌<◌}
use mathlib.Core.Bool.{Bool, true, false, ◌&&◌}
use mathlib.Core.List.{List, ◌∷◌}
use mathlib.Core.Logic.{◌⊎◌, inl, inr, ⊎_elim}
use mathlib.Core.Path.{◌≡◌, refl}
use Rattle.wire.specs.Wire.{Bytes}
use Rattle.shaper.specs.declared.Event.{Event}
use Rattle.shaper.specs.Kind.{event_of}
use Rattle.summary.specs.Answer.{Answer}
use Rattle.record.specs.Read.{unreadable, read_record}
use Rattle.record.proofs.Written.{items_read}
use Rattle.account.proofs.Promises.{summarize_unreadable}
use Rattle.report.specs.Text.{line}
use Rattle.window.specs.Both.{alike_of, same_answer_of}
use Rattle.window.proofs.Equal.{alike_exactly, same_summary_lem}
use Rattle.window.proofs.Chunks.{fed_same, fed_other, both_summed}
use Rattle.apart.specs.declared.Side.{Side}
use Rattle.apart.specs.declared.Place.{Place}
use Rattle.apart.specs.declared.Walk.{Walk}
use Rattle.apart.specs.declared.Stand.{Stand}
use Rattle.apart.specs.declared.Stand.TheVariants as stand
use Rattle.apart.specs.Told.{Told, At, here, behind, Listed, first, later, list_from}
use Rattle.apart.specs.Text.{opening_text, event_text, both_text, only_text, list_text, closing_text, compare_of}
use Rattle.apart.specs.Turn.{stand_of, stopped_of, met_of, turn_of}
use Rattle.apart.specs.Page.{walk_of, walk_text}
use Rattle.apart.proofs.Rows.{setting_same, setting_other, stand_events, stand_gone, stand_ended, stand_more, stand_faulty, moved_within, moved_behind, pair_differs, pair_same}
use Rattle.apart.proofs.Listed.{differ_exactly, same_exactly, listed_exactly, in_event_order, empty_exactly}
use Rattle.apart.proofs.Windows.{compare_printed}
use Rattle.paper.specs.Reasons.{RecordRefused}
use Rattle.paper.specs.Parting.{ListRows, ListHolds, PartingText, Compared, BothFed, Placed, Turns, Paged, Parting}
use Rattle.paper.proofs.Reasons.{denied_by}
use Rattle.paper.proofs.Earliest.{record_faults}

-- ---- the list

rows : ListRows
unfolding list_from
rows =
    record {
      none = λ n. refl;
      only_first = λ n e es. refl;
      only_second = λ n f fs. refl;
      differing = λ n e f es fs other. rw other;
      same = λ n e f es fs equal. rw equal;
      differs = differ_exactly;
      alike = same_exactly;
      from_0 = λ es fs. refl;
    }

-- what stands first is the first, and what stands behind it stands in the rest
stands_first : {d e : Event} {es : List Event} → At (d ∷ es) 0 e → e ≡ d
stands_first here = refl

stands_next : {d e : Event} {es : List Event} {n : ℕ} → At (d ∷ es) (suc n) e → At es n e
stands_next (behind a) = a

-- what is listed is the first line or one of the others
listed_as : {t u : Told} {ts : List Told} → Listed t (u ∷ ts) → (t ≡ u) ⊎ Listed t ts
listed_as first = inl refl
listed_as (later m) = inr m

holds : ListHolds
holds =
    record {
      differing = λ es fs. (listed_exactly es fs).differing;
      only_first = λ es fs. (listed_exactly es fs).only_first;
      only_second = λ es fs. (listed_exactly es fs).only_second;
      ordered = in_event_order;
      before = λ t u ts order. order.0 u;
      onward = λ t ts order. order.1;
      positions = λ n e f. (refl, refl, refl);
      empty = empty_exactly;
      at_first = λ d e es. (stands_first, λ same. rw same here);
      at_next = λ d e es n. (stands_next, behind);
      at_none = λ n e. elim [ ];
      listed_one = λ t u ts. (listed_as, ⊎_elim (λ same. rw same first) later);
      listed_none = λ t. elim [ ];
    }

-- ---- its text

text : PartingText
unfolding opening_text event_text both_text only_text list_text closing_text line
text =
    record {
      setting = setting_other;
      no_setting = λ words a. setting_same words a a refl;
      settings = λ l m. refl;
      waiting = λ x. refl;
      idle = λ x. refl;
      send = λ z. refl;
      differing = λ n e f. refl;
      only_first = λ n e. refl;
      only_second = λ n f. refl;
      no_line = refl;
      a_line = λ t ts. refl;
      summaries = λ a b. refl;
    }

-- ---- the whole

-- a refused record is not read
not_read : (xs : List ℕ) (n : ℕ) → Bytes xs → 0 < n → RecordRefused xs n → read_record xs ≡ unreadable n
not_read xs n bytes some why = (summarize_unreadable true xs n).0 (refusal_of n) (number_told n) ((record_faults xs bytes n some).1 why)

compared : Compared
unfolding compare_of
compared =
    record {
      parting = λ l m is js w v. rw (items_read true l is w, items_read true m js v);
      refused_first = λ xs ys n bytes some why. rw (not_read xs n bytes some why);
      refused_second = λ l is ys n w bytes some why. rw (items_read true l is w, not_read ys n bytes some why);
    }

-- ---- both are fed

-- no answer is the same as a refusal
not_refused : (a : Answer) (r : Refusal) → same_answer_of a (Err r) ≡ false
not_refused (Ok s) r = refl
not_refused (Err q) r = refl

-- and where not both are true, their and is false
not_both : (a b : Bool) → b ≡ false → (a && b) ≡ false
not_both true b e = e
not_both false b e = refl

fed : BothFed
fed =
    record {
      summed = both_summed;
      start = refl;
      no_chunk = λ p. refl;
      a_chunk = λ p w v cs. refl;
      firsts = (refl, λ w v cs. refl);
      seconds = (refl, λ w v cs. refl);
      once = λ p w same. fed_same p w w same ((alike_exactly w w).1 refl);
      parted = λ p w v other. fed_other p w v (rw other);
      parting = λ p w v other. fed_other p w v (not_both p.same (alike_of w v) (denied_by (alike_exactly w v).0 other));
      alike = alike_exactly;
      equal = same_summary_lem;
      not_equal = λ a n. (refl, not_refused a n);
    }

-- ---- turn after turn

placed : (side : Side) (w : List ℕ) (p : Place) → Placed side w p
placed side w p =
    record {
      item = stand_events side w p;
      ended = stand_ended side w p;
      more = stand_more side w p;
      cut = stand_faulty side w p;
      passed = stand_gone side w p;
      within = λ m count next h. moved_within p m count next h;
      behind = λ m count next h. moved_behind p m count next h;
    }

-- where the second window has no whole item left, the walk stops whatever stands in the first
unread_second : (walk : Walk) (x : Stand) → met_of x stand.Unread walk ≡ stopped_of walk
unread_second walk (stand.Events k v c next) = refl
unread_second walk stand.Ended = refl
unread_second walk stand.Unread = refl

turns : (a b : Side) (w v : List ℕ) (walk : Walk) → Turns a b w v walk
unfolding turn_of walk_of walk_text
turns a b w v walk =
    record {
      differing = λ k x c next j y d behind p q other. rw (p, q) (pair_differs walk (event_of k x) (event_of j y) c next d behind other);
      same = λ k x c next j y d behind p q same. rw (p, q) (pair_same walk (event_of k x) (event_of j y) c next d behind same);
      only_first = λ k x c next p q. rw (p, q);
      only_second = λ j y d behind p q. rw (p, q);
      unread_first = λ p. rw p;
      unread_second = λ q. rw q (unread_second walk (stand_of a w walk.first));
      both_ended = λ p q. rw (p, q);
      no_turn = (refl, refl);
      a_turn = λ k. refl;
      a_text = λ k. refl;
      page = refl;
    }

-- ---- page after page

paged : Paged
paged =
    record {
      placed = placed;
      turns = turns;
      lines = λ n e f. (refl, refl, refl, refl);
      printed = compare_printed;
      refusal = λ n b ps. refl;
      other_refusal = λ s n ps. refl;
      writes = λ s t ps. refl;
      no_page = refl;
      a_page = λ p ps. refl;
      walked = λ c d walk k. refl;
      equal = λ is xs ys. refl;
      walked_on = λ l m n xs g ys h c d walk k ps. (λ t. t, λ t. t);
      equal_on = λ l m n xs g ys h is us vs ps. (λ t. t, λ t. t);
      all_gone = λ l m n xs g ys h. (λ t. t, λ t. t);
      cut_at = λ l c at gone xs g. (
        λ k. (k.settings, k.bytes, k.events, k.last),
        λ k. record { settings = k.0; bytes = k.1; events = k.2; last = k.3 },
      );
    }

pub parting : Parting
parting = record { rows = rows; holds = holds; text = text; compared = compared; fed = fed; paged = paged }
