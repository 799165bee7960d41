-- A record is refused for its earliest fault: the cause that `record` names is the reason that holds, in the header, at an item, behind the millionth event, or
-- where a run passes it. Assumes nothing.
use Rattle.std.specs.Prelude.{Ok, Err, Some}
use Rattle.decide.specs.declared.refusal.Refusal.{Refusal}
use Rattle.decide.specs.Number.{number_in, refusal_of}
use Rattle.decide.proofs.Number.{number_told}
use Rattle.record.specs.Step.{placed}
use Prim.Native.Nat.{ℕ, ◌+◌, ◌%◌, ◌<◌}
use mathlib.Core.Bool.{Bool, true, false}
use mathlib.Core.List.{List, ◌++◌}
use mathlib.Core.Logic.{◌↔◌}
use mathlib.Core.Path.{◌≡◌, refl, sym, ap, subst, ◌∙◌}
use native.Mathlib.Omega.{arith}
use lib.ListN.{length, drop}
use Rattle.decide.specs.Refusal.{first_of}
use Rattle.decide.proofs.Cases.{by_cases, true_or_false}
use Rattle.wire.specs.Wire.{le, Bytes}
use Rattle.shaper.specs.Limits.{most_events}
use Rattle.shaper.specs.declared.Limits.{Limits}
use Rattle.summary.specs.Answer.{Answer}
use Rattle.summary.specs.Answer.{answer_number}
use Rattle.record.specs.Record.{written, WellFormed}
use Rattle.record.specs.Items.{Item, written_items, unrolled, Formed}
use Rattle.record.specs.Step.{header_of_of, item_at}
use Rattle.record.specs.Read.{limits_at, header_faults, is_run, item_faults, item_count}
use Rattle.record.specs.Cause.{Why, too_many, has_fault, passes, Cause, in_header, behind_items}
use Rattle.record.proofs.Rows.{run_there, run_nowhere, kind_there, told_event, told_run, free_stands, item_end, within_stands, within_over, within_end, within_faulty, within_none}
use Rattle.record.proofs.Steps.{step_stands}
use Rattle.record.proofs.Written.{ones, ones_unrolled, ones_written, ones_formed}
use Rattle.record.proofs.Wrote.{only_ones, formed_events}
use Rattle.record.proofs.Refused.{header_refused_exactly, item_refused_exactly}
use Rattle.reader.proofs.Rows.{next_settings, next_unreadable}
use Rattle.account.specs.Account.{summarize_in, summarize_of}
use Rattle.account.proofs.Promises.{summarize_refused_exactly}
use Rattle.rpr.specs.Calls.{summarize_answer}
use Rattle.rpr.proofs.Rows.{summarize_room, summarize_rows_lem}
use Rattle.rpr.proofs.Promises.{summarize_leaves}
use Rattle.paper.specs.Reasons as reasons
use Rattle.paper.specs.Reasons.{header_refused, item_refused, RecordRefused, OldRecordRefused}
use Rattle.paper.specs.First.{RefusesRecord}
use Rattle.paper.specs.Third.{Finding}
use Rattle.paper.proofs.Reasons.{number_of, refuses_alone}
use Rattle.paper.proofs.Items.{header_meant, header_given, item_number_lem, item_free, item_given, event_number, event_free, event_given, event_kind, run_many}

-- ---- what stands in any bytes

module _ (xs : List ℕ) where
  header_settings : header_refused xs 0 → header_of_of xs ≡ Ok (limits_at xs)
  unfolding header_of_of
  header_settings h = rw (number_of (header_faults xs) (header_meant xs) refl 0 h)

  module _ (mtu at : ℕ) (some : at < length xs) where
    -- an event ends 6 bytes on,
    event_there : (runs : Bool) → first_of (item_faults runs mtu (drop at xs)) ≡ 0 → is_run (drop at xs) ≡ false
        → item_at runs mtu xs at ≡ Ok (Some (placed (le 2 (drop at xs) 2) (le 2 (drop at xs) 4) 1 (at + 6)))
    event_there runs free e =
        let t = told_event (drop at xs) e in
        let here = rw (t.kind, t.number, t.count) at (free_stands runs mtu xs at some free) in
        let six = by_cases (step_stands runs mtu xs at _ _ _ _ here).there (λ s. s.six) (λ s. absurd (omega (arith, s.1.many))) in
        here ∙ ap (λ (n : ℕ). Ok (Some (placed (le 2 (drop at xs) 2) (le 2 (drop at xs) 4) 1 n))) six

    -- and a run 10
    run_stands : item_refused mtu (drop at xs) 0 → le 2 (drop at xs) 2 ≡ 4
        → item_at true mtu xs at ≡ Ok (Some (placed (le 2 (drop at xs) 4) (le 2 (drop at xs) 6) (le 2 (drop at xs) 8) (at + 10)))
    run_stands h four =
        let ys = drop at xs in
        let t = told_run ys (run_there ys four) in
        let here = rw (t.kind, t.number, t.count) at (free_stands true mtu xs at some (item_number_lem mtu ys 0 h)) in
        let ten = by_cases (step_stands true mtu xs at _ _ _ _ here).there (λ s. absurd (omega (arith, s.one, run_many mtu ys h four))) (λ s. s.1.ten) in
        here ∙ ap (λ (n : ℕ). Ok (Some (placed (le 2 ys 4) (le 2 ys 6) (le 2 ys 8) n))) ten

  pub finds : Finding xs
  finds =
      record {
        settings = header_settings;
        unreadable = λ n p h. (header_refused_exactly xs n p).1 ((header_given xs n p).1 h);
        end = λ mtu at. item_end true mtu xs at;
        event = λ mtu at some h other. event_there mtu at some true (item_number_lem mtu (drop at xs) 0 h) (run_nowhere (drop at xs) other);
        run = run_stands;
        faulty = λ mtu at n some p h. (item_refused_exactly true mtu xs at n some p).1 ((item_given mtu (drop at xs) n p).1 h);
        old_end = λ mtu at. item_end false mtu xs at;
        old_event = λ mtu at some h. event_there mtu at some false (event_number mtu (drop at xs) 0 h) (run_nowhere (drop at xs) (event_kind mtu (drop at xs) h));
        old_faulty = λ mtu at n some p h. (item_refused_exactly false mtu xs at n some p).1 ((event_given mtu (drop at xs) n p).1 h);
        none_left = λ runs late mtu at n here. within_none runs late 0 mtu xs at n here refl;
        some_left = λ runs late left mtu at n. within_faulty runs late left mtu xs at n;
        all_passed = λ runs late left mtu at. within_end runs late left mtu xs at;
        few = λ runs late left mtu at. within_stands runs late left mtu xs at;
        many = λ runs late left mtu at. within_over runs late left mtu xs at;
        read = λ l p. next_settings xs p l;
        not_read = λ n p. next_unreadable xs p n;
      }

-- ---- the cause

-- an item that stands for more than one event is a run, of as many as its count
pub many_run : (q : List ℕ) (done most : ℕ) → done < most → most < done + item_count q → (le 2 q 2 ≡ 4) × (item_count q ≡ le 2 q 8)
many_run q done most few over =
    by_cases (true_or_false (is_run q))
    (λ r. (kind_there q r, (told_run q r).count))
    (λ r. absurd (omega (arith, (told_event q r).count)))

module _ (xs : List ℕ) (n : ℕ) (p : 0 < n) where
  named : Cause true xs n → RecordRefused xs n
  named (in_header g) = reasons.RecordRefused.in_header ((header_given xs n p).0 g)
  named (behind_items l is q e f some (too_many full nine)) = reasons.RecordRefused.after_million l is q e f full some nine
  named (behind_items l is q e f some (has_fault few g)) = reasons.at_item l is q e f few some ((item_given l.mtu q n p).0 g)
  named (behind_items l is q e f some (passes few free over nine)) =
      let run = many_run q (length (unrolled is)) most_events few over in
      reasons.past_million l is q e f few some (item_free l.mtu q free) run.0 (rw (← run.1) over) nine

  caused : RecordRefused xs n → Cause true xs n
  caused (reasons.RecordRefused.in_header g) = in_header ((header_given xs n p).1 g)
  caused (reasons.RecordRefused.after_million l is q e f full some nine) = behind_items l is q e f some (too_many full nine)
  caused (reasons.at_item l is q e f few some g) = behind_items l is q e f some (has_fault few ((item_given l.mtu q n p).1 g))
  caused (reasons.past_million l is q e f few some free four over nine) =
      behind_items l is q e f some (passes few (item_number_lem l.mtu q 0 free) (rw (told_run q (run_there q four)).count over) nine)

  pub causes : Cause true xs n ↔ RecordRefused xs n
  causes = (named, caused)

  -- a number that is answered, and the refusal with it
  told : (a : Answer) → answer_number a ≡ n → (f : Refusal) × (number_in f ≡ n) × (a ≡ Err f)
  told (Ok s) e = absurd (omega arith)
  told (Err f) e = (f, e, refl)

-- A record has the number of its earliest fault.
pub record_faults : (xs : List ℕ) → Bytes xs → (n : ℕ) → 0 < n
    → ((f : Refusal) → number_in f ≡ n → summarize_of xs ≡ Err f → RecordRefused xs n) × (RecordRefused xs n → summarize_of xs ≡ Err (refusal_of n))
record_faults xs bytes n p =
    let exactly = summarize_refused_exactly true xs n bytes p in
    (λ f k e. named xs n p (exactly.0 f k e), λ c. exactly.1 (caused xs n p c))

-- ---- in the old form

-- items among which no run may stand are the events that they stand for
old_items : (l : Limits) (is : List Item) → Formed false l is → written_items l is ≡ written l (unrolled is)
old_items l is f = ap (written_items l) (only_ones l is f.items) ∙ ones_written l (unrolled is)

module _ (xs : List ℕ) (n : ℕ) (p : 0 < n) where
  old_named : Cause false xs n → OldRecordRefused xs n
  old_named (in_header g) = reasons.OldRecordRefused.in_header ((header_given xs n p).0 g)
  old_named (behind_items l is q e f some why) =
      by (e ∙ ap (λ (ys : List ℕ). ys ++ q) (old_items l is f)) (formed_events false l is f) why
    where
      by : xs ≡ written l (unrolled is) ++ q → WellFormed l (unrolled is) → Why false 9 l.mtu most_events (length (unrolled is)) q n → OldRecordRefused xs n
      by same w (too_many full nine) = reasons.OldRecordRefused.after_million l (unrolled is) q same w full some nine
      by same w (has_fault few g) = reasons.at_event l (unrolled is) q same w few some ((event_given l.mtu q n p).0 g)
      by same w (passes few free over nine) =
          absurd (event_kind l.mtu q (event_free l.mtu q free) (many_run q (length (unrolled is)) most_events few over).0)

  old_caused : OldRecordRefused xs n → Cause false xs n
  old_caused (reasons.OldRecordRefused.in_header g) = in_header ((header_given xs n p).1 g)
  old_caused (reasons.OldRecordRefused.after_million l es q e w full some nine) =
      behind_items l (ones es) q (rw (ones_written l es) e) (ones_formed false l es w) some (too_many (rw (ones_unrolled es) full) nine)
  old_caused (reasons.at_event l es q e w few some g) =
      behind_items l (ones es) q (rw (ones_written l es) e) (ones_formed false l es w) some (has_fault (rw (ones_unrolled es) few) ((event_given l.mtu q n p).1 g))

  pub old_causes : Cause false xs n ↔ OldRecordRefused xs n
  old_causes = (old_named, old_caused)

  -- A record in the old form has the number of its earliest fault.
  pub old_record_faults : Bytes xs
      → ((f : Refusal) → number_in f ≡ n → summarize_in false xs ≡ Err f → OldRecordRefused xs n) × (OldRecordRefused xs n → summarize_in false xs ≡ Err (refusal_of n))
  old_record_faults b =
      let exactly = summarize_refused_exactly false xs n b p in
      (λ f k e. old_named (exactly.0 f k e), λ c. exactly.1 (old_caused c))

-- ---- rpr_summarize

pub refuses_record : (xs room : List ℕ) → Bytes xs → RefusesRecord xs room
refuses_record xs room bytes =
    let leaves = summarize_leaves xs room in
    let alone = refuses_alone leaves.0 in
    record {
      other_room = λ h. let e = (summarize_room xs room h).0 in omega arith;
      fault = λ whole n p.
          let number : summarize_answer xs room % 256 ≡ answer_number (summarize_of xs) = leaves.0.byte_0 ∙ summarize_rows_lem xs room whole in
          let exactly = record_faults xs bytes n p in
          let cause = summarize_refused_exactly true xs n bytes p in (
            λ e. let said = told xs n p (summarize_of xs) (sym number ∙ e) in named xs n p (cause.0 said.0 said.1 said.2),
            λ c. number ∙ ap answer_number (exactly.1 c) ∙ number_told n,
          );
      alone = alone;
      stays = λ p. leaves.1 (subst (λ (n : ℕ). 0 < n) leaves.0.byte_0 p);
    }
