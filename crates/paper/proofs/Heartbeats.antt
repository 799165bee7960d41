-- Heartbeats keep their promises over the host's call: by the laws of `heartbeat` it says what rpr_settle says of the written_out record's summary.
-- Assumes nothing.
use Rattle.std.specs.Prelude.{Ok, Err, Some, None}
use Rattle.decide.specs.Number.{refusal_of}
use Rattle.decide.proofs.Number.{number_told, refused_alike}
use Prim.Native.Nat.{ℕ, ◌+◌, ◌*◌, ◌/◌, ◌%◌, ◌^◌, ◌≤◌, ◌<◌}
use mathlib.Core.Bool.{Bool, true, false}
use mathlib.Core.List.{List, [], ◌∷◌, ◌++◌}
use mathlib.Core.Logic.{◌⊎◌, inl, inr}
use mathlib.Core.Path.{◌≡◌, refl, sym, ap, ◌∙◌}
use native.Mathlib.Nat.{mul-zero, mul-le-mul_right}
use native.Mathlib.Omega.{arith}
use borrow.Author.Tests.{eq-eqb, ne_eqb}
use lib.Dec.{eqb}
use lib.ListN.{length, get_or}
use Rattle.decide.specs.Test.{facts}
use Rattle.decide.proofs.Cases.{by_cases, true_or_false, le_or}
use Rattle.wire.specs.Wire.{digits, Bytes}
use Rattle.shaper.specs.declared.Limits.{Limits}
use Rattle.shaper.specs.declared.Event.{Event}
use Rattle.shaper.specs.Limits.{limits_ok, most_events}
use Rattle.shaper.specs.Credit.{Permitted, end_credit}
use Rattle.shaper.proofs.Ranges.{limits_exactly}
use Rattle.summary.specs.declared.Summary.{Summary}
use Rattle.summary.specs.Answer.{Answer}
use Rattle.summary.specs.Answer.{Outcome}
use Rattle.summary.specs.Summary.{summary_of}
use Rattle.summary.specs.Range.{in_range, InRange}
use Rattle.summary.specs.Answer.{answer_number, and_then, join_next, settle_of}
use Rattle.summary.proofs.Range.{in_range_exactly}
use Rattle.summary.proofs.Rows.{empty_made}
use Rattle.record.specs.Record.{written, WellFormed}
use Rattle.record.specs.Items.{Item, written_items, unrolled, Formed}
use Rattle.record.specs.Read.{Read, unreadable, whole}
use Rattle.record.specs.Cause as cause
use Rattle.account.proofs.Promises.{summarize_written}
use Rattle.sheet.specs.Sheet.{sheet_length, sheet_of}
use Rattle.sheet.proofs.Round.{length_sheet}
use Rattle.heartbeat.specs.declared.Repeats.{Repeats}
use Rattle.heartbeat.specs.Repeat.{times_over, power_of}
use Rattle.heartbeat.specs.Doubling.{twice_of, doubling_of}
use Rattle.heartbeat.specs.Heartbeat.{read_pattern, from_low_of, outcome_told, heartbeats_of, heartbeat_answer}
use Rattle.heartbeat.specs.Cause.{PatternOk, HeartbeatCause, in_header, behind_items, in_pattern, too_often}
use Rattle.heartbeat.proofs.Powers.{repeated_3, repeated_9, repeated_made}
use Rattle.heartbeat.proofs.Doubling.{doubling_none, doubling_halves, few_joins, doubles}
use Rattle.heartbeat.proofs.Pattern.{pattern_small}
use Rattle.heartbeat.proofs.Written.{length_times, valid_times}
use Rattle.heartbeat.proofs.Exactly as exactly
use Rattle.heartbeat.proofs.Exactly.{read_pattern_lem, pattern_valid, heartbeats_summed, heartbeats_many, heartbeats_unreadable, heartbeats_refused_exactly}
use Rattle.heartbeat.proofs.Promises as promises
use Rattle.heartbeat.proofs.Promises.{heartbeat_settles, heartbeat_either, permitted_heartbeat, times_none}
use Rattle.rpr.specs.Calls.{summarize_answer, settle_answer, outcome_answer, EndsAt}
use Rattle.rpr.proofs.Shape.{digits_alone}
use Rattle.rpr.proofs.Rows.{summarize_whole, settle_whole}
use Rattle.rpr.proofs.Records.{record_room, sheet_back, sheet_permitted, sheet_not_permitted}
use Rattle.paper.specs.Reasons as reasons
use Rattle.paper.specs.Reasons.{HeartbeatRefused}
use Rattle.paper.specs.First.{RefusesHeartbeat}
use Rattle.paper.specs.Heartbeats.{Repeating, Doubles, Beats, ByValue, Beating, EndsSteady, Heartbeats}
use Rattle.paper.proofs.Items.{header_given, item_number_lem, item_free, item_given}
use Rattle.record.proofs.Rows.{run_there, told_run}
use Rattle.paper.proofs.Earliest.{many_run}
use Rattle.paper.proofs.Rolling.{once}

-- ---- doubling

repeating : Repeating
unfolding times_over power_of
repeating =
    record {
      none = λ es. refl;
      more = λ r es. refl;
      events = length_times;
      power_none = λ s. refl;
      power_more = λ s r. refl;
    }

module _ (s : Summary) (h : InRange s) (r : ℕ) (fits : r < 2 ^ 64) where
  range : in_range s ≡ true
  range = (in_range_exactly s).1 h

  abbrev half : Repeats
  half = doubling_of s (r / 2)

  halves : 0 < r → (b : Bool) → eqb (r % 2) 1 ≡ b → doubling_of s r ≡ twice_of b s half
  halves some b e = doubling_halves s r fits some ∙ ap (λ (c : Bool). twice_of c s half) e

  none : r ≡ 0 → doubling_of s r ≡ doubling_of s 0
  none z = ap (doubling_of s) z

  doubled : Doubles s r
  doubled =
      record {
        none = λ z. (
          ap (λ (d : Repeats). d.sum) (none z ∙ doubling_none s) ∙ empty_made s.limits ((limits_exactly s.limits).1 h.settings_valid),
          ap (λ (d : Repeats). d.joins) (none z ∙ doubling_none s),
        );
        even = λ some e.
            let is = halves some false (ne_eqb (r % 2) 1 (λ z. omega arith)) in
            record { sum = ap (λ (d : Repeats). d.sum) is; joins = ap (λ (d : Repeats). d.joins) is };
        odd = λ some e d o.
            let is = halves some true (eq-eqb (r % 2) 1 e) in
            record {
              sum = ap (λ (d : Repeats). d.sum) is ∙ ap (λ (a : Answer). and_then a (λ t. join_next t (Ok s))) (sym o.sum);
              joins = ap (λ (d : Repeats). d.joins) is ∙ ap (λ (n : ℕ). n + 1) (sym o.joins);
            };
        all = λ n. doubles s range r fits ∙ repeated_made s r range n;
        many = λ n. doubles s range r fits ∙ repeated_9 s r range n;
        few_joins = few_joins r fits s;
      }

-- ---- the answer as rpr_settle's

told_same : (o : Outcome) → outcome_told o ≡ outcome_answer o
told_same (Ok (Some c)) = refl
told_same (Ok None) = refl
told_same (Err r) = refl

-- byte 0 of what is told where nothing is refused
low_permitted : (x : ℕ) → outcome_told (Ok (Some x)) % 256 ≡ 0
low_permitted x = omega arith

-- what a pattern is, in the words of both
narrow : {l : Limits} {is : List Item} → Formed true l is → length (unrolled is) ≤ 256 → PatternOk l is
narrow f few = record { settings = f.settings; items = f.items; few = few }

wide : {l : Limits} {is : List Item} → PatternOk l is → Formed true l is
wide ok = record { settings = ok.settings; items = ok.items; few = omega (arith, ok.few) }

module _ (l : Limits) (is : List Item) (ok : PatternOk l is) where
  abbrev es : List Event
  es = unrolled is

  abbrev xs : List ℕ
  xs = written_items l is

  module _ (r : ℕ) (n : r * length es ≤ most_events) where
    abbrev all : List Event
    all = times_over r es

    formed : WellFormed l all
    formed = record { settings = ok.settings; valid = valid_times l r es (pattern_valid l is ok); few = omega (arith, length_times r es) }

    low : l.lo ≤ l.hi
    low = omega (arith, ok.settings)

    told : heartbeat_answer xs r ≡ settle_answer (sheet_of (summary_of l all)) l.lo
    unfolding heartbeat_answer
    told =
        ap outcome_told (heartbeat_settles l is ok r n)
        ∙ told_same (settle_of (summary_of l all) l.lo)
        ∙ settle_whole (sheet_of (summary_of l all)) l.lo (length_sheet (summary_of l all)) _ (sym (ap (λ (s : Summary). settle_of s l.lo) (sheet_back l all formed)))

    ends_permitted : Permitted l l.lo all → EndsAt (heartbeat_answer xs r) (end_credit l l.lo all)
    ends_permitted p = rw told (sheet_permitted l all formed l.lo low p)

    not_ends : (Permitted l l.lo all → ⊥) → heartbeat_answer xs r ≡ 0
    not_ends p = told ∙ sheet_not_permitted l all formed l.lo low p

    low_byte : heartbeat_answer xs r % 256 ≡ 0
    unfolding heartbeat_answer
    low_byte = by_cases (heartbeat_either l is ok r n) (λ e. rw e.1 (low_permitted e.0)) (λ e. rw e refl)

    summarized : (room : List ℕ) → length room ≡ sheet_length → summarize_answer (written l all) room ≡ 0
    summarized room h = sym (summarize_whole (written l all) room h _ refl).0 ∙ ap answer_number (summarize_written true l all formed)

  nine : (r : ℕ) → most_events < r * length es → heartbeat_answer xs r ≡ 9
  unfolding heartbeat_answer
  nine r n = ap (λ (a : Answer). outcome_told (from_low_of a)) (heartbeats_many l is ok r n)

-- ---- what an answer says

-- bytes 4 to 7
last_four : (x y : ℕ) → (0 ∷ 1 ∷ 0 ∷ 0 ∷ []) ++ digits 4 x ≡ (0 ∷ 1 ∷ 0 ∷ 0 ∷ []) ++ digits 4 y → digits 4 x ≡ digits 4 y
last_four x y e = cc

ends_once : (a x y : ℕ) → EndsAt a x → EndsAt a y → x ≡ y
ends_once a x y p q = once x y p.fits q.fits (last_four x y (sym p.bytes ∙ q.bytes))

-- where it is not permitted, and where there are too many events, no credit is told
not_permitted_ends : (a end : ℕ) → a ≡ 0 → EndsAt a end → ⊥
unfolding digits
not_permitted_ends a end z e = let one : ◌≡◌ {A = ℕ} 0 1 = ap (λ (ys : List ℕ). get_or ys 1 0) (rw z at e.bytes) in omega arith

refused_ends : (a end : ℕ) → a ≡ 9 → EndsAt a end → ⊥
unfolding digits
refused_ends a end z e = let nine : ◌≡◌ {A = ℕ} 9 0 = ap (λ (ys : List ℕ). get_or ys 0 0) (rw z at e.bytes) in omega arith

module _ (l : Limits) (is : List Item) (ok : PatternOk l is) where
  -- a permitted answer: the repeats are not too many, every send is permitted, and that is the credit at the end
  said : (r end : ℕ) → EndsAt (heartbeat_answer (written_items l is) r) end
      → (r * length (unrolled is) ≤ most_events) × Permitted l l.lo (times_over r (unrolled is)) × (end_credit l l.lo (times_over r (unrolled is)) ≡ end)
  unfolding heartbeat_answer
  said r end e =
      by_cases (le_or (r * length (unrolled is)) most_events)
      (λ n. by_cases (heartbeat_either l is ok r n)
      (λ p. let q = permitted_heartbeat l is ok r n p.0 p.1 in (n, q.0, ends_once _ _ _ (ends_permitted l is ok r n q.0) e))
      (λ p. absurd (not_permitted_ends _ end (ap outcome_told p) e)))
      (λ n. absurd (refused_ends _ end (nine l is ok r n) e))

  pub beats : (r : ℕ) → Beats (written_items l is) l (unrolled is) r
  beats r =
      record {
        written_out = λ n room h. (
          summarized l is ok r n room h,
          told l is ok r n ∙ ap (λ (ys : List ℕ). settle_answer ys l.lo) (sym (record_room l (times_over r (unrolled is)) (formed l is ok r n) room h)),
        );
        too_many = λ n room h. (
          sym (summarize_whole (written l (times_over r (unrolled is))) room h _ refl).0 ∙ ap answer_number (sym (promises.written_out l is ok r) ∙ heartbeats_many l is ok r n),
          nine l is ok r n,
        );
        permitted = ends_permitted l is ok r;
        not_permitted = not_ends l is ok r;
        said = said r;
      }

  -- once steady, always
  pub steady_answers : EndsSteady l (heartbeat_answer (written_items l is) 1) → (r : ℕ) → r * length (unrolled is) ≤ most_events
      → EndsSteady l (heartbeat_answer (written_items l is) r)
  steady_answers s r n =
      let es = unrolled is in
      let one = said 1 s.end s.ends in
      let same = promises.times_one es in
      let ends : l.lo ≤ end_credit l l.lo (times_over 1 es) = rw one.2 s.steady in
      let always = promises.steady l es (rw same at one.1) (rw same at ends) r in
      record { end = end_credit l l.lo (times_over r es); ends = ends_permitted l is ok r n always.0; steady = always.1 }

  pub fewer_fit : (q r end : ℕ) → EndsAt (heartbeat_answer (written_items l is) r) end → q ≤ r → (x : ℕ) × EndsAt (heartbeat_answer (written_items l is) q) x
  fewer_fit q r end e h =
      let es = unrolled is in
      let all = said r end e in
      (_, ends_permitted l is ok q (omega (arith, all.0, mul-le-mul_right (length es) h)) (promises.fewer l l.lo es q r h all.1))

  pub zero_repeats : EndsAt (heartbeat_answer (written_items l is) 0) l.lo
  unfolding times_over
  zero_repeats = ends_permitted l is ok 0 (omega arith) tt

pub empty_pattern : (l : Limits) → PatternOk l [] → (r : ℕ) → EndsAt (heartbeat_answer (written_items l []) r) l.lo
empty_pattern l ok r =
    let none = times_none r in
    rw none at (ends_permitted l [] ok r (rw (mul-zero r) (omega arith)) (rw none tt))

-- ---- refusals

-- the bytes are refused with a number of the table, or they are a pattern that is repeated often enough to be answered
answered : (xs : List ℕ) (r : ℕ) → Bytes xs → ((m : ℕ) × (heartbeats_of xs r ≡ Err (refusal_of m)) × (0 < m) × (m ≤ 9)) ⊎ Beating xs r
answered xs r b = by (read_pattern xs) refl
  where
    by : (p : Read) → read_pattern xs ≡ p → ((m : ℕ) × (heartbeats_of xs r ≡ Err (refusal_of m)) × (0 < m) × (m ≤ 9)) ⊎ Beating xs r
    by (unreadable m) e = let s = rw e at (pattern_small xs) in inl (m, heartbeats_unreadable xs r m e, s.0, omega arith)
    by (whole l es) e =
        let w = read_pattern_lem xs b l es e in
        by_cases (le_or (r * length (unrolled w.items)) most_events)
        (λ n. inr (record {
          limits = l;
          items = w.items;
          bytes = w.same;
          pattern = w.ok;
          few = n;
        }))
        (λ n. inl (9, rw w.same (heartbeats_many l w.items w.ok r n), omega arith, omega arith))

told_refused : (xs : List ℕ) (r m : ℕ) → heartbeats_of xs r ≡ Err (refusal_of m) → heartbeat_answer xs r ≡ m
unfolding heartbeat_answer
told_refused xs r m e = rw e (number_told m)

beating_low : (xs : List ℕ) (r : ℕ) → Beating xs r → heartbeat_answer xs r % 256 ≡ 0
beating_low xs r t = rw t.bytes (low_byte t.limits t.items t.pattern r t.few)

small : (m : ℕ) → m ≤ 9 → m ≡ m % 256
small m h = omega arith

not_both : (xs : List ℕ) (r n : ℕ) → Beating xs r → heartbeats_of xs r ≡ Err (refusal_of n) → ⊥
not_both xs r n t e =
    let s = heartbeats_summed t.limits t.items t.pattern r t.few in
    let both = sym s ∙ ap (λ (ys : List ℕ). heartbeats_of ys r) (sym t.bytes) ∙ e in
    let z : ◌≡◌ {A = ℕ} 0 1 = cc in
    omega arith

beats_only : (xs : List ℕ) (r : ℕ) → Bytes xs → heartbeat_answer xs r % 256 ≡ 0 → Beating xs r
beats_only xs r b z = by_cases (answered xs r b) (λ m. absurd (omega (arith, told_refused xs r m.0 m.1, m.2, m.3))) (λ t. t)

-- the cause that `heartbeat` names is the reason that holds
module _ (xs : List ℕ) (r n : ℕ) (p : 0 < n) where
  named : HeartbeatCause xs r n → HeartbeatRefused xs r n
  named (in_pattern (in_header g)) = reasons.HeartbeatRefused.in_header ((header_given xs n p).0 g)
  named (in_pattern (behind_items l is q e ok some (cause.too_many full three))) = reasons.after_256 l is q e (wide ok) full some three
  named (in_pattern (behind_items l is q e ok some (cause.has_fault few g))) = reasons.HeartbeatRefused.at_item l is q e (wide ok) few some ((item_given l.mtu q n p).0 g)
  named (in_pattern (behind_items l is q e ok some (cause.passes few free over three))) =
      let run = many_run q (length (unrolled is)) 256 few over in
      reasons.past_256 l is q e (wide ok) few some (item_free l.mtu q free) run.0 (rw (← run.1) over) three
  named (too_often l is e ok many nine) = reasons.too_often l is e (wide ok) ok.few many nine

  caused : HeartbeatRefused xs r n → HeartbeatCause xs r n
  caused (reasons.HeartbeatRefused.in_header g) = in_pattern (in_header ((header_given xs n p).1 g))
  caused (reasons.after_256 l is q e f full some three) = in_pattern (behind_items l is q e (narrow f (omega arith)) some (cause.too_many full three))
  caused (reasons.HeartbeatRefused.at_item l is q e f few some g) =
      in_pattern (behind_items l is q e (narrow f (omega arith)) some (cause.has_fault few ((item_given l.mtu q n p).1 g)))
  caused (reasons.past_256 l is q e f few some free four over three) =
      in_pattern (behind_items l is q e (narrow f (omega arith)) some
      (cause.passes few (item_number_lem l.mtu q 0 free) (rw (told_run q (run_there q four)).count over) three))
  caused (reasons.too_often l is e f few many nine) = too_often l is e (narrow f few) many nine

pub refuses_heartbeat : (xs : List ℕ) (r : ℕ) → Bytes xs → RefusesHeartbeat xs r (heartbeat_answer xs r)
refuses_heartbeat xs r b =
    record {
      number = λ n p.
          let exact = heartbeats_refused_exactly xs r n b p in (
            λ e. by_cases (answered xs r b)
                (λ m. let is = told_refused xs r m.0 m.1 in
                let same : m.0 ≡ n = omega (arith, is, e, m.3) in
                named xs r n p (exact.0 (refusal_of m.0) (number_told m.0 ∙ same) m.1))
                (λ t. absurd (omega (arith, beating_low xs r t, e))),
            λ c. let told = exact.1 (caused xs r n p c) in
                by_cases (answered xs r b)
                (λ m. let same : m.0 ≡ n = refused_alike m.0 n (sym m.1 ∙ told) in omega (arith, told_refused xs r n told, m.3))
                (λ t. absurd (not_both xs r n t told)),
          );
      alone = λ p.
          by_cases (answered xs r b)
          (λ m. rw (told_refused xs r m.0 m.1)
          (digits_alone m.0 (omega (arith, m.3)) ∙ ap (λ (k : ℕ). k ∷ 0 ∷ 0 ∷ 0 ∷ 0 ∷ 0 ∷ 0 ∷ 0 ∷ []) (small m.0 m.3)))
          (λ t. absurd (omega (arith, beating_low xs r t, p)));
    }

-- ---- by value

not_in : (s : Summary) → (InRange s → ⊥) → in_range s ≡ false
not_in s h = by_cases (true_or_false (in_range s)) (λ t. absurd (h ((in_range_exactly s).0 t))) (λ f. f)

by_value : ByValue
unfolding heartbeat_answer
by_value =
    record {
      repeated = λ s r h n. repeated_made s r ((in_range_exactly s).1 h) n;
      repeated_9 = λ s r h n. repeated_9 s r ((in_range_exactly s).1 h) n;
      repeated_3 = λ s r h. repeated_3 s r (not_in s h);
      by_doubling = promises.by_doubling;
      written_out = promises.written_out;
      faults = λ xs r b n p. let exact = heartbeats_refused_exactly xs r n b p in (λ f k e. named xs r n p (exact.0 f k e), λ c. exact.1 (caused xs r n p c));
      once = promises.pattern_once;
      from_low = λ s. refl;
      refused = λ n. refl;
      told = λ xs r. told_same (from_low_of (heartbeats_of xs r));
    }

-- ---- together

pub heartbeats : Heartbeats
unfolding heartbeat_answer
heartbeats =
    record {
      repeating = repeating;
      doubles = doubled;
      by_value = by_value;
      beats = beats;
      beats_only = beats_only;
      zero_repeats = zero_repeats;
      empty_pattern = λ l ok. empty_pattern l (record { settings = facts (limits_ok l) ((limits_exactly l).1 ok); items = tt; few = omega arith });
      steady = promises.steady;
      steady_answers = steady_answers;
      fewer_fit = fewer_fit;
      either_form = λ l is ok rest r. ap (λ (a : Answer). outcome_told (from_low_of a)) (exactly.either_form l is ok rest r);
    }
