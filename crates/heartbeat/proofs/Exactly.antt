-- A pattern is read exactly where a writer wrote one, and each number of a heartbeat is given exactly when it has its cause.
-- Assumes nothing.
use Rattle.std.specs.Prelude.{Ok, Err}
use Rattle.decide.specs.declared.refusal.Refusal.{Refusal}
use Rattle.decide.specs.Number.{number_in, refusal_of}
use Rattle.decide.proofs.Number.{number_told}
use Prim.Native.Nat.{ℕ, ◌+◌, ◌-◌, ◌*◌, ◌≤◌, ◌<◌}
use mathlib.Core.Bool.{true}
use mathlib.Core.List.{List, ◌++◌, append_assoc}
use mathlib.Core.Path.{◌≡◌, refl, sym, ap, ◌∙◌}
use native.Mathlib.Omega.{arith}
use lib.ListN.{length, drop}
use lib.Seq.{drop_at}
use Rattle.decide.specs.Test.{Holds}
use Rattle.decide.proofs.Cases.{by_cases, le_or}
use Rattle.wire.specs.Wire.{Bytes}
use Rattle.wire.proofs.Places.{bytes_drop}
use Rattle.shaper.specs.declared.Limits.{Limits}
use Rattle.shaper.specs.declared.Event.{Event}
use Rattle.shaper.specs.Limits.{limits_ok, most_events}
use Rattle.shaper.specs.Credit.{AllValid}
use Rattle.summary.specs.Answer.{answer_number}
use Rattle.summary.specs.Summary.{summary_of}
use Rattle.summary.specs.Answer.{and_then}
use Rattle.record.specs.Step.{Header, header_number}
use Rattle.record.specs.Record.{header_bytes, written}
use Rattle.record.specs.Items.{Item, items_bytes, written_items, unrolled}
use Rattle.record.specs.Read.{Events, faulty, events, read_items, Read, unreadable, whole, under}
use Rattle.record.specs.Step.{header_of_of, item_within}
use Rattle.record.specs.Cause.{Why, too_many, has_fault, passes}
use Rattle.record.proofs.Rows.{free_stands, within_over, within_faulty}
use Rattle.record.proofs.Steps.{header_stands, header_faulty, read_over, failed_within}
use Rattle.record.proofs.Refused.{header_refused_exactly, item_refused_exactly}
use Rattle.record.proofs.Written.{length_header, header_back, behind, behind_faulty, items_then, items_back, ones, ones_ok, ones_unrolled, ones_written}
use Rattle.record.proofs.Wrote.{header_front, items_written, items_stopped, items_valid}
use Rattle.account.specs.Account.{summarized}
use Rattle.heartbeat.specs.Repeat.{times_over, repeated_of}
use Rattle.heartbeat.specs.Heartbeat.{most_of_pattern, pattern_by, read_pattern, pattern_of, heartbeats_of}
use Rattle.heartbeat.specs.Cause.{PatternOk, PatternCause, in_header, behind_items, HeartbeatCause, in_pattern, too_often}
use Rattle.heartbeat.proofs.Written.{repeated_events, repeated_many}

-- ---- what is read was written

-- a pattern that a writer wrote, of these events
pub record WrotePattern (xs : List ℕ) (l : Limits) (es : List Event) : Type 0 where
  pub items : List Item
  pub same : xs ≡ written_items l items
  pub ok : PatternOk l items
  pub gives : es ≡ unrolled items

abbrev SaysPattern : List ℕ → Read → Type 0
SaysPattern xs (unreadable n) = PatternCause xs n
SaysPattern xs (whole l es) = WrotePattern xs l es

module _ (xs : List ℕ) (b : Bytes xs) where
  under_says : (l : Limits) → xs ≡ header_bytes l ++ drop 14 xs → Holds (limits_ok l) → (r : Events) → read_items true 3 l.mtu most_of_pattern 0 (drop 14 xs) ≡ r →
      SaysPattern xs (under l r)
  under_says l front ok (faulty n) e =
      let s = items_stopped true 3 l most_of_pattern (drop 14 xs) n (bytes_drop 14 xs b) e in
      behind_items l s.before s.rest
      (front ∙ ap (λ (q : List ℕ). header_bytes l ++ q) s.same ∙ sym (append_assoc (header_bytes l) (items_bytes s.before) s.rest))
      (record { settings = ok; items = s.ok; few = s.few })
      s.some
      s.why
  under_says l front ok (events es) e =
      let w = items_written true 3 l most_of_pattern (drop 14 xs) es (bytes_drop 14 xs b) e in
      record {
        items = w.items;
        same = front ∙ ap (λ (q : List ℕ). header_bytes l ++ q) w.same;
        ok = record { settings = ok; items = w.ok; few = rw w.gives at w.few };
        gives = w.gives;
      }

  says : SaysPattern xs (read_pattern xs)
  unfolding read_pattern
  says = by (header_of_of xs) refl
    where
      by : (h : Header) → header_of_of xs ≡ h → SaysPattern xs (pattern_by xs h)
      by (Ok l) e =
          let h = header_stands xs l e in
          under_says l (header_front xs b l h) h.in_range_lem (read_items true 3 l.mtu most_of_pattern 0 (drop 14 xs)) refl
      by (Err r) e = in_header ((header_refused_exactly xs (number_in r) (header_faulty true xs r e).0).0 (ap header_number e))

  -- bytes that are read as a pattern are what a writer writes
  pub read_pattern_lem : (l : Limits) (es : List Event) → read_pattern xs ≡ whole l es → WrotePattern xs l es
  read_pattern_lem l es e = rw e at says

-- ---- what was written is read

module _ (l : Limits) (is : List Item) (ok : PatternOk l is) where
  -- what stands behind some items of a pattern
  pattern_rest : (q : List ℕ) (m : ℕ) → length (unrolled is) + m ≡ most_of_pattern →
      read_pattern (written_items l is ++ q) ≡ under l (behind (unrolled is) (read_items true 3 l.mtu m 0 q))
  unfolding read_pattern
  pattern_rest q m e =
      ap (λ (ys : List ℕ). pattern_by ys (header_of_of ys)) (append_assoc (header_bytes l) (items_bytes is) q)
      ∙ rw (
        header_back l ok.settings (items_bytes is ++ q),
        drop_at (header_bytes l) (items_bytes is ++ q) 14 (length_header l),
        ← e,
        items_then true 3 l ok.settings is m q ok.items,
      )

  -- a pattern that a writer wrote is read whole
  pub pattern_read : read_pattern (written_items l is) ≡ whole l (unrolled is)
  unfolding read_pattern
  pattern_read =
      rw (
        header_back l ok.settings (items_bytes is),
        drop_at (header_bytes l) (items_bytes is) 14 (length_header l),
        items_back true 3 l ok.settings is most_of_pattern ok.items ok.few,
      )

  -- what stops behind its items stops the pattern
  stops_within : (q : List ℕ) (r : Refusal) → item_within true (refusal_of 3) (most_of_pattern - length (unrolled is)) l.mtu q 0 ≡ Err r →
      read_pattern (written_items l is ++ q) ≡ unreadable (number_in r)
  stops_within q r e =
      pattern_rest q (most_of_pattern - length (unrolled is)) (omega (arith, ok.few))
      ∙ rw ((failed_within true (refusal_of 3) (most_of_pattern - length (unrolled is)) l.mtu q 0 r e).1, behind_faulty (unrolled is) (number_in r))

  stops : (q : List ℕ) (n : ℕ) → 0 < n → 0 < length q → Why true 3 l.mtu most_of_pattern (length (unrolled is)) q n → read_pattern (written_items l is ++ q) ≡ unreadable n
  stops q n p h (too_many e z) = pattern_rest q 0 (omega arith) ∙ rw (read_over true 3 l.mtu q 0 h, behind_faulty (unrolled is) 3) (ap unreadable (sym z))
  stops q n p h (has_fault few g) =
      stops_within q (refusal_of n) (within_faulty true (refusal_of 3) (most_of_pattern - length (unrolled is)) l.mtu q 0 (refusal_of n) ((item_refused_exactly true l.mtu q 0 n h p).1 g) (omega arith))
      ∙ ap unreadable (number_told n)
  stops q n p h (passes few f over z) =
      stops_within q (refusal_of 3) (within_over true (refusal_of 3) (most_of_pattern - length (unrolled is)) l.mtu q 0 _ _ _ _ (free_stands true l.mtu q 0 h f) (omega arith)) ∙ ap unreadable (sym z)

means_unreadable : (xs : List ℕ) (n : ℕ) → 0 < n → PatternCause xs n → read_pattern xs ≡ unreadable n
unfolding read_pattern
means_unreadable xs n p (in_header g) = rw ((header_refused_exactly xs n p).1 g) (ap unreadable (number_told n))
means_unreadable xs n p (behind_items l is q e ok h y) = ap (λ (ys : List ℕ). pattern_by ys (header_of_of ys)) e ∙ stops l is ok q n p h y

-- ---- the pattern's number, exactly

module _ (xs : List ℕ) (n : ℕ) where
  number_read : (r : Read) (f : Refusal) → number_in f ≡ n → read_pattern xs ≡ r → summarized r ≡ Err f → read_pattern xs ≡ unreadable n
  number_read (unreadable m) f k e h = e ∙ ap unreadable (sym (number_told m) ∙ ap answer_number h ∙ k)
  number_read (whole l es) f k e h = let z : ◌≡◌ {A = ℕ} 0 1 = cc in absurd (omega arith)

  pub pattern_refused_exactly : Bytes xs → 0 < n → ((f : Refusal) → number_in f ≡ n → pattern_of xs ≡ Err f → PatternCause xs n) × (PatternCause xs n → pattern_of xs ≡ Err (refusal_of n))
  unfolding pattern_of
  pattern_refused_exactly b p =
      (λ f k h. rw (number_read (read_pattern xs) f k refl h) at (says xs b), λ c. ap summarized (means_unreadable xs n p c))

-- ---- a pattern that stands

module _ (l : Limits) (is : List Item) (ok : PatternOk l is) where
  -- it has the summary of its events
  pub pattern_summed : pattern_of (written_items l is) ≡ Ok (summary_of l (unrolled is))
  unfolding pattern_of
  pattern_summed = ap summarized (pattern_read l is ok)

  pub pattern_valid : AllValid l (unrolled is)
  pattern_valid = items_valid true l is ok.items

  -- repeated as often as may be it has the summary of all of them, written out
  pub heartbeats_summed : (r : ℕ) → r * length (unrolled is) ≤ most_events →
      heartbeats_of (written_items l is) r ≡ Ok (summary_of l (times_over r (unrolled is)))
  unfolding heartbeats_of
  heartbeats_summed r n = rw pattern_summed (repeated_events l ok.settings (unrolled is) pattern_valid (omega (arith, ok.few)) r n)

  -- and 9 where those are too many
  pub heartbeats_many : (r : ℕ) → most_events < r * length (unrolled is) → heartbeats_of (written_items l is) r ≡ Err (refusal_of 9)
  unfolding heartbeats_of
  heartbeats_many r n = rw pattern_summed (repeated_many l ok.settings (unrolled is) pattern_valid (omega (arith, ok.few)) r n)

-- ---- either form

-- Items and the events that they stand for have the same answers, whatever stands behind them.
pub either_form : (l : Limits) (is : List Item) → PatternOk l is → (rest : List ℕ) (r : ℕ) → heartbeats_of (written_items l is ++ rest) r ≡ heartbeats_of (written l (unrolled is) ++ rest) r
unfolding heartbeats_of pattern_of
either_form l is ok rest r =
    let es = unrolled is in
    let m = most_of_pattern - length es in
    let old : PatternOk l (ones es) = record { settings = ok.settings; items = ones_ok true l es (pattern_valid l is ok); few = rw (ones_unrolled es) ok.few } in
    ap (λ (p : Read). and_then (summarized p) (λ s. repeated_of s r))
    (pattern_rest l is ok rest m (omega (arith, ok.few))
    ∙ sym (rw (ones_unrolled es, ones_written l es) at (pattern_rest l (ones es) old rest m (rw (ones_unrolled es) (omega (arith, ok.few))))))

-- ---- a heartbeat's number, exactly

-- A pattern that cannot be read is refused with its fault,
pub pattern_unread : (xs : List ℕ) (m : ℕ) → read_pattern xs ≡ unreadable m → pattern_of xs ≡ Err (refusal_of m)
unfolding pattern_of
pattern_unread xs m e = rw e

pub heartbeats_unreadable : (xs : List ℕ) (r m : ℕ) → read_pattern xs ≡ unreadable m → heartbeats_of xs r ≡ Err (refusal_of m)
unfolding heartbeats_of
heartbeats_unreadable xs r m e = rw (pattern_unread xs m e)

module _ (xs : List ℕ) (r n : ℕ) where
  -- and one that stands with 9 alone.
  often : (l : Limits) (is : List Item) → PatternOk l is → xs ≡ written_items l is → (f : Refusal) → number_in f ≡ n → heartbeats_of (written_items l is) r ≡ Err f → HeartbeatCause xs r n
  often l is ok e f k h =
      by_cases (le_or (r * length (unrolled is)) most_events)
      (λ few. let s = heartbeats_summed l is ok r few in let z : ◌≡◌ {A = ℕ} 0 1 = cc in absurd (omega arith))
      (λ many. too_often l is e ok many (sym k ∙ ap answer_number (sym h ∙ heartbeats_many l is ok r many)))

  has_cause : Bytes xs → (f : Refusal) → number_in f ≡ n → heartbeats_of xs r ≡ Err f → HeartbeatCause xs r n
  has_cause b f k h = by (read_pattern xs) refl
    where
      by : (p : Read) → read_pattern xs ≡ p → HeartbeatCause xs r n
      by (unreadable m) e =
          let same : m ≡ n = sym (number_told m) ∙ ap answer_number (sym (heartbeats_unreadable xs r m e) ∙ h) ∙ k in
          in_pattern (rw (e ∙ ap unreadable same) at (says xs b))
      by (whole l es) e = let w = read_pattern_lem xs b l es e in often l w.items w.ok w.same f k (rw w.same at h)

  is_given : 0 < n → HeartbeatCause xs r n → heartbeats_of xs r ≡ Err (refusal_of n)
  is_given p (in_pattern c) = heartbeats_unreadable xs r n (means_unreadable xs n p c)
  is_given p (too_often l is e ok many nine) = rw (e, nine) (heartbeats_many l is ok r many)

  -- Each number of a heartbeat is given exactly when it has its cause.
  pub heartbeats_refused_exactly : Bytes xs → 0 < n → ((f : Refusal) → number_in f ≡ n → heartbeats_of xs r ≡ Err f → HeartbeatCause xs r n) × (HeartbeatCause xs r n → heartbeats_of xs r ≡ Err (refusal_of n))
  heartbeats_refused_exactly b p = (has_cause b, is_given p)
