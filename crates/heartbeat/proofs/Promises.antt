-- What a heartbeat promises: the answer of the written_out record, event by event; and one that is steady fits as often as it may be repeated.
-- Assumes nothing.
use Rattle.std.specs.Prelude.{Ok, Err, Some, None}
use Rattle.decide.specs.Number.{refusal_of}
use Prim.Native.Nat.{ℕ, zero, suc, ◌*◌, ◌^◌, ◌≤◌, ◌<◌}
use mathlib.Core.Bool.{true}
use mathlib.Core.List.{List, [], ◌∷◌, ◌++◌, append_assoc}
use mathlib.Core.Logic.{◌⊎◌, inl, inr}
use mathlib.Core.Path.{◌≡◌, refl, sym, ap, subst, ◌∙◌}
use native.Mathlib.Omega.{arith}
use lib.ListN.{length, take, drop, length-drop, take-append-drop}
use lib.Seq.{length-take-le}
use Rattle.decide.specs.Test.{Holds}
use Rattle.decide.proofs.Cases.{by_cases, le_or}
use Rattle.wire.specs.Wire.{Bytes}
use Rattle.shaper.specs.declared.Limits.{Limits}
use Rattle.shaper.specs.declared.Event.{Event}
use Rattle.shaper.specs.Limits.{limits_ok, most_events}
use Rattle.shaper.specs.Credit.{AllValid, next, Permitted, end_credit}
use Rattle.shaper.proofs.Credit.{end_append, permitted_append, permitted_mono, end_mono}
use Rattle.summary.specs.Summary.{summary_of}
use Rattle.summary.specs.Answer.{settle_of}
use Rattle.summary.specs.Settle.{SettlesExactly}
use Rattle.summary.proofs.Rows.{settles, settles_not}
use Rattle.summary.proofs.Promises.{summary_limits, summary_range, settle_exact}
use Rattle.record.specs.Record.{header_bytes, events_bytes, written, WellFormed}
use Rattle.record.specs.Items.{Item, written_items, unrolled}
use Rattle.record.specs.Read.{Read, unreadable, whole}
use Rattle.record.proofs.Written.{length_events, events_append, ones, ones_unrolled, ones_written, ones_formed}
use Rattle.record.proofs.Earliest.{over_million}
use Rattle.account.specs.Account.{summarize_in}
use Rattle.account.proofs.Promises.{summarize_unreadable, summarize_written}
use Rattle.account.proofs.Pieces.{valid_left}
use Rattle.heartbeat.specs.Repeat.{times_over}
use Rattle.heartbeat.specs.Doubling.{doubling_of}
use Rattle.heartbeat.specs.Heartbeat.{read_pattern, pattern_of, heartbeats_of, from_low_of}
use Rattle.heartbeat.specs.Cause.{PatternOk}
use Rattle.heartbeat.proofs.Written.{length_times, valid_times}
use Rattle.heartbeat.proofs.Doubling.{doubles}
use Rattle.heartbeat.proofs.Exactly.{read_pattern_lem, pattern_unread, pattern_summed, pattern_valid, heartbeats_summed, heartbeats_many, heartbeats_unreadable}

-- ---- event by event

module _ (l : Limits) (es : List Event) (p : Permitted l l.lo es) (h : l.lo ≤ end_credit l l.lo es) where
  steady_end : (r : ℕ) → l.lo ≤ end_credit l l.lo (times_over r es)
  unfolding times_over
  steady_end zero = omega arith
  steady_end (suc r) =
      let c = end_credit l l.lo (times_over r es) in
      let m = end_mono l es l.lo c (steady_end r) in
      omega (arith, end_append l (times_over r es) es l.lo)

  steady_permitted : (r : ℕ) → Permitted l l.lo (times_over r es)
  unfolding times_over
  steady_permitted zero = tt
  steady_permitted (suc r) =
      permitted_append l (times_over r es) es l.lo (steady_permitted r)
      (permitted_mono l es l.lo (end_credit l l.lo (times_over r es)) (steady_end r) p)

  -- Where one run from loLimit is permitted and ends at loLimit or above, every number of repeats is, and ends there or above.
  pub steady : (r : ℕ) → Permitted l l.lo (times_over r es) × (l.lo ≤ end_credit l l.lo (times_over r es))
  steady r = (steady_permitted r, steady_end r)

-- What is permitted so often is permitted less often too: the first repeats come first.
first_part : (l : Limits) (c : ℕ) (xs ys : List Event) → Permitted l c (xs ++ ys) → Permitted l c xs
first_part l c [] ys p = tt
first_part l c (x ∷ xs) ys p = (p.0, first_part l (next l c x) xs ys p.1)

pub fewer : (l : Limits) (c : ℕ) (es : List Event) (q r : ℕ) → q ≤ r → Permitted l c (times_over r es) → Permitted l c (times_over q es)
unfolding times_over
fewer l c es q zero h p = let z : q ≡ 0 = omega arith in rw z tt
fewer l c es q (suc r) h p =
    by_cases (le_or q r)
    (λ less. fewer l c es q r less (first_part l c (times_over r es) es p))
    (λ all. let e : q ≡ suc r = omega arith in rw e p)

-- one run
pub times_one : (es : List Event) → times_over 1 es ≡ es
unfolding times_over
times_one es = refl

-- no event, however often
pub times_none : (r : ℕ) → times_over r [] ≡ []
unfolding times_over
times_none zero = refl
times_none (suc r) = rw (times_none r)

-- ---- the written_out record

-- of too many events it is refused with 9: any byte behind the first million
written_over : (l : Limits) → Holds (limits_ok l) → (first rest : List Event) → AllValid l (first ++ rest) → length first ≡ most_events → 0 < length rest →
    summarize_in true (written l (first ++ rest)) ≡ Err (refusal_of 9)
written_over l ok first rest v size some =
    let formed : WellFormed l first = record { settings = ok; valid = valid_left l first rest v; few = omega arith } in
    let same : written l (first ++ rest) ≡ written_items l (ones first) ++ events_bytes rest =
    ap (λ (q : List ℕ). header_bytes l ++ q) (events_append first rest)
    ∙ sym (append_assoc (header_bytes l) (events_bytes first) (events_bytes rest))
    ∙ ap (λ (q : List ℕ). q ++ events_bytes rest) (sym (ones_written l first)) in
    rw same
    ((summarize_unreadable true (written_items l (ones first) ++ events_bytes rest) 9).1
    (over_million true l (ones first) (events_bytes rest) (ones_formed true l first formed) (rw (ones_unrolled first) size) (omega (arith, length_events rest))))

written_many : (l : Limits) → Holds (limits_ok l) → (es : List Event) → AllValid l es → most_events < length es → summarize_in true (written l es) ≡ Err (refusal_of 9)
written_many l ok es v many =
    subst (λ (fs : List Event). AllValid l fs → summarize_in true (written l fs) ≡ Err (refusal_of 9)) (take-append-drop most_events es)
    (λ w. written_over l ok (take most_events es) (drop most_events es) w (length-take-le most_events es (omega arith)) (omega (arith, length-drop most_events es))) v

module _ (l : Limits) (is : List Item) (ok : PatternOk l is) where
  -- A heartbeat comes to what its record comes to, written out: the summary, or 9 where there are too many events.
  pub written_out : (r : ℕ) → heartbeats_of (written_items l is) r ≡ summarize_in true (written l (times_over r (unrolled is)))
  written_out r =
      let es = unrolled is in
      let size = length_times r es in
      let v = valid_times l r es (pattern_valid l is ok) in
      by_cases (le_or (r * length es) most_events)
      (λ n. heartbeats_summed l is ok r n ∙ sym (summarize_written true l (times_over r es) (record { settings = ok.settings; valid = v; few = omega arith })))
      (λ n. heartbeats_many l is ok r n ∙ sym (written_many l ok.settings (times_over r es) v (omega arith)))

  -- By joining its summary with itself, doubling.
  pub by_doubling : (r : ℕ) → r < 2 ^ 64 → heartbeats_of (written_items l is) r ≡ (doubling_of (summary_of l (unrolled is)) r).sum
  unfolding heartbeats_of
  by_doubling r fits =
      rw (pattern_summed l is ok)
      (sym (doubles (summary_of l (unrolled is)) (summary_range l ok.settings (unrolled is) (pattern_valid l is ok) (omega (arith, ok.few))) r fits))

  -- one run is the pattern
  pattern_alone : pattern_of (written_items l is) ≡ heartbeats_of (written_items l is) 1
  pattern_alone =
      pattern_summed l is ok
      ∙ ap (λ (fs : List Event). Ok (summary_of l fs)) (sym (times_one (unrolled is)))
      ∙ sym (heartbeats_summed l is ok 1 (omega (arith, ok.few)))

  module _ (r : ℕ) (n : r * length (unrolled is) ≤ most_events) where
    abbrev all : List Event
    all = times_over r (unrolled is)

    pub heartbeat_settles : from_low_of (heartbeats_of (written_items l is) r) ≡ settle_of (summary_of l all) l.lo
    heartbeat_settles =
        ap from_low_of (heartbeats_summed l is ok r n)
        ∙ ap (λ (m : Limits). settle_of (summary_of l all) m.lo) (summary_limits l ok.settings all)

    valid : AllValid l all
    valid = valid_times l r (unrolled is) (pattern_valid l is ok)

    few : length all ≤ most_events
    few = omega (arith, length_times r (unrolled is))

    exactly : SettlesExactly l all l.lo
    exactly = settle_exact l ok.settings all valid few l.lo (omega (arith, ok.settings))

    -- it is permitted, or it is not
    pub heartbeat_either : ((x : ℕ) × (from_low_of (heartbeats_of (written_items l is) r) ≡ Ok (Some x))) ⊎ (from_low_of (heartbeats_of (written_items l is) r) ≡ Ok None)
    heartbeat_either =
        let s = summary_of l all in
        let h = summary_range l ok.settings all valid few in
        let most : l.lo ≤ s.limits.hi = rw (summary_limits l ok.settings all) (omega (arith, ok.settings)) in
        by_cases (le_or s.need l.lo) (λ n. inl (_, heartbeat_settles ∙ settles s l.lo h most n)) (λ n. inr (heartbeat_settles ∙ settles_not s l.lo h most n))

    -- permitted throughout from loLimit exactly if every send is, event by event; and then the credit at the end
    pub heartbeat_permitted : Permitted l l.lo all → from_low_of (heartbeats_of (written_items l is) r) ≡ Ok (Some (end_credit l l.lo all))
    heartbeat_permitted p = heartbeat_settles ∙ exactly.permitted p

    pub heartbeat_not_permitted : (Permitted l l.lo all → ⊥) → from_low_of (heartbeats_of (written_items l is) r) ≡ Ok None
    heartbeat_not_permitted p = heartbeat_settles ∙ exactly.not_permitted p

    pub permitted_heartbeat : (x : ℕ) → from_low_of (heartbeats_of (written_items l is) r) ≡ Ok (Some x) → Permitted l l.lo all × (end_credit l l.lo all ≡ x)
    permitted_heartbeat x e = exactly.said_permitted x (sym heartbeat_settles ∙ e)

-- One run of any bytes is what they come to as a pattern.
pub pattern_once : (xs : List ℕ) → Bytes xs → pattern_of xs ≡ heartbeats_of xs 1
pattern_once xs b = by (read_pattern xs) refl
  where
    by : (p : Read) → read_pattern xs ≡ p → pattern_of xs ≡ heartbeats_of xs 1
    by (unreadable m) e = pattern_unread xs m e ∙ sym (heartbeats_unreadable xs 1 m e)
    by (whole l es) e = let w = read_pattern_lem xs b l es e in rw w.same (pattern_alone l w.items w.ok)
