-- What joins and settling promise, for every summary in range and for every list of events. Each follows from the same law by natural numbers.
-- Assumes nothing.
use Rattle.std.specs.Prelude.{Ok, Err, Some, None}
use Prim.Native.Nat.{ℕ, ◌+◌, ◌-◌, ◌≤◌, ◌<◌}
use mathlib.Core.Bool.{true}
use mathlib.Core.List.{List, [], ◌∷◌, ◌++◌}
use mathlib.Core.Logic.{◌⊎◌, inl, inr, ⊎_elim}
use mathlib.Core.Path.{◌≡◌, refl, sym, ap, ◌∙◌}
use native.Mathlib.Omega.{arith}
use lib.ListN.{length}
use Rattle.decide.specs.Test.{Holds, test, facts}
use Rattle.decide.proofs.Cases.{le_or}
use Rattle.shaper.specs.declared.Limits.{Limits}
use Rattle.shaper.specs.declared.Event.{Event}
use Rattle.shaper.specs.declared.Event.TheVariants.{Waiting, Idle, Send}
use Rattle.shaper.specs.Limits.{limits_ok, same_limits, most_events}
use Rattle.shaper.specs.Credit.{AllValid, Permitted, end_credit, accrued_of, sent_of}
use Rattle.shaper.proofs.Ranges.{same_exactly}
use Rattle.plain.specs.Plain.{plain_empty, plain_ticks, plain_single, plain_joined, plain_of, plain_end_of}
use Rattle.plain.specs.Range.{Same}
use Rattle.plain.proofs.Laws.{in_range_sound, sound_in_range, joined_sound, joined_assoc, empty_left, empty_right}
use Rattle.plain.proofs.Meaning.{single_limits, plain_limits, events_length, plain_accrued, plain_sent, alike, plain_sound, plain_append, permitted_need, need_permitted, end_credit_lem, sent_bound}
use Rattle.summary.specs.declared.Summary.{Summary}
use Rattle.summary.specs.Summary.{empty_of, ticks_of, single_of, joined, summary_of}
use Rattle.summary.specs.Range.{in_range}
use Rattle.summary.specs.Answer.{join_of, and_then, settle_of}
use Rattle.summary.specs.Settle.{SettlesExactly}
use Rattle.summary.specs.Plain.{plain_from, signed_from}
use Rattle.summary.proofs.Integers.{pos_sub, pos_less, sub_eq}
use Rattle.summary.proofs.Paper.{signed_eq, plain_signed, joined_signed, same_signed, in_range_plain, in_range_signed, joined_plain, settled_plain}
use Rattle.summary.proofs.Rows.{joins, join_9, settles, settles_not}
use Rattle.decide.specs.Number.{refusal_of}

-- settings that are equal pass the test of equality
same_settings : (a b : Summary) → a.limits ≡ b.limits → test (same_limits a.limits b.limits) ≡ true
same_settings a b e = (same_exactly a.limits b.limits).1 e

-- ---- two summaries of one setting

module _ (a b : Summary) (ha : in_range a ≡ true) (hb : in_range b ≡ true) (e : a.limits ≡ b.limits) where
  same_plain : Same (plain_from a) (plain_from b)
  same_plain = facts (same_limits a.limits b.limits) (same_settings a b e)

  by_plain : joined a b ≡ signed_from (plain_joined (plain_from a) (plain_from b))
  by_plain = joined_plain a b ha hb (same_settings a b e)

  -- a join keeps the range
  pub joined_range : a.events + b.events ≤ most_events → in_range (joined a b) ≡ true
  joined_range n =
      ap in_range by_plain
      ∙ in_range_signed (plain_joined (plain_from a) (plain_from b))
      (sound_in_range _ (joined_sound (plain_from a) (plain_from b) (in_range_sound _ (in_range_plain a ha)) (in_range_sound _ (in_range_plain b hb)) same_plain) n)

  pub joins_few : a.events + b.events ≤ most_events → join_of a b ≡ Ok (joined a b)
  joins_few n = joins a b ha hb (same_settings a b e) n

  refuses : most_events < a.events + b.events → join_of a b ≡ Err (refusal_of 9)
  refuses n = join_9 a b ha hb (same_settings a b e) n

  pub joined_events : (joined a b).events ≡ a.events + b.events
  unfolding joined
  joined_events = refl

  pub joined_limits : (joined a b).limits ≡ a.limits
  unfolding joined
  joined_limits = refl

  plain_joined_lem : plain_from (joined a b) ≡ plain_joined (plain_from a) (plain_from b)
  plain_joined_lem = ap plain_from by_plain ∙ plain_signed (plain_joined (plain_from a) (plain_from b))

-- Range kept by join: a join of two in range is in range, or 9.
pub join_range : (a b : Summary) → in_range a ≡ true → in_range b ≡ true → a.limits ≡ b.limits → ((join_of a b ≡ Ok (joined a b)) × (in_range (joined a b) ≡ true)) ⊎ ((join_of a b ≡ Err (refusal_of 9)) × (most_events < a.events + b.events))
join_range a b ha hb e =
    ⊎_elim
    (λ n. inl (joins_few a b ha hb e n, joined_range a b ha hb e n))
    (λ n. inr (refuses a b ha hb e n, n))
    (le_or (a.events + b.events) most_events)

-- ---- three

module _ (a b c : Summary) (ha : in_range a ≡ true) (hb : in_range b ≡ true) (hc : in_range c ≡ true) (e : a.limits ≡ b.limits) (f : b.limits ≡ c.limits) where
  same_joined_left : (joined a b).limits ≡ c.limits
  same_joined_left = joined_limits a b ha hb e ∙ e ∙ f

  same_joined_right : a.limits ≡ (joined b c).limits
  same_joined_right = e ∙ sym (joined_limits b c hb hc f)

  -- where the events of all three are few enough, both groupings come to the same
  pub joined_associative : a.events + (b.events + c.events) ≤ most_events → joined (joined a b) c ≡ joined a (joined b c)
  joined_associative n =
      by_plain (joined a b) c (joined_range a b ha hb e (omega arith)) hc same_joined_left
      ∙ ap (λ p. signed_from (plain_joined p (plain_from c))) (plain_joined_lem a b ha hb e)
      ∙ ap signed_from (joined_assoc (plain_from a) (plain_from b) (plain_from c) (in_range_sound _ (in_range_plain a ha)) (in_range_sound _ (in_range_plain b hb)) (in_range_sound _ (in_range_plain c hc)) (same_plain a b ha hb e) (same_plain b c hb hc f))
      ∙ ap (λ p. signed_from (plain_joined (plain_from a) p)) (sym (plain_joined_lem b c hb hc f))
      ∙ sym (by_plain a (joined b c) ha (joined_range b c hb hc f (omega arith)) same_joined_right)

  many_left : most_events < a.events + (b.events + c.events) → and_then (join_of a b) (λ z. join_of z c) ≡ Err (refusal_of 9)
  many_left n =
      ⊎_elim
      (λ m. let k = joined_events a b ha hb e in
      rw (joins_few a b ha hb e m) (refuses (joined a b) c (joined_range a b ha hb e m) hc same_joined_left (omega arith)))
      (λ m. rw (refuses a b ha hb e m))
      (le_or (a.events + b.events) most_events)

  many_right : most_events < a.events + (b.events + c.events) → and_then (join_of b c) (λ z. join_of a z) ≡ Err (refusal_of 9)
  many_right n =
      ⊎_elim
      (λ m. let k = joined_events b c hb hc f in
      rw (joins_few b c hb hc f m) (refuses a (joined b c) ha (joined_range b c hb hc f m) same_joined_right (omega arith)))
      (λ m. rw (refuses b c hb hc f m))
      (le_or (b.events + c.events) most_events)

  few_both : a.events + (b.events + c.events) ≤ most_events → and_then (join_of a b) (λ z. join_of z c) ≡ and_then (join_of b c) (λ z. join_of a z)
  few_both n =
      let k = joined_events a b ha hb e in
      let m = joined_events b c hb hc f in
      rw (joins_few a b ha hb e (omega arith), joins_few b c hb hc f (omega arith))
      (joins_few (joined a b) c (joined_range a b ha hb e (omega arith)) hc same_joined_left (omega arith)
      ∙ ap Ok (joined_associative n)
      ∙ sym (joins_few a (joined b c) ha (joined_range b c hb hc f (omega arith)) same_joined_right (omega arith)))

  -- Join is associative for in-range summaries of the same settings; both groupings give 9 or neither does.
  pub join_associative : and_then (join_of a b) (λ z. join_of z c) ≡ and_then (join_of b c) (λ z. join_of a z)
  join_associative = ⊎_elim few_both (λ n. many_left n ∙ sym (many_right n)) (le_or (a.events + (b.events + c.events)) most_events)

-- ---- the empty summary is neutral

empty_signed : (l : Limits) → empty_of l ≡ signed_from (plain_empty l)
empty_signed l = signed_eq (empty_of l) (signed_from (plain_empty l)) refl refl refl refl (pos_sub l.hi) refl

module _ (a : Summary) (h : in_range a ≡ true) where
  empty_range : in_range (empty_of a.limits) ≡ true
  empty_range =
      ap in_range (empty_signed a.limits)
      ∙ in_range_signed (plain_empty a.limits) ((in_range_plain a h).0, (omega arith, (omega arith, inr (omega arith))))

  plain_empty_lem : plain_from (empty_of a.limits) ≡ plain_empty a.limits
  plain_empty_lem = ap plain_from (empty_signed a.limits) ∙ plain_signed (plain_empty a.limits)

  few : a.events ≤ most_events
  few = (in_range_plain a h).1.0

  pub join_empty_left : join_of (empty_of a.limits) a ≡ Ok a
  join_empty_left =
      let n = few in
      joins_few (empty_of a.limits) a empty_range h refl (omega arith)
      ∙ ap Ok
      (by_plain (empty_of a.limits) a empty_range h refl
      ∙ ap (λ p. signed_from (plain_joined p (plain_from a))) plain_empty_lem
      ∙ ap signed_from (empty_left (plain_from a) (in_range_sound _ (in_range_plain a h)))
      ∙ same_signed a h)

  pub join_empty_right : join_of a (empty_of a.limits) ≡ Ok a
  join_empty_right =
      let n = few in
      joins_few a (empty_of a.limits) h empty_range refl (omega arith)
      ∙ ap Ok
      (by_plain a (empty_of a.limits) h empty_range refl
      ∙ ap (λ p. signed_from (plain_joined (plain_from a) p)) plain_empty_lem
      ∙ ap signed_from (empty_right (plain_from a) (in_range_sound _ (in_range_plain a h)))
      ∙ same_signed a h)

-- ---- the summary of a list of events

module _ (l : Limits) (ok : Holds (limits_ok l)) where
  pub waiting_signed : (c x : ℕ) → ticks_of l l.hi c x ≡ signed_from (plain_ticks l 0 c x)
  waiting_signed c x = signed_eq (ticks_of l l.hi c x) (signed_from (plain_ticks l 0 c x)) refl refl refl refl (pos_sub l.hi) refl

  pub idle_signed : (c x : ℕ) → ticks_of l l.lo c x ≡ signed_from (plain_ticks l (l.hi - l.lo) c x)
  idle_signed c x = signed_eq (ticks_of l l.lo c x) (signed_from (plain_ticks l (l.hi - l.lo) c x)) refl refl refl refl (pos_sub l.lo ∙ sub_eq l.lo 0 l.hi (l.hi - l.lo) (omega arith)) refl

  pub single_signed : (e : Event) → single_of l e ≡ signed_from (plain_single l e)
  single_signed (Waiting x) = waiting_signed 1 x
  single_signed (Idle x) = idle_signed 1 x
  single_signed (Send z) = signed_eq (single_of l (Send z)) (signed_from (plain_single l (Send z))) refl refl refl refl (pos_less l.hi z) refl

  -- it is the one by natural numbers
  pub summary_signed : (es : List Event) → summary_of l es ≡ signed_from (plain_of l es)
  unfolding summary_of
  summary_signed [] = empty_signed l
  summary_signed (e ∷ es) =
      ap (λ s. joined s (summary_of l es)) (single_signed e)
      ∙ ap (λ s. joined (signed_from (plain_single l e)) s) (summary_signed es)
      ∙ joined_signed (plain_single l e) (plain_of l es) (alike l (plain_single l e) (plain_of l es) (single_limits l e) (plain_limits l es))

  pub summary_limits : (es : List Event) → (summary_of l es).limits ≡ l
  summary_limits es = ap (λ (s : Summary). s.limits) (summary_signed es) ∙ plain_limits l es

  -- events are counted, and the bytes accrued and sent are those of the events
  pub summary_events : (es : List Event) → (summary_of l es).events ≡ length es
  summary_events es = ap (λ (s : Summary). s.events) (summary_signed es) ∙ events_length l es

  pub summary_accrued : (es : List Event) → (summary_of l es).accrued ≡ accrued_of es
  summary_accrued es = ap (λ (s : Summary). s.accrued) (summary_signed es) ∙ plain_accrued l es

  pub summary_sent : (es : List Event) → (summary_of l es).sent ≡ sent_of es
  summary_sent es = ap (λ (s : Summary). s.sent) (summary_signed es) ∙ plain_sent l es

  pub summary_range : (es : List Event) → AllValid l es → length es ≤ most_events → in_range (summary_of l es) ≡ true
  summary_range es v n =
      let k = events_length l es in
      ap in_range (summary_signed es) ∙ in_range_signed (plain_of l es) (sound_in_range (plain_of l es) (plain_sound l ok es v) (omega arith))

  -- the summaries of two runs of events, joined, are the summary of both
  pub join_append : (xs ys : List Event) → AllValid l xs → AllValid l ys → length xs + length ys ≤ most_events → join_of (summary_of l xs) (summary_of l ys) ≡ Ok (summary_of l (xs ++ ys))
  join_append xs ys v w n =
      let p = summary_events xs in
      let q = summary_events ys in
      let e : (summary_of l xs).limits ≡ (summary_of l ys).limits = summary_limits xs ∙ sym (summary_limits ys) in
      let hx = summary_range xs v (omega arith) in
      let hy = summary_range ys w (omega arith) in
      joins_few (summary_of l xs) (summary_of l ys) hx hy e (omega arith)
      ∙ ap Ok
      (by_plain (summary_of l xs) (summary_of l ys) hx hy e
      ∙ ap (λ s. signed_from (plain_joined (plain_from s) (plain_from (summary_of l ys)))) (summary_signed xs)
      ∙ ap (λ s. signed_from (plain_joined (plain_from (signed_from (plain_of l xs))) (plain_from s))) (summary_signed ys)
      ∙ ap (λ s. signed_from (plain_joined s (plain_from (signed_from (plain_of l ys))))) (plain_signed (plain_of l xs))
      ∙ ap (λ s. signed_from (plain_joined (plain_of l xs) s)) (plain_signed (plain_of l ys))
      ∙ ap signed_from (sym (plain_append l ok xs ys v w))
      ∙ sym (summary_signed (xs ++ ys)))

  module _ (es : List Event) (v : AllValid l es) (n : length es ≤ most_events) (c : ℕ) (most : c ≤ l.hi) where
    range_here : in_range (summary_of l es) ≡ true
    range_here = summary_range es v n

    most_here : c ≤ (summary_of l es).limits.hi
    most_here = rw (summary_limits es) most

    need_here : (summary_of l es).need ≡ (plain_of l es).need
    need_here = ap (λ (s : Summary). s.need) (summary_signed es)

    -- every send was permitted, event by event: settling says so, and the credit at the end
    pub settle_permitted : Permitted l c es → settle_of (summary_of l es) c ≡ Ok (Some (end_credit l c es))
    settle_permitted p =
        let need = permitted_need l ok es v c most p in
        let k = need_here in
        settles (summary_of l es) c range_here most_here (omega arith)
        ∙ ap (λ x. Ok (Some x))
        (settled_plain (summary_of l es) c range_here most_here (omega arith)
        ∙ ap (λ q. plain_end_of q c) (ap plain_from (summary_signed es) ∙ plain_signed (plain_of l es))
        ∙ sym (end_credit_lem l ok es v c most need))

    -- some send was not: settling says that
    pub settle_not_permitted : (Permitted l c es → ⊥) → settle_of (summary_of l es) c ≡ Ok None
    settle_not_permitted p =
        let k = need_here in
        let need : c < (plain_of l es).need = ⊎_elim (λ h. absurd (p (need_permitted l ok es v c most h))) (λ h. h) (le_or (plain_of l es).need c) in
        settles_not (summary_of l es) c range_here most_here (omega arith)

    -- and the other way round: what settling says is what was
    pub permitted_settle : (x : ℕ) → settle_of (summary_of l es) c ≡ Ok (Some x) → Permitted l c es × (end_credit l c es ≡ x)
    permitted_settle x s =
        ⊎_elim
        (λ h. let q = need_permitted l ok es v c most h in let t = settle_permitted q in (q, (cc)))
        (λ h. let t = settle_not_permitted (λ q. let k = permitted_need l ok es v c most q in omega arith) in let z : ◌≡◌ {A = ℕ} 0 1 = cc in absurd (omega arith))
        (le_or (plain_of l es).need c)

    pub not_permitted_settle : settle_of (summary_of l es) c ≡ Ok None → Permitted l c es → ⊥
    not_permitted_settle s p = let t = settle_permitted p in let z : ◌≡◌ {A = ℕ} 0 1 = cc in omega arith

    -- the bytes sent are then fewer than the bytes accrued plus hiLimit
    pub sent_below : Permitted l c es → (summary_of l es).sent < (summary_of l es).accrued + l.hi
    sent_below p =
        let s = ap (λ (q : Summary). q.sent) (summary_signed es) in
        let a = ap (λ (q : Summary). q.accrued) (summary_signed es) in
        let b = sent_bound l ok es v c most p in
        omega arith

-- for every starting credit from 0 to hiLimit
pub settle_exact : (l : Limits) → Holds (limits_ok l) → (es : List Event) → AllValid l es → length es ≤ most_events → (c : ℕ) → c ≤ l.hi → SettlesExactly l es c
settle_exact l ok es v n c most =
    record {
      permitted = settle_permitted l ok es v n c most;
      not_permitted = settle_not_permitted l ok es v n c most;
      said_permitted = permitted_settle l ok es v n c most;
      said_not = not_permitted_settle l ok es v n c most;
    }
