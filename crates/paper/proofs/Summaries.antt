-- Records and summaries follow the paper's words: most of it is what the definitions say, and need and end credit are never negative.
-- Assumes nothing.
use Rattle.std.specs.Prelude.{Err}
use Rattle.decide.specs.Number.{refusal_of}
use Prim.Native.Nat.{◌%◌, ℕ, ◌+◌, ◌-◌, ◌≤◌}
use mathlib.Core.Bool.{true, false}
use mathlib.Core.List.{List, [], ◌∷◌, ◌++◌, map, append_assoc, append-nil}
use mathlib.Core.Path.{◌≡◌, refl, sym, ap, ◌∙◌}
use native.Mathlib.Omega.{arith}
use borrow.Author.Tests.{lt-ltb, le-ltb}
use lib.IntN.{ℤ, pos, nat_abs, ◌-ℤ◌}
use lib.Signed.{lt_z}
use Rattle.decide.specs.Test.{test, facts, passes}
use Rattle.decide.specs.Refusal.{refused_or}
use Rattle.decide.proofs.Given.{in_order_lem}
use Rattle.decide.proofs.Cases.{by_cases, true_or_false, le_or}
use Rattle.decide.proofs.Tests.{failing}
use Rattle.wire.specs.Wire.{le, digits}
use Rattle.wire.specs.Signed.{signed_of}
use Rattle.shaper.specs.declared.Limits.{Limits}
use Rattle.shaper.specs.declared.Event.{Event}
use Rattle.shaper.specs.declared.Shaper.{Shaper}
use Rattle.shaper.specs.Limits.{limits_ok, LimitsOk, same_limits}
use Rattle.shaper.specs.Credit.{event_ok, Valid}
use Rattle.shaper.specs.Refused.{refused}
use Rattle.shaper.specs.Shaper.{charge_faults, charge_of}
use Rattle.shaper.proofs.Ranges.{limits_exactly, same_exactly, valid_exactly}
use Rattle.plain.specs.Plain.{plain_need, plain_end_of}
use Rattle.plain.specs.Range.{count_ok}
use Rattle.plain.proofs.Laws.{in_range_sound}
use Rattle.summary.specs.declared.Summary.{Summary}
use Rattle.summary.specs.Summary.{smaller_ℤ, larger_ℤ, gain, empty_of, single_of, ceiling_of, need_ℤ, joined, summary_of, end_ℤ}
use Rattle.summary.specs.Plain.{plain_from, signed_from}
use Rattle.summary.specs.Range.{in_range, InRange}
use Rattle.summary.proofs.Range.{in_range_exactly}
use Rattle.summary.proofs.Paper.{need_signed, end_signed, same_signed, in_range_plain}
use Rattle.summary.proofs.Promises.{join_associative, join_empty_left, join_empty_right}
use Rattle.summary.specs.Answer.{Answer}
use Rattle.summary.specs.Answer.{Outcome}
use Rattle.summary.specs.Answer.{empty_faults, empty_answer, single_faults, single_answer, join_of, settle_of}
use Rattle.summary.proofs.Rows as rows
use Rattle.summary.proofs.Rows.{settles, settles_not}
use Rattle.record.specs.Record.{header_bytes, event_bytes, events_bytes}
use Rattle.record.specs.Items.{Item, one, run_bytes, item_bytes, items_bytes, written_items, unrolled}
use Rattle.record.proofs.Written.{items_append, ones, ones_written, ones_unrolled}
use Rattle.sheet.specs.Sheet.{summary_at}
use Rattle.rpr.proofs.Promises.{join_leaves, join_done, settle_permitted, settle_not_permitted}
use Rattle.rpr.specs.Calls.{join_rows, join_answer}
use Rattle.rpr.proofs.Station.{carried_said}
use Rattle.paper.proofs.Reasons.{denied_by}
use Rattle.paper.specs.Summaries.{Follows, OneShaper, Sums, RecordBytes, ItemBytes, Unrolls, Formed, ItemsFormed, Singles, Constructs, JoinsTwo, SettlesFrom, Groups, LentSummaries, SummaryPlaces, SummaryRules}

follows : (l : Limits) (c : ℕ) → Follows l c
follows l c =
    record {
      none = refl;
      waiting = λ x es. refl;
      idle = λ x es. refl;
      send = λ z es. refl;
      none_permitted = tt;
      waiting_permitted = λ x es. (λ p. p.1, λ p. (tt, p));
      idle_permitted = λ x es. (λ p. p.1, λ p. (tt, p));
      send_permitted = λ z es. (λ p. p, λ p. p);
    }

sums : (es : List Event) → Sums es
sums es =
    record {
      none = (refl, refl);
      waiting = λ x. (refl, refl);
      idle = λ x. (refl, refl);
      send = λ z. (refl, refl);
    }

-- ---- bytes

behind : (es : List Event) (e : Event) → events_bytes (es ++ (e ∷ [])) ≡ events_bytes es ++ event_bytes e
behind [] e = append-nil (event_bytes e)
behind (d ∷ es) e = ap (λ (xs : List ℕ). event_bytes d ++ xs) (behind es e) ∙ sym (append_assoc (event_bytes d) (events_bytes es) (event_bytes e))

writes : (l : Limits) → RecordBytes l
unfolding header_bytes event_bytes digits
writes l =
    record {
      header = refl;
      waiting = λ x. refl;
      idle = λ x. refl;
      send = λ z. refl;
      limits = λ xs. refl;
      next = λ es e. ap (λ (xs : List ℕ). header_bytes l ++ xs) (behind es e) ∙ sym (append_assoc (header_bytes l) (events_bytes es) (event_bytes e));
    }

formed : (l : Limits) → Formed l
formed l =
    let exactly = limits_exactly l in
    record {
      exactly = λ es. (
        λ w. (exactly.0 (passes (limits_ok l) w.settings), w.valid, w.few),
        λ h. record { settings = facts (limits_ok l) (exactly.1 h.0); valid = h.1; few = h.2 },
      );
      none = tt;
      more = λ e es. (λ h. h, λ h. h);
      waiting = λ x. (λ h. h, λ h. h);
      idle = λ x. (λ h. h, λ h. h);
      send = λ z. (λ h. h, λ h. h);
    }

-- ---- items

-- events alone, as items
map_one : (es : List Event) → map one es ≡ ones es
map_one [] = refl
map_one (e ∷ es) = ap (λ (is : List Item). one e ∷ is) (map_one es)

pub writes_items : (l : Limits) → ItemBytes l
unfolding run_bytes digits
writes_items l =
    record {
      waiting = λ x count. refl;
      idle = λ x count. refl;
      event = λ e. refl;
      run = λ e count. refl;
      header = refl;
      next = λ is i. rw (items_append is (i ∷ []), append-nil (item_bytes i)) (sym (append_assoc (header_bytes l) (items_bytes is) (item_bytes i)));
      old = λ es. ap (written_items l) (map_one es) ∙ ones_written l es;
    }

unrolls : Unrolls
unrolls = record { none = refl; event = λ e is. refl; run = λ e count is. refl; old = λ es. ap unrolled (map_one es) ∙ ones_unrolled es }

formed_items : (l : Limits) → ItemsFormed l
formed_items l =
    let exactly = limits_exactly l in
    record {
      exactly = λ is. (
        λ w. (exactly.0 (passes (limits_ok l) w.settings), w.items, w.few),
        λ h. record { settings = facts (limits_ok l) (exactly.1 h.0); items = h.1; few = h.2 },
      );
      none = tt;
      more = λ i is. (λ h. h, λ h. h);
      event = λ e. (λ h. h, λ h. h);
      waiting = λ x count. (λ h. (h.2, h.3, h.4), λ h. (refl, omega arith, h.0, h.1, h.2));
      idle = λ x count. (λ h. (h.2, h.3, h.4), λ h. (refl, omega arith, h.0, h.1, h.2));
      send = λ z count h. omega (arith, h.1);
    }

-- ---- summaries

singles : (l : Limits) → Singles l
singles l = record { empty = refl; waiting = λ x. refl; idle = λ x. refl; send = λ z. refl }

module _ (a b : Summary) (ha : in_range a ≡ true) (hb : in_range b ≡ true) (same : a.limits ≡ b.limits) where
  -- need is never negative, so its size is itself
  need_whole : pos (joined a b).need ≡ need_ℤ a b
  unfolding joined
  need_whole =
      let p = plain_from a in
      let q = plain_from b in
      let natural : need_ℤ a b ≡ pos (plain_need p q) =
      ap (λ (s : Summary). need_ℤ s b) (sym (same_signed a ha))
      ∙ ap (λ (s : Summary). need_ℤ (signed_from p) s) (sym (same_signed b hb))
      ∙ need_signed p q (facts (same_limits a.limits b.limits) ((same_exactly a.limits b.limits).1 same)) in
      ap (λ (x : ℤ). pos (nat_abs x)) natural ∙ sym natural

  never : lt_z a.ceiling (pos b.need) ≡ true → (joined a b).need ≡ a.limits.hi + 1
  unfolding joined need_ℤ
  never e = rw e

  need : lt_z a.ceiling (pos b.need) ≡ false
      → need_ℤ a b ≡ smaller_ℤ (larger_ℤ (pos a.need) (pos b.need -ℤ gain a)) (pos (a.limits.hi + 1))
  unfolding need_ℤ
  need e = rw e

  joins : JoinsTwo a b
  unfolding joined ceiling_of
  joins =
      record {
        counts = (refl, refl, refl);
        settings = refl;
        ceiling = refl;
        never = never;
        need = λ e. need_whole ∙ need e;
      }

module _ (s : Summary) (c : ℕ) (h : in_range s ≡ true) (most : c ≤ s.limits.hi) where
  -- the end credit is never negative, so its size is itself
  end_whole : s.need ≤ c → pos (nat_abs (end_ℤ s c)) ≡ end_ℤ s c
  end_whole enough =
      let p = plain_from s in
      let natural : end_ℤ s c ≡ pos (plain_end_of p c) =
      ap (λ (x : Summary). end_ℤ x c) (sym (same_signed s h)) ∙ end_signed p c (in_range_sound p (in_range_plain s h)) most enough in
      ap (λ (x : ℤ). pos (nat_abs x)) natural ∙ sym natural

  settles_from : SettlesFrom s c
  settles_from =
      record {
        permitted = λ enough. (nat_abs (end_ℤ s c), settles s c h most enough, end_whole enough);
        not_permitted = λ short. settles_not s c h most short;
      }

constructs : (l : Limits) → Constructs l
unfolding empty_answer single_answer
constructs l =
    let exactly = limits_exactly l in
    let out : (LimitsOk l → ⊥) → test (limits_ok l) ≡ false = λ n. failing (limits_ok l) (λ h. n (exactly.0 (passes (limits_ok l) h))) in
    let wrong : (e : Event) → (Valid l e → ⊥) → test (event_ok l e) ≡ false = λ e n. failing (event_ok l e) (λ h. n ((valid_exactly l e).0 (passes (event_ok l e) h))) in
    record {
      empty = λ ok. rw (in_order_lem (empty_faults l) refl, exactly.1 ok);
      empty_refused = λ n. rw (in_order_lem (empty_faults l) refl, out n);
      single = λ e ok v. rw (in_order_lem (single_faults l e) refl, exactly.1 ok, (valid_exactly l e).1 v);
      settings_refused = λ e n. rw (in_order_lem (single_faults l e) refl, out n);
      number_refused = λ e ok n. rw (in_order_lem (single_faults l e) refl, exactly.1 ok, wrong e n);
      counted = λ e count ok v c n. rows.counted_made l e count (exactly.1 ok) ((valid_exactly l e).1 v) (passes (count_ok e count) c) n;
      counted_settings = λ e count n. rows.counted_1 l e count (out n);
      counted_number = λ e count ok n. rows.counted_3_number l e count (exactly.1 ok) (wrong e n);
      counted_apart = λ e count ok v c. rows.counted_3_count l e count (exactly.1 ok) (failing (count_ok e count) c);
      counted_many = λ e count ok v c n. rows.counted_9 l e count (exactly.1 ok) ((valid_exactly l e).1 v) (passes (count_ok e count) c) n;
    }

not_permitted : (s : Shaper) (z : ℕ) → s.credit ≤ s.limits.lo → charge_of s z ≡ Err (refused 6 (s.limits.lo + 1 - s.credit))
unfolding refused_or
not_permitted s z h = rw (in_order_lem (charge_faults s) refl, le-ltb s.limits.lo s.credit h)

one_shaper : (s : Shaper) → OneShaper s
unfolding refused_or
one_shaper s =
    record {
      fresh = refl;
      waiting = λ x. refl;
      idle = λ x. refl;
      charged = λ z h. rw (in_order_lem (charge_faults s) refl, lt-ltb s.limits.lo s.credit h);
      refused = not_permitted s;
      told = λ z h. rw (not_permitted s z h) (refl, refl, refl);
    }

join_out : (a b : Summary) → (InRange a × InRange b → ⊥) → join_of a b ≡ Err (refusal_of 3)
join_out a b n =
    by_cases (true_or_false (in_range a))
    (λ e. rows.join_3_second a b e (denied_by (in_range_exactly b).0 (λ h. n ((in_range_exactly a).0 e, h))))
    (λ e. rows.join_3_first a b e)

settle_out : (s : Summary) (c : ℕ) → (InRange s × (c ≤ s.limits.hi) → ⊥) → settle_of s c ≡ Err (refusal_of 3)
settle_out s c n =
    by_cases (true_or_false (in_range s))
    (λ e. by_cases (le_or c s.limits.hi) (λ h. absurd (n ((in_range_exactly s).0 e, h))) (λ h. rows.settle_3_credit s c e h))
    (λ e. rows.settle_3_summary s c e)

groups : Groups
groups =
    record {
      out = join_out;
      apart = λ a b ha hb n. rows.join_10 a b ((in_range_exactly a).1 ha) ((in_range_exactly b).1 hb)
          (failing (same_limits a.limits b.limits) (λ h. n ((same_exactly a.limits b.limits).0 (passes (same_limits a.limits b.limits) h))));
      few = λ a b ha hb same n. rows.joins a b ((in_range_exactly a).1 ha) ((in_range_exactly b).1 hb) ((same_exactly a.limits b.limits).1 same) n;
      many = λ a b ha hb same n. rows.join_9 a b ((in_range_exactly a).1 ha) ((in_range_exactly b).1 hb) ((same_exactly a.limits b.limits).1 same) n;
      associative = λ a b c ha hb hc e f. join_associative a b c ((in_range_exactly a).1 ha) ((in_range_exactly b).1 hb) ((in_range_exactly c).1 hc) e f;
      empty_left = λ a h. join_empty_left a ((in_range_exactly a).1 h);
      empty_right = λ a h. join_empty_right a ((in_range_exactly a).1 h);
    }

-- ---- by the host's calls

-- a join that is carried out says nothing more
join_said : (xs ys room : List ℕ) → join_answer xs ys room % 256 ≡ 0 → join_answer xs ys room ≡ 0
unfolding join_answer
join_said xs ys room z = (carried_said (join_rows xs ys room) (join_answer xs ys room) 0 (join_leaves xs ys room).0 refl z).1

lent_summaries : LentSummaries
lent_summaries =
    record {
      join = λ xs ys room z. let said = join_said xs ys room z in (said, (join_done xs ys room said).holds);
      ends = λ answer end. (λ e. (e.bytes, e.fits), λ h. record { bytes = h.0; fits = h.1 });
      permitted = λ xs start end e o. settle_permitted xs start e end o;
      not_permitted = λ xs start e o. settle_not_permitted xs start e o;
    }

places : (xs : List ℕ) → SummaryPlaces xs (summary_at xs)
unfolding summary_at signed_of
places xs =
    record {
      settings = (refl, refl, refl);
      events = refl;
      accrued = refl;
      sent = refl;
      ceiling = λ h. rw (lt-ltb (le 8 xs 32) 9223372036854775808 h);
      ceiling_negative = λ h. rw (le-ltb (le 8 xs 32) 9223372036854775808 h);
      need = refl;
    }

-- ---- together

one_by_one : (l : Limits) → (summary_of l [] ≡ empty_of l) × ((e : Event) (es : List Event) → summary_of l (e ∷ es) ≡ joined (single_of l e) (summary_of l es))
unfolding summary_of
one_by_one l = (refl, λ e es. refl)

pub summary_rules : SummaryRules
summary_rules =
    record {
      follows = follows;
      sums = sums;
      writes = writes;
      formed = formed;
      writes_items = writes_items;
      unrolls = unrolls;
      formed_items = formed_items;
      gains = λ s. refl;
      smaller = λ x y. (λ e. rw e, λ e. rw e);
      larger = λ x y. (λ e. rw e, λ e. rw e);
      in_turn = λ s then. refl;
      refused_first = λ n then. refl;
      singles = singles;
      constructs = constructs;
      shapers = one_shaper;
      one_by_one = one_by_one;
      joins = λ a b ha hb same. joins a b ((in_range_exactly a).1 ha) ((in_range_exactly b).1 hb) same;
      settles = λ s c h most. settles_from s c ((in_range_exactly s).1 h) most;
      not_settled = settle_out;
      groups = groups;
      lent = lent_summaries;
      places = places;
    }
