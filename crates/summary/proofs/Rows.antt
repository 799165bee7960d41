-- What each call answers, row by row: the refusals in their order, and the answer where none applies.
-- Assumes nothing.
use Rattle.std.specs.Prelude.{Ok, Err, Some, None}
use Prim.Native.Nat.{ℕ, ◌+◌, ◌*◌, ◌≤◌, ◌<◌}
use mathlib.Core.Bool.{true, false}
use mathlib.Core.Path.{◌≡◌, refl}
use native.Mathlib.Omega.{arith}
use borrow.Author.Tests.{le-leb, lt-leb, le-ltb, lt-ltb, eq-eqb, ne_eqb}
use lib.IntN.{nat_abs}
use lib.ListN.{replicate}
use Rattle.decide.specs.Test.{test}
use Rattle.decide.proofs.Cases.{by_cases, true_or_false}
use Rattle.decide.proofs.Given.{in_order_lem}
use Rattle.shaper.specs.declared.Limits.{Limits}
use Rattle.shaper.specs.declared.Event.{Event}
use Rattle.shaper.specs.Limits.{limits_ok, same_limits, most_events}
use Rattle.shaper.specs.Credit.{event_ok}
use Rattle.plain.specs.Range.{count_ok}
use Rattle.summary.specs.declared.Summary.{Summary}
use Rattle.summary.specs.Summary.{empty_of, ticks_of, single_of, joined, summary_of, end_ℤ}
use Rattle.summary.specs.Range.{in_range}
use Rattle.summary.specs.Answer.{empty_faults, empty_answer, single_faults, single_answer, counted_faults, counted_answer, run_faults, run_answer, join_faults, join_of, settle_faults, settle_of}
use Rattle.decide.specs.Number.{refusal_of}

module _ (l : Limits) where
  -- 1: a setting is outside its range
  pub empty_1 : test (limits_ok l) ≡ false → empty_answer l ≡ Err (refusal_of 1)
  unfolding empty_answer
  empty_1 o = rw (in_order_lem (empty_faults l) refl, o)

  pub empty_made : test (limits_ok l) ≡ true → empty_answer l ≡ Ok (empty_of l)
  unfolding empty_answer
  empty_made o = rw (in_order_lem (empty_faults l) refl, o)

module _ (l : Limits) (e : Event) where
  pub single_1 : test (limits_ok l) ≡ false → single_answer l e ≡ Err (refusal_of 1)
  unfolding single_answer
  single_1 o = rw (in_order_lem (single_faults l e) refl, o)

  -- 3: the event's number is outside its range
  pub single_3 : test (limits_ok l) ≡ true → test (event_ok l e) ≡ false → single_answer l e ≡ Err (refusal_of 3)
  unfolding single_answer
  single_3 o v = rw (in_order_lem (single_faults l e) refl, o, v)

  pub single_made : test (limits_ok l) ≡ true → test (event_ok l e) ≡ true → single_answer l e ≡ Ok (single_of l e)
  unfolding single_answer
  single_made o v = rw (in_order_lem (single_faults l e) refl, o, v)

module _ (l : Limits) (e : Event) (count : ℕ) where
  pub counted_1 : test (limits_ok l) ≡ false → counted_answer l e count ≡ Err (refusal_of 1)
  unfolding counted_answer
  counted_1 o = rw (in_order_lem (counted_faults l e count) refl, o)

  -- 3: the event's number is outside its range, or the count
  pub counted_3_number : test (limits_ok l) ≡ true → test (event_ok l e) ≡ false → counted_answer l e count ≡ Err (refusal_of 3)
  unfolding counted_answer
  counted_3_number o v = rw (in_order_lem (counted_faults l e count) refl, o, v)

  pub counted_3_count : test (limits_ok l) ≡ true → test (count_ok e count) ≡ false → counted_answer l e count ≡ Err (refusal_of 3)
  unfolding counted_answer
  counted_3_count o c =
      by_cases (true_or_false (test (event_ok l e))) (λ v. rw (in_order_lem (counted_faults l e count) refl, o, v, c)) (counted_3_number o)

  -- 9: over 1,000,000 events
  pub counted_9 : test (limits_ok l) ≡ true → test (event_ok l e) ≡ true → test (count_ok e count) ≡ true → most_events < count → counted_answer l e count ≡ Err (refusal_of 9)
  unfolding counted_answer
  counted_9 o v c n = rw (in_order_lem (counted_faults l e count) refl, o, v, c, lt-ltb most_events count n)

  pub counted_made : test (limits_ok l) ≡ true → test (event_ok l e) ≡ true → test (count_ok e count) ≡ true → count ≤ most_events →
      counted_answer l e count ≡ Ok (summary_of l (replicate count e))
  unfolding counted_answer
  counted_made o v c n = rw (in_order_lem (counted_faults l e count) refl, o, v, c, le-ltb most_events count n)

module _ (l : Limits) (ceiling x count : ℕ) where
  -- 3: no tick
  pub run_3 : count ≡ 0 → run_answer l ceiling x count ≡ Err (refusal_of 3)
  unfolding run_answer
  run_3 h = rw (in_order_lem (run_faults count) refl, eq-eqb count 0 h)

  pub run_9 : most_events < count → run_answer l ceiling x count ≡ Err (refusal_of 9)
  unfolding run_answer
  run_9 n = rw (in_order_lem (run_faults count) refl, ne_eqb count 0 (λ z. omega arith), lt-ltb most_events count n)

  pub run_made : (count ≡ 0 → ⊥) → count ≤ most_events → run_answer l ceiling x count ≡ Ok (ticks_of l ceiling count (count * x))
  unfolding run_answer
  run_made h n = rw (in_order_lem (run_faults count) refl, ne_eqb count 0 h, le-ltb most_events count n)

module _ (a b : Summary) where
  -- 3: a summary is outside its range, the first or the second
  pub join_3_first : in_range a ≡ false → join_of a b ≡ Err (refusal_of 3)
  unfolding join_of
  join_3_first h = rw (in_order_lem (join_faults a b) refl, h)

  pub join_3_second : in_range a ≡ true → in_range b ≡ false → join_of a b ≡ Err (refusal_of 3)
  unfolding join_of
  join_3_second h k = rw (in_order_lem (join_faults a b) refl, h, k)

  -- 10: joined summaries have different settings
  pub join_10 : in_range a ≡ true → in_range b ≡ true → test (same_limits a.limits b.limits) ≡ false → join_of a b ≡ Err (refusal_of 10)
  unfolding join_of
  join_10 h k s = rw (in_order_lem (join_faults a b) refl, h, k, s)

  -- 9: over 1,000,000 events
  pub join_9 : in_range a ≡ true → in_range b ≡ true → test (same_limits a.limits b.limits) ≡ true → most_events < a.events + b.events → join_of a b ≡ Err (refusal_of 9)
  unfolding join_of
  join_9 h k s n = rw (in_order_lem (join_faults a b) refl, h, k, s, lt-ltb most_events (a.events + b.events) n)

  pub joins : in_range a ≡ true → in_range b ≡ true → test (same_limits a.limits b.limits) ≡ true → a.events + b.events ≤ most_events → join_of a b ≡ Ok (joined a b)
  unfolding join_of
  joins h k s n = rw (in_order_lem (join_faults a b) refl, h, k, s, le-ltb most_events (a.events + b.events) n)

module _ (s : Summary) (c : ℕ) where
  -- 3: the summary or the starting credit is outside its range
  pub settle_3_summary : in_range s ≡ false → settle_of s c ≡ Err (refusal_of 3)
  unfolding settle_of
  settle_3_summary h = rw (in_order_lem (settle_faults s c) refl, h)

  pub settle_3_credit : in_range s ≡ true → s.limits.hi < c → settle_of s c ≡ Err (refusal_of 3)
  unfolding settle_of
  settle_3_credit h k = rw (in_order_lem (settle_faults s c) refl, h, lt-ltb s.limits.hi c k)

  -- permitted throughout exactly if c ≥ need, ending at min(c + gain, ceiling)
  pub settles : in_range s ≡ true → c ≤ s.limits.hi → s.need ≤ c → settle_of s c ≡ Ok (Some (nat_abs (end_ℤ s c)))
  unfolding settle_of
  settles h k n = rw (in_order_lem (settle_faults s c) refl, h, le-ltb s.limits.hi c k, le-leb s.need c n)

  pub settles_not : in_range s ≡ true → c ≤ s.limits.hi → c < s.need → settle_of s c ≡ Ok None
  unfolding settle_of
  settles_not h k n = rw (in_order_lem (settle_faults s c) refl, h, le-ltb s.limits.hi c k, lt-leb s.need c n)
