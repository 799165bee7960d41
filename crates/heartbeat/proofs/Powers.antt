-- A summary joined with itself: how many events it has, that it stays in range, and that so many repeats and then so many more are all of them.
-- Assumes nothing.
use Rattle.std.specs.Prelude.{Ok, Err}
use Rattle.decide.specs.Number.{refusal_of}
use Prim.Native.Nat.{ℕ, zero, suc, ◌+◌, ◌*◌, ◌≤◌, ◌<◌}
use mathlib.Core.Bool.{true, false}
use mathlib.Core.List.{[]}
use mathlib.Core.Path.{◌≡◌, refl, sym, ap, ◌∙◌}
use native.Mathlib.Nat.{add-zero, add-suc, suc-mul, add-mul, one-mul}
use native.Mathlib.Omega.{arith}
use borrow.Author.Tests.{le-ltb, lt-ltb}
use Rattle.decide.proofs.Cases.{by_cases, le_or}
use Rattle.decide.proofs.Given.{in_order_lem}
use Rattle.shaper.specs.Limits.{most_events}
use Rattle.shaper.proofs.Ranges.{same_exactly}
use Rattle.summary.specs.declared.Summary.{Summary}
use Rattle.summary.specs.Answer.{Answer}
use Rattle.summary.specs.Summary.{empty_of, joined, summary_of}
use Rattle.summary.specs.Range.{in_range}
use Rattle.summary.specs.Answer.{join_of, and_then, join_next}
use Rattle.summary.proofs.Paper.{in_range_plain}
use Rattle.summary.proofs.Rows.{join_9}
use Rattle.summary.proofs.Promises.{summary_range, joined_range, joins_few, joined_associative, join_empty_left, join_empty_right}
use Rattle.heartbeat.specs.Repeat.{power_of, repeat_faults, repeated_of}

-- ---- the rows

module _ (s : Summary) (r : ℕ) where
  -- 3: the summary is outside its range
  pub repeated_3 : in_range s ≡ false → repeated_of s r ≡ Err (refusal_of 3)
  unfolding repeated_of
  repeated_3 h = rw (in_order_lem (repeat_faults s r) refl, h)

  -- 9: repeats times events exceed 1,000,000
  pub repeated_9 : in_range s ≡ true → most_events < r * s.events → repeated_of s r ≡ Err (refusal_of 9)
  unfolding repeated_of
  repeated_9 h n = rw (in_order_lem (repeat_faults s r) refl, h, lt-ltb most_events (r * s.events) n)

  -- else it is joined with itself
  pub repeated_made : in_range s ≡ true → r * s.events ≤ most_events → repeated_of s r ≡ Ok (power_of s r)
  unfolding repeated_of
  repeated_made h n = rw (in_order_lem (repeat_faults s r) refl, h, le-ltb most_events (r * s.events) n)

-- an answer has one summary
pub summed_once : (a : Answer) (x y : Summary) → a ≡ Ok x → a ≡ Ok y → x ≡ y
summed_once a x y e f = cc

-- ---- repeats of a summary in range

module _ (s : Summary) (h : in_range s ≡ true) where
  -- events are counted
  pub power_events : (r : ℕ) → (power_of s r).events ≡ r * s.events
  unfolding power_of joined
  power_events zero = omega arith
  power_events (suc r) = omega (arith, power_events r, suc-mul r s.events)

  pub power_limits : (r : ℕ) → (power_of s r).limits ≡ s.limits
  unfolding power_of joined
  power_limits zero = refl
  power_limits (suc r) = power_limits r

  empty_range : in_range (empty_of s.limits) ≡ true
  unfolding summary_of
  empty_range = summary_range s.limits (in_range_plain s h).0 [] tt (omega arith)

  pub power_range : (r : ℕ) → r * s.events ≤ most_events → in_range (power_of s r) ≡ true
  unfolding power_of
  power_range zero n = empty_range
  power_range (suc r) n =
      let m = suc-mul r s.events in
      joined_range (power_of s r) s (power_range r (omega arith)) h (power_limits r) (omega (arith, power_events r))

  -- so many and then so many more
  pub power_add : (q r : ℕ) → (q + r) * s.events ≤ most_events → joined (power_of s q) (power_of s r) ≡ power_of s (q + r)
  unfolding power_of
  power_add q zero n =
      let hq = power_range q (rw (add-zero q) at n) in
      let e = power_limits q in
      rw (add-zero q)
      (ap (λ l. joined (power_of s q) (empty_of l)) (sym e)
      ∙ summed_once (join_of (power_of s q) (empty_of (power_of s q).limits)) (joined (power_of s q) (empty_of (power_of s q).limits)) (power_of s q)
      (joins_few (power_of s q) (empty_of (power_of s q).limits) hq (rw e empty_range) refl (omega (arith, power_events q, rw (add-zero q) at n)))
      (join_empty_right (power_of s q) hq))
  power_add q (suc r) n =
      let m = rw (add-suc q r, suc-mul (q + r) s.events) at n in
      let k = add-mul q r s.events in
      let hq = power_range q (omega arith) in
      let hr = power_range r (omega arith) in
      rw (add-suc q r)
      (sym (joined_associative (power_of s q) (power_of s r) s hq hr h (power_limits q ∙ sym (power_limits r)) (power_limits r) (omega (arith, power_events q, power_events r)))
      ∙ ap (λ p. joined p s) (power_add q r (omega arith)))

  few : s.events ≤ most_events
  few = (in_range_plain s h).1.0

  -- one alone is the summary itself
  pub power_one : power_of s 1 ≡ s
  unfolding power_of
  power_one =
      summed_once (join_of (empty_of s.limits) s) _ _ (joins_few (empty_of s.limits) s empty_range h refl (omega (arith, few))) (join_empty_left s h)

  -- ---- as answers: a refusal stays, and 9 comes exactly where all of them are too many

  pub repeated_add : (q r : ℕ) → and_then (repeated_of s q) (λ a. join_next a (repeated_of s r)) ≡ repeated_of s (q + r)
  repeated_add q r =
      let k = add-mul q r s.events in
      by_cases (le_or (q * s.events) most_events)
      (λ n. by_cases (le_or (r * s.events) most_events)
      (λ m. rw (repeated_made s q h n, repeated_made s r h m) (both n m))
      (λ m. rw (repeated_made s q h n, repeated_9 s r h m) (sym (repeated_9 s (q + r) h (omega arith)))))
      (λ n. rw (repeated_9 s q h n) (sym (repeated_9 s (q + r) h (omega arith))))
    where
      both : q * s.events ≤ most_events → r * s.events ≤ most_events → join_of (power_of s q) (power_of s r) ≡ repeated_of s (q + r)
      both n m =
          let k = add-mul q r s.events in
          let e = power_limits q ∙ sym (power_limits r) in
          by_cases (le_or ((q + r) * s.events) most_events)
          (λ f. joins_few (power_of s q) (power_of s r) (power_range q n) (power_range r m) e (omega (arith, power_events q, power_events r))
          ∙ ap Ok (power_add q r f)
          ∙ sym (repeated_made s (q + r) h f))
          (λ f. join_9 (power_of s q) (power_of s r) (power_range q n) (power_range r m) ((same_exactly (power_of s q).limits (power_of s r).limits).1 e) (omega (arith, power_events q, power_events r))
          ∙ sym (repeated_9 s (q + r) h f))

  -- one is the summary itself
  pub repeated_one : repeated_of s 1 ≡ Ok s
  repeated_one = repeated_made s 1 h (omega (arith, few, one-mul s.events)) ∙ ap Ok power_one

  -- none is the empty summary
  pub repeated_none : repeated_of s 0 ≡ Ok (empty_of s.limits)
  unfolding power_of
  repeated_none = repeated_made s 0 h (omega arith)
