-- A whole header and a whole item are read from their own bytes: what stands behind them changes nothing.
-- Assumes nothing.
use Prim.Native.Nat.{ℕ, zero, suc, ◌+◌, ◌≤◌}
use mathlib.Core.Bool.{true, false}
use mathlib.Core.List.{List, ◌++◌}
use mathlib.Core.Path.{◌≡◌, refl, sym, ap, ◌∙◌}
use native.Mathlib.Omega.{arith}
use borrow.Author.Tests.{le-ltb}
use lib.ListN.{length, length-append}
use Rattle.decide.specs.declared.refusal.Refusal.{Refusal}
use Rattle.decide.specs.Refusal.{first_of}
use Rattle.decide.proofs.Cases.{by_cases, true_or_false}
use Rattle.wire.specs.Wire.{le}
use Rattle.wire.proofs.Numbers.{le_append_left}
use Rattle.record.specs.Read.{header_faults, is_run}
use Rattle.record.specs.Step.{headed, header_of_of, step_at, within, item_within, step_within}
use Rattle.record.proofs.Rows.{fault_at, run_fault_at, event_stands, event_faulty, run_stands, run_faulty}
use Rattle.feed.specs.Feed.{item_size}
use Rattle.feed.proofs.Rows.{run_front, size_run, size_event}

module _ (q ys : List ℕ) where
  longer : (n : ℕ) → n ≤ length q → n ≤ length (q ++ ys)
  longer n h = omega (arith, length-append q ys)

  -- two bytes of it
  two : (at : ℕ) → at + 2 ≤ length q → le 2 (q ++ ys) at ≡ le 2 q at
  two at h = le_append_left 2 q ys at h

  pub header_front : 14 ≤ length q → header_of_of (q ++ ys) ≡ header_of_of q
  unfolding header_of_of
  header_front h = ap (λ n. headed n (q ++ ys)) faults ∙ by (first_of (header_faults q))
    where
      a : le 2 (q ++ ys) 0 ≡ le 2 q 0
      a = two 0 (omega arith)

      k : le 2 (q ++ ys) 2 ≡ le 2 q 2
      k = two 2 (omega arith)

      m : le 2 (q ++ ys) 4 ≡ le 2 q 4
      m = two 4 (omega arith)

      o : le 4 (q ++ ys) 6 ≡ le 4 q 6
      o = le_append_left 4 q ys 6 (omega arith)

      t : le 4 (q ++ ys) 10 ≡ le 4 q 10
      t = le_append_left 4 q ys 10 (omega arith)

      faults : first_of (header_faults (q ++ ys)) ≡ first_of (header_faults q)
      faults = rw (le-ltb (length (q ++ ys)) 14 (longer 14 h), le-ltb (length q) 14 h, a, k, m, o, t)

      by : (n : ℕ) → headed n (q ++ ys) ≡ headed n q
      by zero = rw (m, o, t)
      by (suc n) = refl

  event_front : (mtu : ℕ) → is_run q ≡ false → 6 ≤ length q → step_at mtu (q ++ ys) 0 ≡ step_at mtu q 0
  event_front mtu r h = by (fault_at mtu q 0) refl
    where
      a : le 2 (q ++ ys) 0 ≡ le 2 q 0
      a = two 0 (omega arith)

      k : le 2 (q ++ ys) 2 ≡ le 2 q 2
      k = two 2 (omega arith)

      n : le 2 (q ++ ys) 4 ≡ le 2 q 4
      n = two 4 (omega arith)

      same : fault_at mtu (q ++ ys) 0 ≡ fault_at mtu q 0
      same = rw (a, k, n)

      by : (f : ℕ) → fault_at mtu q 0 ≡ f → step_at mtu (q ++ ys) 0 ≡ step_at mtu q 0
      by zero e = event_stands true mtu (q ++ ys) 0 (longer 6 h) (same ∙ e) ∙ rw (a, k, n) (sym (event_stands true mtu q 0 h e))
      by (suc f) e =
          event_faulty true mtu (q ++ ys) 0 (run_front q ys (omega arith) ∙ r) (suc f) (longer 6 h) (same ∙ e) (λ z. omega arith)
          ∙ sym (event_faulty true mtu q 0 r (suc f) h e (λ z. omega arith))

  ten_front : (mtu : ℕ) → is_run q ≡ true → 10 ≤ length q → step_at mtu (q ++ ys) 0 ≡ step_at mtu q 0
  ten_front mtu r h = by (run_fault_at q 0) refl
    where
      a : le 2 (q ++ ys) 0 ≡ le 2 q 0
      a = two 0 (omega arith)

      k : le 2 (q ++ ys) 4 ≡ le 2 q 4
      k = two 4 (omega arith)

      n : le 2 (q ++ ys) 6 ≡ le 2 q 6
      n = two 6 (omega arith)

      c : le 2 (q ++ ys) 8 ≡ le 2 q 8
      c = two 8 (omega arith)

      t : is_run (q ++ ys) ≡ true
      t = run_front q ys (omega arith) ∙ r

      same : run_fault_at (q ++ ys) 0 ≡ run_fault_at q 0
      same = rw (a, k, c)

      by : (f : ℕ) → run_fault_at q 0 ≡ f → step_at mtu (q ++ ys) 0 ≡ step_at mtu q 0
      by zero e = run_stands true mtu (q ++ ys) 0 t t (longer 10 h) (same ∙ e) ∙ rw (a, k, n, c) (sym (run_stands true mtu q 0 r r h e))
      by (suc f) e =
          run_faulty true mtu (q ++ ys) 0 t (suc f) (longer 10 h) (same ∙ e) (λ z. omega arith)
          ∙ sym (run_faulty true mtu q 0 r (suc f) h e (λ z. omega arith))

  -- so where only some more events may come
  pub within_front : (late : Refusal) (left mtu : ℕ) → item_size q ≤ length q → step_within late left mtu (q ++ ys) 0 ≡ step_within late left mtu q 0
  unfolding item_within
  within_front late left mtu h =
      ap (within late left)
      (by_cases (true_or_false (is_run q)) (λ r. ten_front mtu r (omega (arith, size_run q r))) (λ r. event_front mtu r (omega (arith, size_event q r))))
