-- The reasons at an item are its rows: an item of kind 4 goes by the rows of a run, any other by those of an event. In the old form each goes by those of an event.
-- Assumes nothing.
use Prim.Native.Nat.{ℕ, ◌≤◌, ◌<◌}
use mathlib.Core.Bool.{true, false, not, ◌&&◌, true≢false}
use mathlib.Core.List.{List}
use mathlib.Core.Logic.{◌⊎◌, inl, inr, ◌↔◌}
use mathlib.Core.Path.{◌≡◌, refl, sym, subst, ◌∙◌}
use native.Mathlib.Omega.{arith}
use borrow.Author.Tests.{leb-true, le-leb}
use lib.Dec.{eqb, leb}
use lib.ListN.{length}
use Rattle.decide.specs.Test.{test}
use Rattle.decide.specs.Refusal.{Given, ranked, first_of}
use Rattle.decide.specs.Size.{size_ok}
use Rattle.decide.proofs.Cases.{by_cases, true_or_false, le_or}
use Rattle.wire.specs.Wire.{le}
use Rattle.shaper.specs.Limits.{limits_ok}
use Rattle.shaper.proofs.Ranges.{limits_exactly}
use Rattle.record.specs.Read.{limits_at, header_faults, event_faults, run_faults, is_run, item_faults}
use Rattle.record.proofs.Rows.{run_there, kind_there, faults_event, faults_run}
use Rattle.paper.specs.Reasons.{RefusedWhen, refused, passed, CarriedOut, header_refused, WholeEvent, WholeRun, WrongSize, item_refused, event_refused}
use Rattle.paper.proofs.Reasons.{Meant, none, row, Sole, sole_none, sole_when, first_given, given_exactly, given_for, denies, tests, equal, below, both_exactly}

-- ---- the header

pub header_meant : (xs : List ℕ) → Meant (header_faults xs) (header_refused xs)
header_meant xs =
    row (below (length xs) 14)
    (row (denies (eqb (le 2 xs 0) 14) (equal (le 2 xs 0) 14))
    (row (denies (eqb (le 2 xs 2) 16) (equal (le 2 xs 2) 16))
    (row (denies (test (limits_ok (limits_at xs))) (limits_exactly (limits_at xs)))
    none)))

pub header_given : (xs : List ℕ) (n : ℕ) → 0 < n → Given (header_faults xs) n ↔ header_refused xs n
header_given xs n p = given_for (header_faults xs) (header_meant xs) refl refl n p

-- ---- the rows of an event and of a run

-- one number between two others
between : (low high n : ℕ) → (not (leb low n && leb n high) ≡ true) ↔ ((low ≤ n) × (n ≤ high) → ⊥)
between low high n = denies (leb low n && leb n high) (both_exactly (leb low n) (leb n high) (leb-true low n, le-leb low n) (leb-true n high, le-leb n high))

module _ (mtu : ℕ) (xs : List ℕ) where
  -- cut short; another length; no event's kind; a send's size
  abbrev event_rows : ℕ → Type 0
  event_rows =
      RefusedWhen 2 (length xs < 6)
      (RefusedWhen 2 (le 2 xs 0 ≡ 6 → ⊥)
      (RefusedWhen 2 ((1 ≤ le 2 xs 2) × (le 2 xs 2 ≤ 3) → ⊥)
      (RefusedWhen 3 (WrongSize mtu xs)
      CarriedOut)))

  event_meant : Meant (event_faults mtu xs) event_rows
  event_meant =
      let kind = le 2 xs 2 in
      let size = le 2 xs 4 in
      row (below (length xs) 6)
      (row (denies (eqb (le 2 xs 0) 6) (equal (le 2 xs 0) 6))
      (row (between 1 3 kind)
      (row (both_exactly (eqb kind 3) (not (test (size_ok size mtu))) (equal kind 3) (denies (test (size_ok size mtu)) (tests (size_ok size mtu))))
      none)))

  -- the first three say that no event stands there whole
  rows_event : {n : ℕ} → event_rows n → event_refused mtu xs n
  rows_event (refused short e) = refused (λ w. omega (arith, short, w.0)) e
  rows_event (passed a (refused other e)) = refused (λ w. other w.1) e
  rows_event (passed a (passed b (refused other e))) = refused (λ w. other w.2) e
  rows_event (passed a (passed b (passed c rest))) =
      passed (λ no. b (λ six. c (λ kinds. by_cases (le_or 6 (length xs)) (λ long. no (long, six, kinds)) a))) rest

  -- of another kind than 4 it is an item in either form
  event_item : {n : ℕ} → (le 2 xs 2 ≡ 4 → ⊥) → event_refused mtu xs n → item_refused mtu xs n
  event_item k (refused other e) = refused (λ w. by_cases w other (λ v. k v.2)) e
  event_item k (passed whole (refused size e)) = passed (λ no. whole (λ w. no (inl w))) (refused size e)
  event_item k (passed whole (passed size e)) =
      passed (λ no. whole (λ w. no (inl w))) (passed size (passed (λ h. k h.0) (passed (λ h. k h.0) e)))

  -- cut short; another length; a tick kind other than 1 or 2; a count below 2
  abbrev run_rows : ℕ → Type 0
  run_rows =
      RefusedWhen 2 (length xs < 10)
      (RefusedWhen 2 (le 2 xs 0 ≡ 10 → ⊥)
      (RefusedWhen 2 ((1 ≤ le 2 xs 4) × (le 2 xs 4 ≤ 2) → ⊥)
      (RefusedWhen 2 (le 2 xs 8 < 2)
      CarriedOut)))

  run_meant : Meant (run_faults xs) run_rows
  run_meant =
      row (below (length xs) 10)
      (row (denies (eqb (le 2 xs 0) 10) (equal (le 2 xs 0) 10))
      (row (between 1 2 (le 2 xs 4))
      (row (below (le 2 xs 8) 2)
      none)))

  module _ (four : le 2 xs 2 ≡ 4) where
    no_event : WholeEvent xs → ⊥
    no_event w = omega (arith, four, w.2.1)

    no_send : WrongSize mtu xs → ⊥
    no_send w = omega (arith, four, w.0)

    whole_run : (length xs < 10 → ⊥) → ((le 2 xs 0 ≡ 10 → ⊥) → ⊥) → (WholeEvent xs ⊎ WholeRun xs → ⊥) → ⊥
    whole_run a b denied = b (λ ten. by_cases (le_or 10 (length xs)) (λ long. denied (inr (long, ten, four))) a)

    rows_run : {n : ℕ} → run_rows n → item_refused mtu xs n
    rows_run (refused short e) = refused (λ w. by_cases w no_event (λ v. omega (arith, short, v.0))) e
    rows_run (passed a (refused other e)) = refused (λ w. by_cases w no_event (λ v. other v.1)) e
    rows_run (passed a (passed b (refused tick e))) = passed (whole_run a b) (passed no_send (refused (four, tick) e))
    rows_run (passed a (passed b (passed c (refused few e)))) = passed (whole_run a b) (passed no_send (passed (λ h. c h.1) (refused (four, few) e)))
    rows_run (passed a (passed b (passed c (passed d e)))) =
        passed (whole_run a b) (passed no_send (passed (λ h. c h.1) (passed (λ h. d h.1) e)))

  -- ---- the number of an item's fault

  old_holds : event_refused mtu xs (first_of (item_faults false mtu xs))
  old_holds = rw (faults_event false mtu xs refl) (rows_event (first_given (event_faults mtu xs) event_meant refl))

  item_holds : item_refused mtu xs (first_of (item_faults true mtu xs))
  item_holds =
      by_cases (true_or_false (is_run xs))
      (λ r. rw (faults_run true mtu xs r) (rows_run (kind_there xs r) (first_given (run_faults xs) run_meant refl)))
      (λ r. rw (faults_event true mtu xs r)
      (event_item (λ k. true≢false (sym (run_there xs k) ∙ r)) (rows_event (first_given (event_faults mtu xs) event_meant refl))))

  sole_item : Sole (item_refused mtu xs)
  sole_item = sole_when (sole_when (sole_when (sole_when sole_none)))

  sole_event : Sole (event_refused mtu xs)
  sole_event = sole_when (sole_when sole_none)

  ranked_item : ranked (item_faults true mtu xs) ≡ true
  ranked_item = by_cases (true_or_false (is_run xs)) (λ r. rw (faults_run true mtu xs r)) (λ r. rw (faults_event true mtu xs r))

  ranked_old : ranked (item_faults false mtu xs) ≡ true
  ranked_old = rw (faults_event false mtu xs refl)

  -- A reason's number is that of the row that counts,
  pub item_number_lem : (n : ℕ) → item_refused mtu xs n → first_of (item_faults true mtu xs) ≡ n
  item_number_lem n h = sole_item _ _ item_holds h

  pub event_number : (n : ℕ) → event_refused mtu xs n → first_of (item_faults false mtu xs) ≡ n
  event_number n h = sole_event _ _ old_holds h

  -- and where there is none, no reason holds.
  pub item_free : first_of (item_faults true mtu xs) ≡ 0 → item_refused mtu xs 0
  item_free e = subst (item_refused mtu xs) e item_holds

  pub event_free : first_of (item_faults false mtu xs) ≡ 0 → event_refused mtu xs 0
  event_free e = subst (event_refused mtu xs) e old_holds

  -- Rows give a number exactly for their reasons.
  pub item_given : (n : ℕ) → 0 < n → Given (item_faults true mtu xs) n ↔ item_refused mtu xs n
  item_given n p = given_exactly (item_faults true mtu xs) item_holds sole_item ranked_item n p

  pub event_given : (n : ℕ) → 0 < n → Given (item_faults false mtu xs) n ↔ event_refused mtu xs n
  event_given n p = given_exactly (item_faults false mtu xs) old_holds sole_event ranked_old n p

  -- an event without fault is none of kind 4
  pub event_kind : event_refused mtu xs 0 → le 2 xs 2 ≡ 4 → ⊥
  event_kind (refused a e) four = omega arith
  event_kind (passed a (refused b e)) four = omega arith
  event_kind (passed a (passed b e)) four = a (no_event four)

  -- a run without fault stands for at least two ticks
  pub run_many : item_refused mtu xs 0 → le 2 xs 2 ≡ 4 → 2 ≤ le 2 xs 8
  run_many (refused a e) four = absurd (omega arith)
  run_many (passed a (refused b e)) four = absurd (omega arith)
  run_many (passed a (passed b (refused c e))) four = absurd (omega arith)
  run_many (passed a (passed b (passed c (refused d e)))) four = absurd (omega arith)
  run_many (passed a (passed b (passed c (passed d e)))) four = by_cases (le_or 2 (le 2 xs 8)) (λ h. h) (λ h. absurd (d (four, h)))
