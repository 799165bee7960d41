-- What stands at the front of a record and at each place, row by row: faults are tried in the order in which they are written.
-- Assumes nothing.
use Rattle.std.specs.Prelude.{Ok, Err, Some, None}
use Prim.Native.Nat.{ℕ, zero, suc, ◌+◌, ◌≤◌, ◌<◌}
use mathlib.Core.Bool.{Bool, true, false, ◌&&◌, and-false}
use mathlib.Core.List.{List}
use mathlib.Core.Path.{◌≡◌, refl, sym, ◌∙◌, ap}
use native.Mathlib.Omega.{arith}
use native.Mathlib.Nat.{add-zero}
use borrow.Author.Tests.{le-leb, lt-leb, eq-eqb, ne_eqb, eqb-true, le-ltb, lt-ltb}
use lib.Dec.{eqb}
use lib.ListN.{length, drop, length-drop}
use Rattle.decide.specs.Refusal.{first_of}
use Rattle.decide.specs.Test.{test}
use Rattle.decide.proofs.Cases.{by_cases, true_or_false}
use Rattle.decide.proofs.Given.{in_order_lem}
use Rattle.shaper.specs.Limits.{limits_ok}
use Rattle.wire.specs.Wire.{le}
use Rattle.wire.proofs.Numbers.{le_drop}
use Rattle.record.specs.Read.{limits_at, header_faults, length_at, kind_at, number_at, field_faults, field_fault, event_faults, is_run, run_field_faults, run_field_fault, run_faults, item_faults, item_kind, item_number, item_count}
use Rattle.record.specs.Step.{header_of_of, item_at, item_within, passed, placed}
use Rattle.record.proofs.Fields.{free_facts}
use Rattle.decide.specs.declared.refusal.Refusal.{Refusal}
use Rattle.decide.specs.Number.{refusal_of}

-- ---- the header

module _ (xs : List ℕ) where
  -- Fewer than 14 bytes are no header.
  pub header_short : length xs < 14 → header_of_of xs ≡ Err (refusal_of 2)
  unfolding header_of_of
  header_short h = rw (in_order_lem (header_faults xs) refl, lt-ltb (length xs) 14 h)

  -- Length 14.
  pub header_length : 14 ≤ length xs → (le 2 xs 0 ≡ 14 → ⊥) → header_of_of xs ≡ Err (refusal_of 2)
  unfolding header_of_of
  header_length h e = rw (in_order_lem (header_faults xs) refl, le-ltb (length xs) 14 h, ne_eqb (le 2 xs 0) 14 e)

  -- Kind 16.
  pub header_kind : 14 ≤ length xs → le 2 xs 0 ≡ 14 → (le 2 xs 2 ≡ 16 → ⊥) → header_of_of xs ≡ Err (refusal_of 2)
  unfolding header_of_of
  header_kind h e k = rw (in_order_lem (header_faults xs) refl, le-ltb (length xs) 14 h, eq-eqb (le 2 xs 0) 14 e, ne_eqb (le 2 xs 2) 16 k)

  -- A setting is outside its range.
  pub header_outside : 14 ≤ length xs → le 2 xs 0 ≡ 14 → le 2 xs 2 ≡ 16 → test (limits_ok (limits_at xs)) ≡ false → header_of_of xs ≡ Err (refusal_of 1)
  unfolding header_of_of
  header_outside h e k o =
      rw (in_order_lem (header_faults xs) refl, le-ltb (length xs) 14 h, eq-eqb (le 2 xs 0) 14 e, eq-eqb (le 2 xs 2) 16 k, o)

  -- Mtu 2, loLimit 4, hiLimit 4.
  pub header_settings : 14 ≤ length xs → le 2 xs 0 ≡ 14 → le 2 xs 2 ≡ 16 → test (limits_ok (limits_at xs)) ≡ true → header_of_of xs ≡ Ok (limits_at xs)
  unfolding header_of_of
  header_settings h e k o =
      rw (in_order_lem (header_faults xs) refl, le-ltb (length xs) 14 h, eq-eqb (le 2 xs 0) 14 e, eq-eqb (le 2 xs 2) 16 k, o)

-- ---- an item

-- where runs may stand an item of kind 4 is one, and any other is an event
pub run_there : (xs : List ℕ) → kind_at xs ≡ 4 → is_run xs ≡ true
unfolding is_run
run_there xs e = eq-eqb (kind_at xs) 4 e

pub run_nowhere : (xs : List ℕ) → (kind_at xs ≡ 4 → ⊥) → is_run xs ≡ false
unfolding is_run
run_nowhere xs e = ne_eqb (kind_at xs) 4 e

pub kind_there : (xs : List ℕ) → is_run xs ≡ true → kind_at xs ≡ 4
unfolding is_run
kind_there xs e = eqb-true (kind_at xs) 4 e

-- the same by the field at a place
pub run_at : (xs : List ℕ) (at : ℕ) → le 2 xs (at + 2) ≡ 4 → is_run (drop at xs) ≡ true
run_at xs at e = run_there (drop at xs) (simp le_drop e)

pub run_flag : (xs : List ℕ) (at : ℕ) → is_run (drop at xs) ≡ eqb (le 2 xs (at + 2)) 4
unfolding is_run
run_flag xs at = simp le_drop

pub run_not_at : (xs : List ℕ) (at : ℕ) → (le 2 xs (at + 2) ≡ 4 → ⊥) → is_run (drop at xs) ≡ false
run_not_at xs at e = run_nowhere (drop at xs) (λ f. e (simp le_drop at f))

module _ (runs : Bool) (mtu : ℕ) (xs : List ℕ) where
  pub faults_event : (runs && is_run xs) ≡ false → item_faults runs mtu xs ≡ event_faults mtu xs
  unfolding item_faults
  faults_event e = rw e

  pub faults_run : (runs && is_run xs) ≡ true → item_faults runs mtu xs ≡ run_faults xs
  unfolding item_faults
  faults_run e = rw e

-- what an item stands for
pub record Told (xs : List ℕ) (k v c : ℕ) : Type 0 where
  pub kind : item_kind xs ≡ k
  pub number : item_number xs ≡ v
  pub count : item_count xs ≡ c

-- an event stands for itself, once,
pub told_event : (xs : List ℕ) → is_run xs ≡ false → Told xs (kind_at xs) (number_at xs) 1
unfolding item_kind item_number item_count
told_event xs e = record { kind = rw e; number = rw e; count = rw e }

-- and a run for as many ticks as its count.
pub told_run : (xs : List ℕ) → is_run xs ≡ true → Told xs (le 2 xs 4) (le 2 xs 6) (le 2 xs 8)
unfolding item_kind item_number item_count
told_run xs e = record { kind = rw e; number = rw e; count = rw e }

-- the fault of an event that is not cut short is that of its fields,
event_fields_lem : (mtu : ℕ) (xs : List ℕ) → 6 ≤ length xs → first_of (event_faults mtu xs) ≡ field_fault mtu (length_at xs) (kind_at xs) (number_at xs)
unfolding field_fault
event_fields_lem mtu xs h =
    in_order_lem (event_faults mtu xs) refl ∙ rw (le-ltb (length xs) 6 h) (sym (in_order_lem (field_faults mtu (length_at xs) (kind_at xs) (number_at xs)) refl))

-- and so is that of a run.
run_fields_lem : (xs : List ℕ) → 10 ≤ length xs → first_of (run_faults xs) ≡ run_field_fault (length_at xs) (le 2 xs 4) (le 2 xs 8)
unfolding run_field_fault
run_fields_lem xs h =
    in_order_lem (run_faults xs) refl ∙ rw (le-ltb (length xs) 10 h) (sym (in_order_lem (run_field_faults (length_at xs) (le 2 xs 4) (le 2 xs 8)) refl))

-- the number of the fault of the fields at a place, or 0: of an event
abbrev pub fault_at : ℕ → List ℕ → ℕ → ℕ
fault_at mtu xs at = field_fault mtu (le 2 xs at) (le 2 xs (at + 2)) (le 2 xs (at + 4))

-- and of a run
abbrev pub run_fault_at : List ℕ → ℕ → ℕ
run_fault_at xs at = run_field_fault (le 2 xs at) (le 2 xs (at + 4)) (le 2 xs (at + 8))

-- fields without a fault are those of an event, in either form
pub no_run : (mtu : ℕ) (xs : List ℕ) (at : ℕ) → fault_at mtu xs at ≡ 0 → is_run (drop at xs) ≡ false
no_run mtu xs at e = run_not_at xs at (λ k. omega (arith, (free_facts mtu (le 2 xs at) (le 2 xs (at + 2)) (le 2 xs (at + 4)) e).last))

pub no_run_in : (runs : Bool) (mtu : ℕ) (xs : List ℕ) (at : ℕ) → fault_at mtu xs at ≡ 0 → (runs && is_run (drop at xs)) ≡ false
no_run_in runs mtu xs at e = rw (no_run mtu xs at e) (and-false runs)

-- a test that passed found no fault
pub passed_free : (n : ℕ) → passed n ≡ Ok tt → n ≡ 0
passed_free zero e = refl
passed_free (suc n) e = absurd (err_ok e)
  where
    err_ok : passed (suc n) ≡ Ok tt → ⊥
    err_ok q = cc

module _ (runs : Bool) (mtu : ℕ) (xs : List ℕ) (at : ℕ) where
  pub item_end : length xs ≤ at → item_at runs mtu xs at ≡ Ok None
  unfolding item_at
  item_end h = rw (le-leb (length xs) at h)

  -- an item without a fault stands there; the next begins behind its length
  item_stands : (k v c : ℕ) → at < length xs → first_of (item_faults runs mtu (drop at xs)) ≡ 0 → Told (drop at xs) k v c →
      item_at runs mtu xs at ≡ Ok (Some (placed k v c (at + le 2 xs at)))
  unfolding item_at
  item_stands k v c h e s = rw (lt-leb (length xs) at h, e, s.kind, s.number, s.count) (simp (le_drop, add-zero))

  -- the same as the definition tells it
  pub free_stands : at < length xs → first_of (item_faults runs mtu (drop at xs)) ≡ 0 →
      item_at runs mtu xs at ≡ Ok (Some (placed (item_kind (drop at xs)) (item_number (drop at xs)) (item_count (drop at xs)) (at + le 2 xs at)))
  free_stands h e = item_stands _ _ _ h e (record { kind = refl; number = refl; count = refl })

  -- and a fault counts
  pub item_faulty : (n : ℕ) → at < length xs → first_of (item_faults runs mtu (drop at xs)) ≡ n → (n ≡ 0 → ⊥) → item_at runs mtu xs at ≡ Err (refusal_of n)
  unfolding item_at
  item_faulty zero h e k = absurd (k refl)
  item_faulty (suc n) h e k = rw (lt-leb (length xs) at h, e)

  -- a test of an item's fault tells whether it has one
  item_passed : (n : ℕ) (e : Refusal) → at < length xs → first_of (item_faults runs mtu (drop at xs)) ≡ n → passed n ≡ Err e → item_at runs mtu xs at ≡ Err e
  item_passed zero e h f p = absurd (ok_err p)
    where
      ok_err : passed 0 ≡ Err e → ⊥
      ok_err q = cc
  item_passed (suc n) e h f p = item_faulty (suc n) h f (λ z. omega arith) ∙ ap Err same
    where
      same : refusal_of (suc n) ≡ e
      same = cc

  -- ---- an event

  module _ (r : (runs && is_run (drop at xs)) ≡ false) where
    pub event_fields_at : at + 6 ≤ length xs → first_of (item_faults runs mtu (drop at xs)) ≡ fault_at mtu xs at
    event_fields_at h =
        rw (faults_event runs mtu (drop at xs) r)
        (event_fields_lem mtu (drop at xs) (simp length-drop (omega arith)) ∙ simp (le_drop, add-zero))

    -- Fewer than 6 bytes are no event.
    pub event_cut : length xs < at + 6 → first_of (item_faults runs mtu (drop at xs)) ≡ 2
    event_cut k =
        rw (faults_event runs mtu (drop at xs) r, in_order_lem (event_faults mtu (drop at xs)) refl, lt-ltb (length (drop at xs)) 6 (simp length-drop (omega arith)))

    pub event_short : at < length xs → length xs < at + 6 → item_at runs mtu xs at ≡ Err (refusal_of 2)
    event_short h k = item_faulty 2 h (event_cut k) (λ z. omega arith)

    -- A fault of its fields counts.
    pub event_faulty : (n : ℕ) → at + 6 ≤ length xs → fault_at mtu xs at ≡ n → (n ≡ 0 → ⊥) → item_at runs mtu xs at ≡ Err (refusal_of n)
    event_faulty n h e k = item_faulty n (omega arith) (event_fields_at h ∙ e) k

    pub event_refused : (n : ℕ) (e : Refusal) → at + 6 ≤ length xs → fault_at mtu xs at ≡ n → passed n ≡ Err e → item_at runs mtu xs at ≡ Err e
    event_refused n e h f p = item_passed n e (omega arith) (event_fields_at h ∙ f) p

  -- Without one its kind and number stand there, for one event; the next begins behind its length.
  pub event_stands : at + 6 ≤ length xs → fault_at mtu xs at ≡ 0 → item_at runs mtu xs at ≡ Ok (Some (placed (le 2 xs (at + 2)) (le 2 xs (at + 4)) 1 (at + le 2 xs at)))
  event_stands h e =
      item_stands _ _ 1 (omega arith) (event_fields_at (no_run_in runs mtu xs at e) h ∙ e) (told_event (drop at xs) (no_run mtu xs at e)) ∙ simp le_drop

  -- ---- a run

  module _ (r : (runs && is_run (drop at xs)) ≡ true) where
    pub run_fields_at : at + 10 ≤ length xs → first_of (item_faults runs mtu (drop at xs)) ≡ run_fault_at xs at
    run_fields_at h =
        rw (faults_run runs mtu (drop at xs) r)
        (run_fields_lem (drop at xs) (simp length-drop (omega arith)) ∙ simp (le_drop, add-zero))

    -- Fewer than 10 bytes are no run.
    pub run_cut : length xs < at + 10 → first_of (item_faults runs mtu (drop at xs)) ≡ 2
    run_cut k =
        rw (faults_run runs mtu (drop at xs) r, in_order_lem (run_faults (drop at xs)) refl, lt-ltb (length (drop at xs)) 10 (simp length-drop (omega arith)))

    pub run_short : at < length xs → length xs < at + 10 → item_at runs mtu xs at ≡ Err (refusal_of 2)
    run_short h k = item_faulty 2 h (run_cut k) (λ z. omega arith)

    pub run_faulty : (n : ℕ) → at + 10 ≤ length xs → run_fault_at xs at ≡ n → (n ≡ 0 → ⊥) → item_at runs mtu xs at ≡ Err (refusal_of n)
    run_faulty n h e k = item_faulty n (omega arith) (run_fields_at h ∙ e) k

    pub run_refused : (n : ℕ) (e : Refusal) → at + 10 ≤ length xs → run_fault_at xs at ≡ n → passed n ≡ Err e → item_at runs mtu xs at ≡ Err e
    run_refused n e h f p = item_passed n e (omega arith) (run_fields_at h ∙ f) p

    -- Its tick kind, amount and count stand there.
    pub run_stands : is_run (drop at xs) ≡ true → at + 10 ≤ length xs → run_fault_at xs at ≡ 0 →
        item_at runs mtu xs at ≡ Ok (Some (placed (le 2 xs (at + 4)) (le 2 xs (at + 6)) (le 2 xs (at + 8)) (at + le 2 xs at)))
    run_stands n h e =
        item_stands _ _ _ (omega arith) (run_fields_at h ∙ e) (told_run (drop at xs) n) ∙ simp le_drop

  -- Fewer than 6 bytes are no item of either form.
  pub item_short : at < length xs → length xs < at + 6 → item_at runs mtu xs at ≡ Err (refusal_of 2)
  item_short h k =
      by_cases (true_or_false (runs && is_run (drop at xs))) (λ r. run_short r h (omega arith)) (λ r. event_short r h k)

-- ---- where `left` more events may come

module _ (runs : Bool) (late : Refusal) (left mtu : ℕ) (xs : List ℕ) (at : ℕ) where
  -- An item that stands for no more than may come stands there,
  pub within_stands : (k v c next : ℕ) → item_at runs mtu xs at ≡ Ok (Some (placed k v c next)) → c ≤ left → item_within runs late left mtu xs at ≡ Ok (Some (placed k v c next))
  unfolding item_within
  within_stands k v c next e h = rw (e, le-leb c left h)

  -- and one that stands for more is too late.
  pub within_over : (k v c next : ℕ) → item_at runs mtu xs at ≡ Ok (Some (placed k v c next)) → left < c → item_within runs late left mtu xs at ≡ Err late
  unfolding item_within
  within_over k v c next e h = rw (e, lt-leb c left h)

  pub within_end : item_at runs mtu xs at ≡ Ok None → item_within runs late left mtu xs at ≡ Ok None
  unfolding item_within
  within_end e = rw e

-- A fault counts where one more may come; else any byte is too late.
pub within_faulty : (runs : Bool) (late : Refusal) (left mtu : ℕ) (xs : List ℕ) (at : ℕ) (r : Refusal) → item_at runs mtu xs at ≡ Err r → 0 < left →
    item_within runs late left mtu xs at ≡ Err r
unfolding item_within
within_faulty runs late zero mtu xs at r e h = absurd (omega arith)
within_faulty runs late (suc left) mtu xs at r e h = rw e

pub within_none : (runs : Bool) (late : Refusal) (left mtu : ℕ) (xs : List ℕ) (at : ℕ) (r : Refusal) → item_at runs mtu xs at ≡ Err r → left ≡ 0 →
    item_within runs late left mtu xs at ≡ Err late
unfolding item_within
within_none runs late left mtu xs at r e h = rw (e, h)
