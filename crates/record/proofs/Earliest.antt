-- A record's faults, one law for each row of the papers: the header first, and of the items the earliest, whatever stands behind it.
-- Assumes nothing.
use Rattle.std.specs.Prelude.{Ok, Err, Some}
use Prim.Native.Nat.{ℕ, suc, ◌+◌, ◌-◌, ◌≤◌, ◌<◌}
use mathlib.Core.Bool.{Bool, true, false, ◌&&◌}
use mathlib.Core.List.{List, [], ◌++◌, append_assoc}
use mathlib.Core.Logic.{◌⊎◌, inr}
use mathlib.Core.Path.{◌≡◌, refl, ap, ◌∙◌}
use native.Mathlib.Omega.{arith}
use lib.ListN.{length}
use lib.Seq.{drop_at}
use Rattle.decide.specs.Test.{Holds, ◌≡?◌, test, facts, split}
use Rattle.decide.proofs.Cases.{by_cases, true_or_false}
use Rattle.shaper.specs.declared.Limits.{Limits}
use Rattle.shaper.specs.Limits.{limits_ok, most_events}
use Rattle.wire.specs.Wire.{le}
use Rattle.record.specs.Record.{header_bytes, written}
use Rattle.record.specs.Items.{Item, items_bytes, written_items, unrolled, Formed}
use Rattle.record.specs.Read.{limits_at, kind_at, field_fault, is_run, run_field_fault, read_items, whole, unreadable, under, read_in}
use Rattle.record.specs.Step.{item_at, item_within, placed}
use Rattle.record.proofs.Fields.{fields_length, fields_below, fields_above, fields_small, fields_large, run_length, run_below, run_above, run_few}
use Rattle.record.proofs.Rows.{header_short, header_length, header_kind, header_outside, run_nowhere, item_short, event_faulty, run_short, run_faulty, within_over}
use Rattle.record.proofs.Steps.{read_header, header_faulty, read_over, step_faulty, failed_within}
use Rattle.record.proofs.Written.{length_header, header_back, behind, behind_faulty, items_then, written_read}
use Rattle.decide.specs.declared.refusal.Refusal.{Refusal}
use Rattle.decide.specs.Number.{number_in, refusal_of}
use Rattle.decide.proofs.Number.{number_told}

-- ---- the header

module _ (runs : Bool) (xs : List ℕ) where
  -- 2: fewer than 14 bytes,
  pub short_header : length xs < 14 → read_in runs xs ≡ unreadable 2
  short_header h = (header_faulty runs xs (refusal_of 2) (header_short xs h)).1

  -- another length than 14,
  pub other_length : 14 ≤ length xs → (le 2 xs 0 ≡ 14 → ⊥) → read_in runs xs ≡ unreadable 2
  other_length h e = (header_faulty runs xs (refusal_of 2) (header_length xs h e)).1

  -- another kind than 16.
  pub other_kind : 14 ≤ length xs → (le 2 xs 2 ≡ 16 → ⊥) → read_in runs xs ≡ unreadable 2
  other_kind h k = by_cases (split (le 2 xs 0 ≡? 14)) (λ e. (header_faulty runs xs (refusal_of 2) (header_kind xs h e k)).1) (λ e. other_length h e)

  -- 1: a setting is outside its range, whatever the events.
  pub outside : 14 ≤ length xs → le 2 xs 0 ≡ 14 → le 2 xs 2 ≡ 16 → (Holds (limits_ok (limits_at xs)) → ⊥) → read_in runs xs ≡ unreadable 1
  outside h e k o =
      by_cases (true_or_false (test (limits_ok (limits_at xs))))
      (λ t. absurd (o (facts (limits_ok (limits_at xs)) t)))
      (λ t. (header_faulty runs xs (refusal_of 1) (header_outside xs h e k t)).1)

-- Zero bytes are no record.
pub no_bytes : (runs : Bool) → read_in runs [] ≡ unreadable 2
no_bytes runs = short_header runs [] (omega arith)

-- A header alone is a record without events.
pub header_alone : (runs : Bool) (l : Limits) → Holds (limits_ok l) → read_in runs (written l []) ≡ whole l []
header_alone runs l ok = written_read runs l [] (record { settings = ok; valid = tt; few = omega arith })

-- an item of another kind than 4 is no run
other_form : (runs : Bool) (q : List ℕ) → (kind_at q ≡ 4 → ⊥) → (runs && is_run q) ≡ false
other_form true q e = run_nowhere q e
other_form false q e = refl

-- ---- the items

module _ (runs : Bool) (l : Limits) (is : List Item) (q : List ℕ) (w : Formed runs l is) where
  -- what a record says whose first items are in range
  rest : (m : ℕ) → length (unrolled is) + m ≡ most_events → read_in runs (written_items l is ++ q) ≡ under l (behind (unrolled is) (read_items runs 9 l.mtu m 0 q))
  rest m e =
      ap (read_in runs) (append_assoc (header_bytes l) (items_bytes is) q)
      ∙ read_header runs (header_bytes l ++ (items_bytes is ++ q))
      ∙ rw (
        header_back l w.settings (items_bytes is ++ q),
        drop_at (header_bytes l) (items_bytes is ++ q) 14 (length_header l),
        ← e,
        items_then runs 9 l w.settings is m q w.items,
      )

  -- What stops behind them stops the record: a fault, or an item too many.
  pub stops_within : (r : Refusal) → item_within runs (refusal_of 9) (most_events - length (unrolled is)) l.mtu q 0 ≡ Err r → read_in runs (written_items l is ++ q) ≡ unreadable (number_in r)
  stops_within r e =
      rest (most_events - length (unrolled is)) (omega (arith, w.few))
      ∙ rw ((failed_within runs (refusal_of 9) (most_events - length (unrolled is)) l.mtu q 0 r e).1, behind_faulty (unrolled is) (number_in r))

  -- Any byte after the millionth event gives 9.
  pub over_million : length (unrolled is) ≡ most_events → 0 < length q → read_in runs (written_items l is ++ q) ≡ unreadable 9
  over_million e h = rest 0 (omega arith) ∙ rw (read_over runs 9 l.mtu q 0 h, behind_faulty (unrolled is) 9)

  -- A fault at an item counts, whatever stands behind it.
  pub earliest : (r : Refusal) → length (unrolled is) < most_events → item_at runs l.mtu q 0 ≡ Err r → read_in runs (written_items l is ++ q) ≡ unreadable (number_in r)
  earliest r few e =
      let done = length (unrolled is) in
      rest (suc (999999 - done)) (omega arith) ∙ rw ((step_faulty runs l.mtu q 0 r e).stops 9 (999999 - done), behind_faulty (unrolled is) (number_in r))

  -- A run that passes the million gives 9.
  pub run_passes : (k v c next : ℕ) → item_at runs l.mtu q 0 ≡ Ok (Some (placed k v c next)) → most_events < length (unrolled is) + c → read_in runs (written_items l is ++ q) ≡ unreadable 9
  run_passes k v c next e h = stops_within (refusal_of 9) (within_over runs (refusal_of 9) (most_events - length (unrolled is)) l.mtu q 0 k v c next e (omega (arith, w.few)))

  -- 2: an item that is cut short,
  pub cut_short : length (unrolled is) < most_events → 0 < length q → length q < 6 → read_in runs (written_items l is ++ q) ≡ unreadable 2
  cut_short few h k = earliest (refusal_of 2) few (item_short runs l.mtu q 0 h k)

  -- ---- an event

  module _ (few : length (unrolled is) < most_events) (h : 6 ≤ length q) (r : (runs && is_run q) ≡ false) where
    by_fields : (n : ℕ) → 0 < n → field_fault l.mtu (le 2 q 0) (le 2 q 2) (le 2 q 4) ≡ n → read_in runs (written_items l is ++ q) ≡ unreadable n
    by_fields n p e = rw (number_told n) at (earliest (refusal_of n) few (event_faulty runs l.mtu q 0 r n h e (λ z. omega arith)))

    -- of another length than 6,
    pub event_length : (le 2 q 0 ≡ 6 → ⊥) → read_in runs (written_items l is ++ q) ≡ unreadable 2
    event_length e = by_fields 2 (omega arith) (fields_length l.mtu (le 2 q 0) (le 2 q 2) (le 2 q 4) e)

    -- of another kind than 1, 2 and 3; in a record of the old form a run's too,
    pub event_kind : (le 2 q 2 < 1) ⊎ (3 < le 2 q 2) → read_in runs (written_items l is ++ q) ≡ unreadable 2
    event_kind k =
        by_cases (split (le 2 q 0 ≡? 6))
        (λ e. by_cases k
        (λ b. by_fields 2 (omega arith) (fields_below l.mtu (le 2 q 0) (le 2 q 2) (le 2 q 4) e b))
        (λ a. by_fields 2 (omega arith) (fields_above l.mtu (le 2 q 0) (le 2 q 2) (le 2 q 4) e a)))
        (λ e. event_length e)

    -- 3: a send whose size is not 16 to mtu.
    pub send_size : le 2 q 0 ≡ 6 → le 2 q 2 ≡ 3 → (le 2 q 4 < 16) ⊎ (l.mtu < le 2 q 4) → read_in runs (written_items l is ++ q) ≡ unreadable 3
    send_size e k z =
        by_cases z
        (λ s. by_fields 3 (omega arith) (fields_small l.mtu (le 2 q 0) (le 2 q 2) (le 2 q 4) e k s))
        (λ s. by_fields 3 (omega arith) (fields_large l.mtu (le 2 q 0) (le 2 q 2) (le 2 q 4) e k s))

  -- such as a second header's.
  pub second_header : length (unrolled is) < most_events → 6 ≤ length q → le 2 q 2 ≡ 16 → read_in runs (written_items l is ++ q) ≡ unreadable 2
  second_header few h e = event_kind few h (other_form runs q (λ k. omega arith)) (inr (omega arith))

  -- ---- a run, where runs may stand

  module _ (few : length (unrolled is) < most_events) (r : (runs && is_run q) ≡ true) where
    -- 2: cut short,
    pub run_cut_short : 0 < length q → length q < 10 → read_in runs (written_items l is ++ q) ≡ unreadable 2
    run_cut_short h k = earliest (refusal_of 2) few (run_short runs l.mtu q 0 r h k)

    by_run_fields : 10 ≤ length q → run_field_fault (le 2 q 0) (le 2 q 4) (le 2 q 8) ≡ 2 → read_in runs (written_items l is ++ q) ≡ unreadable 2
    by_run_fields h e = earliest (refusal_of 2) few (run_faulty runs l.mtu q 0 r 2 h e (λ z. omega arith))

    -- of another length than 10,
    pub run_other_length : 10 ≤ length q → (le 2 q 0 ≡ 10 → ⊥) → read_in runs (written_items l is ++ q) ≡ unreadable 2
    run_other_length h e = by_run_fields h (run_length (le 2 q 0) (le 2 q 4) (le 2 q 8) e)

    -- of a tick kind other than 1 or 2,
    pub run_tick_kind : 10 ≤ length q → (le 2 q 4 < 1) ⊎ (2 < le 2 q 4) → read_in runs (written_items l is ++ q) ≡ unreadable 2
    run_tick_kind h k =
        by_cases (split (le 2 q 0 ≡? 10))
        (λ e. by_cases k (λ b. by_run_fields h (run_below (le 2 q 0) (le 2 q 4) (le 2 q 8) e b)) (λ a. by_run_fields h (run_above (le 2 q 0) (le 2 q 4) (le 2 q 8) e a)))
        (λ e. run_other_length h e)

    -- of a count below 2.
    pub run_count : 10 ≤ length q → le 2 q 0 ≡ 10 → 1 ≤ le 2 q 4 → le 2 q 4 ≤ 2 → le 2 q 8 < 2 → read_in runs (written_items l is ++ q) ≡ unreadable 2
    run_count h e a b c = by_run_fields h (run_few (le 2 q 0) (le 2 q 4) (le 2 q 8) e a b c)
