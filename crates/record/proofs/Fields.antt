-- An event's three fields as numbers, row by row: their faults are tried in the order in which they are written.
-- Assumes nothing.
use Prim.Native.Nat.{ℕ, ◌≤◌, ◌<◌}
use mathlib.Core.Bool.{true, false}
use mathlib.Core.Logic.{◌⊎◌, inl, inr, ⊎_elim, ◌↔◌}
use mathlib.Core.Path.{◌≡◌, refl, sym}
use native.Mathlib.Omega.{arith}
use borrow.Author.Tests.{le-leb, lt-leb, le-ltb, lt-ltb, eq-eqb, ne_eqb}
use Rattle.decide.specs.Test.{◌≡?◌, test, Holds, facts, passes, decided, split}
use Rattle.decide.specs.Size.{size_ok}
use Rattle.decide.proofs.Cases.{by_cases, le_or}
use Rattle.decide.proofs.Given.{in_order_lem}
use Rattle.shaper.specs.declared.Limits.{Limits}
use Rattle.shaper.specs.declared.Event.{Event}
use Rattle.shaper.specs.declared.Event.TheVariants.{Waiting, Idle, Send}
use Rattle.shaper.specs.Limits.{most_amount}
use Rattle.shaper.specs.Credit.{Valid}
use Rattle.shaper.specs.Kind.{kind_of, number_of, event_of}
use Rattle.shaper.proofs.Kind.{event_1, event_2, event_3}
use Rattle.record.specs.Read.{field_faults, field_fault, good, run_field_faults, run_field_fault}

module _ (mtu len kind num : ℕ) where
  -- Events, length 6.
  pub fields_length : (len ≡ 6 → ⊥) → field_fault mtu len kind num ≡ 2
  unfolding field_fault
  fields_length h = rw (in_order_lem (field_faults mtu len kind num) refl, ne_eqb len 6 h)

  -- Kind 1, 2 or 3: neither below
  pub fields_below : len ≡ 6 → kind < 1 → field_fault mtu len kind num ≡ 2
  unfolding field_fault
  fields_below e h = rw (in_order_lem (field_faults mtu len kind num) refl, eq-eqb len 6 e, lt-leb 1 kind h)

  -- nor above.
  pub fields_above : len ≡ 6 → 3 < kind → field_fault mtu len kind num ≡ 2
  unfolding field_fault
  fields_above e h = rw (in_order_lem (field_faults mtu len kind num) refl, eq-eqb len 6 e, le-leb 1 kind (omega arith), lt-leb kind 3 h)

  -- A kind above is a fault at every length.
  pub fields_other : 3 < kind → field_fault mtu len kind num ≡ 2
  fields_other h = by_cases (split (len ≡? 6)) (λ e. fields_above e h) fields_length

  -- Kind 3 send (size 2), frame size 16 to mtu:
  fields_size : len ≡ 6 → kind ≡ 3 → test (size_ok num mtu) ≡ false → field_fault mtu len kind num ≡ 3
  unfolding field_fault
  fields_size e k h = rw (in_order_lem (field_faults mtu len kind num) refl, eq-eqb len 6 e, k, h)

  -- neither below
  pub fields_small : len ≡ 6 → kind ≡ 3 → num < 16 → field_fault mtu len kind num ≡ 3
  fields_small e k h = fields_size e k (sym (decided (size_ok num mtu) false (λ s. omega arith)))

  -- nor above.
  pub fields_large : len ≡ 6 → kind ≡ 3 → mtu < num → field_fault mtu len kind num ≡ 3
  fields_large e k h = fields_size e k (sym (decided (size_ok num mtu) false (λ s. omega arith)))

  -- A tick's amount is any.
  pub fields_tick : len ≡ 6 → 1 ≤ kind → kind < 3 → field_fault mtu len kind num ≡ 0
  unfolding field_fault
  fields_tick e h k =
      rw (in_order_lem (field_faults mtu len kind num) refl, eq-eqb len 6 e, le-leb 1 kind h, le-leb kind 3 (omega arith), ne_eqb kind 3 (λ q. omega arith))

  pub fields_send : len ≡ 6 → kind ≡ 3 → 16 ≤ num → num ≤ mtu → field_fault mtu len kind num ≡ 0
  unfolding field_fault
  fields_send e k h j =
      rw (in_order_lem (field_faults mtu len kind num) refl, eq-eqb len 6 e, k, passes (size_ok num mtu) (h, j))

-- ---- the fields of a run

module _ (len tick count : ℕ) where
  -- A run, length 10.
  pub run_length : (len ≡ 10 → ⊥) → run_field_fault len tick count ≡ 2
  unfolding run_field_fault
  run_length h = rw (in_order_lem (run_field_faults len tick count) refl, ne_eqb len 10 h)

  -- Tick kind 1 or 2: neither below
  pub run_below : len ≡ 10 → tick < 1 → run_field_fault len tick count ≡ 2
  unfolding run_field_fault
  run_below e h = rw (in_order_lem (run_field_faults len tick count) refl, eq-eqb len 10 e, lt-leb 1 tick h)

  -- nor above.
  pub run_above : len ≡ 10 → 2 < tick → run_field_fault len tick count ≡ 2
  unfolding run_field_fault
  run_above e h = rw (in_order_lem (run_field_faults len tick count) refl, eq-eqb len 10 e, le-leb 1 tick (omega arith), lt-leb tick 2 h)

  -- A count from 2 on.
  pub run_few : len ≡ 10 → 1 ≤ tick → tick ≤ 2 → count < 2 → run_field_fault len tick count ≡ 2
  unfolding run_field_fault
  run_few e h k c = rw (in_order_lem (run_field_faults len tick count) refl, eq-eqb len 10 e, le-leb 1 tick h, le-leb tick 2 k, lt-ltb count 2 c)

  pub run_good : len ≡ 10 → 1 ≤ tick → tick ≤ 2 → 2 ≤ count → run_field_fault len tick count ≡ 0
  unfolding run_field_fault
  run_good e h k c = rw (in_order_lem (run_field_faults len tick count) refl, eq-eqb len 10 e, le-leb 1 tick h, le-leb tick 2 k, le-ltb count 2 c)

-- what they are where none has a fault
pub record GoodRun (len tick count : ℕ) : Type 0 where
  pub ten : len ≡ 10
  pub first : 1 ≤ tick
  pub last : tick ≤ 2
  pub many : 2 ≤ count

module _ (len tick count : ℕ) where
  fault_or_run : (0 < run_field_fault len tick count) ⊎ GoodRun len tick count
  fault_or_run =
      by_cases (split (len ≡? 10))
      (λ s. by_cases (le_or 1 tick)
      (λ a. by_cases (le_or tick 2)
      (λ b. by_cases (le_or 2 count)
      (λ c. inr (record { ten = s; first = a; last = b; many = c }))
      (λ c. inl (omega (arith, run_few len tick count s a b c))))
      (λ b. inl (omega (arith, run_above len tick count s b))))
      (λ a. inl (omega (arith, run_below len tick count s a))))
      (λ s. inl (omega (arith, run_length len tick count s)))

  pub run_facts : run_field_fault len tick count ≡ 0 → GoodRun len tick count
  run_facts e = by_cases fault_or_run (λ f. absurd (omega arith)) (λ g. g)

-- ---- fields without a fault

-- what `good` tests, as facts
pub record Good (mtu len kind num : ℕ) : Type 0 where
  pub six : len ≡ 6
  pub first : 1 ≤ kind
  pub last : kind ≤ 3
  pub size : (kind < 3) ⊎ Holds (size_ok num mtu)

module _ (mtu len kind num : ℕ) where
  pub good_facts : test (good mtu len kind num) ≡ true → Good mtu len kind num
  good_facts e =
      let f = facts (good mtu len kind num) e in
      record { six = f.0; first = f.1.0.0; last = f.1.0.1; size = f.1.1 }

  pub facts_good : Good mtu len kind num → test (good mtu len kind num) ≡ true
  facts_good g = passes (good mtu len kind num) (g.six, ((g.first, g.last), g.size))

  -- fields have a fault or are good
  fault_or_good : (0 < field_fault mtu len kind num) ⊎ Good mtu len kind num
  fault_or_good =
      by_cases (split (len ≡? 6))
      (λ s. by_cases (le_or 1 kind)
      (λ a. by_cases (le_or kind 3)
      (λ b. by_cases (le_or 3 kind)
      (λ k. by_cases (le_or 16 num)
      (λ f. by_cases (le_or num mtu)
      (λ t. inr (record { six = s; first = a; last = b; size = inr (f, t) }))
      (λ t. inl (omega (arith, fields_large mtu len kind num s (omega arith) t))))
      (λ f. inl (omega (arith, fields_small mtu len kind num s (omega arith) f))))
      (λ k. inr (record { six = s; first = a; last = b; size = inl k })))
      (λ b. inl (omega (arith, fields_above mtu len kind num s b))))
      (λ a. inl (omega (arith, fields_below mtu len kind num s a))))
      (λ s. inl (omega (arith, fields_length mtu len kind num s)))

  pub free_facts : field_fault mtu len kind num ≡ 0 → Good mtu len kind num
  free_facts e = by_cases fault_or_good (λ f. absurd (omega arith)) (λ g. g)

  pub facts_free : Good mtu len kind num → field_fault mtu len kind num ≡ 0
  facts_free g =
      by_cases (le_or 3 kind)
      (λ k. ⊎_elim (λ t. absurd (omega arith)) (λ z. fields_send mtu len kind num g.six (omega arith) z.0 z.1) g.size)
      (λ k. fields_tick mtu len kind num g.six g.first k)

  -- `good` is true exactly when no fault applies
  pub good_exactly : (test (good mtu len kind num) ≡ true) ↔ (field_fault mtu len kind num ≡ 0)
  good_exactly = (λ e. facts_free (good_facts e), λ e. facts_good (free_facts e))

-- ---- the event of good fields

pub kinds : (k : ℕ) → 1 ≤ k → k ≤ 3 → (k ≡ 1) ⊎ ((k ≡ 2) ⊎ (k ≡ 3))
kinds k a b = by_cases (le_or k 1) (λ h. inl (omega arith)) (λ h. inr (by_cases (le_or k 2) (λ j. inl (omega arith)) (λ j. inr (omega arith))))

module _ (mtu len kind num : ℕ) (g : Good mtu len kind num) where
  -- its kind and number are those fields
  pub event_good : (kind_of (event_of kind num) ≡ kind) × (number_of (event_of kind num) ≡ num)
  event_good =
      by_cases (kinds kind g.first g.last) (λ e. rw (e, event_1 num) (refl, refl))
      (λ f. by_cases f (λ e. rw (e, event_2 num) (refl, refl)) (λ e. rw (e, event_3 num) (refl, refl)))

  -- and it is in range under any limits with that mtu: a number of two bytes is an amount
  pub valid_good : (l : Limits) → l.mtu ≡ mtu → num ≤ most_amount → Valid l (event_of kind num)
  valid_good l m h =
      by_cases (kinds kind g.first g.last) (λ e. rw (e, event_1 num) h)
      (λ f. by_cases f (λ e. rw (e, event_2 num) h)
      (λ e. rw (e, event_3 num) (⊎_elim (λ t. absurd (omega arith)) (λ z. (z.0, omega arith)) g.size)))

-- the fields of an event that is in range are good
pub good_event : (l : Limits) (e : Event) → Valid l e → Good l.mtu 6 (kind_of e) (number_of e)
good_event l (Waiting x) v = record { six = refl; first = omega arith; last = omega arith; size = inl (omega arith) }
good_event l (Idle x) v = record { six = refl; first = omega arith; last = omega arith; size = inl (omega arith) }
good_event l (Send z) v = record { six = refl; first = omega arith; last = omega arith; size = inr v }
