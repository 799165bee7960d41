-- The fault at a place, row by row, and what stands there where it has none.
-- Assumes nothing.
use Prim.Native.Nat.{ℕ, zero, suc, ◌+◌, ◌≤◌, ◌<◌}
use mathlib.Core.Bool.{Bool, true, false, cond, ◌&&◌}
use mathlib.Core.Logic.{◌⊎◌, inl, inr}
use mathlib.Core.List.{List, ◌∷◌}
use mathlib.Core.Path.{◌≡◌, refl, sym, ap, ◌∙◌}
use native.Mathlib.Omega.{arith}
use native.Mathlib.Nat.{add-zero}
use borrow.Author.Tests.{le-leb, lt-leb, le-ltb, lt-ltb, eq-eqb, ne_eqb}
use lib.Dec.{eqb}
use lib.ListN.{length, drop}
use Rattle.std.specs.Prelude.{Some, Ok, Err}
use Rattle.decide.specs.declared.refusal.Refusal.{Refusal}
use Rattle.decide.specs.Number.{number_in, refusal_of}
use Rattle.decide.proofs.Number.{number_told}
use Rattle.decide.specs.Test.{◌≡?◌, split}
use Rattle.decide.specs.Refusal.{Fault, fault, First, nothing, row, first, first_of}
use Rattle.decide.proofs.Cases.{by_cases, le_or, true_or_false}
use Rattle.wire.specs.Wire.{le}
use Rattle.wire.proofs.Numbers.{le_drop}
use Rattle.record.specs.Read.{length_at, field_fault, is_run, run_field_fault, item_faults, item_kind, item_number, item_count}
use Rattle.record.specs.declared.Placed.{Placed}
use Rattle.record.specs.Step.{item_at, placed}
use Rattle.record.proofs.Fields.{fields_length, fields_below, fields_above, fields_small, fields_large, fields_tick, fields_send, run_length, run_below, run_above, run_few, run_good}
use Rattle.record.proofs.Rows.{Told, told_event, event_fields_at, event_cut, run_fields_at, run_cut, free_stands, item_faulty}
use Rattle.record.proofs.Steps.{Stood, step_stands, step_faulty}
use Rattle.excerpt.specs.declared.Place.{Place}
use Rattle.excerpt.specs.Place.{bytes_from, place_faults}

-- ---- rows

-- 2 goes before all else
two_first : (fs : List Fault) → first_of (fault 2 true ∷ fs) ≡ 2
unfolding first_of first
two_first fs = by (first fs) refl
  where
    by : (f : First) → first fs ≡ f → first_of (fault 2 true ∷ fs) ≡ 2
    by nothing e = rw e
    by (row g) e = rw (e, le-leb 0 g.rank (omega arith))

-- a row that does not apply does not count
skipped : (n : ℕ) (fs : List Fault) → first_of (fault n false ∷ fs) ≡ first_of fs
unfolding first_of first
skipped n fs = refl

module _ (mtu : ℕ) (xs : List ℕ) (p : Place) where
  -- a byte before 14
  pub fault_early : p.at < 14 → first_of (place_faults mtu xs p) ≡ 2
  fault_early h = rw (lt-ltb p.at 14 h) (two_first _)

  -- as many events before it as the item has
  pub fault_gone : item_count (bytes_from xs p) ≤ p.gone → first_of (place_faults mtu xs p) ≡ 2
  fault_gone h =
      by_cases (le_or 14 p.at)
      (λ k. rw (le-ltb p.at 14 k) (skipped 2 _ ∙ rw (le-leb (item_count (bytes_from xs p)) p.gone h) (two_first _)))
      fault_early

  -- then the item's own
  pub fault_item : 14 ≤ p.at → p.gone < item_count (bytes_from xs p) → first_of (place_faults mtu xs p) ≡ first_of (item_faults true mtu (bytes_from xs p))
  fault_item k h = rw (le-ltb p.at 14 k, lt-leb (item_count (bytes_from xs p)) p.gone h) (skipped 2 _ ∙ skipped 2 _)

-- behind the record's end an item is cut short
pub item_none : (mtu : ℕ) (xs : List ℕ) (at : ℕ) → length xs ≤ at → first_of (item_faults true mtu (drop at xs)) ≡ 2
item_none mtu xs at h =
    by_cases (true_or_false (true && is_run (drop at xs))) (λ r. run_cut true mtu xs at r (omega arith)) (λ r. event_cut true mtu xs at r (omega arith))

-- ---- what stands at a byte

-- an item without a fault, for c events of kind k and number v; the next begins behind its stated length
pub record Standing (mtu : ℕ) (xs : List ℕ) (at k v c next : ℕ) : Type 0 where
  pub stood : Stood true mtu xs at k v c next
  pub told : Told (drop at xs) k v c
  pub behind : at + length_at (drop at xs) ≡ next

module _ (mtu : ℕ) (xs : List ℕ) (at : ℕ) where
  length_there : length_at (drop at xs) ≡ le 2 xs at
  length_there = simp (le_drop, add-zero)

  pub standing : (k v c next : ℕ) → item_at true mtu xs at ≡ Ok (Some (placed k v c next)) → Standing mtu xs at k v c next
  standing k v c next e =
      let s = step_stands true mtu xs at k v c next e in
      let f = free_stands true mtu xs at (omega (arith, s.further, s.fits)) s.free in
      let same : placed k v c next ≡ placed (item_kind (drop at xs)) (item_number (drop at xs)) (item_count (drop at xs)) (at + le 2 xs at) = cc (sym e ∙ f) in
      record {
        stood = s;
        told = record { kind = sym (ap (λ (i : Placed). i.kind) same); number = sym (ap (λ (i : Placed). i.number) same); count = sym (ap (λ (i : Placed). i.count) same) };
        behind = rw length_there (sym (ap (λ (i : Placed). i.next) same));
      }

  -- a fault there is the item's own, by its number
  pub faulty_there : (r : Refusal) → item_at true mtu xs at ≡ Err r → first_of (item_faults true mtu (drop at xs)) ≡ number_in r
  faulty_there r e = by (first_of (item_faults true mtu (drop at xs))) refl
    where
      by : (m : ℕ) → first_of (item_faults true mtu (drop at xs)) ≡ m → first_of (item_faults true mtu (drop at xs)) ≡ number_in r
      by zero f = absurd (let z : ◌≡◌ {A = ℕ} 0 1 = cc (free_stands true mtu xs at (step_faulty true mtu xs at r e).some f) in omega arith)
      by (suc m) f =
          let g : refusal_of (suc m) ≡ r = cc (sym (item_faulty true mtu xs at (suc m) (step_faulty true mtu xs at r e).some f (λ z. omega arith)) ∙ e) in
          f ∙ sym (number_told (suc m)) ∙ ap number_in g

-- ---- which faults an item has

fields_told : (mtu len kind num : ℕ) → (field_fault mtu len kind num ≡ 0) ⊎ ((field_fault mtu len kind num ≡ 2) ⊎ ((field_fault mtu len kind num ≡ 3) × (len ≡ 6)))
fields_told mtu len kind num =
    by_cases (split (len ≡? 6))
    (λ s. by_cases (le_or 1 kind)
    (λ a. by_cases (le_or kind 3)
    (λ b. by_cases (le_or 3 kind)
    (λ k. by_cases (le_or 16 num)
    (λ f. by_cases (le_or num mtu)
    (λ t. inl (fields_send mtu len kind num s (omega arith) f t))
    (λ t. inr (inr (fields_large mtu len kind num s (omega arith) t, s))))
    (λ f. inr (inr (fields_small mtu len kind num s (omega arith) f, s))))
    (λ k. inl (fields_tick mtu len kind num s a k)))
    (λ b. inr (inl (fields_above mtu len kind num s b))))
    (λ a. inr (inl (fields_below mtu len kind num s a))))
    (λ s. inr (inl (fields_length mtu len kind num s)))

run_fields_told : (len tick count : ℕ) → (run_field_fault len tick count ≡ 0) ⊎ (run_field_fault len tick count ≡ 2)
run_fields_told len tick count =
    by_cases (split (len ≡? 10))
    (λ s. by_cases (le_or 1 tick)
    (λ a. by_cases (le_or tick 2)
    (λ b. by_cases (le_or 2 count) (λ c. inl (run_good len tick count s a b c)) (λ c. inr (run_few len tick count s a b c)))
    (λ b. inr (run_above len tick count s b)))
    (λ a. inr (run_below len tick count s a)))
    (λ s. inr (run_length len tick count s))

-- a fault that is not 2: a send's size, and nothing else
pub record SizeAlone (xs : List ℕ) (at n : ℕ) : Type 0 where
  pub three : n ≡ 3
  pub one : item_count (drop at xs) ≡ 1
  pub six : length_at (drop at xs) ≡ 6
  pub there : at + 6 ≤ length xs

pub item_told : (mtu : ℕ) (xs : List ℕ) (at n : ℕ) → first_of (item_faults true mtu (drop at xs)) ≡ n → 0 < n → (n ≡ 2) ⊎ SizeAlone xs at n
item_told mtu xs at n e h =
    by_cases (true_or_false (true && is_run (drop at xs)))
    (λ r. by_cases (le_or (at + 10) (length xs))
    (λ k. by_cases (run_fields_told (le 2 xs at) (le 2 xs (at + 4)) (le 2 xs (at + 8)))
    (λ z. absurd (omega (arith, run_fields_at true mtu xs at r k)))
    (λ z. inl (omega (arith, run_fields_at true mtu xs at r k))))
    (λ k. inl (omega (arith, run_cut true mtu xs at r k))))
    (λ r. by_cases (le_or (at + 6) (length xs))
    (λ k. by_cases (fields_told mtu (le 2 xs at) (le 2 xs (at + 2)) (le 2 xs (at + 4)))
    (λ z. absurd (omega (arith, event_fields_at true mtu xs at r k)))
    (λ f. by_cases f (λ z. inl (omega (arith, event_fields_at true mtu xs at r k)))
    (λ z. inr (record {
      three = omega (arith, event_fields_at true mtu xs at r k, z.0);
      one = (told_event (drop at xs) r).count;
      six = length_there mtu xs at ∙ z.1;
      there = k;
    }))))
    (λ k. inl (omega (arith, event_cut true mtu xs at r k))))

-- the fault at a place whose item has one: 2 unless it is a send's size, and its first event is asked for
pub fault_there : (mtu : ℕ) (xs : List ℕ) (at gone n : ℕ) → 14 ≤ at → first_of (item_faults true mtu (drop at xs)) ≡ n → 0 < n →
    first_of (place_faults mtu xs (record { at = at; gone = gone })) ≡ cond (eqb gone 0) n 2
fault_there mtu xs at gone n late e h =
    by_cases (le_or (item_count (drop at xs)) gone)
    (λ g. fault_gone mtu xs (record { at = at; gone = gone }) g
    ∙ by_cases (item_told mtu xs at n e h) (λ two. rw two (same (eqb gone 0)))
    (λ s. rw (ne_eqb gone 0 (λ z. omega (arith, s.one)))))
    (λ g. fault_item mtu xs (record { at = at; gone = gone }) late g ∙ e
    ∙ by_cases (item_told mtu xs at n e h) (λ two. rw two (same (eqb gone 0)))
    (λ s. rw (eq-eqb gone 0 (omega (arith, s.one)))))
  where
    same : (b : Bool) → ◌≡◌ {A = ℕ} 2 (cond b 2 2)
    same true = refl
    same false = refl
