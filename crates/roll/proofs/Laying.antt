-- Bytes that are laid one behind the other: an item by its fields, and so many equal events one by one.
-- Assumes nothing.
use Prim.Native.Nat.{ℕ, zero, suc, ◌+◌, ◌*◌, ◌-◌, ◌/◌, ◌%◌, ◌≤◌, ◌<◌}
use mathlib.Core.List.{List, [], ◌∷◌, append-nil}
use mathlib.Core.Path.{◌≡◌, refl, sym, ap, ◌∙◌}
use native.Mathlib.Omega.{arith}
use borrow.Author.Tests.{eq-eqb, ne_eqb}
use lib.ListN.{length, drop, length-append}
use Rattle.decide.specs.Test.{◌≡?◌, split}
use Rattle.decide.proofs.Cases.{by_cases}
use Rattle.wire.specs.Wire.{le, digits, put, Bytes}
use Rattle.wire.specs.Parts.{number, length_laid_out}
use Rattle.wire.proofs.Numbers.{le_drop, le_halves, put_digits, digits_mod}
use Rattle.wire.proofs.Puts.{put_put}
use Rattle.record.specs.Read.{item_kind, item_number, item_count}
use Rattle.record.proofs.Rows.{run_at, run_not_at, told_event, told_run}
use Rattle.roll.specs.Steps.{event_fields, run_fields, item_fields, item_length, repeated_fields, item_bytes}

-- ---- a word, of two numbers

-- put, it is its halves one behind the other;
pub word_put : (xs : List ℕ) (at v : ℕ) → at + 4 ≤ length xs → put xs at (digits 4 v) ≡ put (put xs at (digits 2 (v % 65536))) (at + 2) (digits 2 (v / 65536))
word_put xs at v h = rw (digits_mod 2 v) (sym (put_digits 2 2 xs at v h))

-- read, it is the two numbers that it stands for
pub word_read : (xs : List ℕ) (at next w k v : ℕ) → Bytes xs → next ≡ at + 2 → w ≡ le 4 xs at → k ≡ le 2 xs at → v ≡ le 2 xs next → (w % 65536 ≡ k) × (w / 65536 ≡ v)
word_read xs at next w k v b n e ek ev =
    let h = le_halves xs at b in
    (ap (λ (x : ℕ). x % 65536) e ∙ h.0 ∙ sym ek, ap (λ (x : ℕ). x / 65536) e ∙ h.1 ∙ sym (rw n at ev))

-- ---- an item

module _ (kind num count : ℕ) where
  -- one event alone is a plain event,
  pub item_one : count ≡ 1 → (item_length count ≡ 6) × (item_fields kind num count ≡ event_fields kind num)
  unfolding item_length item_fields
  item_one e = rw (eq-eqb count 1 e) (refl, refl)

  -- and more are a run
  pub item_more : (count ≡ 1 → ⊥) → (item_length count ≡ 10) × (item_fields kind num count ≡ run_fields kind num count)
  unfolding item_length item_fields
  item_more e = rw (ne_eqb count 1 e) (refl, refl)

-- ---- so many events, one by one

pub length_fields : (kind num : ℕ) → length (event_fields kind num) ≡ 6
length_fields kind num = length_laid_out (number 2 6 ∷ number 2 kind ∷ number 2 num ∷ [])

pub length_repeated : (count kind num : ℕ) → length (repeated_fields count kind num) ≡ 6 * count
unfolding repeated_fields
length_repeated zero kind num = refl
length_repeated (suc count) kind num =
    omega (arith, length-append (event_fields kind num) (repeated_fields count kind num), length_fields kind num, length_repeated count kind num)

-- one of them put, and then those that are left
pub repeated_more : (xs : List ℕ) (end left kind num : ℕ) → 0 < left → end + 6 * left ≤ length xs →
    put (put xs end (event_fields kind num)) (end + 6) (repeated_fields (left - 1) kind num) ≡ put xs end (repeated_fields left kind num)
unfolding repeated_fields
repeated_more xs end zero kind num h room = absurd (omega arith)
repeated_more xs end (suc m) kind num h room =
    let one : suc m - 1 ≡ m = omega arith in
    rw one
    (put_put xs (event_fields kind num) (repeated_fields m kind num) end (end + 6)
    (omega (arith, length_fields kind num))
    (omega (arith, length_repeated m kind num)))

-- ---- an item at a place, by its fields

-- a run: tick kind, amount and count,
pub record RunFields (xs : List ℕ) (at : ℕ) : Type 0 where
  pub size : item_bytes xs at ≡ 10
  pub kind : item_kind (drop at xs) ≡ le 2 xs (at + 4)
  pub number : item_number (drop at xs) ≡ le 2 xs (at + 6)
  pub count : item_count (drop at xs) ≡ le 2 xs (at + 8)

pub run_fields_lem : (xs : List ℕ) (at : ℕ) → le 2 xs (at + 2) ≡ 4 → RunFields xs at
unfolding item_bytes
run_fields_lem xs at e =
    let r = run_at xs at e in
    let t = told_run (drop at xs) r in
    record { size = rw r; kind = t.kind ∙ le_drop 2 at xs 4; number = t.number ∙ le_drop 2 at xs 6; count = t.count ∙ le_drop 2 at xs 8 }

-- or an event, for one
pub record EventFields (xs : List ℕ) (at : ℕ) : Type 0 where
  pub size : item_bytes xs at ≡ 6
  pub kind : item_kind (drop at xs) ≡ le 2 xs (at + 2)
  pub number : item_number (drop at xs) ≡ le 2 xs (at + 4)
  pub count : item_count (drop at xs) ≡ 1

pub event_fields_lem : (xs : List ℕ) (at : ℕ) → (le 2 xs (at + 2) ≡ 4 → ⊥) → EventFields xs at
unfolding item_bytes
event_fields_lem xs at e =
    let r = run_not_at xs at e in
    let t = told_event (drop at xs) r in
    record { size = rw r; kind = t.kind ∙ le_drop 2 at xs 2; number = t.number ∙ le_drop 2 at xs 4; count = t.count }

-- at least 6 bytes
pub item_least : (xs : List ℕ) (at : ℕ) → 6 ≤ item_bytes xs at
item_least xs at = by_cases (split (le 2 xs (at + 2) ≡? 4)) (λ e. omega (arith, (run_fields_lem xs at e).size)) (λ e. omega (arith, (event_fields_lem xs at e).size))

-- one event, one by one
pub repeated_one : (kind num : ℕ) → repeated_fields 1 kind num ≡ event_fields kind num
unfolding repeated_fields
repeated_one kind num = append-nil (event_fields kind num)
