-- What the movers' answers say: a refusal is its number alone and leaves the room; else bytes 4 to 7 are the bytes written, and these stand at its front.
-- Assumes nothing.
use Rattle.std.specs.Prelude.{Ok, Err}
use Prim.Native.Nat.{ℕ, zero, suc, ◌%◌, ◌≤◌, ◌<◌}
use mathlib.Core.Bool.{true, false}
use mathlib.Core.List.{List, []}
use mathlib.Core.Path.{◌≡◌, refl, ap, ◌∙◌}
use native.Mathlib.Omega.{arith}
use borrow.Author.Tests.{ne_eqb, le-ltb, lt-ltb}
use lib.ListN.{length}
use Rattle.decide.specs.Number.{number_in}
use Rattle.decide.proofs.Number.{number_told}
use Rattle.decide.specs.Refusal.{Fault, first_of, RefusedExactly}
use Rattle.decide.proofs.Cases.{by_cases, le_or}
use Rattle.decide.proofs.Given.{in_order_lem, refused_exactly}
use Rattle.wire.specs.Wire.{digits, put}
use Rattle.record.specs.Read.{Read, unreadable, whole, read_in}
use Rattle.roll.specs.Moved.{Moved, Output, bytes, rolled_read, rolled_bytes, unrolled_read, unrolled_bytes, moved_of, left_of}
use Rattle.roll.specs.Steps.{output_of}
use Rattle.roll.proofs.Rooms.{row_written, row_short, row_refused}
use Rattle.answer.specs.Bytes.{packed, written_bytes}
use Rattle.rpr.specs.Shape.{answer_of, after_of, Bears}
use Rattle.rpr.specs.Movers.{mover_rows, mover_answer, mover_after}
use Rattle.rpr.proofs.Shape.{most_number, refused_leaves}
use Rattle.rpr.proofs.Shape as Shape
use Rattle.rpr.proofs.Numbers.{OfTable, ReadNumbered, read_numbered}

-- ---- a refusal bears a number of the table

abbrev pub OutputNumbered : Output → Type 0
OutputNumbered (Output.refused n) = OfTable n
OutputNumbered (bytes ys) = Unit {0}

rolled_numbered : (r : Read) → ReadNumbered r → OutputNumbered (rolled_read r)
rolled_numbered (unreadable n) h = h
rolled_numbered (whole l es) h = tt

pub roll_numbered : (xs : List ℕ) → OutputNumbered (rolled_bytes xs)
unfolding rolled_bytes
roll_numbered xs = rolled_numbered (read_in false xs) (read_numbered false xs)

unrolled_numbered : (r : Read) → ReadNumbered r → OutputNumbered (unrolled_read r)
unrolled_numbered (unreadable n) h = h
unrolled_numbered (whole l es) h = tt

pub unroll_numbered : (xs : List ℕ) → OutputNumbered (unrolled_bytes xs)
unfolding unrolled_bytes
unroll_numbered xs = unrolled_numbered (read_in true xs) (read_numbered true xs)

-- ---- the rows

module _ (room : List ℕ) where
  -- the record's earliest fault
  pub row_fault : (n : ℕ) → 0 < n → first_of (mover_rows (Output.refused n) room) ≡ n
  row_fault n h = rw (in_order_lem (mover_rows (Output.refused n) room) refl, ne_eqb n 0 (λ e. omega arith))

  -- else 12 where the output does not fit
  pub row_no_room : (ys : List ℕ) → length room < length ys → first_of (mover_rows (bytes ys) room) ≡ 12
  row_no_room ys h = rw (in_order_lem (mover_rows (bytes ys) room) refl, lt-ltb (length room) (length ys) h)

  -- else none
  pub row_none : (ys : List ℕ) → length ys ≤ length room → first_of (mover_rows (bytes ys) room) ≡ 0
  row_none ys h = rw (in_order_lem (mover_rows (bytes ys) room) refl, le-ltb (length room) (length ys) h)

-- a call that is carried out
carried_on : (rows : List Fault) (said : ℕ) (old new : List ℕ) → first_of rows ≡ 0 → (said ≡ answer_of rows said) × (new ≡ after_of rows old new)
unfolding answer_of after_of
carried_on rows said old new e = Shape.taken_on (first_of rows) said old new e

-- ---- the code's answer is that of the rows

-- what the host is told
abbrev pub told_of : Moved → ℕ
told_of (Ok n) = packed (written_bytes n)
told_of (Err r) = number_in r

module _ (room : List ℕ) where
  pub mover_gives : (o : Output) → OutputNumbered o → (told_of (moved_of o room) ≡ mover_answer o room) × (left_of o room ≡ mover_after o room)
  mover_gives (Output.refused zero) h = absurd (omega arith)
  mover_gives (Output.refused (suc n)) h =
      let r = row_refused (suc n) room in
      let g = Shape.refused (mover_rows (Output.refused (suc n)) room) (packed (written_bytes 0)) room (put room 0 []) n (row_fault room (suc n) (omega arith)) in
      (ap told_of r.0 ∙ number_told (suc n) ∙ g.0, r.1 ∙ g.1)
  mover_gives (bytes ys) h =
      by_cases (le_or (length ys) (length room))
      (λ fits. let r = row_written ys room fits in
      let g = carried_on (mover_rows (bytes ys) room) (packed (written_bytes (length ys))) room (put room 0 ys) (row_none room ys fits) in
      (ap told_of r.0 ∙ g.0, r.1 ∙ g.1))
      (λ short. let r = row_short ys room short in
      let g = Shape.refused (mover_rows (bytes ys) room) (packed (written_bytes (length ys))) room (put room 0 ys) 11 (row_no_room room ys short) in
      (ap told_of r.0 ∙ g.0, r.1 ∙ g.1))

  numbers_most : (o : Output) → OutputNumbered o → first_of (mover_rows o room) ≤ most_number
  numbers_most (Output.refused zero) h = absurd (omega arith)
  numbers_most (Output.refused (suc n)) h = let e = row_fault room (suc n) (omega arith) in omega (arith, h.1)
  numbers_most (bytes ys) h =
      by_cases (le_or (length ys) (length room)) (λ f. omega (arith, row_none room ys f)) (λ f. omega (arith, row_no_room room ys f))

  -- Each refusal is its number alone and leaves the room.
  pub mover_leaves : (o : Output) → OutputNumbered o → Bears (first_of (mover_rows o room)) (mover_answer o room) × (0 < first_of (mover_rows o room) → mover_after o room ≡ room)
  unfolding digits
  mover_leaves o h = refused_leaves (mover_rows o room) (packed (written_bytes (length (output_of o)))) room (put room 0 (output_of o)) (numbers_most o h) (omega arith)

  -- A number is given exactly when its row applies and none before it does.
  pub mover_refused_exactly : (o : Output) → OutputNumbered o → RefusedExactly (mover_answer o room % 256) (mover_rows o room)
  mover_refused_exactly o h = refused_exactly (mover_rows o room) refl _ (mover_leaves o h).0.byte_0
