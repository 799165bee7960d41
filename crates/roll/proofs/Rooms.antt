-- What a mover answers and what it leaves of the room, for every output: bytes that fit, a room that is too short, a refusal.
-- Assumes nothing.
use Prim.Native.Nat.{ℕ, ◌+◌, ◌≤◌, ◌<◌}
use mathlib.Core.List.{List}
use mathlib.Core.Path.{◌≡◌, refl, sym, ap, ◌∙◌}
use native.Mathlib.Nat.{zero-add}
use native.Mathlib.Omega.{arith}
use borrow.Author.Tests.{le-leb, lt-leb}
use lib.ListN.{length, take, drop}
use lib.Seq.{take_at, drop_at}
use Rattle.std.specs.Prelude.{Ok, Err}
use Rattle.decide.specs.declared.refusal.Refusal.{Refusal}
use Rattle.decide.specs.Number.{number_in, refusal_of}
use Rattle.decide.proofs.Number.{number_told}
use Rattle.decide.proofs.Cases.{by_cases, le_or}
use Rattle.wire.specs.Wire.{put}
use Rattle.wire.proofs.Puts.{length_put}
use Rattle.roll.specs.Moved.{Moved, moved_number, Output, refused, bytes, moved_of, left_of}

-- ---- the rows

module _ (ys room : List ℕ) where
  -- The room is long enough: the output is written into it.
  pub row_written : length ys ≤ length room → (moved_of (bytes ys) room ≡ Ok (length ys)) × (left_of (bytes ys) room ≡ put room 0 ys)
  unfolding moved_of left_of
  row_written h = (rw (le-leb (length ys) (length room) h), rw (le-leb (length ys) (length room) h))

  -- Room too short is 12.
  pub row_short : length room < length ys → (moved_of (bytes ys) room ≡ Err (refusal_of 12)) × (left_of (bytes ys) room ≡ room)
  unfolding moved_of left_of
  row_short h = (rw (lt-leb (length ys) (length room) h), rw (lt-leb (length ys) (length room) h))

-- The record's fault comes first, whatever the room.
pub row_refused : (n : ℕ) (room : List ℕ) → (moved_of (refused n) room ≡ Err (refusal_of n)) × (left_of (refused n) room ≡ room)
unfolding moved_of left_of
row_refused n room = (refl, refl)

-- ---- by the answer

-- what a refusal says: the record's fault, or 12, of an output that the room does not hold
pub data WhyRefused (room : List ℕ) : Output → ℕ → Type 0 where
  by_record : {n : ℕ} → WhyRefused room (refused n) n
  too_short : {ys : List ℕ} → length room < length ys → WhyRefused room (bytes ys) 12

-- what bytes written are: the output stands at the front of the room, and the bytes behind it stay
pub record Wrote (room left : List ℕ) (o : Output) (n : ℕ) : Type 0 where
  pub output : List ℕ
  pub made : o ≡ bytes output
  pub counted : n ≡ length output
  pub fits : n ≤ length room
  pub front : take n left ≡ output
  pub behind : drop n left ≡ drop n room

-- bytes put at the front: they stand there, and those behind them stay
put_front : (room ys : List ℕ) → take (length ys) (put room 0 ys) ≡ ys
unfolding put
put_front room ys = take_at ys (drop (0 + length ys) room) (length ys) refl

put_behind : (room ys : List ℕ) → drop (length ys) (put room 0 ys) ≡ drop (length ys) room
unfolding put
put_behind room ys = drop_at ys (drop (0 + length ys) room) (length ys) refl ∙ rw zero-add

not_both : {m : ℕ} {r : Refusal} → ◌≡◌ {A = Moved} (Ok m) (Err r) → ⊥
not_both e = let z : ◌≡◌ {A = ℕ} 0 1 = cc in omega arith

module _ (room : List ℕ) where
  -- A refusal says why, and leaves the room.
  pub refused_why : (o : Output) (r : Refusal) → moved_of o room ≡ Err r → WhyRefused room o (number_in r) × (left_of o room ≡ room)
  refused_why (refused m) r e =
      let q : number_in r ≡ m = ap moved_number (sym e ∙ (row_refused m room).0) ∙ number_told m in
      (rw q by_record, (row_refused m room).1)
  refused_why (bytes ys) r e =
      by_cases (le_or (length ys) (length room))
      (λ h. absurd (not_both (sym (row_written ys room h).0 ∙ e)))
      (λ h. let q : number_in r ≡ 12 = ap moved_number (sym e ∙ (row_short ys room h).0) in (rw q (too_short h), (row_short ys room h).1))

  -- Work into lent room; bytes past the output stay.
  pub wrote : (o : Output) (n : ℕ) → moved_of o room ≡ Ok n → Wrote room (left_of o room) o n
  wrote (refused m) n e = absurd (not_both (sym e ∙ (row_refused m room).0))
  wrote (bytes ys) n e =
      by_cases (le_or (length ys) (length room))
      (λ h. let q : n ≡ length ys = cc (row_written ys room h).0 in
      rw ((row_written ys room h).1, q)
      (record {
        output = ys;
        made = refl;
        counted = refl;
        fits = h;
        front = put_front room ys;
        behind = put_behind room ys;
      }))
      (λ h. absurd (not_both (sym e ∙ (row_short ys room h).0)))

  -- the room is as long as before
  pub left_as_long : (o : Output) → length (left_of o room) ≡ length room
  left_as_long (refused n) = ap length (row_refused n room).1
  left_as_long (bytes ys) =
      by_cases (le_or (length ys) (length room))
      (λ h. ap length (row_written ys room h).1 ∙ length_put room ys 0 (omega arith))
      (λ h. ap length (row_short ys room h).1)
