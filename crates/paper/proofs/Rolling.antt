-- A mover's answer, read by the host: its number is that of the refusal, or bytes 4 to 7 are the bytes written and these stand at the front of the room.
-- Assumes nothing.
use Rattle.std.specs.Prelude.{Ok, Err}
use Rattle.decide.specs.Number.{refusal_of}
use Rattle.decide.proofs.Number.{number_told, refused_alike}
use Prim.Native.Nat.{ℕ, ◌%◌, ◌≤◌, ◌<◌}
use mathlib.Core.Bool.{true, false}
use mathlib.Core.List.{List, [], ◌∷◌, ◌++◌}
use mathlib.Core.Logic.{◌↔◌}
use mathlib.Core.Path.{◌≡◌, refl, sym, ap, subst, ◌∙◌}
use native.Mathlib.Omega.{arith}
use lib.ListN.{length, take, drop, length-append}
use Rattle.decide.proofs.Cases.{by_cases, le_or}
use Rattle.wire.specs.Wire.{digits, Bytes}
use Rattle.shaper.specs.declared.Limits.{Limits}
use Rattle.shaper.specs.declared.Event.{Event}
use Rattle.record.specs.Record.{header_bytes, events_bytes, written}
use Rattle.record.specs.Items.{items_bytes, written_items, unrolled}
use Rattle.record.specs.Read.{Read, unreadable, whole, read_in}
use Rattle.record.proofs.Written.{length_written, items_read, written_read}
use Rattle.record.proofs.Wrote.{read_items_lem, read_written}
use Rattle.roll.specs.Rolled.{rolled}
use Rattle.roll.specs.Moved.{Output, bytes, rolled_read, rolled_bytes, unrolled_read, unrolled_bytes, moved_of, moved_number}
use Rattle.roll.specs.Exactly as exactly
use Rattle.roll.specs.Steps.{output_of}
use Rattle.roll.proofs.Rolled.{rolled_shorter}
use Rattle.roll.proofs.Rooms.{row_written, row_short, row_refused, wrote}
use Rattle.roll.proofs.Refusals.{roll_exactly, unroll_exactly}
use Rattle.answer.specs.Bytes.{packed, written_bytes}
use Rattle.answer.proofs.Bytes.{packed_bytes, packed_digits}
use Rattle.rpr.specs.Movers.{mover_answer, mover_after, roll_answer, roll_after, unroll_answer, unroll_after}
use Rattle.rpr.proofs.Movers.{OutputNumbered, roll_numbered, unroll_numbered, row_fault, row_no_room, row_none, mover_gives, mover_leaves}
use Rattle.paper.specs.Reasons as reasons
use Rattle.paper.specs.Reasons.{RollRefused, UnrollRefused}
use Rattle.paper.specs.First.{RefusesMover}
use Rattle.paper.specs.Movers.{Wrote, Leaves, Rolls, Unrolls}
use Rattle.paper.proofs.Reasons.{refuses_alone}
use Rattle.paper.proofs.Earliest.{causes, old_causes}

-- ---- an answer, by the output

module _ (room : List ℕ) where
  -- byte 0 is the number of the refusal,
  number_moved : (o : Output) → OutputNumbered o → (n : ℕ) → 0 < n → (mover_answer o room % 256 ≡ n) ↔ (moved_of o room ≡ Err (refusal_of n))
  number_moved (Output.refused m) h n p =
      let said : mover_answer (Output.refused m) room % 256 ≡ m = (mover_leaves room (Output.refused m) h).0.byte_0 ∙ row_fault room m h.0 in
      let row = (row_refused m room).0 in
      (λ e. row ∙ ap (λ k. Err (refusal_of k)) (sym said ∙ e), λ e. said ∙ refused_alike m n (sym row ∙ e))
  number_moved (bytes ys) h n p =
      by_cases (le_or (length ys) (length room))
      (λ fits. let said = (mover_leaves room (bytes ys) h).0.byte_0 ∙ row_none room ys fits in
      let row = (row_written ys room fits).0 in
      (λ e. absurd (omega (arith, said, e)), λ e. absurd (let z : ◌≡◌ {A = ℕ} 0 1 = cc in omega arith)))
      (λ short. let said = (mover_leaves room (bytes ys) h).0.byte_0 ∙ row_no_room room ys short in
      let row = (row_short ys room short).0 in
      (λ e. row ∙ ap (λ k. Err (refusal_of k)) (sym said ∙ e), λ e. said ∙ refused_alike 12 n (sym row ∙ e)))

  -- and 0 where it is carried out
  zero_moved : (o : Output) → OutputNumbered o → mover_answer o room % 256 ≡ 0 → moved_of o room ≡ Ok (length (output_of o))
  zero_moved (Output.refused m) h z = absurd (omega (arith, h.0, (mover_leaves room (Output.refused m) h).0.byte_0, row_fault room m h.0))
  zero_moved (bytes ys) h z =
      by_cases (le_or (length ys) (length room))
      (λ fits. (row_written ys room fits).0)
      (λ short. absurd (omega (arith, (mover_leaves room (bytes ys) h).0.byte_0, row_no_room room ys short)))

-- ---- the bytes of an answer

written_bytes_lem : (n : ℕ) → digits 8 (packed (written_bytes n)) ≡ (0 ∷ 0 ∷ 0 ∷ 0 ∷ []) ++ digits 4 n
unfolding digits
written_bytes_lem n = packed_bytes (written_bytes n) (omega arith)

-- a number stands in four bytes once
pub once : (m n : ℕ) → m < 4294967296 → n < 4294967296 → digits 4 m ≡ digits 4 n → m ≡ n
once m n p q e = sym (packed_digits 4 m p) ∙ ap packed e ∙ packed_digits 4 n q

-- byte 0 of what was written is 0
pub first_zero : (answer n : ℕ) → Wrote answer n → answer % 256 ≡ 0
unfolding digits
first_zero answer n w = let e = w.bytes in cc

-- bytes 4 to 7
last_four : (m n : ℕ) → (0 ∷ 0 ∷ 0 ∷ 0 ∷ []) ++ digits 4 m ≡ (0 ∷ 0 ∷ 0 ∷ 0 ∷ []) ++ digits 4 n → digits 4 m ≡ digits 4 n
last_four m n e = cc

-- what a mover wrote, n bytes of it
pub record OutputWritten (o : Output) (room after : List ℕ) (n : ℕ) : Type 0 where
  pub output : List ℕ
  pub made : o ≡ bytes output
  pub counted : n ≡ length output
  pub fits : n ≤ length room
  pub front : take n after ≡ output

module _ (o : Output) (h : OutputNumbered o) (room : List ℕ) where
  moved_told : moved_of o room ≡ Ok (length (output_of o)) → mover_answer o room ≡ packed (written_bytes (length (output_of o)))
  moved_told e = sym (mover_gives room o h).0 ∙ rw e

  wrote_moved : length (output_of o) < 4294967296 → (n : ℕ) → Wrote (mover_answer o room) n → moved_of o room ≡ Ok n
  wrote_moved few n w =
      let m = zero_moved room o h (first_zero (mover_answer o room) n w) in
      let k = length (output_of o) in
      let same = once n k w.fits few (last_four n k (sym w.bytes ∙ ap (digits 8) (moved_told m) ∙ written_bytes_lem k)) in
      m ∙ ap Ok (sym same)

  written_out : length (output_of o) < 4294967296 → (n : ℕ) → Wrote (mover_answer o room) n → OutputWritten o room (mover_after o room) n
  written_out few n w =
      let t = wrote room o n (wrote_moved few n w) in
      record { output = t.output; made = t.made; counted = t.counted; fits = t.fits; front = ap (take n) (sym (mover_gives room o h).1) ∙ t.front }

-- bytes that fit the room are written
leaves_moved : (o : Output) (ys room : List ℕ) → o ≡ bytes ys → length ys < 4294967296 → length ys ≤ length room
    → Leaves ys room (mover_answer o room) (mover_after o room)
leaves_moved o ys room e few fits = rw e leaves
  where
    leaves : Leaves ys room (mover_answer (bytes ys) room) (mover_after (bytes ys) room)
    leaves =
        let row = (row_written ys room fits).0 in
        let t = wrote room (bytes ys) (length ys) row in
        let same : t.output ≡ ys = cc t.made in
        let after = sym (mover_gives room (bytes ys) tt).1 in
        record {
          counted = record { bytes = ap (digits 8) (moved_told (bytes ys) tt room row) ∙ written_bytes_lem (length ys); fits = few };
          front = ap (take (length ys)) after ∙ t.front ∙ same;
          behind = ap (drop (length ys)) after ∙ t.behind;
        }

-- ---- at most 6,000,014 bytes

pub old_few : (l : Limits) (es : List Event) → length es ≤ 1000000 → length (written l es) < 4294967296
old_few l es few = omega (arith, length_written l es)

-- the new form is never longer than the old one
pub new_shorter : (l : Limits) (es : List Event) → length (written_items l (rolled es)) ≤ length (written l es)
new_shorter l es = omega (arith, rolled_shorter es, length-append (header_bytes l) (items_bytes (rolled es)), length-append (header_bytes l) (events_bytes es))

roll_few : (xs : List ℕ) → Bytes xs → length (output_of (rolled_bytes xs)) < 4294967296
unfolding rolled_bytes
roll_few xs b = by (read_in false xs) refl
  where
    by : (r : Read) → read_in false xs ≡ r → length (output_of (rolled_read r)) < 4294967296
    by (unreadable n) e = omega arith
    by (whole l es) e = omega (arith, new_shorter l es, old_few l es (read_written xs l es b e).1.few)

unroll_few : (xs : List ℕ) → Bytes xs → length (output_of (unrolled_bytes xs)) < 4294967296
unfolding unrolled_bytes
unroll_few xs b = by (read_in true xs) refl
  where
    by : (r : Read) → read_in true xs ≡ r → length (output_of (unrolled_read r)) < 4294967296
    by (unreadable n) e = omega arith
    by (whole l es) e = let w = read_items_lem true xs l es b e in old_few l es (rw w.gives w.formed.few)

-- ---- carried out

pub roll_leaves : (xs ys room : List ℕ) → rolled_bytes xs ≡ bytes ys → length ys < 4294967296 → length ys ≤ length room
    → Leaves ys room (roll_answer xs room) (roll_after xs room)
unfolding roll_answer roll_after
roll_leaves xs ys room e few fits = leaves_moved (rolled_bytes xs) ys room e few fits

pub unroll_leaves : (xs ys room : List ℕ) → unrolled_bytes xs ≡ bytes ys → length ys < 4294967296 → length ys ≤ length room
    → Leaves ys room (unroll_answer xs room) (unroll_after xs room)
unfolding unroll_answer unroll_after
unroll_leaves xs ys room e few fits = leaves_moved (unrolled_bytes xs) ys room e few fits

module _ (xs room : List ℕ) (b : Bytes xs) where
  pub roll_out : (n : ℕ) → Wrote (roll_answer xs room) n → OutputWritten (rolled_bytes xs) room (roll_after xs room) n
  unfolding roll_answer roll_after
  roll_out n w = written_out (rolled_bytes xs) (roll_numbered xs) room (roll_few xs b) n w

  pub unroll_out : (n : ℕ) → Wrote (unroll_answer xs room) n → OutputWritten (unrolled_bytes xs) room (unroll_after xs room) n
  unfolding unroll_answer unroll_after
  unroll_out n w = written_out (unrolled_bytes xs) (unroll_numbered xs) room (unroll_few xs b) n w

  pub rolls_only : roll_answer xs room % 256 ≡ 0 → Rolls xs room
  unfolding roll_answer
  rolls_only z =
      let c = ((roll_exactly xs room b).written_exactly _).0 (zero_moved room (rolled_bytes xs) (roll_numbered xs) z) in
      let w = read_written xs c.limits c.events b c.reads in
      record { limits = c.limits; events = c.events; bytes = w.0; formed = w.1; fits = c.fits }

  pub unrolls_only : unroll_answer xs room % 256 ≡ 0 → Unrolls xs room
  unfolding unroll_answer
  unrolls_only z =
      let c = ((unroll_exactly xs room b).written_exactly _).0 (zero_moved room (unrolled_bytes xs) (unroll_numbered xs) z) in
      let w = read_items_lem true xs c.limits c.events b c.reads in
      record { limits = c.limits; items = w.items; bytes = w.same; formed = w.formed; fits = rw (← w.gives) c.fits }

-- ---- refused

module _ (xs room : List ℕ) (b : Bytes xs) where
  roll_named : {n : ℕ} → 0 < n → exactly.Refuses false exactly.new_form xs room n → RollRefused xs room n
  roll_named {n} p (exactly.earliest c) = reasons.RollRefused.earliest ((old_causes xs n p).0 c)
  roll_named p (exactly.no_room s) =
      let w = read_written xs s.limits s.events b s.reads in
      reasons.RollRefused.no_room s.limits s.events w.0 w.1 s.shorter refl

  roll_caused : {n : ℕ} → 0 < n → RollRefused xs room n → exactly.Refuses false exactly.new_form xs room n
  roll_caused {n} p (reasons.RollRefused.earliest c) = exactly.earliest ((old_causes xs n p).1 c)
  roll_caused p (reasons.RollRefused.no_room l es e w short twelve) =
      rw twelve (exactly.no_room (record { limits = l; events = es; reads = ap (read_in false) e ∙ written_read false l es w; shorter = short }))

  unroll_named : {n : ℕ} → 0 < n → exactly.Refuses true written xs room n → UnrollRefused xs room n
  unroll_named {n} p (exactly.earliest c) = reasons.UnrollRefused.earliest ((causes xs n p).0 c)
  unroll_named p (exactly.no_room s) =
      let w = read_items_lem true xs s.limits s.events b s.reads in
      reasons.UnrollRefused.no_room s.limits w.items w.same w.formed (rw (← w.gives) s.shorter) refl

  unroll_caused : {n : ℕ} → 0 < n → UnrollRefused xs room n → exactly.Refuses true written xs room n
  unroll_caused {n} p (reasons.UnrollRefused.earliest c) = exactly.earliest ((causes xs n p).1 c)
  unroll_caused p (reasons.UnrollRefused.no_room l is e f short twelve) =
      rw twelve (exactly.no_room (record { limits = l; events = unrolled is; reads = ap (read_in true) e ∙ items_read true l is f; shorter = short }))

  -- a mover whose output is o refuses for these reasons
  refuses_for : (o : Output) → OutputNumbered o → {given : ℕ → Type 0}
      → ((n : ℕ) → 0 < n → (moved_number (moved_of o room) ≡ n → given n) × (given n → moved_of o room ≡ Err (refusal_of n)))
      → RefusesMover given (mover_answer o room) room (mover_after o room)
  refuses_for o h why =
      let leaves = mover_leaves room o h in
      record {
        number = λ n p.
            let told = number_moved room o h n p in
            (λ e. (why n p).0 (ap moved_number (told.0 e) ∙ number_told n), λ c. told.1 ((why n p).1 c));
        alone = refuses_alone leaves.0;
        stays = λ p. leaves.1 (subst (λ (n : ℕ). 0 < n) leaves.0.byte_0 p);
      }

  pub refuses_roll : RefusesMover (RollRefused xs room) (roll_answer xs room) room (roll_after xs room)
  unfolding roll_answer roll_after
  refuses_roll =
      refuses_for (rolled_bytes xs) (roll_numbered xs)
      (λ n p. let why = (roll_exactly xs room b).refused_exactly n p in (λ e. roll_named p (why.0 e), λ c. why.1 (roll_caused p c)))

  pub refuses_unroll : RefusesMover (UnrollRefused xs room) (unroll_answer xs room) room (unroll_after xs room)
  unfolding unroll_answer unroll_after
  refuses_unroll =
      refuses_for (unrolled_bytes xs) (unroll_numbered xs)
      (λ n p. let why = (unroll_exactly xs room b).refused_exactly n p in (λ e. unroll_named p (why.0 e), λ c. why.1 (unroll_caused p c)))
