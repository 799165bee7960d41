-- What a record's summary tells a mover: it is read whole, under the summary's settings, and has as many events; or its refusal is the mover's.
-- Assumes nothing.
use Prim.Native.Nat.{ℕ, ◌≤◌, ◌<◌}
use mathlib.Core.Bool.{Bool, true, false}
use mathlib.Core.List.{List}
use mathlib.Core.Path.{◌≡◌, refl, ap, ◌∙◌}
use native.Mathlib.Omega.{arith}
use lib.ListN.{length}
use Rattle.std.specs.Prelude.{Ok, Err}
use Rattle.decide.specs.Number.{refusal_of}
use Rattle.decide.specs.declared.refusal.Refusal.{Refusal}
use Rattle.shaper.specs.declared.Limits.{Limits}
use Rattle.wire.specs.Wire.{put, Bytes}
use Rattle.summary.specs.declared.Summary.{Summary}
use Rattle.summary.proofs.Promises.{summary_limits, summary_events}
use Rattle.record.specs.Items.{unrolled}
use Rattle.record.specs.Read.{Read, unreadable, whole, read_in}
use Rattle.record.proofs.Written.{items_read}
use Rattle.account.specs.Account.{summarized, summarize_in}
use Rattle.account.proofs.Promises.{summarized_written}
use Rattle.roll.specs.Moved.{Output, bytes, rolled_read, rolled_bytes, unrolled_read, unrolled_bytes, moved_of, left_of}
use Rattle.roll.specs.Steps.{Reads, output_of}
use Rattle.roll.proofs.Rooms.{row_written, row_short, row_refused}

-- ---- the record

-- a record that has a summary
pub record Summed (runs : Bool) (xs : List ℕ) (s : Summary) : Type 0 where
  pub reads : Reads runs xs s.limits
  pub counts : s.events ≡ length reads.events

-- under equal settings
same_limits_lem : (runs : Bool) (xs : List ℕ) (s : Summary) (l : Limits) (r : Reads runs xs l) → s.limits ≡ l → s.events ≡ length r.events → Summed runs xs s
same_limits_lem runs xs s l r e n = record { reads = record { events = r.events; reads = rw e r.reads }; counts = n }

pub summed : (runs : Bool) (xs : List ℕ) (s : Summary) → Bytes xs → summarize_in runs xs ≡ Ok s → Summed runs xs s
summed runs xs s b h =
    let a = summarized_written runs xs s b h in
    let l = a.settings in
    let es = unrolled a.items in
    same_limits_lem runs xs s l (record { events = es; reads = ap (read_in runs) a.bytes ∙ items_read runs l a.items a.formed })
    (ap (λ (q : Summary). q.limits) a.sums ∙ summary_limits l a.formed.settings es)
    (ap (λ (q : Summary). q.events) a.sums ∙ summary_events l a.formed.settings es)

-- ---- the answer

module _ (o : Output) (room ys : List ℕ) (e : o ≡ bytes ys) where
  pub told_short : length room < length ys → (moved_of o room ≡ Err (refusal_of 12)) × (left_of o room ≡ room)
  told_short h = rw e (row_short ys room h)

  pub told_written : length ys ≤ length room → (moved_of o room ≡ Ok (length ys)) × (left_of o room ≡ put room 0 ys)
  told_written h = rw e (row_written ys room h)

-- a refusal of the record: it is that of its number
pub record Unread (runs : Bool) (xs : List ℕ) (r : Refusal) : Type 0 where
  pub number : ℕ
  pub reads : read_in runs xs ≡ unreadable number
  pub told : refusal_of number ≡ r

pub unread : (runs : Bool) (xs : List ℕ) (r : Refusal) → summarize_in runs xs ≡ Err r → Unread runs xs r
unfolding summarize_in
unread runs xs r e = by (read_in runs xs) refl e
  where
    by : (q : Read) → read_in runs xs ≡ q → summarized q ≡ Err r → Unread runs xs r
    by (unreadable n) p f = record { number = n; reads = p; told = cc }
    by (whole l es) p f = absurd (let z : ◌≡◌ {A = ℕ} 0 1 = cc in omega arith)

module _ (xs : List ℕ) (r : Refusal) (room : List ℕ) where
  pub roll_refused : summarize_in false xs ≡ Err r → (moved_of (rolled_bytes xs) room ≡ Err r) × (left_of (rolled_bytes xs) room ≡ room)
  unfolding rolled_bytes
  roll_refused h =
      let u = unread false xs r h in
      let o = ap rolled_read u.reads in
      let row = row_refused u.number room in
      (ap (λ (q : Output). moved_of q room) o ∙ row.0 ∙ ap Err u.told, ap (λ (q : Output). left_of q room) o ∙ row.1)

  pub unroll_refused : summarize_in true xs ≡ Err r → (moved_of (unrolled_bytes xs) room ≡ Err r) × (left_of (unrolled_bytes xs) room ≡ room)
  unfolding unrolled_bytes
  unroll_refused h =
      let u = unread true xs r h in
      let o = ap unrolled_read u.reads in
      let row = row_refused u.number room in
      (ap (λ (q : Output). moved_of q room) o ∙ row.0 ∙ ap Err u.told, ap (λ (q : Output). left_of q room) o ∙ row.1)

-- no refusal: the output is what is to be written
pub roll_output : (xs : List ℕ) (l : Limits) → Reads false xs l → rolled_bytes xs ≡ bytes (output_of (rolled_bytes xs))
unfolding rolled_bytes
roll_output xs l r = rw r.reads

pub unroll_output : (xs : List ℕ) (l : Limits) → Reads true xs l → unrolled_bytes xs ≡ bytes (output_of (unrolled_bytes xs))
unfolding unrolled_bytes
unroll_output xs l r = rw r.reads
