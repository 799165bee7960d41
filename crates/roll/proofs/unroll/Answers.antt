-- The summary tells that the record is read whole, or refuses; 14 bytes and 6 for each event is that of the output.
-- Assumes nothing.
use Rattle.std.specs.Prelude.{Ok}
use Prim.Native.Nat.{ℕ, ◌+◌, ◌*◌}
use mathlib.Core.Bool.{true}
use mathlib.Core.List.{List}
use mathlib.Core.Path.{◌≡◌, sym, ap, ◌∙◌}
use native.Mathlib.Omega.{arith}
use borrow.Author.Rules.{rules}
use lib.ListN.{length}
use Rattle.summary.specs.declared.Summary.{Summary}
use Rattle.roll.specs.Moved.{unrolled_bytes}
use Rattle.roll.specs.Steps.{output_of}
use Rattle.roll.proofs.Told.{Summed, summed, told_short, told_written, unroll_refused, unroll_output}
use Rattle.roll.proofs.Unrolling.{length_read}
use Rattle.roll.proofs.unroll.Goals as goal

needed : (xs : List ℕ) (s : Summary) → Summed true xs s → length (output_of (unrolled_bytes xs)) ≡ 14 + 6 * s.events
needed xs s k = length_read _ _ k.reads ∙ ap (λ (n : ℕ). 14 + 6 * n) (sym k.counts)

pub returns-then-room-need : goal.returns-then-room-need
returns-then-room-need c =
    let a = c.args in
    let known = summed true a.s.now _ (λ j. (c.type_inv.s j).fits) (sym c.summarize.ensures ∙ c.in_ok-sum.was) in
    let r = told_short _ a.room.now _ (unroll_output a.s.now _ known.reads) (omega (arith, needed a.s.now _ known)) in
    record { value = sym r.0; room_after = sym r.1 }

pub put_unrolled-requires : goal.put_unrolled-requires
put_unrolled-requires c =
    let known = summed true c.args.s.now _ (λ j. (c.type_inv.s j).fits) (sym c.summarize.ensures ∙ c.in_ok-sum.was) in
    (known.reads, omega (arith, needed c.args.s.now _ known))

pub returns : goal.returns
returns c =
    let a = c.args in
    let known = summed true a.s.now _ (λ j. (c.type_inv.s j).fits) (sym c.summarize.ensures ∙ c.in_ok-sum.was) in
    let long = needed a.s.now _ known in
    let r = told_written _ a.room.now _ (unroll_output a.s.now _ known.reads) (omega (arith, long)) in
    record { value = ap Ok (sym long) ∙ sym r.0; room_after = c.put_unrolled.ensures ∙ sym r.1 }

pub returns-in_err-sum : goal.returns-in_err-sum
returns-in_err-sum c =
    let a = c.args in
    let r = unroll_refused a.s.now _ a.room.now (sym c.summarize.ensures ∙ c.in_err-sum.was) in
    record { value = rw r.0 (search rules); room_after = sym r.1 }
