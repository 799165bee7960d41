-- The summary tells that the record is read whole, or refuses; where there is an event and room, the node at the top is the index.
-- Assumes nothing.
use mathlib.Core.Bool.{true}
use mathlib.Core.Path.{sym, ap, ◌∙◌}
use native.Mathlib.Omega.{arith}
use Rattle.wire.specs.Wire.{put}
use Rattle.wire.proofs.Puts.{put_nil}
use Rattle.std.specs.Prelude.{Ok}
use borrow.Author.Rules.{rules}
use Rattle.roll.specs.Moved.{bytes}
use Rattle.roll.proofs.Told.{summed, told_short, told_written}
use Rattle.index.specs.Tree.{index_length}
use Rattle.index.proofs.Nodes.{length_index, index_none, index_node}
use Rattle.index.proofs.Whole.{few_whole}
use Rattle.index.proofs.Fills.{events_in_lem}
use Rattle.index.proofs.Told.{index_output, index_refused, fills_whole}
use Rattle.index.proofs.fill.Goals as goal

-- below, `k`: the record that was summed; `size`: its index is so long
pub bytes_of-need-requires : goal.bytes_of-need-requires
bytes_of-need-requires c =
    let k = summed true c.args.s.now _ (λ j. (c.type_inv.s j).fits) (sym c.summarize.ensures ∙ c.in_ok-whole.was) in
    omega (arith, k.counts, few_whole c.args.s.now _ k.reads.events k.reads.reads)

pub returns-then-room-need : goal.returns-then-room-need
returns-then-room-need c =
    let a = c.args in
    let k = summed true c.args.s.now _ (λ j. (c.type_inv.s j).fits) (sym c.summarize.ensures ∙ c.in_ok-whole.was) in
    let size = (length_index c.in_ok-whole.whole.limits c.args.s.now k.reads.events (few_whole c.args.s.now _ k.reads.events k.reads.reads) ∙ ap index_length (sym k.counts)) in
    let r = told_short _ a.room.now _ (index_output a.s.now _ k.reads.events k.reads.reads) (omega (arith, size, c.bytes_of-need.ensures, c.if-room-need.true)) in
    record { value = sym r.0; room_after = sym r.1 }

pub returns-then-n-eq0 : goal.returns-then-n-eq0
returns-then-n-eq0 c =
    let a = c.args in
    let k = summed true c.args.s.now _ (λ j. (c.type_inv.s j).fits) (sym c.summarize.ensures ∙ c.in_ok-whole.was) in
    let none = index_none _ a.s.now k.reads.events (sym k.counts ∙ c.if-n-eq0.true) in
    let r = told_written _ a.room.now _ (index_output a.s.now _ k.reads.events k.reads.reads ∙ ap bytes none) (omega arith) in
    record { value = sym r.0; room_after = sym (r.1 ∙ put_nil a.room.now 0) }

pub put_node-requires : goal.put_node-requires
put_node-requires c =
    let a = c.args in
    let k = summed true c.args.s.now _ (λ j. (c.type_inv.s j).fits) (sym c.summarize.ensures ∙ c.in_ok-whole.was) in
    fills_whole a.s.now _ k.reads _ a.room.now k.counts (omega (arith, c.if-n-eq0.false)) (omega (arith, c.bytes_of-need.ensures, c.if-room-need.false))

pub returns : goal.returns
returns c =
    let a = c.args in
    let k = summed true c.args.s.now _ (λ j. (c.type_inv.s j).fits) (sym c.summarize.ensures ∙ c.in_ok-whole.was) in
    let l = c.in_ok-whole.whole.limits in
    let size = (length_index c.in_ok-whole.whole.limits c.args.s.now k.reads.events (few_whole c.args.s.now _ k.reads.events k.reads.reads) ∙ ap index_length (sym k.counts)) in
    let r = told_written _ a.room.now _ (index_output a.s.now _ k.reads.events k.reads.reads) (omega (arith, size, c.bytes_of-need.ensures, c.if-room-need.false)) in
    let node = index_node _ a.s.now k.reads.events (omega (arith, k.counts, c.if-n-eq0.false)) in
    record {
      value = ap Ok (c.bytes_of-need.ensures ∙ sym size) ∙ sym r.0;
      room_after = c.put_node.ensures.room_after ∙ rw (events_in_lem a.s.now l k.reads.events k.reads.reads) (ap (put a.room.now 0) (sym node) ∙ sym r.1);
    }

pub returns-in_err-whole : goal.returns-in_err-whole
returns-in_err-whole c =
    let a = c.args in
    let r = index_refused a.s.now _ a.room.now (sym c.summarize.ensures ∙ c.in_err-whole.was) in
    record { value = rw r.0 (search rules); room_after = sym r.1 }
