-- What stands behind any bytes is what stands at the front of those behind them; and each item that may be written stands where its bytes do.
-- Assumes nothing.
use Prim.Native.Nat.{ℕ, ◌+◌, ◌<◌, ◌≤◌}
use mathlib.Core.Bool.{true}
use mathlib.Core.List.{List, ◌++◌}
use mathlib.Core.Path.{◌≡◌, refl, sym, ap, ◌∙◌}
use native.Mathlib.Omega.{arith}
use native.Mathlib.Nat.{add-zero, zero-add}
use lib.ListN.{length, length-append, length-replicate}
use lib.Seq.{drop_at}
use Rattle.std.specs.Prelude.{Some, Ok, Err}
use Rattle.decide.specs.Test.{Holds}
use Rattle.decide.specs.declared.refusal.Refusal.{Refusal}
use Rattle.decide.specs.Number.{number_in}
use Rattle.shaper.specs.declared.Limits.{Limits}
use Rattle.shaper.specs.declared.Event.{Event}
use Rattle.shaper.specs.Limits.{limits_ok}
use Rattle.shaper.specs.Credit.{Valid}
use Rattle.shaper.specs.Kind.{kind_of, number_of}
use Rattle.wire.specs.Wire.{le}
use Rattle.wire.specs.Parts.{laid_out, length_laid_out}
use Rattle.wire.proofs.Places.{Stands, stands_between}
use Rattle.wire.proofs.Laid.{le_part}
use Rattle.wire.proofs.Numbers.{le_drop}
use Rattle.record.specs.Record.{event_parts, event_bytes}
use Rattle.record.specs.Items.{Item, one, run, run_parts, run_bytes, item_bytes, unrolled_item, ItemOk}
use Rattle.record.specs.declared.Placed.{Placed}
use Rattle.record.specs.Read.{item_kind, item_number, item_count}
use Rattle.record.specs.Step.{placed, step_at, step_number}
use Rattle.record.proofs.Fields.{facts_free, good_event, run_good}
use Rattle.record.proofs.Rows.{event_stands, run_at, run_stands, free_stands}
use Rattle.record.proofs.Steps.{step_stands, step_faulty}
use Rattle.record.proofs.Written.{length_event, length_run, event_fits}
use Rattle.record.proofs.Refused.{item_refused_exactly}

-- ---- behind any bytes

module _ (mtu : ℕ) (p q : List ℕ) where
  -- an item is found behind them as at the front,
  pub stands_there : (k v c next : ℕ) → step_at mtu q 0 ≡ Ok (Some (placed k v c next)) → step_at mtu (p ++ q) (length p) ≡ Ok (Some (placed k v c (length p + next)))
  stands_there k v c next e =
      let s = step_stands true mtu q 0 k v c next e in
      let d = drop_at p q (length p) refl in
      let h : length p < length (p ++ q) = omega (arith, length-append p q, s.further, s.fits) in
      let f = free_stands true mtu q 0 (omega (arith, s.further, s.fits)) s.free in
      let g = rw d at (free_stands true mtu (p ++ q) (length p) h (rw d s.free)) in
      let a : le 2 (p ++ q) (length p) ≡ le 2 q 0 = rw (add-zero, d) at (sym (le_drop 2 (length p) (p ++ q) 0)) in
      let i : placed k v c next ≡ placed (item_kind q) (item_number q) (item_count q) (le 2 q 0) = cc (sym e ∙ f, zero-add (le 2 q 0)) in
      g
      ∙ ap (λ (n : ℕ). Ok (Some (placed (item_kind q) (item_number q) (item_count q) n))) (omega (arith, a, ap (λ (j : Placed). j.next) i))
      ∙ ap (λ (j : Placed). Ok (Some (placed j.kind j.number j.count (length p + next)))) (sym i)

  -- and so is a fault
  pub fault_there : (r : Refusal) → step_at mtu q 0 ≡ Err r → step_at mtu (p ++ q) (length p) ≡ Err r
  fault_there r e =
      let f = step_faulty true mtu q 0 r e in
      let here = item_refused_exactly true mtu q 0 (number_in r) f.some f.given in
      let g = here.0 (ap step_number e) in
      (item_refused_exactly true mtu (p ++ q) (length p) (number_in r) (omega (arith, length-append p q, f.some)) f.given).1
      (rw (drop_at p q (length p) refl) g)
      ∙ sym (here.1 g)
      ∙ e

-- ---- where its bytes do

-- the event that an item stands for, once or so many times
abbrev pub event_in : Item → Event
event_in (one e) = e
event_in (run e count) = e

module _ (l : Limits) (ok : Holds (limits_ok l)) (p q : List ℕ) where
  event_there : (e : Event) → Valid l e → step_at l.mtu (p ++ (event_bytes e ++ q)) (length p) ≡ Ok (Some (placed (kind_of e) (number_of e) 1 (length p + 6)))
  unfolding event_bytes
  event_there e v =
      let bs = laid_out (event_parts e) in
      let xs = p ++ (bs ++ q) in
      let at = length p in
      let s : Stands xs at bs = stands_between p bs q in
      let f = event_fits l e ok v in
      let h : at + 6 ≤ length xs = omega (arith, length-append p (bs ++ q), length-append bs q, length_laid_out (event_parts e)) in
      let a : le 2 xs at ≡ 6 = rw add-zero at (le_part (event_parts e) 0 2 6 xs at refl (omega arith) s) in
      let k : le 2 xs (at + 2) ≡ kind_of e = le_part (event_parts e) 1 2 (kind_of e) xs at refl (omega arith) s in
      let n : le 2 xs (at + 4) ≡ number_of e = le_part (event_parts e) 2 2 (number_of e) xs at refl (omega arith) s in
      event_stands true l.mtu xs at h (facts_free l.mtu (le 2 xs at) (le 2 xs (at + 2)) (le 2 xs (at + 4)) (rw (a, k, n) (good_event l e v)))
      ∙ rw (a, k, n)

  run_there : (e : Event) (count : ℕ) → ItemOk true l (run e count) →
      step_at l.mtu (p ++ (run_bytes e count ++ q)) (length p) ≡ Ok (Some (placed (kind_of e) (number_of e) count (length p + 10)))
  unfolding run_bytes
  run_there e count i =
      let bs = laid_out (run_parts e count) in
      let xs = p ++ (bs ++ q) in
      let at = length p in
      let s : Stands xs at bs = stands_between p bs q in
      let f = event_fits l e ok i.2 in
      let g = (good_event l e i.2).first in
      let h : at + 10 ≤ length xs = omega (arith, length-append p (bs ++ q), length-append bs q, length_laid_out (run_parts e count)) in
      let a : le 2 xs at ≡ 10 = rw add-zero at (le_part (run_parts e count) 0 2 10 xs at refl (omega arith) s) in
      let r : le 2 xs (at + 2) ≡ 4 = le_part (run_parts e count) 1 2 4 xs at refl (omega arith) s in
      let k : le 2 xs (at + 4) ≡ kind_of e = le_part (run_parts e count) 2 2 (kind_of e) xs at refl (omega arith) s in
      let n : le 2 xs (at + 6) ≡ number_of e = le_part (run_parts e count) 3 2 (number_of e) xs at refl (omega arith) s in
      let c : le 2 xs (at + 8) ≡ count = le_part (run_parts e count) 4 2 count xs at refl (omega (arith, i.4)) s in
      let t = run_at xs at r in
      run_stands true l.mtu xs at t t h (rw (a, k, c) (run_good 10 (kind_of e) count refl g (omega (arith, i.1)) i.3))
      ∙ rw (a, k, n, c)

  -- an item in range stands where its bytes do, for as many events as it is unrolled to
  pub item_there : (i : Item) → ItemOk true l i →
      step_at l.mtu (p ++ (item_bytes i ++ q)) (length p)
      ≡ Ok (Some (placed (kind_of (event_in i)) (number_of (event_in i)) (length (unrolled_item i)) (length p + length (item_bytes i))))
  item_there (one e) v = event_there e v ∙ rw (length_event e)
  item_there (run e count) v = run_there e count v ∙ rw (length_run e count, length-replicate count e)
