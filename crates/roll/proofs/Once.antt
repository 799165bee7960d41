-- What is written says which items it was written from.
-- Assumes nothing.
use Prim.Native.Nat.{ℕ, ◌<◌}
use mathlib.Core.Bool.{true, cond}
use mathlib.Core.List.{List, [], ◌∷◌, ◌++◌}
use mathlib.Core.Path.{◌≡◌, refl, sym, ap, ◌∙◌}
use native.Mathlib.Omega.{arith}
use borrow.Author.Tests.{ne_eqb}
use lib.Dec.{eqb}
use lib.ListN.{length, drop, length-append}
use lib.Seq.{drop_at}
use Rattle.decide.specs.Test.{Holds}
use Rattle.wire.specs.Wire.{le}
use Rattle.wire.specs.Parts.{laid_out}
use Rattle.wire.proofs.Places.{stands_between}
use Rattle.wire.proofs.Laid.{le_part}
use Rattle.shaper.specs.declared.Limits.{Limits}
use Rattle.shaper.specs.declared.Event.{Event}
use Rattle.shaper.specs.declared.Event.TheVariants.{Waiting, Idle, Send}
use Rattle.shaper.specs.Limits.{limits_ok}
use Rattle.shaper.specs.Kind.{kind_of, number_of, event_of}
use Rattle.shaper.proofs.Kind.{event_of_lem}
use Rattle.record.specs.Record.{header_bytes, event_parts, event_bytes}
use Rattle.record.specs.Items.{Item, one, run, run_parts, run_bytes, item_bytes, items_bytes, written_items, ItemOk, ItemsOk}
use Rattle.record.proofs.Written.{length_header, length_event, length_run, event_fits}

-- the item at the front, by its fields
abbrev front_item : List ℕ → Item
front_item xs = cond (eqb (le 2 xs 2) 4) (run (event_of (le 2 xs 4) (le 2 xs 6)) (le 2 xs 8)) (one (event_of (le 2 xs 2) (le 2 xs 4)))

kind_below : (e : Event) → kind_of e < 4
kind_below (Waiting x) = omega arith
kind_below (Idle x) = omega arith
kind_below (Send z) = omega arith

some_bytes : (i : Item) → 0 < length (item_bytes i)
some_bytes (one e) = omega (arith, length_event e)
some_bytes (run e count) = omega (arith, length_run e count)

module _ (l : Limits) (ok : Holds (limits_ok l)) where
  front_item_lem : (i : Item) (q : List ℕ) → ItemOk true l i → front_item (item_bytes i ++ q) ≡ i
  unfolding event_bytes run_bytes
  front_item_lem (one e) q v =
      let s = stands_between [] (laid_out (event_parts e)) q in
      let f = event_fits l e ok v in
      let k : le 2 (laid_out (event_parts e) ++ q) 2 ≡ kind_of e = le_part (event_parts e) 1 2 (kind_of e) (laid_out (event_parts e) ++ q) 0 refl (omega arith) s in
      let n : le 2 (laid_out (event_parts e) ++ q) 4 ≡ number_of e = le_part (event_parts e) 2 2 (number_of e) (laid_out (event_parts e) ++ q) 0 refl (omega arith) s in
      rw (k, n, ne_eqb (kind_of e) 4 (λ h. omega (arith, kind_below e)), event_of_lem e)
  front_item_lem (run e c) q v =
      let ps = run_parts e c in
      let s = stands_between [] (laid_out ps) q in
      let f = event_fits l e ok v.2 in
      let r : le 2 (laid_out ps ++ q) 2 ≡ 4 = le_part ps 1 2 4 (laid_out ps ++ q) 0 refl (omega arith) s in
      let k : le 2 (laid_out ps ++ q) 4 ≡ kind_of e = le_part ps 2 2 (kind_of e) (laid_out ps ++ q) 0 refl (omega arith) s in
      let n : le 2 (laid_out ps ++ q) 6 ≡ number_of e = le_part ps 3 2 (number_of e) (laid_out ps ++ q) 0 refl (omega arith) s in
      let t : le 2 (laid_out ps ++ q) 8 ≡ c = le_part ps 4 2 c (laid_out ps ++ q) 0 refl (omega arith) s in
      rw (r, k, n, t, event_of_lem e)

  -- items in range with the same bytes are the same
  items_once : (is js : List Item) → ItemsOk true l is → ItemsOk true l js → items_bytes is ≡ items_bytes js → is ≡ js
  items_once [] [] a b e = refl
  items_once [] (j ∷ js) a b e = absurd (omega (arith, ap length e, length-append (item_bytes j) (items_bytes js), some_bytes j))
  items_once (i ∷ is) [] a b e = absurd (omega (arith, ap length e, length-append (item_bytes i) (items_bytes is), some_bytes i))
  items_once (i ∷ is) (j ∷ js) a b e =
      let s : i ≡ j = sym (front_item_lem i (items_bytes is) a.0) ∙ ap front_item e ∙ front_item_lem j (items_bytes js) b.0 in
      let n : length (item_bytes j) ≡ length (item_bytes i) = ap (λ (k : Item). length (item_bytes k)) (sym s) in
      let r : items_bytes is ≡ items_bytes js =
      sym (drop_at (item_bytes i) (items_bytes is) (length (item_bytes i)) refl)
      ∙ ap (drop (length (item_bytes i))) e
      ∙ drop_at (item_bytes j) (items_bytes js) (length (item_bytes i)) n in
      let t : is ≡ js = items_once is js a.1 b.1 r in
      rw (s, t)

  -- and so are those of one record
  pub written_once : (is js : List Item) → ItemsOk true l is → ItemsOk true l js → written_items l is ≡ written_items l js → is ≡ js
  written_once is js a b e =
      items_once is js a b
      (sym (drop_at (header_bytes l) (items_bytes is) 14 (length_header l)) ∙ ap (drop 14) e ∙ drop_at (header_bytes l) (items_bytes js) 14 (length_header l))
