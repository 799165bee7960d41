-- What the movers promise of bytes: old to new to old, new to old to new, and either form read alike.
-- Assumes nothing.
use Prim.Native.Nat.{ℕ, ◌≤◌}
use mathlib.Core.Bool.{true, false}
use mathlib.Core.List.{List}
use mathlib.Core.Logic.{◌↔◌}
use mathlib.Core.Path.{◌≡◌, sym, ap, ◌∙◌}
use native.Mathlib.Omega.{arith}
use lib.ListN.{length, length-append}
use Rattle.wire.specs.Wire.{Bytes}
use Rattle.shaper.specs.declared.Limits.{Limits}
use Rattle.shaper.specs.declared.Event.{Event}
use Rattle.record.specs.Record.{header_bytes, events_bytes, written, WellFormed}
use Rattle.record.specs.Items.{Item, items_bytes, unrolled, written_items, Formed}
use Rattle.record.specs.Read.{whole, read_in}
use Rattle.record.proofs.Written.{items_read, written_read}
use Rattle.record.proofs.Wrote.{read_items_lem, formed_events, read_written}
use Rattle.roll.specs.Rolled.{rolled, Longest}
use Rattle.roll.specs.Moved.{bytes, rolled_read, rolled_bytes, unrolled_read, unrolled_bytes}
use Rattle.roll.specs.Exactly.{new_form}
use Rattle.roll.proofs.Rolled.{rolled_unrolled, rolled_ok, rolled_formed, rolled_shorter}
use Rattle.roll.proofs.Longest as longest
use Rattle.roll.proofs.Once.{written_once}
use Rattle.roll.proofs.Refusals.{roll_makes, unroll_makes, made_whole}

-- ---- old to new

-- an old record's bytes, and what they are in the new form
record RollsTo (xs ys : List ℕ) : Type 0 where
  limits : Limits
  events : List Event
  reads : read_in false xs ≡ whole limits events
  old : xs ≡ written limits events
  well : WellFormed limits events
  new : ys ≡ new_form limits events

rolls_to : (xs ys : List ℕ) → Bytes xs → rolled_bytes xs ≡ bytes ys → RollsTo xs ys
unfolding rolled_bytes
rolls_to xs ys b e =
    let g = made_whole roll_makes (read_in false xs) ys e in
    let w = read_written xs g.limits g.events b g.reads in
    record { limits = g.limits; events = g.events; reads = g.reads; old = w.0; well = w.1; new = g.made }

-- the new form has the same events
new_read : (l : Limits) (es : List Event) → WellFormed l es → read_in true (new_form l es) ≡ whole l es
new_read l es w = items_read true l (rolled es) (rolled_formed l es w) ∙ ap (whole l) (rolled_unrolled es)

-- Old to new to old gives the same bytes.
pub roll_back : (xs ys : List ℕ) → Bytes xs → rolled_bytes xs ≡ bytes ys → unrolled_bytes ys ≡ bytes xs
unfolding unrolled_bytes
roll_back xs ys b e =
    let r = rolls_to xs ys b e in
    ap unrolled_bytes r.new ∙ ap unrolled_read (new_read r.limits r.events r.well) ∙ ap bytes (sym r.old)

-- Room as long as the record is enough.
pub roll_shorter : (xs ys : List ℕ) → Bytes xs → rolled_bytes xs ≡ bytes ys → length ys ≤ length xs
roll_shorter xs ys b e =
    let r = rolls_to xs ys b e in
    let h = header_bytes r.limits in
    omega (
      arith,
      ap length r.new,
      ap length r.old,
      length-append h (items_bytes (rolled r.events)),
      length-append h (events_bytes r.events),
      rolled_shorter r.events,
    )

-- Either form is read alike.
pub either_form : (xs ys : List ℕ) → Bytes xs → rolled_bytes xs ≡ bytes ys → (read_in true ys ≡ read_in true xs) × (read_in true ys ≡ read_in false xs)
either_form xs ys b e =
    let r = rolls_to xs ys b e in
    let n : read_in true ys ≡ whole r.limits r.events = ap (read_in true) r.new ∙ new_read r.limits r.events r.well in
    let o : read_in true xs ≡ whole r.limits r.events = ap (read_in true) r.old ∙ written_read true r.limits r.events r.well in
    (n ∙ sym o, n ∙ sym r.reads)

-- ---- new to old

-- bytes of either form, and what they are in the old one
record UnrollsTo (xs ys : List ℕ) : Type 0 where
  limits : Limits
  items : List Item
  reads : read_in true xs ≡ whole limits (unrolled items)
  same : xs ≡ written_items limits items
  formed : Formed true limits items
  old : ys ≡ written limits (unrolled items)

unrolls_to : (xs ys : List ℕ) → Bytes xs → unrolled_bytes xs ≡ bytes ys → UnrollsTo xs ys
unfolding unrolled_bytes
unrolls_to xs ys b e =
    let g = made_whole unroll_makes (read_in true xs) ys e in
    let w = read_items_lem true xs g.limits g.events b g.reads in
    record {
      limits = g.limits;
      items = w.items;
      reads = g.reads ∙ ap (whole g.limits) w.gives;
      same = w.same;
      formed = w.formed;
      old = g.made ∙ ap (written g.limits) w.gives;
    }

pub either_form_back : (xs ys : List ℕ) → Bytes xs → unrolled_bytes xs ≡ bytes ys → (read_in true ys ≡ read_in true xs) × (read_in false ys ≡ read_in true xs)
either_form_back xs ys b e =
    let r = unrolls_to xs ys b e in
    let w = formed_events true r.limits r.items r.formed in (
      ap (read_in true) r.old ∙ written_read true r.limits (unrolled r.items) w ∙ sym r.reads,
      ap (read_in false) r.old ∙ written_read false r.limits (unrolled r.items) w ∙ sym r.reads,
    )

-- ---- new to old to new

module _ (l : Limits) (is : List Item) (f : Formed true l is) where
  -- New to old gives the events one by one,
  pub unrolled_bytes_lem : unrolled_bytes (written_items l is) ≡ bytes (written l (unrolled is))
  unfolding unrolled_bytes
  unrolled_bytes_lem = ap unrolled_read (items_read true l is f)

  again_bytes : rolled_bytes (written l (unrolled is)) ≡ bytes (written_items l (rolled (unrolled is)))
  unfolding rolled_bytes
  again_bytes = ap rolled_read (written_read false l (unrolled is) (formed_events true l is f))

  -- and to new again the same bytes exactly when the runs were already longest.
  pub unroll_again_exactly : (rolled_bytes (written l (unrolled is)) ≡ bytes (written_items l is)) ↔ Longest is
  unroll_again_exactly =
      let w = formed_events true l is f in
      let x = longest.unroll_again_exactly l is f.items in (
        λ e. let q : written_items l (rolled (unrolled is)) ≡ written_items l is = cc again_bytes in
            x.0 (written_once l f.settings (rolled (unrolled is)) is (rolled_ok l (unrolled is) w.valid) f.items q),
        λ g. again_bytes ∙ ap (λ (js : List Item). bytes (written_items l js)) (x.1 g),
      )

-- The same of any bytes that are unrolled: they were written from some items, and come back exactly when the runs of these are longest.
pub record Again (xs zs : List ℕ) : Type 0 where
  pub limits : Limits
  pub items : List Item
  pub same : xs ≡ written_items limits items
  pub formed : Formed true limits items
  pub exactly : (rolled_bytes zs ≡ bytes xs) ↔ Longest items

pub unroll_again : (xs zs : List ℕ) → Bytes xs → unrolled_bytes xs ≡ bytes zs → Again xs zs
unroll_again xs zs b e =
    let r = unrolls_to xs zs b e in
    let x = unroll_again_exactly r.limits r.items r.formed in
    record {
      limits = r.limits;
      items = r.items;
      same = r.same;
      formed = r.formed;
      exactly = (λ g. x.0 (ap rolled_bytes (sym r.old) ∙ g ∙ ap bytes r.same), λ g. ap rolled_bytes r.old ∙ x.1 g ∙ ap bytes (sym r.same));
    }
