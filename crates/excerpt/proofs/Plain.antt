-- Events that stand as in a record of the old form, six bytes each, are read the same from a place on.
-- Assumes nothing.
use Prim.Native.Nat.{ℕ, zero, suc, ◌+◌, ◌*◌, ◌≤◌}
use mathlib.Core.Bool.{Bool, true, false}
use mathlib.Core.List.{List, [], ◌∷◌}
use mathlib.Core.Logic.{⊎_elim}
use mathlib.Core.Path.{◌≡◌, refl, sym, ap, ◌∙◌}
use native.Mathlib.Omega.{arith}
use native.Mathlib.Nat.{suc-add, zero-add, add-zero}
use lib.ListN.{length, take, drop, length-drop, take-append-drop}
use lib.Seq.{drop-drop, take-add, length-take-le, drop_at}
use Rattle.std.specs.Prelude.{Some, None, Ok, Err}
use Rattle.shaper.specs.declared.Event.{Event}
use Rattle.shaper.specs.declared.Limits.{Limits}
use Rattle.shaper.specs.Kind.{event_of}
use Rattle.wire.specs.Wire.{le}
use Rattle.wire.proofs.Numbers.{le_append_left, le_drop}
use Rattle.summary.specs.declared.Summary.{Summary}
use Rattle.summary.specs.Summary.{summary_of}
use Rattle.account.specs.Account.{events_of}
use Rattle.record.specs.Read.{Events, faulty, events, onward, read_items}
use Rattle.record.specs.Step.{Step, item_at}
use Rattle.record.proofs.Fields.{facts_free}
use Rattle.record.proofs.Rows.{event_stands}
use Rattle.record.proofs.Steps.{GoodAt, EventThere, Stood, step_stands, step_end, step_faulty, read_end}
use Rattle.excerpt.specs.Place.{passed_of, place_after}
use Rattle.excerpt.specs.Excerpt.{summed, read_part, excerpt_of}
use Rattle.excerpt.proofs.Faults.{Standing, standing}
use Rattle.excerpt.proofs.Parts.{placed, after_none, after_more, after_item, passed_all, part_none, part_item}

-- numbers in a part of the bytes are those of the whole
part_le : (xs : List ℕ) (at m i : ℕ) → at + m ≤ length xs → i + 2 ≤ m → le 2 (take m (drop at xs)) i ≡ le 2 xs (at + i)
part_le xs at m i h k =
    let size : i + 2 ≤ length (take m (drop at xs)) = rw (length-take-le m (drop at xs) (simp length-drop (omega arith))) k in
    sym (le_append_left 2 (take m (drop at xs)) (drop m (drop at xs)) i size)
    ∙ ap (λ (q : List ℕ). le 2 q i) (take-append-drop m (drop at xs))
    ∙ le_drop 2 at xs i

-- the part behind the first six bytes
rest_part_lem : (xs : List ℕ) (at c : ℕ) → at + (6 + 6 * c) ≤ length xs → drop 6 (take (6 + 6 * c) (drop at xs)) ≡ take (6 * c) (drop (at + 6) xs)
rest_part_lem xs at c h =
    ap (drop 6) (take-add 6 (6 * c) (drop at xs))
    ∙ drop_at (take 6 (drop at xs)) (take (6 * c) (drop 6 (drop at xs))) 6 (length-take-le 6 (drop at xs) (simp length-drop (omega arith)))
    ∙ ap (take (6 * c)) (drop-drop 6 at xs)

-- what is read, and the place behind it
pub record PartIs (mtu : ℕ) (xs : List ℕ) (at c : ℕ) (es : List Event) : Type 0 where
  pub reads : read_part mtu c xs (placed at 0) ≡ events es
  pub behind : place_after c xs (placed at 0) ≡ placed (at + 6 * c) 0

-- an event before the others
event_more : (e : Event) (es : List Event) (r : Events) → onward 0 e r ≡ events es → (P : List Event → Type 0) → ((fs : List Event) → r ≡ events fs → P (e ∷ fs)) → P es
event_more e es (faulty n) h P f = absurd (let z : ◌≡◌ {A = ℕ} 0 1 = cc in omega arith)
event_more e es (events fs) h P f = let same : e ∷ fs ≡ es = cc in rw same at (f fs refl)

module _ (late mtu : ℕ) (xs : List ℕ) (at c : ℕ) (h : at + (6 + 6 * c) ≤ length xs) (behind : 14 ≤ at) where
  abbrev ys : List ℕ
  ys = take (6 + 6 * c) (drop at xs)

  good_there : (k v m next : ℕ) → Stood false mtu ys 0 k v m next → EventThere ys 0 k v m next → GoodAt mtu xs at
  good_there k v m next s e =
      let a : le 2 ys 0 ≡ le 2 xs at = rw add-zero at (part_le xs at (6 + 6 * c) 0 h (omega arith)) in
      let b = part_le xs at (6 + 6 * c) 2 h (omega arith) in
      let d = part_le xs at (6 + 6 * c) 4 h (omega arith) in
      rw (sym a ∙ e.length_field, sym b ∙ sym e.kind_field, sym d ∙ sym e.number_field) s.fields

  stands_there : GoodAt mtu xs at → Standing mtu xs at (le 2 xs (at + 2)) (le 2 xs (at + 4)) 1 (at + 6)
  stands_there g =
      let t = event_stands true mtu xs at (omega arith) (facts_free mtu (le 2 xs at) (le 2 xs (at + 2)) (le 2 xs (at + 4)) g) in
      standing mtu xs at _ _ 1 (at + 6) (rw g.six at t)

  one_more : (k v m next : ℕ) → Stood false mtu ys 0 k v m next → EventThere ys 0 k v m next → (es : List Event) → read_items false late mtu (suc c) 0 ys ≡ events es →
      ((fs : List Event) → read_items false late mtu c 0 (take (6 * c) (drop (at + 6) xs)) ≡ events fs → PartIs mtu xs (at + 6) c fs) → PartIs mtu xs at (suc c) es
  one_more k v m next s e es read more =
      let st = stands_there (good_there k v m next s e) in
      let kind : k ≡ le 2 xs (at + 2) = e.kind_field ∙ part_le xs at (6 + 6 * c) 2 h (omega arith) in
      let number : v ≡ le 2 xs (at + 4) = e.number_field ∙ part_le xs at (6 + 6 * c) 4 h (omega arith) in
      let to : place_after 1 xs (placed at 0) ≡ placed (at + 6) 0 = after_item xs at 1 (at + 6) st.told.count st.behind 1 0 (omega arith) (omega arith) ∙ last in
      let goes : read_items false late mtu (suc c) 0 ys ≡ onward 0 (event_of k v) (read_items false late mtu c 0 (take (6 * c) (drop (at + 6) xs))) =
      rw (e.one, suc-add 0 c, zero-add c, e.six, rest_part_lem xs at c h) at (s.goes_on late c) in
      event_more (event_of k v) es _ (sym goes ∙ read) (λ q. PartIs mtu xs at (suc c) q)
      (λ fs f. let p = more fs f in
      let item = part_item mtu xs at _ _ 1 (at + 6) st behind 1 c 0 (omega arith) in
      record {
        reads = rw (kind, number) (rw (suc-add 0 c, zero-add c, to, p.reads) at item);
        behind = rw (suc-add 0 c, zero-add c, to) at (after_more xs 1 c (placed at 0)) ∙ p.behind ∙ ap (λ (q : ℕ). placed q 0) (omega arith);
      })
    where
      last : passed_of at (0 + 1) 1 (at + 6) ≡ placed (at + 6) 0
      last = passed_all at 1 (at + 6)

  first_step : (s : Step) → item_at false mtu ys 0 ≡ s → (es : List Event) → read_items false late mtu (suc c) 0 ys ≡ events es →
      ((fs : List Event) → read_items false late mtu c 0 (take (6 * c) (drop (at + 6) xs)) ≡ events fs → PartIs mtu xs (at + 6) c fs) → PartIs mtu xs at (suc c) es
  first_step (Ok None) e es read more =
      absurd (omega (arith, step_end false mtu ys 0 e, length-take-le (6 + 6 * c) (drop at xs) (simp length-drop (omega arith))))
  first_step (Err r) e es read more =
      absurd (let z : ◌≡◌ {A = ℕ} 0 1 = cc ((step_faulty false mtu ys 0 r e).stops late c) in omega arith)
  first_step (Ok (Some i)) e es read more =
      let s = step_stands false mtu ys 0 i.kind i.number i.count i.next e in
      ⊎_elim (λ t. one_more i.kind i.number i.count i.next s t es read more) (λ r. absurd (mathlib.Core.Bool.false≢true r.0)) s.there

-- as many events as six bytes each hold
pub plain_part : (late mtu : ℕ) (xs : List ℕ) (c at : ℕ) (es : List Event) → at + 6 * c ≤ length xs → 14 ≤ at → read_items false late mtu c 0 (take (6 * c) (drop at xs)) ≡ events es →
    PartIs mtu xs at c es
plain_part late mtu xs zero at es h behind read =
    record { reads = part_none mtu xs (placed at 0) ∙ sym (rw (take_none (drop at xs)) (read_end false late mtu 0 [] 0 (omega arith))) ∙ read; behind = after_none xs (placed at 0) ∙ ap (λ (q : ℕ). placed q 0) (omega arith) }
  where
    take_none : (zs : List ℕ) → take (6 * 0) zs ≡ []
    take_none zs = refl
plain_part late mtu xs (suc c) at es h behind read =
    let six : 6 * suc c ≡ 6 + 6 * c = omega arith in
    first_step late mtu xs at c (omega arith) behind (item_at false mtu (ys late mtu xs at c (omega arith) behind) 0) refl es (rw six at read)
    (λ fs f. plain_part late mtu xs c (at + 6) fs (omega arith) (omega arith) f)

-- their summary is that of a record of the old form
pub plain_excerpt : (l : Limits) (xs : List ℕ) (c at : ℕ) (sum : Summary) → at + 6 * c ≤ length xs → 14 ≤ at → events_of false l c (take (6 * c) (drop at xs)) ≡ Ok sum →
    excerpt_of l c xs (placed at 0) ≡ summed sum (placed (at + 6 * c) 0)
unfolding events_of excerpt_of
plain_excerpt l xs c at sum h behind e = by (read_items false 9 l.mtu c 0 (take (6 * c) (drop at xs))) refl
  where
    by : (r : Events) → read_items false 9 l.mtu c 0 (take (6 * c) (drop at xs)) ≡ r → excerpt_of l c xs (placed at 0) ≡ summed sum (placed (at + 6 * c) 0)
    by (faulty n) f = absurd (let z : ◌≡◌ {A = ℕ} 0 1 = cc (rw f at e) in omega arith)
    by (events es) f =
        let p = plain_part 9 l.mtu xs c at es h behind f in
        let same : summary_of l es ≡ sum = cc (rw f at e) in
        rw (p.reads, p.behind, same)
