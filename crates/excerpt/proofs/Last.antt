-- The events from a place to the record's end: item by item.
-- Assumes nothing.
use Prim.Native.Nat.{ℕ, zero, suc, ◌+◌, ◌≤◌, ◌<◌}
use mathlib.Core.Bool.{Bool, true, false, cond}
use mathlib.Core.List.{List}
use mathlib.Core.Path.{◌≡◌, refl, sym, ap, ◌∙◌}
use native.Mathlib.Omega.{arith}
use native.Mathlib.Nat.{zero-add, suc-add}
use borrow.Author.Tests.{le-leb, lt-leb, ne_eqb}
use lib.Dec.{eqb}
use lib.ListN.{length, drop}
use Rattle.decide.specs.Test.{◌≡?◌, split}
use Rattle.decide.specs.Refusal.{first_of}
use Rattle.decide.proofs.Cases.{by_cases}
use Rattle.record.specs.Read.{length_at, item_faults, item_count}
use Rattle.excerpt.specs.declared.Place.{Place}
use Rattle.excerpt.specs.declared.Shape.{Shape}
use Rattle.excerpt.specs.Place.{next_place, place_faults}
use Rattle.excerpt.specs.Last.{events_left, shape_of}
use Rattle.excerpt.proofs.Faults.{fault_gone, fault_item, fault_there}
use Rattle.excerpt.proofs.Parts.{placed, next_amid, next_last}

-- ---- the shape of an item

module _ (mtu : ℕ) (xs : List ℕ) (at : ℕ) where
  pub shape_none : first_of (item_faults true mtu (drop at xs)) ≡ 2 → shape_of mtu xs at ≡ record { count = 0; next = at }
  unfolding shape_of
  shape_none e = rw e

  pub shape_whole : (n c len : ℕ) → first_of (item_faults true mtu (drop at xs)) ≡ n → (n ≡ 2 → ⊥) → item_count (drop at xs) ≡ c → length_at (drop at xs) ≡ len →
      shape_of mtu xs at ≡ record { count = c; next = at + len }
  unfolding shape_of
  shape_whole n c len e other counts long = rw (e, ne_eqb n 2 other, counts, long)

  -- an item that stands for some events is whole
  pub record Whole (c next : ℕ) : Type 0 where
    pub whole : first_of (item_faults true mtu (drop at xs)) ≡ 2 → ⊥
    pub counts : item_count (drop at xs) ≡ c
    pub on : at + length_at (drop at xs) ≡ next

  pub shape_facts : (gone : ℕ) → gone < (shape_of mtu xs at).count → Whole (shape_of mtu xs at).count (shape_of mtu xs at).next
  shape_facts gone h = by (first_of (item_faults true mtu (drop at xs))) refl
    where
      by : (n : ℕ) → first_of (item_faults true mtu (drop at xs)) ≡ n → Whole (shape_of mtu xs at).count (shape_of mtu xs at).next
      by n e =
          by_cases (split (n ≡? 2))
          (λ two. absurd (omega (arith, h, ap (λ (s : Shape). s.count) (shape_none (e ∙ two)))))
          (λ other. let s = shape_whole n _ _ e other refl refl in record { whole = λ z. other (sym e ∙ z); counts = sym (ap (λ (q : Shape). q.count) s); on = sym (ap (λ (q : Shape). q.next) s) })

  -- one that does not have so many has none there
  pub shape_gone : (gone : ℕ) → 14 ≤ at → (shape_of mtu xs at).count ≤ gone → first_of (place_faults mtu xs (placed at gone)) ≡ 2
  shape_gone gone late h = by (first_of (item_faults true mtu (drop at xs))) refl
    where
      same : (b : Bool) → ◌≡◌ {A = ℕ} (cond b 2 2) 2
      same true = refl
      same false = refl

      by : (n : ℕ) → first_of (item_faults true mtu (drop at xs)) ≡ n → first_of (place_faults mtu xs (placed at gone)) ≡ 2
      by n e =
          by_cases (split (n ≡? 2))
          (λ two. fault_there mtu xs at gone 2 late (e ∙ two) (omega arith) ∙ same (eqb gone 0))
          (λ other. fault_gone mtu xs (placed at gone) (omega (arith, h, ap (λ (q : Shape). q.count) (shape_whole n _ _ e other refl refl))))

-- ---- how many are left

module _ (mtu : ℕ) (xs : List ℕ) where
  pub left_end : (most : ℕ) (p : Place) → length xs ≤ p.at → events_left most mtu xs p ≡ 0
  unfolding events_left
  left_end zero p h = rw (le-leb (length xs) p.at h)
  left_end (suc most) p h = rw (le-leb (length xs) p.at h)

  pub left_stops : (most : ℕ) (p : Place) → p.at < length xs → first_of (place_faults mtu xs p) ≡ 2 → events_left most mtu xs p ≡ suc most
  unfolding events_left
  left_stops zero p h e = rw (lt-leb (length xs) p.at h)
  left_stops (suc most) p h e = rw (lt-leb (length xs) p.at h, e)

  left_none : (p : Place) → p.at < length xs → events_left 0 mtu xs p ≡ 1
  unfolding events_left
  left_none p h = rw (lt-leb (length xs) p.at h)

  pub left_one : (most n : ℕ) (p : Place) → p.at < length xs → first_of (place_faults mtu xs p) ≡ n → (n ≡ 2 → ⊥) → events_left (suc most) mtu xs p ≡ suc (events_left most mtu xs (next_place xs p))
  unfolding events_left
  left_one most n p h e other = rw (lt-leb (length xs) p.at h, e, ne_eqb n 2 other)

  -- the events of an item that is whole, in one step
  module _ (at c next : ℕ) (there : at < length xs) (late : 14 ≤ at) (w : Whole mtu xs at c next) where
    goes_on : (gone : ℕ) → gone < c → first_of (place_faults mtu xs (placed at gone)) ≡ 2 → ⊥
    goes_on gone h e = w.whole (sym (fault_item mtu xs (placed at gone) late (rw w.counts h)) ∙ e)

    -- all that are left of it
    pub left_item : (j m gone : ℕ) → gone + suc j ≡ c → events_left (suc j + m) mtu xs (placed at gone) ≡ suc j + events_left m mtu xs (placed next 0)
    left_item zero m gone e =
        rw (suc-add 0 m, zero-add m) (left_one m _ (placed at gone) there refl (goes_on gone (omega arith)) ∙ rw (next_last xs at c next w.counts w.on gone (omega arith)) (omega arith))
    left_item (suc j) m gone e =
        rw (suc-add (suc j) m)
        (left_one (suc j + m) _ (placed at gone) there refl (goes_on gone (omega arith))
        ∙ rw (next_amid xs at c next w.counts w.on gone (omega arith)) (ap suc (left_item j m (suc gone) (omega arith)) ∙ omega arith))

    -- more of them than may come
    pub left_past : (most gone : ℕ) → gone + most < c → events_left most mtu xs (placed at gone) ≡ suc most
    left_past zero gone h = left_none (placed at gone) there
    left_past (suc most) gone h =
        left_one most _ (placed at gone) there refl (goes_on gone (omega arith))
        ∙ rw (next_amid xs at c next w.counts w.on gone (omega arith)) (ap suc (left_past most (suc gone) (omega arith)))
