-- Rolled items have the longest runs that can be, and items with the longest runs are what rolling their events gives.
-- Assumes nothing.
use Prim.Native.Nat.{ℕ, zero, suc, ◌+◌, ◌≤◌, ◌<◌}
use mathlib.Core.Bool.{true}
use mathlib.Core.List.{List, [], ◌∷◌, ◌++◌}
use mathlib.Core.Path.{◌≡◌, refl, ap, ◌∙◌}
use native.Mathlib.Nat.{zero-add}
use native.Mathlib.Numerals.{add-one}
use native.Mathlib.Omega.{arith}
use lib.ListN.{replicate}
use Rattle.shaper.specs.declared.Limits.{Limits}
use Rattle.shaper.specs.declared.Event.{Event}
use Rattle.shaper.specs.Kind.{kind_of}
use Rattle.record.specs.Items.{Item, one, run, unrolled_item, unrolled, most_of_run, ItemOk, ItemsOk, item_of}
use Rattle.roll.specs.Rolled.{rolled_onto, rolled, event_in, count_in, Longest}
use Rattle.roll.proofs.Rolled.{row_last, row_grows, row_apart, Rolls, last, grows, anew, rolls}

-- ---- rolled items have the longest runs

item_event : (e : Event) (n : ℕ) → event_in (item_of e (suc n)) ≡ e
item_event e zero = refl
item_event e (suc n) = refl

item_count_lem : (e : Event) (n : ℕ) → count_in (item_of e (suc n)) ≡ suc n
item_count_lem e zero = refl
item_count_lem e (suc n) = refl

-- items of which the first repeats e
abbrev Begins : Event → List Item → Type 0
Begins e [] = ⊥
Begins e (i ∷ is) = event_in i ≡ e

rolls_begins : {e : Event} {n : ℕ} {es : List Event} {is : List Item} → Rolls e (suc n) es is → Begins e is
rolls_begins {e} {n} last = item_event e n
rolls_begins (grows h k r) = rolls_begins r
rolls_begins {e} {n} (anew o r) = item_event e n

-- an item before others, whose first is no more of it
longest_more : (e : Event) (n : ℕ) (f : Event) (is : List Item) → (suc n < most_of_run → kind_of e < 3 → e ≡ f → ⊥) → Begins f is → Longest is →
    Longest (item_of e (suc n) ∷ is)
longest_more e n f [] o b g = absurd b
longest_more e n f (i ∷ is) o b g = (rw (item_event e n, item_count_lem e n, b) o, g)

rolls_longest : {e : Event} {n : ℕ} {es : List Event} {is : List Item} → Rolls e (suc n) es is → Longest is
rolls_longest last = tt
rolls_longest (grows h k r) = rolls_longest r
rolls_longest {e} {n} (anew {f} {is} o r) = longest_more e n f is o (rolls_begins r) (rolls_longest r)

-- A mover takes the longest run it can, always.
pub rolled_longest : (es : List Event) → Longest (rolled es)
unfolding rolled
rolled_longest [] = tt
rolled_longest (e ∷ es) = rolls_longest (rolls e 1 es)

-- ---- items with the longest runs are what rolling gives

-- equal ticks go to those before them, up to 65,535
onto_run : (k n : ℕ) (e : Event) (es : List Event) → kind_of e < 3 → k + n ≤ most_of_run → rolled_onto e n (replicate k e ++ es) ≡ rolled_onto e (k + n) es
onto_run zero n e es t h = rw zero-add
onto_run (suc k) n e es t h =
    let more : k + suc n ≡ suc k + n = omega arith in
    row_grows e n (replicate k e ++ es) (omega arith) t ∙ onto_run k (suc n) e es t (omega arith) ∙ ap (λ (m : ℕ). rolled_onto e m es) more

module _ (l : Limits) where
  -- an item's events before others: as many of its event
  rolled_item : (i : Item) (es : List Event) → ItemOk true l i → rolled (unrolled_item i ++ es) ≡ rolled_onto (event_in i) (count_in i) es
  unfolding rolled
  rolled_item (one e) es ok = refl
  rolled_item (run e zero) es ok = absurd (omega arith)
  rolled_item (run e (suc k)) es ok = onto_run k 1 e es ok.1 (omega arith) ∙ rw (add-one k)

  same_item : (i : Item) → ItemOk true l i → item_of (event_in i) (count_in i) ≡ i
  same_item (one e) ok = refl
  same_item (run e zero) ok = absurd (omega arith)
  same_item (run e (suc zero)) ok = absurd (omega arith)
  same_item (run e (suc (suc n))) ok = refl

  -- an item that is no more of those before it begins anew
  begins_anew : (e : Event) (n : ℕ) (j : Item) (es : List Event) → ItemOk true l j → (n < most_of_run → kind_of e < 3 → e ≡ event_in j → ⊥) →
      rolled_onto e n (unrolled_item j ++ es) ≡ item_of e n ∷ rolled (unrolled_item j ++ es)
  unfolding rolled
  begins_anew e n (one f) es ok o = row_apart e n f es o
  begins_anew e n (run f zero) es ok o = absurd (omega arith)
  begins_anew e n (run f (suc k)) es ok o = row_apart e n f (replicate k f ++ es) o

  again : (is : List Item) → ItemsOk true l is → Longest is → rolled (unrolled is) ≡ is
  unfolding rolled
  again [] ok g = refl
  again (i ∷ []) ok g = rolled_item i [] ok.0 ∙ row_last (event_in i) (count_in i) ∙ ap (λ (k : Item). k ∷ []) (same_item i ok.0)
  again (i ∷ j ∷ is) ok g =
      rolled_item i (unrolled (j ∷ is)) ok.0
      ∙ begins_anew (event_in i) (count_in i) j (unrolled is) ok.1.0 g.0
      ∙ rw (same_item i ok.0, again (j ∷ is) ok.1 g.1)

  -- New to old to new gives the same items exactly when the runs were already longest.
  pub unroll_again_exactly : (is : List Item) → ItemsOk true l is → (rolled (unrolled is) ≡ is → Longest is) × (Longest is → rolled (unrolled is) ≡ is)
  unroll_again_exactly is ok = (λ e. rw e at (rolled_longest (unrolled is)), λ g. again is ok g)
