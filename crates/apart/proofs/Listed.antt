-- The list holds every difference and no others, in event order, and is empty exactly where the events are the same.
-- Assumes nothing.
use Prim.Native.Nat.{ℕ, zero, suc, ◌≤◌}
use mathlib.Core.Bool.{Bool, true, false, not, ◌||◌, true≢false}
use mathlib.Core.List.{List, [], ◌∷◌, ◌++◌, cons≢nil}
use mathlib.Core.Logic.{◌⊎◌, ◌↔◌, inl, inr, ⊎_elim}
use mathlib.Core.Path.{◌≡◌, refl, sym, ap, ◌∙◌}
use native.Mathlib.Nat.{zero-add}
use native.Mathlib.Numerals.{add-one}
use native.Mathlib.Omega.{arith}
use borrow.Author.Tests.{eqb-true, eqb-false, eq-eqb, ne_eqb, not-true}
use lib.Dec.{eqb}
use lib.ListN.{length, take, drop, length-drop, drop_of_length-le}
use lib.Seq.{drop-drop}
use Rattle.decide.specs.Test.{either, or_r}
use Rattle.shaper.specs.declared.Event.{Event}
use Rattle.shaper.specs.Kind.{kind_of, number_of}
use Rattle.shaper.proofs.Kind.{event_of_lem}
use Rattle.apart.specs.Told.{Told, both, first_only, second_only, differ, listed_if, list_from, list_of, At, here, behind, Listed, first, later, ListsExactly, position_of, InOrder}
use Rattle.apart.proofs.Grows.{list_cut}

-- ---- two events

unequal_exactly : (a b : ℕ) → (not (eqb a b) ≡ true) ↔ (a ≡ b → ⊥)
unequal_exactly a b = (λ h. eqb-false a b (not-true (eqb a b) h), λ h. ap not (ne_eqb a b h))

-- they differ exactly where kind or number does,
pub differ_exactly : (e f : Event) → (differ e f ≡ true) ↔ ((kind_of e ≡ kind_of f → ⊥) ⊎ (number_of e ≡ number_of f → ⊥))
unfolding differ
differ_exactly e f =
    let k = unequal_exactly (kind_of e) (kind_of f) in
    let n = unequal_exactly (number_of e) (number_of f) in
    let a = not (eqb (kind_of e) (kind_of f)) in
    let b = not (eqb (number_of e) (number_of f)) in
    (λ d. ⊎_elim (λ h. inl (k.0 h)) (λ h. inr (n.0 h)) (either a b d), λ s. ⊎_elim (λ h. rw (k.1 h)) (λ h. or_r a b (n.1 h)) s)

-- where neither test is false, both are true
neither : (a b : Bool) → (not a || not b) ≡ false → (a ≡ true) × (b ≡ true)
neither true true e = (refl, refl)
neither true false e = absurd (true≢false e)
neither false b e = absurd (true≢false e)

-- no event differs from itself
itself : (e : Event) → differ e e ≡ false
unfolding differ
itself e = rw (eq-eqb (kind_of e) (kind_of e) refl, eq-eqb (number_of e) (number_of e) refl)

-- and else they are the same, since kind and number say which event it is
pub same_exactly : (e f : Event) → (differ e f ≡ false) ↔ (e ≡ f)
unfolding differ
same_exactly e f = (
  λ d. let h = neither (eqb (kind_of e) (kind_of f)) (eqb (number_of e) (number_of f)) d in
      let k = eqb-true (kind_of e) (kind_of f) h.0 in
      let n = eqb-true (number_of e) (number_of f) h.1 in
      sym (event_of_lem e) ∙ rw (k, n) (event_of_lem f),
  λ p. rw p (itself f),
)

-- ---- what is listed, and nothing else

-- what holds of a line, if it is listed, and of the lines behind it holds of all of them
for_each : (P : Told → Type 0) (b : Bool) (t : Told) (ts : List Told) → (b ≡ true → P t) → ((u : Told) → Listed u ts → P u) →
    (u : Told) → Listed u (listed_if b t ts) → P u
for_each P true t ts p rest u first = p refl
for_each P true t ts p rest u (later m) = rest u m
for_each P false t ts p rest u m = rest u m

-- what stands first behind n events stands at n,
at_front : {e : Event} {es : List Event} (n : ℕ) (l : List Event) → e ∷ es ≡ drop n l → At l n e
at_front zero l p = rw (← p) here
at_front (suc n) [] p = absurd (cons≢nil p)
at_front (suc n) (d ∷ l) p = behind (at_front n l p)

-- and where nothing does, there are no more than n events
at_end : (n : ℕ) (l : List Event) → [] ≡ drop n l → length l ≤ n
at_end n l p = omega (arith, simp length-drop at (ap length p))

-- what follows one event more
onward : {es : List Event} (n : ℕ) (l : List Event) → es ≡ drop n l → drop 1 es ≡ drop (suc n) l
onward n l p = ap (drop 1) p ∙ drop-drop 1 n l ∙ rw add-one

module _ (es₀ fs₀ : List Event) where
  -- what a line says of the two records
  abbrev Means : Told → Type 0
  Means (both n e f) = At es₀ n e × At fs₀ n f × ((kind_of e ≡ kind_of f → ⊥) ⊎ (number_of e ≡ number_of f → ⊥))
  Means (first_only n e) = At es₀ n e × (length fs₀ ≤ n)
  Means (second_only n f) = At fs₀ n f × (length es₀ ≤ n)

  -- each line listed of what follows the first n events of both records is true of the records
  means : (n : ℕ) (es fs : List Event) → es ≡ drop n es₀ → fs ≡ drop n fs₀ → (u : Told) → Listed u (list_from n es fs) → Means u
  unfolding list_from
  means n [] [] p q = λ u. elim [ ]
  means n (e ∷ es) [] p q =
      for_each Means true (first_only n e) (list_from (suc n) es []) (λ _. (at_front n es₀ p, at_end n fs₀ q)) (means (suc n) es [] (onward n es₀ p) (onward n fs₀ q))
  means n [] (f ∷ fs) p q =
      for_each Means true (second_only n f) (list_from (suc n) [] fs) (λ _. (at_front n fs₀ q, at_end n es₀ p)) (means (suc n) [] fs (onward n es₀ p) (onward n fs₀ q))
  means n (e ∷ es) (f ∷ fs) p q =
      for_each Means (differ e f) (both n e f) (list_from (suc n) es fs) (λ d. (at_front n es₀ p, at_front n fs₀ q, (differ_exactly e f).0 d))
      (means (suc n) es fs (onward n es₀ p) (onward n fs₀ q))

-- ---- and every difference is listed

-- what follows n events begins with the one at n
at_drop : {es : List Event} {n : ℕ} {e : Event} → At es n e → drop n es ≡ e ∷ drop (suc n) es
at_drop here = refl
at_drop (behind a) = at_drop a

listed_right : {u : Told} (ts us : List Told) → Listed u us → Listed u (ts ++ us)
listed_right [] us m = m
listed_right (t ∷ ts) us m = later (listed_right ts us m)

-- what is listed of what follows the first n events is listed of the whole, since the list may be cut there
listed_behind : {u : Told} (n : ℕ) (es fs : List Event) → Listed u (list_from n (drop n es) (drop n fs)) → Listed u (list_of es fs)
listed_behind n es fs m = rw (list_cut n 0 es fs, zero-add) (listed_right (list_from 0 (take n es) (take n fs)) (list_from n (drop n es) (drop n fs)) m)

-- the list holds exactly the differences
pub listed_exactly : (es fs : List Event) → ListsExactly es fs
unfolding list_from
listed_exactly es fs =
    let true_of : (u : Told) → Listed u (list_of es fs) → Means es fs u = means es fs 0 es fs refl refl in
    record {
      differing = λ n e f. (
        true_of (both n e f),
        λ h. listed_behind n es fs (rw (at_drop h.0, at_drop h.1, (differ_exactly e f).1 h.2) first),
      );
      only_first = λ n e. (true_of (first_only n e), λ h. listed_behind n es fs (rw (at_drop h.0, drop_of_length-le fs h.1) first));
      only_second = λ n f. (true_of (second_only n f), λ h. listed_behind n es fs (rw (at_drop h.0, drop_of_length-le es h.1) first));
    }

-- ---- event order

-- the lines are in order, and none is of a position before n
abbrev From : ℕ → List Told → Type 0
From n ts = ((u : Told) → Listed u ts → n ≤ position_of u) × InOrder ts

-- a line of position n before lines from the next on
from_if : (b : Bool) (t : Told) (ts : List Told) → From (suc (position_of t)) ts → From (position_of t) (listed_if b t ts)
from_if b t ts h =
    (for_each (λ u. position_of t ≤ position_of u) b t ts (λ _. omega arith) (λ u m. let k = h.0 u m in omega arith), order b)
  where
    order : (b : Bool) → InOrder (listed_if b t ts)
    order true = (λ u m. let k = h.0 u m in omega arith, h.1)
    order false = h.1

from : (n : ℕ) (es fs : List Event) → From n (list_from n es fs)
unfolding list_from
from n [] [] = (λ u. elim [ ], tt)
from n (e ∷ es) [] = from_if true (first_only n e) (list_from (suc n) es []) (from (suc n) es [])
from n [] (f ∷ fs) = from_if true (second_only n f) (list_from (suc n) [] fs) (from (suc n) [] fs)
from n (e ∷ es) (f ∷ fs) = from_if (differ e f) (both n e f) (list_from (suc n) es fs) (from (suc n) es fs)

-- positions rise down the list
pub in_event_order : (es fs : List Event) → InOrder (list_of es fs)
in_event_order es fs = (from 0 es fs).1

-- ---- the empty list

-- an empty list has no line at its front, nor any behind it
none_listed : (b : Bool) (t : Told) (ts : List Told) → listed_if b t ts ≡ [] → (b ≡ false) × (ts ≡ [])
none_listed true t ts p = absurd (cons≢nil p)
none_listed false t ts p = (refl, p)

empty_same : (n : ℕ) (es fs : List Event) → list_from n es fs ≡ [] → es ≡ fs
unfolding list_from
empty_same n [] [] p = refl
empty_same n (e ∷ es) [] p = absurd (cons≢nil p)
empty_same n [] (f ∷ fs) p = absurd (cons≢nil p)
empty_same n (e ∷ es) (f ∷ fs) p =
    let h = none_listed (differ e f) (both n e f) (list_from (suc n) es fs) p in
    cc ((same_exactly e f).0 h.0, empty_same (suc n) es fs h.1)

pub same_empty : (n : ℕ) (es : List Event) → list_from n es es ≡ []
unfolding list_from
same_empty n [] = refl
same_empty n (e ∷ es) = rw (itself e, same_empty (suc n) es)

-- nothing is listed exactly where the events are the same
pub empty_exactly : (es fs : List Event) → (list_of es fs ≡ []) ↔ (es ≡ fs)
empty_exactly es fs = (empty_same 0 es fs, λ p. rw p (same_empty 0 fs))
