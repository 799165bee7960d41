-- The code reads a pattern as a record of which 256 events may come, where too many give 9; no fault of an item does, and so 3 in its place is the pattern's number.
-- Assumes nothing.
use Rattle.std.specs.Prelude.{Ok, Err}
use Rattle.decide.specs.declared.refusal.Refusal.{Refusal}
use Rattle.decide.specs.Number.{number_in, refusal_of}
use Rattle.decide.proofs.Number.{number_told}
use Prim.Native.Nat.{ℕ, zero, suc, ◌≤◌, ◌<◌}
use mathlib.Core.Bool.{Bool, true, false, cond, ◌&&◌}
use mathlib.Core.List.{List, [], ◌∷◌}
use mathlib.Core.Path.{◌≡◌, refl, sym, ap, ◌∙◌}
use native.Mathlib.Omega.{arith}
use borrow.Author.Tests.{leb-true, ne_eqb}
use lib.Dec.{leb, eqb}
use lib.ListN.{drop}
use Rattle.decide.specs.Test.{both}
use Rattle.decide.specs.Refusal.{Fault, first_of, in_order, chained}
use Rattle.decide.proofs.Cases.{of_each}
use Rattle.decide.proofs.Given.{in_order_lem, first_exact}
use Rattle.shaper.specs.declared.Limits.{Limits}
use Rattle.shaper.specs.declared.Event.{Event}
use Rattle.shaper.specs.Kind.{event_of}
use Rattle.record.specs.Step.{Header, header_number}
use Rattle.record.proofs.Named.{header_named}
use Rattle.record.specs.Read.{header_faults, event_faults, is_run, run_faults, item_faults, item_kind, item_number, Events, faulty, events, onward, gone_behind, bytes_behind, read_items, read_from, Read, unreadable, whole, under}
use Rattle.record.specs.Step.{header_of_of}
use Rattle.record.proofs.Steps.{header_faulty}
use Rattle.record.proofs.Refused.{header_refused_exactly}
use Rattle.summary.specs.Answer.{Answer}
use Rattle.account.specs.Account.{summarized, events_of}
use Rattle.heartbeat.specs.Heartbeat.{most_of_pattern, read_pattern, pattern_by, pattern_of, many_told}

-- ---- an item's fault is 2 or 3

abbrev up_to3 : List Fault → Bool
up_to3 [] = true
up_to3 (f ∷ fs) = leb f.number 3 && up_to3 fs

chained_small : (fs : List Fault) → up_to3 fs ≡ true → chained fs ≤ 3
chained_small [] e = omega arith
chained_small (f ∷ fs) e =
    let p = both (leb f.number 3) (up_to3 fs) e in
    of_each (λ (n : ℕ). n ≤ 3) f.applies f.number (chained fs) (λ a. leb-true f.number 3 p.0) (λ a. chained_small fs p.1)

rows_small : (fs : List Fault) → in_order fs ≡ true → up_to3 fs ≡ true → first_of fs ≤ 3
rows_small fs o e = rw (in_order_lem fs o) (chained_small fs e)

item_small : (mtu : ℕ) (xs : List ℕ) → first_of (item_faults true mtu xs) ≤ 3
unfolding item_faults
item_small mtu xs = of_each (λ (fs : List Fault). first_of fs ≤ 3) (is_run xs) (run_faults xs) (event_faults mtu xs) (λ e. rows_small (run_faults xs) refl refl) (λ e. rows_small (event_faults mtu xs) refl refl)

-- ---- 3 for 9

abbrev lately : Events → Events
lately (faulty n) = faulty (cond (eqb n 9) 3 n)
lately (events es) = events es

onward_late : (n : ℕ) (e : Event) (r : Events) → n ≤ 3 → lately (onward n e r) ≡ onward n e (lately r)
onward_late zero e (faulty m) h = refl
onward_late zero e (events es) h = refl
onward_late (suc n) e r h = rw (ne_eqb (suc n) 9 (λ z. omega arith))

read_late : (mtu left gone : ℕ) (xs : List ℕ) → lately (read_items true 9 mtu left gone xs) ≡ read_items true 3 mtu left gone xs
unfolding read_items
read_late mtu zero gone [] = refl
read_late mtu zero gone (x ∷ xs) = refl
read_late mtu (suc left) gone [] = refl
read_late mtu (suc left) gone (x ∷ xs) =
    onward_late (first_of (item_faults true mtu (x ∷ xs))) (event_of (item_kind (x ∷ xs)) (item_number (x ∷ xs))) _ (item_small mtu (x ∷ xs))
    ∙ ap (onward (first_of (item_faults true mtu (x ∷ xs))) (event_of (item_kind (x ∷ xs)) (item_number (x ∷ xs))))
    (read_late mtu left (gone_behind gone (x ∷ xs)) (bytes_behind gone (x ∷ xs)))

three_for : (b : Bool) (n : ℕ) → ◌≡◌ {A = Answer} (cond b (Err (refusal_of 3)) (Err (refusal_of n))) (Err (refusal_of (cond b 3 n)))
three_for true n = refl
three_for false n = refl

told_late : (l : Limits) (r : Events) → many_told (summarized (under l r)) ≡ summarized (under l (lately r))
told_late l (faulty n) = rw (number_told n) (three_for (eqb n 9) n)
told_late l (events es) = refl

module _ (xs : List ℕ) where
  -- a header that stands: the pattern comes to what all behind it comes to
  pub pattern_start : (l : Limits) → header_of_of xs ≡ Ok l → many_told (events_of true l most_of_pattern (drop 14 xs)) ≡ pattern_of xs
  unfolding events_of pattern_of read_pattern
  pattern_start l e =
      rw e
      (told_late l (read_items true 9 l.mtu most_of_pattern 0 (drop 14 xs))
      ∙ ap (λ r. summarized (under l r)) (read_late l.mtu most_of_pattern 0 (drop 14 xs)))

  -- one that does not
  pub pattern_unreadable : (r : Refusal) → header_of_of xs ≡ Err r → Err r ≡ pattern_of xs
  unfolding pattern_of read_pattern
  pattern_unreadable r e = rw e (ap Err (sym (rw e at (header_named xs))))

-- ---- a pattern's number is 1, 2 or 3

abbrev SmallEvents : Events → Type 0
SmallEvents (faulty n) = (0 < n) × (n ≤ 3)
SmallEvents (events es) = Unit {0}

onward_small : (n : ℕ) (e : Event) (r : Events) → n ≤ 3 → SmallEvents r → SmallEvents (onward n e r)
onward_small zero e (faulty m) h k = k
onward_small zero e (events es) h k = tt
onward_small (suc n) e r h k = (omega arith, h)

read_small : (mtu left gone : ℕ) (xs : List ℕ) → SmallEvents (read_items true 3 mtu left gone xs)
unfolding read_items
read_small mtu zero gone [] = tt
read_small mtu zero gone (x ∷ xs) = omega arith
read_small mtu (suc left) gone [] = tt
read_small mtu (suc left) gone (x ∷ xs) =
    onward_small (first_of (item_faults true mtu (x ∷ xs))) (event_of (item_kind (x ∷ xs)) (item_number (x ∷ xs))) _ (item_small mtu (x ∷ xs))
    (read_small mtu left (gone_behind gone (x ∷ xs)) (bytes_behind gone (x ∷ xs)))

abbrev SmallRead : Read → Type 0
SmallRead (unreadable n) = (0 < n) × (n ≤ 3)
SmallRead (whole l es) = Unit {0}

under_small : (l : Limits) (r : Events) → SmallEvents r → SmallRead (under l r)
under_small l (faulty n) h = h
under_small l (events es) h = tt

header_small : (xs : List ℕ) (r : Refusal) → header_of_of xs ≡ Err r → (0 < number_in r) × (number_in r ≤ 3)
header_small xs r e =
    let n = number_in r in
    let p = (header_faulty true xs r e).0 in
    (p, omega (arith, (first_exact (header_faults xs) refl n p).is_given ((header_refused_exactly xs n p).0 (ap header_number e)), rows_small (header_faults xs) refl refl))

pub pattern_small : (xs : List ℕ) → SmallRead (read_pattern xs)
unfolding read_pattern
pattern_small xs = by (header_of_of xs) refl
  where
    by : (h : Header) → header_of_of xs ≡ h → SmallRead (pattern_by xs h)
    by (Ok l) e = under_small l (read_from 3 l.mtu most_of_pattern 0 (drop 14 xs)) (read_small l.mtu most_of_pattern 0 (drop 14 xs))
    by (Err r) e = header_small xs r e
