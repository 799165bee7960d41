-- Events from a place on: an item's in one step, and what is read of them.
-- Assumes nothing.
use Prim.Native.Nat.{ℕ, zero, suc, ◌+◌, ◌≤◌, ◌<◌}
use mathlib.Core.Bool.{true}
use mathlib.Core.List.{List, []}
use mathlib.Core.Path.{◌≡◌, refl, sym, ap, ◌∙◌}
use native.Mathlib.Omega.{arith}
use native.Mathlib.Nat.{zero-add, suc-add}
use borrow.Author.Tests.{le-ltb, lt-ltb}
use lib.ListN.{drop}
use Rattle.decide.specs.Refusal.{first_of}
use Rattle.decide.proofs.Cases.{by_cases, le_or}
use Rattle.std.specs.Prelude.{Some, None, Ok, Err}
use Rattle.decide.specs.Number.{number_in}
use Rattle.shaper.specs.declared.Limits.{Limits}
use Rattle.shaper.specs.declared.Event.{Event}
use Rattle.shaper.specs.Credit.{Valid}
use Rattle.shaper.specs.Kind.{event_of}
use Rattle.wire.specs.Wire.{Bytes}
use Rattle.record.specs.Read.{Events, faulty, events, onward, ahead, length_at, item_faults, item_count}
use Rattle.record.specs.Step.{Step, item_at}
use Rattle.record.proofs.Steps.{step_end, step_faulty, stood_bound}
use Rattle.account.proofs.Rest.{ValidEvents}
use Rattle.excerpt.specs.declared.Place.{Place}
use Rattle.excerpt.specs.Place.{bytes_from, event_from, next_place, passed_of, place_after, place_faults}
use Rattle.excerpt.specs.Excerpt.{read_part}
use Rattle.excerpt.proofs.Faults.{Standing, standing, faulty_there, fault_early, fault_gone, fault_item, item_none}

abbrev pub placed : ℕ → ℕ → Place
placed at gone = record { at = at; gone = gone }

-- ---- places

module _ (xs : List ℕ) where
  pub after_next : (count : ℕ) (p : Place) → place_after (suc count) xs p ≡ place_after count xs (next_place xs p)
  unfolding place_after
  after_next count p = refl

  pub after_none : (p : Place) → place_after 0 xs p ≡ p
  unfolding place_after
  after_none p = refl

  -- behind some events, and then some more
  pub after_more : (j m : ℕ) (p : Place) → place_after (j + m) xs p ≡ place_after m xs (place_after j xs p)
  after_more zero m p = rw (zero-add m, after_none p)
  after_more (suc j) m p = rw (suc-add j m, after_next (j + m) p, after_next j p) (after_more j m (next_place xs p))

-- no place moves back
pub passed_late : (at gone many next : ℕ) → 14 ≤ at → at ≤ next → 14 ≤ (passed_of at gone many next).at
unfolding passed_of
passed_late at gone many next late on =
    by_cases (le_or many gone) (λ h. rw (le-ltb gone many h) (omega arith)) (λ h. rw (lt-ltb gone many h) late)

-- behind all of an item's events stands the next
pub passed_all : (at many next : ℕ) → passed_of at many many next ≡ placed next 0
unfolding passed_of
passed_all at many next = rw (le-ltb many many (omega arith))

-- ---- one event

module _ (mtu : ℕ) (xs : List ℕ) (p : Place) where
  pub part_event : (m : ℕ) → first_of (place_faults mtu xs p) ≡ 0 → read_part mtu (suc m) xs p ≡ onward 0 (event_from xs p) (read_part mtu m xs (next_place xs p))
  unfolding read_part
  part_event m e = rw e

  pub part_fault_lem : (m n : ℕ) → 0 < n → first_of (place_faults mtu xs p) ≡ n → read_part mtu (suc m) xs p ≡ faulty n
  unfolding read_part
  part_fault_lem m zero h e = absurd (omega arith)
  part_fault_lem m (suc n) h e = rw e

pub part_none : (mtu : ℕ) (xs : List ℕ) (p : Place) → read_part mtu 0 xs p ≡ events []
unfolding read_part
part_none mtu xs p = refl

-- ---- an item

-- the places within an item of c events
module _ (xs : List ℕ) (at c next : ℕ) (counts : item_count (drop at xs) ≡ c) (on : at + length_at (drop at xs) ≡ next) where
  -- behind an event that is not its last
  pub next_amid : (gone : ℕ) → suc gone < c → next_place xs (placed at gone) ≡ placed at (suc gone)
  next_amid gone h = rw (counts, lt-ltb (suc gone) c h)

  -- and behind its last
  pub next_last : (gone : ℕ) → c ≤ suc gone → next_place xs (placed at gone) ≡ placed next 0
  next_last gone h = rw (counts, le-ltb (suc gone) c h, on)

  pub after_item : (j gone : ℕ) → 1 ≤ j → gone + j ≤ c → place_after j xs (placed at gone) ≡ passed_of at (gone + j) c next
  unfolding passed_of
  after_item zero gone h few = absurd (omega arith)
  after_item (suc zero) gone h few =
      after_next xs 0 (placed at gone)
      ∙ after_none xs (next_place xs (placed at gone))
      ∙ by_cases (le_or c (gone + 1))
      (λ e. next_last gone (omega arith) ∙ sym (rw (le-ltb (gone + 1) c e)))
      (λ e. next_amid gone (omega arith) ∙ rw (lt-ltb (gone + 1) c e) (ap (placed at) (omega arith)))
  after_item (suc (suc j)) gone h few =
      let same : suc gone + suc j ≡ gone + suc (suc j) = omega arith in
      after_next xs (suc j) (placed at gone) ∙ rw (next_amid gone (omega arith)) (rw same at (after_item (suc j) (suc gone) (omega arith) (omega arith)))

module _ (mtu : ℕ) (xs : List ℕ) (at k v c next : ℕ) (s : Standing mtu xs at k v c next) (behind : 14 ≤ at) where
  -- an event of it has no fault
  pub item_free : (gone : ℕ) → gone < c → first_of (place_faults mtu xs (placed at gone)) ≡ 0
  item_free gone h = fault_item mtu xs (placed at gone) behind (rw s.told.count h) ∙ s.stood.free

  -- Some of an item's events in one step, and then what stands behind them.
  pub part_item : (j m gone : ℕ) → gone + j ≤ c → read_part mtu (j + m) xs (placed at gone) ≡ ahead j (event_of k v) (read_part mtu m xs (place_after j xs (placed at gone)))
  part_item zero m gone few = rw (zero-add m, after_none xs (placed at gone))
  part_item (suc zero) m gone few =
      rw (suc-add 0 m, zero-add m, after_next xs 0 (placed at gone), after_none xs (next_place xs (placed at gone)))
      (part_event mtu xs (placed at gone) m (item_free gone (omega arith)) ∙ rw (s.told.kind, s.told.number))
  part_item (suc (suc j)) m gone few =
      rw (suc-add (suc j) m, after_next xs (suc j) (placed at gone))
      (part_event mtu xs (placed at gone) (suc j + m) (item_free gone (omega arith))
      ∙ rw (s.told.kind, s.told.number, next_amid xs at c next s.told.count s.behind gone (omega arith)) (ap (λ r. onward 0 (event_of k v) r) (part_item (suc j) m (suc gone) (omega arith))))

-- ---- what is read is valid

-- a place without a fault names an item without one
no_fault : (mtu : ℕ) (xs : List ℕ) (p : Place) → first_of (place_faults mtu xs p) ≡ 0 → (n : ℕ) → 0 < n → first_of (item_faults true mtu (bytes_from xs p)) ≡ n → ⊥
no_fault mtu xs p e n h f =
    by_cases (le_or 14 p.at)
    (λ a. by_cases (le_or (item_count (bytes_from xs p)) p.gone)
    (λ g. omega (arith, fault_gone mtu xs p g))
    (λ g. omega (arith, fault_item mtu xs p a g)))
    (λ a. omega (arith, fault_early mtu xs p a))

-- an event before others
valid_onward : (l : Limits) (e : Event) → Valid l e → (r : Events) → ValidEvents l r → ValidEvents l (onward 0 e r)
valid_onward l e v (faulty n) w = tt
valid_onward l e v (events es) w = (v, w)

module _ (l : Limits) (xs : List ℕ) (b : Bytes xs) where
  pub part_valid : (m : ℕ) (p : Place) → ValidEvents l (read_part l.mtu m xs p)
  part_valid zero p = rw (part_none l.mtu xs p) tt
  part_valid (suc m) p = by (part_valid m (next_place xs p)) (first_of (place_faults l.mtu xs p)) refl (item_at true l.mtu xs p.at) refl
    where
      by : ValidEvents l (read_part l.mtu m xs (next_place xs p)) → (n : ℕ) → first_of (place_faults l.mtu xs p) ≡ n → (s : Step) → item_at true l.mtu xs p.at ≡ s →
          ValidEvents l (read_part l.mtu (suc m) xs p)
      by more (suc n) e s f = rw (part_fault_lem l.mtu xs p m (suc n) (omega arith) e) tt
      by more zero e (Ok (Some i)) f =
          let s = standing l.mtu xs p.at i.kind i.number i.count i.next f in
          let ok = s.stood.valid l refl (stood_bound true l.mtu xs p.at i.kind i.number i.count i.next b s.stood) in
          rw (part_event l.mtu xs p m e, s.told.kind, s.told.number) (valid_onward l (event_of i.kind i.number) ok (read_part l.mtu m xs (next_place xs p)) more)
      by more zero e (Ok None) f = absurd (no_fault l.mtu xs p e 2 (omega arith) (item_none l.mtu xs p.at (step_end true l.mtu xs p.at f)))
      by more zero e (Err r) f = absurd (no_fault l.mtu xs p e (number_in r) (step_faulty true l.mtu xs p.at r f).given (faulty_there l.mtu xs p.at r f))
