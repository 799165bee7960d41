-- A partly read block in two: the events that are skipped, and those that are summed.
-- Assumes nothing.
use Prim.Native.Nat.{ℕ, zero, suc, ◌+◌, ◌-◌, ◌*◌, ◌≤◌, ◌<◌}
use mathlib.Core.List.{List, [], ◌++◌}
use mathlib.Core.Path.{◌≡◌, refl, sym, ap, ◌∙◌}
use native.Mathlib.Omega.{arith}
use native.Mathlib.Nat.{zero-add, suc-add}
use lib.ListN.{length}
use lib.Seq.{drop_at}
use Rattle.std.specs.Prelude.{Ok, Err}
use Rattle.decide.specs.declared.refusal.Refusal.{Refusal}
use Rattle.decide.specs.Number.{refusal_of}
use Rattle.decide.specs.Refusal.{first_of}
use Rattle.shaper.specs.declared.Limits.{Limits}
use Rattle.shaper.specs.declared.Event.{Event}
use Rattle.summary.specs.Summary.{summary_of}
use Rattle.record.specs.Read.{Events, faulty, events, onward}
use Rattle.excerpt.specs.declared.Place.{Place}
use Rattle.excerpt.specs.declared.Excerpt.{Excerpt}
use Rattle.excerpt.specs.Place.{event_from, next_place, place_after, place_faults}
use Rattle.excerpt.specs.Excerpt.{Answered, read_part, excerpted, excerpt_of}
use Rattle.excerpt.proofs.Parts.{after_none, after_next}
use Rattle.index.specs.Entry.{place_in}
use Rattle.stretch.specs.declared.Found.TheVariants.{Faulty, Sum}
use Rattle.stretch.specs.Found.{Source, source_of, entry_found, part_found}

-- events behind others: the earlier fault counts
abbrev pub and_more : Events → Events → Events
and_more (faulty n) r = faulty n
and_more (events es) (faulty n) = faulty n
and_more (events es) (events fs) = events (es ++ fs)

and_none : (r : Events) → r ≡ and_more (events []) r
and_none (faulty n) = refl
and_none (events fs) = refl

onward_more : (n : ℕ) (e : Event) (r s : Events) → onward n e (and_more r s) ≡ and_more (onward n e r) s
onward_more zero e (faulty n) s = refl
onward_more zero e (events es) (faulty n) = refl
onward_more zero e (events es) (events fs) = refl
onward_more (suc n) e r s = refl

-- how many events were read
abbrev Counts : ℕ → Events → Type 0
Counts k (faulty n) = Unit {0}
Counts k (events es) = length es ≡ k

onward_counts : (n k : ℕ) (e : Event) (r : Events) → Counts k r → Counts (suc k) (onward n e r)
onward_counts zero k e (faulty n) c = tt
onward_counts zero k e (events es) c = ap suc c
onward_counts (suc n) k e r c = tt

-- a fault has a number
abbrev Numbered : Events → Type 0
Numbered (faulty n) = 0 < n
Numbered (events es) = Unit {0}

onward_numbered : (n : ℕ) (e : Event) (r : Events) → Numbered r → Numbered (onward n e r)
onward_numbered zero e (faulty n) c = c
onward_numbered zero e (events es) c = tt
onward_numbered (suc n) e r c = omega arith

module _ (mtu : ℕ) (xs : List ℕ) where
  -- some events and then some more
  pub part_split : (a b : ℕ) (p : Place) → read_part mtu (a + b) xs p ≡ and_more (read_part mtu a xs p) (read_part mtu b xs (place_after a xs p))
  unfolding read_part
  part_split zero b p = rw (zero-add b, after_none xs p) (and_none (read_part mtu b xs p))
  part_split (suc a) b p =
      rw (suc-add a b, after_next xs a p)
      (ap (onward (first_of (place_faults mtu xs p)) (event_from xs p)) (part_split a b (next_place xs p))
      ∙ onward_more (first_of (place_faults mtu xs p)) (event_from xs p) (read_part mtu a xs (next_place xs p)) (read_part mtu b xs (place_after a xs (next_place xs p))))

  counts : (k : ℕ) (p : Place) → Counts k (read_part mtu k xs p)
  unfolding read_part
  counts zero p = refl
  counts (suc k) p = onward_counts (first_of (place_faults mtu xs p)) k (event_from xs p) (read_part mtu k xs (next_place xs p)) (counts k (next_place xs p))

  -- as many as were asked for
  pub part_count : (k : ℕ) (p : Place) (es : List Event) → read_part mtu k xs p ≡ events es → length es ≡ k
  part_count k p es e = rw e at (counts k p)

  numbered : (k : ℕ) (p : Place) → Numbered (read_part mtu k xs p)
  unfolding read_part
  numbered zero p = tt
  numbered (suc k) p = onward_numbered (first_of (place_faults mtu xs p)) (event_from xs p) (read_part mtu k xs (next_place xs p)) (numbered k (next_place xs p))

  pub part_number : (k n : ℕ) (p : Place) → read_part mtu k xs p ≡ faulty n → 0 < n
  part_number k n p e = rw e at (numbered k p)

-- ---- an excerpt

module _ (l : Limits) (count : ℕ) (xs : List ℕ) (p : Place) where
  abbrev MeansExcerpt : Answered → Type 0
  MeansExcerpt (Ok x) = (es : List Event) × (read_part l.mtu count xs p ≡ events es) × (x.sum ≡ summary_of l es) × (x.next ≡ place_after count xs p)
  MeansExcerpt (Err r) = (n : ℕ) × (read_part l.mtu count xs p ≡ faulty n) × (refusal_of n ≡ r)

  means_excerpt : MeansExcerpt (excerpt_of l count xs p)
  unfolding excerpt_of
  means_excerpt = by (read_part l.mtu count xs p) refl
    where
      by : (r : Events) → read_part l.mtu count xs p ≡ r → MeansExcerpt (excerpted l (place_after count xs p) (read_part l.mtu count xs p))
      by (faulty n) e = rw e (n, e, refl)
      by (events es) e = rw e (es, e, refl, refl)

  pub excerpt_summed : (x : Excerpt) → excerpt_of l count xs p ≡ Ok x → MeansExcerpt (Ok x)
  excerpt_summed x e = rw e at means_excerpt

  pub excerpt_refused : (r : Refusal) → excerpt_of l count xs p ≡ Err r → MeansExcerpt (Err r)
  excerpt_refused r e = rw e at means_excerpt

-- ---- what a part looks at

pub entry_source : (q : Source) (entry covers : ℕ) → entry_found (source_of q.limits [] q.index 0) entry covers ≡ entry_found q entry covers
unfolding entry_found
entry_source q entry covers = refl

pub part_source : (q : Source) (x skipped count : ℕ) → part_found (source_of q.limits q.bytes q.index 0) x skipped count ≡ part_found q x skipped count
unfolding part_found
part_source q x skipped count = refl

-- ---- a block read as two excerpts

module _ (q : Source) (x skipped count : ℕ) (few : skipped ≤ count) where
  abbrev start : Place
  start = place_in q.index (80 * x)

  abbrev again : Place
  again = place_after skipped q.bytes start

  in_two : read_part q.limits.mtu count q.bytes start
      ≡ and_more (read_part q.limits.mtu skipped q.bytes start) (read_part q.limits.mtu (count - skipped) q.bytes again)
  in_two =
      let sum : skipped + (count - skipped) ≡ count = omega arith in
      rw sum at (part_split q.limits.mtu q.bytes skipped (count - skipped) start)

  -- a fault of those skipped goes first
  pub part_skipped_fault : (r : Refusal) → excerpt_of q.limits skipped q.bytes start ≡ Err r → part_found q x skipped count ≡ Faulty r
  unfolding part_found
  part_skipped_fault r e =
      let b = excerpt_refused q.limits skipped q.bytes start r e in
      rw (in_two, b.1) (ap Faulty b.2)

  module _ (s : Excerpt) (e : excerpt_of q.limits skipped q.bytes start ≡ Ok s) where
    -- then one of those behind them
    pub part_summed_fault : (r : Refusal) → excerpt_of q.limits (count - skipped) q.bytes s.next ≡ Err r → part_found q x skipped count ≡ Faulty r
    unfolding part_found
    part_summed_fault r f =
        let a = excerpt_summed q.limits skipped q.bytes start s e in
        let b = excerpt_refused q.limits (count - skipped) q.bytes again r (rw a.3 at f) in
        rw (in_two, a.1, b.1) (ap Faulty b.2)

    pub part_both : (t : Excerpt) → excerpt_of q.limits (count - skipped) q.bytes s.next ≡ Ok t → part_found q x skipped count ≡ Sum t.sum
    unfolding part_found
    part_both t f =
        let a = excerpt_summed q.limits skipped q.bytes start s e in
        let b = excerpt_summed q.limits (count - skipped) q.bytes again t (rw a.3 at f) in
        let n = part_count q.limits.mtu q.bytes skipped start a.0 a.1 in
        rw (in_two, a.1, b.1, drop_at a.0 b.0 skipped n) (ap Sum (sym b.2))
