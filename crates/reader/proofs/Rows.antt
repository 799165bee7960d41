-- What a reader finds at a place, row by row, and where it stands then.
-- Assumes nothing.
use Prim.Native.Nat.{ℕ, ◌+◌, ◌-◌, ◌≤◌, ◌<◌}
use mathlib.Core.Bool.{true}
use mathlib.Core.List.{List}
use mathlib.Core.Logic.{⊎_elim}
use mathlib.Core.Path.{◌≡◌, refl, sym, ◌∙◌}
use native.Mathlib.Omega.{arith}
use lib.ListN.{length}
use Rattle.std.specs.Prelude.{Some, None, Ok, Err}
use Rattle.decide.specs.declared.refusal.Refusal.{Refusal}
use Rattle.decide.specs.Number.{refusal_of}
use Rattle.shaper.specs.declared.Limits.{Limits}
use Rattle.shaper.specs.Limits.{most_events}
use Rattle.record.specs.Read.{limits_at}
use Rattle.record.specs.Step.{Header, Step, placed, header_of_of, step_at, step_within}
use Rattle.record.proofs.Rows.{item_end, within_stands, within_over, within_end, within_faulty, within_none}
use Rattle.record.proofs.Steps.{Stood, header_stands, step_stands, step_end, stood_within}
use Rattle.reader.specs.declared.Place.{Place}
use Rattle.reader.specs.declared.Reader.{Reader}
use Rattle.reader.specs.Place.{next_at}
use Rattle.reader.specs.Walk.{next_of, moved_of}

-- ---- header first

module _ (xs : List ℕ) (p : Place) where
  -- The header's fault is found at every place.
  pub next_unreadable : (r : Refusal) → header_of_of xs ≡ Err r → next_at xs p ≡ Err r
  unfolding next_at
  next_unreadable r e = rw e

  pub next_settings : (l : Limits) → header_of_of xs ≡ Ok l → next_at xs p ≡ step_within (refusal_of 9) (most_events - p.done) l.mtu xs p.at
  unfolding next_at
  next_settings l e = rw e

-- ---- among the items

module _ (xs : List ℕ) (p : Place) (l : Limits) (e : header_of_of xs ≡ Ok l) where
  -- An item is found where its events may come,
  pub next_item : (k v c next : ℕ) → step_at l.mtu xs p.at ≡ Ok (Some (placed k v c next)) → p.done + c ≤ most_events → next_at xs p ≡ Ok (Some (placed k v c next))
  next_item k v c next s few = next_settings xs p l e ∙ within_stands true (refusal_of 9) (most_events - p.done) l.mtu xs p.at k v c next s (omega arith)

  -- and one that passes the million gives 9;
  pub next_passes : (k v c next : ℕ) → step_at l.mtu xs p.at ≡ Ok (Some (placed k v c next)) → most_events < p.done + c → next_at xs p ≡ Err (refusal_of 9)
  next_passes k v c next s many =
      next_settings xs p l e
      ∙ within_over true (refusal_of 9) (most_events - p.done) l.mtu xs p.at k v c next s (omega (arith, (step_stands true l.mtu xs p.at k v c next s).some))

  -- its fault is found where an event may come.
  pub next_faulty : (r : Refusal) → step_at l.mtu xs p.at ≡ Err r → p.done < most_events → next_at xs p ≡ Err r
  next_faulty r s few = next_settings xs p l e ∙ within_faulty true (refusal_of 9) (most_events - p.done) l.mtu xs p.at r s (omega arith)

  pub next_end : length xs ≤ p.at → next_at xs p ≡ Ok None
  next_end h = next_settings xs p l e ∙ within_end true (refusal_of 9) (most_events - p.done) l.mtu xs p.at (item_end true l.mtu xs p.at h)

  -- Any byte after the millionth event gives 9.
  pub next_over : most_events ≤ p.done → p.at < length xs → next_at xs p ≡ Err (refusal_of 9)
  next_over h k = by (step_at l.mtu xs p.at) refl
    where
      by : (s : Step) → step_at l.mtu xs p.at ≡ s → next_at xs p ≡ Err (refusal_of 9)
      by (Ok (Some i)) f = next_passes i.kind i.number i.count i.next f (omega (arith, (step_stands true l.mtu xs p.at i.kind i.number i.count i.next f).some))
      by (Ok None) f = absurd (omega (arith, step_end true l.mtu xs p.at f))
      by (Err r) f = next_settings xs p l e ∙ within_none true (refusal_of 9) (most_events - p.done) l.mtu xs p.at r f (omega arith)

-- ---- an item

-- An item that is found stands there under the header's mtu, an event or a run: its fields are good, the next begins behind it, within the bytes; and with it no more
-- than a million events have come.
pub next_stands : (xs : List ℕ) (p : Place) (k v c next : ℕ) → next_at xs p ≡ Ok (Some (placed k v c next)) →
    Stood true (limits_at xs).mtu xs p.at k v c next × (p.done + c ≤ most_events)
next_stands xs p k v c next f = by (header_of_of xs) refl
  where
    by : (h : Header) → header_of_of xs ≡ h → Stood true (limits_at xs).mtu xs p.at k v c next × (p.done + c ≤ most_events)
    by (Err r) e = let g = next_unreadable xs p r e in let z : ◌≡◌ {A = ℕ} 0 1 = cc in absurd (omega arith)
    by (Ok l) e =
        let s = stood_within true (refusal_of 9) (most_events - p.done) l.mtu xs p.at k v c next (sym (next_settings xs p l e) ∙ f) in
        (rw (header_stands xs l e).settings at s.0, omega (arith, s.1, s.0.some))

-- ---- where a reader stands then

module _ (r : Reader) where
  -- Behind an item it stands at the next, the item's events being passed:
  pub moved_on : (k v c next : ℕ) → next_of r ≡ Ok (Some (placed k v c next)) →
      moved_of r ≡ record { bytes = r.bytes; place = record { at = next; done = r.place.done + c } }
  moved_on k v c next e = rw e

  -- behind an event 6 bytes on, one event more,
  pub moved_event : (k v next : ℕ) → next_of r ≡ Ok (Some (placed k v 1 next)) →
      moved_of r ≡ record { bytes = r.bytes; place = record { at = r.place.at + 6; done = r.place.done + 1 } }
  moved_event k v next e =
      let s = (next_stands r.bytes.now r.place k v 1 next e).0 in
      let six : next ≡ r.place.at + 6 = ⊎_elim (λ t. t.six) (λ t. absurd (omega (arith, t.1.many))) s.there in
      moved_on k v 1 next e ∙ rw six

  -- and behind a run 10 bytes on, as many events more as it stands for;
  pub moved_run : (k v c next : ℕ) → next_of r ≡ Ok (Some (placed k v c next)) → 1 < c →
      moved_of r ≡ record { bytes = r.bytes; place = record { at = r.place.at + 10; done = r.place.done + c } }
  moved_run k v c next e many =
      let s = (next_stands r.bytes.now r.place k v c next e).0 in
      let ten : next ≡ r.place.at + 10 = ⊎_elim (λ t. absurd (omega (arith, t.one))) (λ t. t.1.ten) s.there in
      moved_on k v c next e ∙ rw ten

  -- at the end and at a fault it stays.
  pub moved_end : next_of r ≡ Ok None → moved_of r ≡ r
  moved_end e = rw e

  pub moved_faulty : (f : Refusal) → next_of r ≡ Err f → moved_of r ≡ r
  moved_faulty f e = rw e
