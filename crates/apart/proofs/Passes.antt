-- An item that stands whole in a window is the file's, whatever stands behind the window; and events of it that go by are the next of the file's.
-- Assumes nothing.
use Rattle.std.specs.Prelude.{Ok, Some}
use Rattle.record.specs.declared.Placed.{Placed}
use Rattle.record.specs.Step.{placed}
use Prim.Native.Nat.{ℕ, zero, suc, ◌+◌, ◌-◌, ◌≤◌, ◌<◌}
use mathlib.Core.Bool.{true, false}
use mathlib.Core.List.{List, ◌++◌}
use mathlib.Core.Logic.{◌⊎◌, inl, inr, ⊎_elim}
use mathlib.Core.Path.{◌≡◌, sym, ap, ◌∙◌}
use native.Mathlib.Omega.{arith}
use native.Mathlib.Nat.{add-zero, zero-add, suc-add}
use borrow.Author.Tests.{le-ltb}
use lib.ListN.{length, drop, replicate, length-append, length-drop}
use lib.Seq.{drop-drop, drop-append-le}
use Rattle.decide.specs.Refusal.{first_of}
use Rattle.decide.proofs.Cases.{by_cases, le_or}
use Rattle.wire.specs.Wire.{le}
use Rattle.wire.proofs.Numbers.{le_append_left, le_drop}
use Rattle.shaper.specs.declared.Event.{Event}
use Rattle.shaper.specs.Kind.{event_of}
use Rattle.record.specs.Read.{length_at, item_kind, item_number, item_count, is_run, item_faults, Events, faulty, ahead, read_items}
use Rattle.record.specs.Step.{item_at}
use Rattle.record.proofs.Rows.{Told, run_nowhere, run_at, faults_event, faults_run, told_event, told_run, free_stands}
use Rattle.record.proofs.Steps.{step_stands, read_run, read_past}
use Rattle.record.proofs.Written.{behind, behind_faulty, ahead_behind}
use Rattle.apart.specs.declared.Place.{Place}
use Rattle.apart.specs.Turn.{moved_of}
use Rattle.apart.specs.Page.{from_place}
use Rattle.apart.proofs.Rows.{moved_within, moved_behind}

-- ---- bytes behind a whole item change nothing of it

-- the item at the front is whole: an event has 6 bytes, a run 10
abbrev Whole : List ℕ → Type 0
Whole ys = (6 ≤ length ys) × ((is_run ys ≡ false) ⊎ ((is_run ys ≡ true) × (10 ≤ length ys)))

module _ (mtu : ℕ) (ys q : List ℕ) (whole : Whole ys) where
  run_same : is_run (ys ++ q) ≡ is_run ys
  unfolding is_run
  run_same = rw (le_append_left 2 ys q 2 (omega arith))

  faults_same : item_faults true mtu (ys ++ q) ≡ item_faults true mtu ys
  faults_same =
      ⊎_elim
      (λ e. faults_event true mtu (ys ++ q) (run_same ∙ e)
      ∙ rw (
        le-ltb (length (ys ++ q)) 6 (omega (arith, length-append ys q)),
        le_append_left 2 ys q 0 (omega arith),
        le_append_left 2 ys q 2 (omega arith),
        le_append_left 2 ys q 4 (omega arith),
      )
      (sym (faults_event true mtu ys e ∙ rw (le-ltb (length ys) 6 (omega arith)))))
      (λ r. faults_run true mtu (ys ++ q) (run_same ∙ r.0)
      ∙ rw (
        le-ltb (length (ys ++ q)) 10 (omega (arith, length-append ys q)),
        le_append_left 2 ys q 0 (omega arith),
        le_append_left 2 ys q 4 (omega arith),
        le_append_left 2 ys q 8 (omega arith),
      )
      (sym (faults_run true mtu ys r.0 ∙ rw (le-ltb (length ys) 10 r.1))))
      whole.1

  told_same : (k v c : ℕ) → Told ys k v c → Told (ys ++ q) k v c
  told_same k v c t =
      ⊎_elim
      (λ e. let s = told_event ys e in
      let o = told_event (ys ++ q) (run_same ∙ e) in
      let a = le_append_left 2 ys q 2 (omega arith) in
      let b = le_append_left 2 ys q 4 (omega arith) in
      record { kind = o.kind ∙ a ∙ sym s.kind ∙ t.kind; number = o.number ∙ b ∙ sym s.number ∙ t.number; count = o.count ∙ sym s.count ∙ t.count })
      (λ r. let s = told_run ys r.0 in
      let o = told_run (ys ++ q) (run_same ∙ r.0) in
      let a = le_append_left 2 ys q 4 (omega arith) in
      let b = le_append_left 2 ys q 6 (omega arith) in
      let d = le_append_left 2 ys q 8 (omega arith) in
      record { kind = o.kind ∙ a ∙ sym s.kind ∙ t.kind; number = o.number ∙ b ∙ sym s.number ∙ t.number; count = o.count ∙ d ∙ sym s.count ∙ t.count })
      whole.1

-- ---- an item of a file

-- an item at a place of a file, of c events of kind k and number v: it has no fault, and behind it the next begins
pub record Stays (mtu : ℕ) (xs : List ℕ) (at k v c next : ℕ) : Type 0 where
  pub some : 0 < length (drop at xs)
  pub free : first_of (item_faults true mtu (drop at xs)) ≡ 0
  pub told : Told (drop at xs) k v c
  pub behind : drop (length_at (drop at xs)) (drop at xs) ≡ drop next xs

-- an item that stands whole in a window is the file's
pub window_item : (mtu : ℕ) (w q : List ℕ) (at k v c next : ℕ) → item_at true mtu w at ≡ Ok (Some (placed k v c next)) → Stays mtu (w ++ q) at k v c next
window_item mtu w q at k v c next e =
    let s = step_stands true mtu w at k v c next e in
    let n = length-drop at w in
    let ys = drop at w in
    let same : drop at (w ++ q) ≡ ys ++ q = drop-append-le at w q (omega (arith, s.fits, s.further)) in
    let f = free_stands true mtu w at (omega (arith, s.fits, s.further)) s.free in
    let i : placed k v c next ≡ placed (item_kind ys) (item_number ys) (item_count ys) (at + le 2 w at) = cc (sym e ∙ f) in
    let t : Told ys k v c = record { kind = sym (ap (λ (p : Placed). p.kind) i); number = sym (ap (λ (p : Placed). p.number) i); count = s.counts } in
    let place : at + le 2 w at ≡ next = sym (ap (λ (p : Placed). p.next) i) in
    let whole : Whole ys = (
      omega (arith, s.fits, s.further),
      ⊎_elim
          (λ a. inl (run_nowhere ys (λ z. omega (arith, a.kind_field, s.fields.last, simp le_drop at z))))
          (λ r. inr (run_at w at r.1.run_field, omega (arith, r.1.ten, s.fits)))
          s.there,
    ) in
    let size : length_at (ys ++ q) ≡ le 2 w at = le_append_left 2 ys q 0 (omega (arith, s.fits, s.further)) ∙ simp (le_drop, add-zero) in
    record {
      some = rw same (omega (arith, length-append ys q, s.fits, s.further));
      free = rw (same, faults_same mtu ys q whole) s.free;
      told = rw same (told_same mtu ys q whole k v c t);
      behind = rw (same, size) (rw (← same) (drop-drop (le 2 w at) at (w ++ q) ∙ rw place));
    }

-- ---- events of it that go by

-- so many of an event, and as many again
ahead_more : (j n : ℕ) (e : Event) (r : Events) → ahead (j + n) e r ≡ ahead j e (ahead n e r)
ahead_more zero n e r = rw (zero-add n)
ahead_more (suc j) n e r = rw (suc-add j n, ahead_more j n e r)

ahead_faulty : (j : ℕ) (e : Event) (n : ℕ) → ahead j e (faulty n) ≡ faulty n
ahead_faulty j e n = ahead_behind j e (faulty n) ∙ behind_faulty (replicate j e) n

module _ (late mtu : ℕ) (xs : List ℕ) (at k v c next : ℕ) (s : Stays mtu xs at k v c next) where
  -- all that are left of it
  pass_all : (j m gone : ℕ) → 1 ≤ j → gone + j ≡ c →
      read_items true late mtu (j + m) gone (drop at xs) ≡ ahead j (event_of k v) (read_items true late mtu m 0 (drop next xs))
  pass_all zero m gone h e = absurd (omega arith)
  pass_all (suc j) m gone h e = read_run true late mtu (drop at xs) k v c s.some s.free s.told j m gone e ∙ rw s.behind

  -- fewer may come than are left
  pub pass_late : (m gone : ℕ) → gone + m < c → read_items true late mtu m gone (drop at xs) ≡ faulty late
  pass_late m gone h = read_past true late mtu (drop at xs) k v c s.some s.free s.told m gone h

  -- some of those that are left
  pass_some : (j m gone : ℕ) → gone + j < c →
      read_items true late mtu (j + m) gone (drop at xs) ≡ ahead j (event_of k v) (read_items true late mtu m (gone + j) (drop at xs))
  pass_some j m gone h =
      let rest = c - (gone + j) in
      by_cases (le_or rest m)
      (λ few. let n = m - rest in
      let all : j + m ≡ (j + rest) + n = omega arith in
      let own : m ≡ rest + n = omega arith in
      ap (λ (z : ℕ). read_items true late mtu z gone (drop at xs)) all
      ∙ pass_all (j + rest) n gone (omega arith) (omega arith)
      ∙ ahead_more j rest (event_of k v) (read_items true late mtu n 0 (drop next xs))
      ∙ ap (ahead j (event_of k v)) (sym (ap (λ (z : ℕ). read_items true late mtu z (gone + j) (drop at xs)) own ∙ pass_all rest n (gone + j) (omega arith) (omega arith))))
      (λ over. pass_late (j + m) gone (omega arith)
      ∙ sym (ap (ahead j (event_of k v)) (pass_late m (gone + j) (omega arith)) ∙ ahead_faulty j (event_of k v) late))

  -- j events of it go by, and what stands behind them stands from the place behind them on
  pub pass : (p : Place) (j m : ℕ) → p.at ≡ at → p.gone < c → 1 ≤ j → p.gone + j ≤ c →
      from_place late mtu (j + m) xs p ≡ behind (replicate j (event_of k v)) (from_place late mtu m xs (moved_of p j c next))
  pass p j m here left some fits =
      by_cases (le_or c (p.gone + j))
      (λ all. rw (moved_behind p j c next all, here)
      (pass_all j m p.gone some (omega arith) ∙ ahead_behind j (event_of k v) (read_items true late mtu m 0 (drop next xs))))
      (λ part. rw (moved_within p j c next part, here)
      (pass_some j m p.gone part ∙ ahead_behind j (event_of k v) (read_items true late mtu m (p.gone + j) (drop at xs))))
