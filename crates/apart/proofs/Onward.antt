-- A turn lists what it passes: its line, and the list of what stands behind it, is the list of what stood before it. And so for any number of turns.
-- Assumes nothing.
use Rattle.std.specs.Prelude.{Ok, Some}
use Rattle.record.specs.Step.{placed}
use Prim.Native.Nat.{ℕ, zero, suc, ◌+◌, ◌-◌, ◌≤◌, ◌<◌, min}
use mathlib.Core.Bool.{true, false}
use mathlib.Core.List.{List, [], ◌∷◌, ◌++◌, append_assoc, append-nil}
use mathlib.Core.Path.{◌≡◌, refl, sym, ap, ◌∙◌}
use native.Mathlib.Omega.{arith}
use native.Mathlib.Nat.{add-zero, add-suc, suc-add}
use native.Mathlib.Numerals.{add-one}
use lib.ListN.{drop, replicate, drop_of_length-le}
use Rattle.decide.proofs.Cases.{by_cases, le_or}
use Rattle.shaper.specs.declared.Event.{Event}
use Rattle.shaper.specs.Kind.{event_of}
use Rattle.record.specs.Read.{Events, faulty, events, read_items}
use Rattle.record.specs.Step.{item_at}
use Rattle.record.proofs.Steps.{step_end}
use Rattle.record.proofs.Written.{behind, behind_faulty, behind_events}
use Rattle.apart.specs.declared.Side.{Side}
use Rattle.apart.specs.declared.Place.{Place}
use Rattle.apart.specs.declared.Walk.{Walk}
use Rattle.apart.specs.declared.Stand.TheVariants.{Ended}
use Rattle.apart.specs.Told.{differ, list_from}
use Rattle.apart.specs.Text.{both_text, only_text, first_words, second_words, list_text}
use Rattle.apart.specs.Turn.{stand_of, moved_of, turn_of, line_text}
use Rattle.apart.specs.Page.{walk_of, walk_text, from_place}
use Rattle.apart.proofs.Turns.{stand_item, stand_end, turn_each}
use Rattle.apart.proofs.Passes.{Stays, window_item, pass, pass_late}
use Rattle.apart.proofs.Listed.{same_exactly}

-- ---- one file

-- the events es stand from a place on, where so many may come
pub record From (late mtu : ℕ) (xs : List ℕ) (p : Place) (es : List Event) : Type 0 where
  pub left : ℕ
  pub reads : from_place late mtu left xs p ≡ events es

-- es are j equal events, and then those that stand from another place on
record After (late mtu : ℕ) (xs : List ℕ) (p : Place) (es : List Event) (j : ℕ) (e : Event) : Type 0 where
  rest : List Event
  same : es ≡ replicate j e ++ rest
  stands : From late mtu xs p rest

module _ (late mtu : ℕ) (w q : List ℕ) (p : Place) (k v c next : ℕ) (e : item_at true mtu w p.at ≡ Ok (Some (placed k v c next))) (some : p.gone < c) where
  stays : Stays mtu (w ++ q) p.at k v c next
  stays = window_item mtu w q p.at k v c next e

  -- j events of the item go by
  goes_by : (es : List Event) (j : ℕ) → 1 ≤ j → p.gone + j ≤ c → From late mtu (w ++ q) p es → After late mtu (w ++ q) (moved_of p j c next) es j (event_of k v)
  goes_by es j one fits f =
      by_cases (le_or j f.left)
      (λ few. let m = f.left - j in
      let all : f.left ≡ j + m = omega arith in
      let told : behind (replicate j (event_of k v)) (from_place late mtu m (w ++ q) (moved_of p j c next)) ≡ events es =
      sym (pass late mtu (w ++ q) p.at k v c next stays p j m refl some one fits) ∙ ap (λ (z : ℕ). from_place late mtu z (w ++ q) p) (sym all) ∙ f.reads in
      by m (from_place late mtu m (w ++ q) (moved_of p j c next)) refl told)
      (λ over. let late-there = pass_late late mtu (w ++ q) p.at k v c next stays f.left p.gone (omega arith) in
      let read = f.reads in
      let z : ◌≡◌ {A = ℕ} 0 1 = cc in
      absurd (omega arith))
    where
      by : (m : ℕ) (r : Events) → from_place late mtu m (w ++ q) (moved_of p j c next) ≡ r → behind (replicate j (event_of k v)) (from_place late mtu m (w ++ q) (moved_of p j c next)) ≡ events es →
          After late mtu (w ++ q) (moved_of p j c next) es j (event_of k v)
      by m (events fs) g told =
          let all = behind_events (replicate j (event_of k v)) fs in
          let read : behind (replicate j (event_of k v)) (events fs) ≡ events es = rw g at told in
          record { rest = fs; same = cc; stands = record { left = m; reads = g } }
      by m (faulty n) g told =
          let all = behind_faulty (replicate j (event_of k v)) n in
          let read : behind (replicate j (event_of k v)) (faulty n) ≡ events es = rw g at told in
          let z : ◌≡◌ {A = ℕ} 0 1 = cc in
          absurd (omega arith)

-- from the file's end on stands no event
ended : (late : ℕ) (side : Side) (w q : List ℕ) (p : Place) (es : List Event) → (side.last ≡ true → q ≡ []) → stand_of side w p ≡ Ended → From late side.mtu (w ++ q) p es → es ≡ []
unfolding read_items
ended late side w q p es last e f =
    let s = stand_end side w p e in
    let short = step_end true side.mtu w p.at s.0 in
    let none : drop p.at (w ++ q) ≡ [] = ap (λ (z : List ℕ). drop p.at (w ++ z)) (last s.1) ∙ rw (append-nil w) (drop_of_length-le w short) in
    let read = f.reads in
    by f.left (ap (read_items true late side.mtu f.left p.gone) (sym none) ∙ read)
  where
    by : (left : ℕ) → read_items true late side.mtu left p.gone [] ≡ events es → es ≡ []
    by zero r = cc
    by (suc left) r = cc

-- ---- both files

-- Equal events list nothing.
equal_silent : (j n : ℕ) (e : Event) (es fs : List Event) → list_from n (replicate j e ++ es) (replicate j e ++ fs) ≡ list_from (n + j) es fs
unfolding list_from
equal_silent zero n e es fs = rw (add-zero n)
equal_silent (suc j) n e es fs = rw ((same_exactly e e).1 refl, equal_silent j (suc n) e es fs, add-suc n j, suc-add n j)

-- the list by its first position: events that differ, equal ones, and one that only one file has
module _ (n : ℕ) (e f : Event) (es fs hs gs : List Event) where
  differing_text : es ≡ e ∷ hs → fs ≡ f ∷ gs → differ e f ≡ true → both_text n e f ++ list_text (list_from (n + 1) hs gs) ≡ list_text (list_from n es fs)
  unfolding list_from list_text
  differing_text x y other = rw (x, y, add-one n, other)

  equal_text : (m : ℕ) → es ≡ replicate m e ++ hs → fs ≡ replicate m f ++ gs → differ e f ≡ false → list_text (list_from (n + m) hs gs) ≡ list_text (list_from n es fs)
  equal_text m x y same = rw (x, y, (same_exactly e f).0 same, equal_silent m n f hs gs)

module _ (n : ℕ) (e : Event) (es fs hs : List Event) (x : es ≡ e ∷ hs) (none : fs ≡ []) where
  first_text : only_text first_words n e ++ list_text (list_from (n + 1) hs fs) ≡ list_text (list_from n es fs)
  unfolding list_from list_text
  first_text = rw (x, none, add-one n)

  second_text : only_text second_words n e ++ list_text (list_from (n + 1) fs hs) ≡ list_text (list_from n fs es)
  unfolding list_from list_text
  second_text = rw (x, none, add-one n)

-- A text is what is listed of es and fs between two walks: behind it comes the list of what stands from the second on.
pub record Lists (late : ℕ) (a b : Side) (xs ys : List ℕ) (es fs : List Event) (n : ℕ) (next : Walk) (text : List ℕ) : Type 0 where
  pub first : List Event
  pub second : List Event
  pub stands_first : From late a.mtu xs next.first first
  pub stands_second : From late b.mtu ys next.second second
  pub same : text ++ list_text (list_from next.position first second) ≡ list_text (list_from n es fs)

module _ (late : ℕ) (a b : Side) (w q v r : List ℕ) (last : a.last ≡ true → q ≡ []) (other_last : b.last ≡ true → r ≡ []) where
  module _ (walk : Walk) (es fs : List Event) (f : From late a.mtu (w ++ q) walk.first es) (g : From late b.mtu (v ++ r) walk.second fs) where
    pub turn_lists : Lists late a b (w ++ q) (v ++ r) es fs walk.position (turn_of a b w v walk).walk (line_text walk.position (turn_of a b w v walk).line)
    turn_lists =
        turn_each a b w v walk (λ t. Lists late a b (w ++ q) (v ++ r) es fs walk.position t.walk (line_text walk.position t.line))
        (record { first = es; second = fs; stands_first = f; stands_second = g; same = refl })
        (λ k n c next j u d behind e o other.
        let s = stand_item a w walk.first k n c next e in
        let t = stand_item b v walk.second j u d behind o in
        let x = goes_by late a.mtu w q walk.first k n c next s.0 s.1 es 1 (omega arith) (omega (arith, s.1)) f in
        let y = goes_by late b.mtu v r walk.second j u d behind t.0 t.1 fs 1 (omega arith) (omega (arith, t.1)) g in
        record { first = x.rest; second = y.rest; stands_first = x.stands; stands_second = y.stands; same = differing_text walk.position (event_of k n) (event_of j u) es fs x.rest y.rest x.same y.same other })
        (λ k n c next j u d behind e o same.
        let s = stand_item a w walk.first k n c next e in
        let t = stand_item b v walk.second j u d behind o in
        let m = min (c - walk.first.gone) (d - walk.second.gone) in
        let x = goes_by late a.mtu w q walk.first k n c next s.0 s.1 es m (omega (arith, s.1, t.1)) (omega (arith, s.1)) f in
        let y = goes_by late b.mtu v r walk.second j u d behind t.0 t.1 fs m (omega (arith, s.1, t.1)) (omega (arith, t.1)) g in
        record { first = x.rest; second = y.rest; stands_first = x.stands; stands_second = y.stands; same = equal_text walk.position (event_of k n) (event_of j u) es fs x.rest y.rest m x.same y.same same })
        (λ k n c next e o.
        let s = stand_item a w walk.first k n c next e in
        let x = goes_by late a.mtu w q walk.first k n c next s.0 s.1 es 1 (omega arith) (omega (arith, s.1)) f in
        let none = ended late b v r walk.second fs other_last o g in
        record { first = x.rest; second = fs; stands_first = x.stands; stands_second = g; same = first_text walk.position (event_of k n) es fs x.rest x.same none })
        (λ j u d behind e o.
        let t = stand_item b v walk.second j u d behind o in
        let y = goes_by late b.mtu v r walk.second j u d behind t.0 t.1 fs 1 (omega arith) (omega (arith, t.1)) g in
        let none = ended late a w q walk.first es last e f in
        record { first = es; second = y.rest; stands_first = f; stands_second = y.stands; same = second_text walk.position (event_of j u) fs es y.rest y.same none })

  -- so many turns
  pub walk_lists : (k : ℕ) (walk : Walk) (es fs : List Event) → From late a.mtu (w ++ q) walk.first es → From late b.mtu (v ++ r) walk.second fs →
      Lists late a b (w ++ q) (v ++ r) es fs walk.position (walk_of k a b w v walk) (walk_text k a b w v walk)
  unfolding walk_of walk_text
  walk_lists zero walk es fs f g = record { first = es; second = fs; stands_first = f; stands_second = g; same = refl }
  walk_lists (suc k) walk es fs f g =
      let t = turn_lists walk es fs f g in
      let line = line_text walk.position (turn_of a b w v walk).line in
      let u = walk_lists k (turn_of a b w v walk).walk t.first t.second t.stands_first t.stands_second in
      record {
        first = u.first;
        second = u.second;
        stands_first = u.stands_first;
        stands_second = u.stands_second;
        same = append_assoc line (walk_text k a b w v (turn_of a b w v walk).walk) _ ∙ ap (λ (l : List ℕ). line ++ l) u.same ∙ t.same;
      }
