-- What a turn may be, by what stands at both places. No line is longer than 88 bytes and no turn passes more than 65,535 events, whatever bytes the windows hold.
-- Assumes nothing.
use Rattle.std.specs.Prelude.{Ok, Err, Some, None}
use Rattle.record.specs.Step.{placed}
use Prim.Native.Nat.{ℕ, ◌+◌, ◌-◌, ◌≤◌, ◌<◌, min}
use mathlib.Core.Bool.{true, false, false≢true}
use mathlib.Core.List.{List}
use mathlib.Core.Path.{◌≡◌, refl}
use native.Mathlib.Omega.{arith}
use lib.Dec.{eqb}
use lib.ListN.{length}
use Rattle.decide.proofs.Cases.{by_cases, of_each, le_or, true_or_false}
use Rattle.wire.specs.Wire.{Bytes}
use Rattle.shaper.specs.Kind.{number_of, event_of}
use Rattle.record.specs.Step.{Step}
use Rattle.record.specs.Items.{most_of_run}
use Rattle.record.specs.Step.{item_at}
use Rattle.record.proofs.Steps.{step_stands, stood_bound, count_bound}
use Rattle.apart.specs.declared.Side.{Side}
use Rattle.apart.specs.declared.Place.{Place}
use Rattle.apart.specs.declared.Walk.{Walk}
use Rattle.apart.specs.declared.Stand.{Stand}
use Rattle.apart.specs.declared.Stand.TheVariants.{Events, Ended, Unread}
use Rattle.apart.specs.declared.Finding.TheVariants.{Nothing, Both, First, Second}
use Rattle.apart.specs.declared.Turn.{Turn}
use Rattle.apart.specs.Told.{differ}
use Rattle.apart.specs.Text.{first_words, second_words}
use Rattle.apart.specs.Turn.{stand_of, moved_of, on_of, stopped_of, both_on, met_of, turn_of, line_text}
use Rattle.apart.proofs.Lengths.{EightBytes, both_short, only_short}
use Rattle.apart.proofs.Rows.{stand_events, stand_gone, stand_ended, stand_more, stand_faulty, pair_differs, pair_same}

-- ---- what stands at a place

module _ (side : Side) (w : List ℕ) (p : Place) where
  -- an item, of which some events are left
  pub stand_item : (k v c next : ℕ) → stand_of side w p ≡ Events k v c next → (item_at true side.mtu w p.at ≡ Ok (Some (placed k v c next))) × (p.gone < c)
  stand_item k v c next e = by (item_at true side.mtu w p.at) refl
    where
      never : stand_of side w p ≡ Unread → ⊥
      never u = let z : ◌≡◌ {A = ℕ} 0 1 = cc in omega arith

      by : (s : Step) → item_at true side.mtu w p.at ≡ s → (item_at true side.mtu w p.at ≡ Ok (Some (placed k v c next))) × (p.gone < c)
      by (Ok (Some i)) q =
          by_cases (le_or i.count p.gone)
          (λ gone. absurd (never (stand_gone side w p i.kind i.number i.count i.next q gone)))
          (λ left. let s = stand_events side w p i.kind i.number i.count i.next q left in
          let kind : i.kind ≡ k = cc in
          let number : i.number ≡ v = cc in
          let same : i.count ≡ c = cc in
          let behind : i.next ≡ next = cc in
          (rw (← kind, ← number, ← same, ← behind) q, omega arith))
      by (Ok None) q =
          by_cases (true_or_false side.last)
          (λ last. let s = stand_ended side w p q last in let z : ◌≡◌ {A = ℕ} 0 1 = cc in absurd (omega arith))
          (λ more. absurd (never (stand_more side w p q more)))
      by (Err r) q = absurd (never (stand_faulty side w p r q))

  -- the file's end
  pub stand_end : stand_of side w p ≡ Ended → (item_at true side.mtu w p.at ≡ Ok None) × (side.last ≡ true)
  stand_end e = by (item_at true side.mtu w p.at) refl
    where
      never : stand_of side w p ≡ Unread → ⊥
      never u = let z : ◌≡◌ {A = ℕ} 0 1 = cc in omega arith

      by : (s : Step) → item_at true side.mtu w p.at ≡ s → (item_at true side.mtu w p.at ≡ Ok None) × (side.last ≡ true)
      by (Ok (Some i)) q =
          by_cases (le_or i.count p.gone)
          (λ gone. absurd (never (stand_gone side w p i.kind i.number i.count i.next q gone)))
          (λ left. let s = stand_events side w p i.kind i.number i.count i.next q left in let z : ◌≡◌ {A = ℕ} 0 1 = cc in absurd (omega arith))
      by (Ok None) q = by_cases (true_or_false side.last) (λ last. (q, last)) (λ more. absurd (never (stand_more side w p q more)))
      by (Err r) q = absurd (never (stand_faulty side w p r q))

  module _ (b : Bytes w) (k v c next : ℕ) (e : stand_of side w p ≡ Events k v c next) where
    -- its numbers are of 2 bytes
    number_bound : EightBytes (number_of (event_of k v))
    unfolding event_of
    number_bound =
        let s = step_stands true side.mtu w p.at k v c next (stand_item k v c next e).0 in
        let h = stood_bound true side.mtu w p.at k v c next b s in
        of_each (λ e. EightBytes (number_of e)) (eqb k 1) _ _ (λ _. omega arith) (λ _. of_each (λ e. EightBytes (number_of e)) (eqb k 2) _ _ (λ _. omega arith) (λ _. omega arith))

    pub many_bound : c ≤ most_of_run
    many_bound = count_bound true side.mtu w p.at k v c next b (step_stands true side.mtu w p.at k v c next (stand_item k v c next e).0)

-- ---- a turn

module _ (a b : Side) (w v : List ℕ) (walk : Walk) where
  -- It stops; or both records have an event there, and they differ or not; or only one has.
  pub turn_each : (P : Turn → Type 0) → P (stopped_of walk) →
      ((k n c next j u d behind : ℕ) → stand_of a w walk.first ≡ Events k n c next → stand_of b v walk.second ≡ Events j u d behind →
      differ (event_of k n) (event_of j u) ≡ true → P (both_on walk 1 c next d behind (Both (event_of k n) (event_of j u)))) →
      ((k n c next j u d behind : ℕ) → stand_of a w walk.first ≡ Events k n c next → stand_of b v walk.second ≡ Events j u d behind →
      differ (event_of k n) (event_of j u) ≡ false → P (both_on walk (min (c - walk.first.gone) (d - walk.second.gone)) c next d behind Nothing)) →
      ((k n c next : ℕ) → stand_of a w walk.first ≡ Events k n c next → stand_of b v walk.second ≡ Ended →
      P (on_of (moved_of walk.first 1 c next) walk.second (walk.position + 1) (First (event_of k n)))) →
      ((j u d behind : ℕ) → stand_of a w walk.first ≡ Ended → stand_of b v walk.second ≡ Events j u d behind →
      P (on_of walk.first (moved_of walk.second 1 d behind) (walk.position + 1) (Second (event_of j u)))) → P (turn_of a b w v walk)
  unfolding turn_of
  turn_each P stops differing alike first second = by (stand_of a w walk.first) (stand_of b v walk.second) refl refl
    where
      by : (x y : Stand) → stand_of a w walk.first ≡ x → stand_of b v walk.second ≡ y → P (met_of x y walk)
      by (Events k n c next) (Events j u d behind) e f =
          by_cases (true_or_false (differ (event_of k n) (event_of j u)))
          (λ other. rw (pair_differs walk (event_of k n) (event_of j u) c next d behind other) (differing k n c next j u d behind e f other))
          (λ same. rw (pair_same walk (event_of k n) (event_of j u) c next d behind same) (alike k n c next j u d behind e f same))
      by (Events k n c next) Ended e f = first k n c next e f
      by (Events k n c next) Unread e f = stops
      by Ended (Events j u d behind) e f = second j u d behind e f
      by Ended Ended e f = stops
      by Ended Unread e f = stops
      by Unread y e f = stops

  -- one that stops changes nothing
  pub turn_stops : (turn_of a b w v walk).stops ≡ true → turn_of a b w v walk ≡ stopped_of walk
  turn_stops =
      turn_each (λ t. t.stops ≡ true → t ≡ stopped_of walk) (λ _. refl)
      (λ k n c next j u d behind e f other s. absurd (false≢true s))
      (λ k n c next j u d behind e f same s. absurd (false≢true s))
      (λ k n c next e f s. absurd (false≢true s))
      (λ j u d behind e f s. absurd (false≢true s))

  module _ (bytes : Bytes w) (others : Bytes v) where
    pub turn_short : EightBytes walk.position → length (line_text walk.position (turn_of a b w v walk).line) ≤ 88
    turn_short h =
        turn_each (λ t. length (line_text walk.position t.line) ≤ 88) (omega arith)
        (λ k n c next j u d behind e f other. both_short walk.position (event_of k n) (event_of j u) h (number_bound a w walk.first bytes k n c next e) (number_bound b v walk.second others j u d behind f))
        (λ k n c next j u d behind e f same. omega arith)
        (λ k n c next e f. only_short first_words walk.position (event_of k n) (omega arith) h (number_bound a w walk.first bytes k n c next e))
        (λ j u d behind e f. only_short second_words walk.position (event_of j u) (omega arith) h (number_bound b v walk.second others j u d behind f))

    pub turn_near : (turn_of a b w v walk).walk.position ≤ walk.position + most_of_run
    turn_near =
        turn_each (λ t. t.walk.position ≤ walk.position + most_of_run) (omega arith)
        (λ k n c next j u d behind e f other. omega arith)
        (λ k n c next j u d behind e f same. omega (arith, many_bound a w walk.first bytes k n c next e))
        (λ k n c next e f. omega arith)
        (λ j u d behind e f. omega arith)
