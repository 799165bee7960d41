-- The quick way: where an event stands at both places, a turn passes one of each; and how many may stand there.
-- Assumes nothing.
use Prim.Native.Nat.{ℕ, ◌+◌, ◌-◌, ◌*◌, ◌/◌, ◌≤◌, ◌<◌, min}
use mathlib.Core.Bool.{true}
use mathlib.Core.List.{List}
use mathlib.Core.Path.{◌≡◌, refl, sym, ◌∙◌}
use native.Mathlib.Omega.{arith}
use native.Mathlib.Nat.{add-zero}
use lib.ListN.{length}
use Rattle.decide.specs.Test.{split, ◌≡?◌}
use Rattle.decide.proofs.Cases.{by_cases, true_or_false}
use Rattle.wire.specs.Wire.{le}
use Rattle.shaper.specs.Kind.{event_of}
use Rattle.record.proofs.Fields.{facts_free}
use Rattle.record.proofs.Rows.{event_stands}
use Rattle.record.proofs.Steps.{GoodAt}
use Rattle.apart.specs.declared.Side.{Side}
use Rattle.apart.specs.declared.Place.{Place}
use Rattle.apart.specs.declared.Walk.{Walk}
use Rattle.apart.specs.declared.Stand.TheVariants.{Events}
use Rattle.apart.specs.Told.{differ}
use Rattle.apart.specs.Turn.{stand_of, turn_of, line_text, line_if}
use Rattle.apart.specs.Page.{most_turns, level_of, passed_of}
use Rattle.apart.proofs.Rows.{stand_events, moved_behind, pair_differs, pair_same, line_differs, line_same, level_first, level_second, level_both}

-- ---- how many may stand there

-- so many events of 6 bytes fit both windows from the places on, and no item has begun to go by
pub record Level (w v : List ℕ) (p q : Place) (most : ℕ) : Type 0 where
  pub whole : p.gone ≡ 0
  pub other_whole : q.gone ≡ 0
  pub fits : p.at + 6 * most ≤ length w
  pub other_fits : q.at + 6 * most ≤ length v

module _ (w v : List ℕ) (p q : Place) where
  pub level_few : level_of w v p q ≤ most_turns
  unfolding level_of
  level_few =
      by_cases (split (p.gone ≡? 0))
      (λ a. by_cases (split (q.gone ≡? 0)) (λ b. rw (level_both w v p q a b) (omega arith)) (λ b. rw (level_second w v p q a b) (omega arith)))
      (λ a. rw (level_first w v p q a) (omega arith))

  pub level_fits : (most : ℕ) → most ≡ level_of w v p q → 0 < most → Level w v p q most
  level_fits most e some =
      by_cases (split (p.gone ≡? 0))
      (λ a. by_cases (split (q.gone ≡? 0))
      (λ b. let m = e ∙ level_both w v p q a b in
      let x : most ≤ (length w - p.at) / 6 = omega arith in
      let y : most ≤ (length v - q.at) / 6 = omega arith in
      record { whole = a; other_whole = b; fits = omega arith; other_fits = omega arith })
      (λ b. let m = e ∙ level_second w v p q a b in absurd (omega arith)))
      (λ a. let m = e ∙ level_first w v p q a in absurd (omega arith))

-- ---- the walk behind so many

pub passed_none : (walk : Walk) → passed_of walk 0 ≡ walk
passed_none walk = simp add-zero

-- one more
pub passed_next : (walk next : Walk) (k : ℕ) → walk.first.gone ≡ 0 → walk.second.gone ≡ 0 →
    next ≡ record { first = record { at = walk.first.at + 6 * k + 6; gone = 0 }; second = record { at = walk.second.at + 6 * k + 6; gone = 0 }; position = walk.position + k + 1 } →
    next ≡ passed_of walk (k + 1)
passed_next walk next k whole other_whole e =
    let x : walk.first.at + 6 * (k + 1) ≡ walk.first.at + 6 * k + 6 = omega arith in
    let y : walk.second.at + 6 * (k + 1) ≡ walk.second.at + 6 * k + 6 = omega arith in
    let n : walk.position + (k + 1) ≡ walk.position + k + 1 = omega arith in
    e ∙ sym (rw (x, y, n, whole, other_whole))

-- ---- a turn there

-- an event that stands at a place
event_there : (side : Side) (w : List ℕ) (p : Place) → p.gone ≡ 0 → p.at + 6 ≤ length w → GoodAt side.mtu w p.at →
    stand_of side w p ≡ Events (le 2 w (p.at + 2)) (le 2 w (p.at + 4)) 1 (p.at + 6)
event_there side w p whole fits g =
    let e = event_stands true side.mtu w p.at fits (facts_free side.mtu (le 2 w p.at) (le 2 w (p.at + 2)) (le 2 w (p.at + 4)) g) in
    stand_events side w p _ _ 1 _ (rw g.six at e) (omega arith)

module _ (a b : Side) (w v : List ℕ) (walk : Walk) (whole : walk.first.gone ≡ 0) (other_whole : walk.second.gone ≡ 0)
    (fits : walk.first.at + 6 ≤ length w) (other_fits : walk.second.at + 6 ≤ length v)
    (g : GoodAt a.mtu w walk.first.at) (h : GoodAt b.mtu v walk.second.at) where
  -- both go on by an event, and the line is that of the two events
  pub event_turn : let e = event_of (le 2 w (walk.first.at + 2)) (le 2 w (walk.first.at + 4)) in
      let f = event_of (le 2 v (walk.second.at + 2)) (le 2 v (walk.second.at + 4)) in
      ((turn_of a b w v walk).walk ≡ record { first = record { at = walk.first.at + 6; gone = 0 }; second = record { at = walk.second.at + 6; gone = 0 }; position = walk.position + 1 })
      × (line_text walk.position (turn_of a b w v walk).line ≡ line_if walk.position e f)
  unfolding turn_of
  event_turn =
      let e = event_of (le 2 w (walk.first.at + 2)) (le 2 w (walk.first.at + 4)) in
      let f = event_of (le 2 v (walk.second.at + 2)) (le 2 v (walk.second.at + 4)) in
      let x = event_there a w walk.first whole fits g in
      let y = event_there b v walk.second other_whole other_fits h in
      let one : min (1 - walk.first.gone) (1 - walk.second.gone) ≡ 1 = omega arith in
      let p = moved_behind walk.first 1 1 (walk.first.at + 6) (omega arith) in
      let q = moved_behind walk.second 1 1 (walk.second.at + 6) (omega arith) in
      by_cases (true_or_false (differ e f))
      (λ other. rw (x, y, pair_differs walk e f 1 (walk.first.at + 6) 1 (walk.second.at + 6) other, p, q, line_differs walk.position e f other) (refl, refl))
      (λ same. rw (x, y, pair_same walk e f 1 (walk.first.at + 6) 1 (walk.second.at + 6) same, one, p, q, line_same walk.position e f same) (refl, refl))
