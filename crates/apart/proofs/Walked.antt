-- So many turns, one behind the other: one more at the end, none behind one that stops, and the room that their lines take.
-- Assumes nothing.
use Prim.Native.Nat.{ℕ, zero, suc, ◌+◌, ◌-◌, ◌≤◌}
use native.Mathlib.Omega.{arith}
use mathlib.Core.Bool.{true}
use mathlib.Core.List.{List, [], ◌++◌, append_assoc, append-nil}
use mathlib.Core.Path.{◌≡◌, refl, sym, ap, ◌∙◌}
use native.Mathlib.Nat.{add-zero, add-suc, zero-add, suc-add}
use native.Mathlib.Numerals.{add-one}
use lib.ListN.{length}
use Rattle.wire.specs.Wire.{put}
use Rattle.report.proofs.Filled.{filled_more}
use Rattle.apart.specs.declared.Side.{Side}
use Rattle.apart.specs.declared.Reached.{Reached}
use Rattle.apart.specs.declared.Begun.{Begun}
use Rattle.apart.specs.declared.Walk.{Walk}
use Rattle.apart.specs.Turn.{turn_of, line_text}
use Rattle.apart.specs.Page.{walk_of, walk_text, reached_of, most_turns, page_of, Begins}
use Rattle.apart.proofs.Turns.{turn_stops}

module _ (a b : Side) (w v : List ℕ) where
  pub walk_none : (walk : Walk) → (walk_of 0 a b w v walk ≡ walk) × (walk_text 0 a b w v walk ≡ [])
  unfolding walk_of walk_text
  walk_none walk = (refl, refl)

  pub walk_suc : (k : ℕ) (walk : Walk) → walk_of (suc k) a b w v walk ≡ (turn_of a b w v (walk_of k a b w v walk)).walk
  unfolding walk_of
  walk_suc zero walk = refl
  walk_suc (suc k) walk = walk_suc k (turn_of a b w v walk).walk

  -- the line of the turn behind so many
  abbrev line_at : ℕ → Walk → List ℕ
  line_at k walk = line_text (walk_of k a b w v walk).position (turn_of a b w v (walk_of k a b w v walk)).line

  text_suc : (k : ℕ) (walk : Walk) → walk_text (suc k) a b w v walk ≡ walk_text k a b w v walk ++ line_at k walk
  unfolding walk_text walk_of
  text_suc zero walk = append-nil (line_text walk.position (turn_of a b w v walk).line)
  text_suc (suc k) walk =
      let t = turn_of a b w v walk in
      let first = line_text walk.position t.line in
      ap (λ (l : List ℕ). first ++ l) (text_suc k t.walk) ∙ sym (append_assoc first (walk_text k a b w v t.walk) (line_at k t.walk))

  pub walk_more : (k : ℕ) (walk : Walk) → walk_of (k + 1) a b w v walk ≡ (turn_of a b w v (walk_of k a b w v walk)).walk
  walk_more k walk = rw (add-one k) (walk_suc k walk)

  pub text_more : (k : ℕ) (walk : Walk) → walk_text (k + 1) a b w v walk ≡ walk_text k a b w v walk ++ line_at k walk
  text_more k walk = rw (add-one k) (text_suc k walk)

  -- turns behind turns
  pub walk_then : (j k : ℕ) (walk : Walk) → walk_of (j + k) a b w v walk ≡ walk_of k a b w v (walk_of j a b w v walk)
  unfolding walk_of
  walk_then zero k walk = rw (zero-add k)
  walk_then (suc j) k walk = rw (suc-add j k) (walk_then j k (turn_of a b w v walk).walk)

  pub text_then : (j k : ℕ) (walk : Walk) → walk_text (j + k) a b w v walk ≡ walk_text j a b w v walk ++ walk_text k a b w v (walk_of j a b w v walk)
  unfolding walk_of walk_text
  text_then zero k walk = rw (zero-add k)
  text_then (suc j) k walk =
      let t = turn_of a b w v walk in
      let first = line_text walk.position t.line in
      rw (suc-add j k) (ap (λ (l : List ℕ). first ++ l) (text_then j k t.walk) ∙ sym (append_assoc first (walk_text j a b w v t.walk) (walk_text k a b w v (walk_of j a b w v t.walk))))

  -- Behind a turn that stops nothing changes.
  module _ (k : ℕ) (walk : Walk) (stops : (turn_of a b w v (walk_of k a b w v walk)).stops ≡ true) where
    pub stays : (j : ℕ) → walk_of (k + j) a b w v walk ≡ walk_of k a b w v walk
    stays zero = rw (add-zero k)
    stays (suc j) =
        rw (add-suc k j)
        (walk_suc (k + j) walk ∙ rw (stays j) (rw (turn_stops a b w v (walk_of k a b w v walk) stops)))

    pub silent : (j : ℕ) → walk_text (k + j) a b w v walk ≡ walk_text k a b w v walk
    silent zero = rw (add-zero k)
    silent (suc j) =
        rw (add-suc k j)
        (text_suc (k + j) walk ∙ rw (stays j) (rw (turn_stops a b w v (walk_of k a b w v walk) stops, silent j) (append-nil (walk_text k a b w v walk))))

-- A page that was begun so quickly and went on turn by turn is the page.
module _ (a b : Side) (w v : List ℕ) (walk : Walk) (g : Begun) (s : Begins a b w v walk g) where
  pub page_made : (xs ys zs : List ℕ) (left : ℕ) (r : Reached) → ys ≡ put xs 0 (walk_text g.turns a b w v walk) → left ≡ most_turns - g.turns →
      r ≡ reached_of left a b w v g.walk g.end → zs ≡ put ys g.end (walk_text left a b w v g.walk) → r.end ≤ length xs →
      (r ≡ page_of a b w v walk) × (zs ≡ put xs 0 (walk_text most_turns a b w v walk))
  page_made xs ys zs left r front few e more fits =
      let all : most_turns ≡ g.turns + left = omega (arith, s.few) in
      let goes = ap (λ (x : Walk). walk_of left a b w v x) s.goes ∙ sym (walk_then a b w v g.turns left walk) in
      let text : walk_text most_turns a b w v walk ≡ walk_text g.turns a b w v walk ++ walk_text left a b w v g.walk =
      ap (λ (m : ℕ). walk_text m a b w v walk) all ∙ text_then a b w v g.turns left walk ∙ rw (← s.goes) in
      let far : walk_of most_turns a b w v walk ≡ walk_of left a b w v g.walk = ap (λ (m : ℕ). walk_of m a b w v walk) all ∙ sym goes in
      let end : r.end ≡ g.end + length (walk_text left a b w v g.walk) = ap (λ (x : Reached). x.end) e in
      let full = filled_more xs (walk_text g.turns a b w v walk) (walk_text left a b w v g.walk) ys zs 0 g.end r.end (omega (arith, s.fills), front) (end, more) fits in
      let size : length (walk_text most_turns a b w v walk) ≡ g.end + length (walk_text left a b w v g.walk) = omega (arith, ap length text, full.0, end) in
      (rw (far, size) e, rw text full.1)
