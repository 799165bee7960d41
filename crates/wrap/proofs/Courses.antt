-- The walk, row by row, as document 01 has it; and its length, and what its links are.
-- Assumes nothing.
use mathlib.Core.Path.{◌≡◌, refl, sym}
use mathlib.Core.Bool.{Bool, true, false, true≢false}
use mathlib.Core.List.{List, [], ◌∷◌}
use Prim.Native.Nat.{ℕ, zero, suc, ◌≤◌, zero-le, suc-le-suc}
use lib.Dec.{eqb}
use lib.ListN.{length}
use borrow.Author.Tests.{eqb-true, eq-eqb, ne_eqb}
use mathlib.Core.Logic.{◌⊎◌, inl, inr}
use Rattle.decide.proofs.Cases.{of_each}
use Rattle.ring.specs.declared.Way.{Way}
use Rattle.ring.specs.Links.{other_of, usable, next_of, link_of, ahead_of}
use Rattle.wrap.specs.Walking.{Course, Ringlet, at_home, opposite, ended, across, course_of}

-- each link of a list is usable
abbrev pub Usable : ℕ → List ℕ → Type 0
Usable links [] = Unit {0}
Usable links (k ∷ ks) = (usable links k ≡ true) × Usable links ks

module _ (stations links target : ℕ) (home : Way) where
  abbrev course : ℕ → Ringlet → ℕ → Course
  course = course_of stations links target home

  abbrev away : Way
  away = other_of home

  -- Delivered when on the home side at the target.
  pub delivered_there : (left at : ℕ) → at ≡ target → course left at_home at ≡ ended true
  unfolding course_of
  delivered_there zero at e = rw (eq-eqb at target e)
  delivered_there (suc left) at e = rw (eq-eqb at target e)

  -- Not delivered once the hops are used.
  pub used_home : (at : ℕ) → (at ≡ target → ⊥) → course 0 at_home at ≡ ended false
  unfolding course_of
  used_home at f = rw (ne_eqb at target f)

  pub used_opposite : (at : ℕ) → course 0 opposite at ≡ ended false
  unfolding course_of
  used_opposite at = refl

  -- On its home side it moves on
  pub moves_home : (left at : ℕ) → (at ≡ target → ⊥) → ahead_of home stations links at ≡ true
      → course (suc left) at_home at ≡ across (link_of home stations at) (course left at_home (next_of home stations at))
  unfolding course_of
  moves_home left at f u = rw (ne_eqb at target f, u)

  -- until the link ahead is unusable, then turns to the opposite ringlet:
  pub turns_away : (left at : ℕ) → (at ≡ target → ⊥) → ahead_of home stations links at ≡ false
      → course (suc left) at_home at ≡ course (suc left) opposite at
  unfolding course_of
  turns_away left at f u = rw (ne_eqb at target f, u)

  -- there it moves on, also past the target,
  pub moves_opposite : (left at : ℕ) → ahead_of away stations links at ≡ true
      → course (suc left) opposite at ≡ across (link_of away stations at) (course left opposite (next_of away stations at))
  unfolding course_of
  moves_opposite left at u = rw u

  -- and back again at the next break, where it may be delivered.
  pub turns_back : (left at : ℕ) → ahead_of away stations links at ≡ false → course (suc left) opposite at ≡ course (suc left) at_home at
  unfolding course_of
  turns_back left at u = rw u

  -- Not delivered if both links of the station are unusable.
  pub stuck : (left at : ℕ) → (at ≡ target → ⊥) → ahead_of home stations links at ≡ false → ahead_of away stations links at ≡ false
      → course (suc left) at_home at ≡ ended false
  unfolding course_of
  stuck left at f u v = rw (ne_eqb at target f, u, v)

  -- a frame goes no further: no hop is left, or both links are unusable
  abbrev Halts : ℕ → ℕ → Type 0
  Halts left at = (left ≡ 0) ⊎ ((ahead_of home stations links at ≡ false) × (ahead_of away stations links at ≡ false))

  -- What holds of a course's end, and is kept by a hop over a usable link, holds of every course. Its stations have what the first has and a hop
  -- over a usable link keeps. It ends at the target, or where the frame goes no further.
  module _ (S : ℕ → Type 0) (kept : (way : Way) (at : ℕ) → S at → ahead_of way stations links at ≡ true → S (next_of way stations at)) (P : ℕ → Course → Type 0)
      (end : (left at : ℕ) (d : Bool) → S at → (d ≡ true → at ≡ target) → (d ≡ false → Halts left at) → P left (ended d))
      (hop : (left k : ℕ) (on : Ringlet) (at : ℕ) → S at → usable links k ≡ true → P left (course left on at) → P (suc left) (across k (course left on at))) where
    pub of_course : (left : ℕ) (on : Ringlet) (at : ℕ) → S at → P left (course left on at)
    unfolding course_of
    of_course zero at_home at s = end zero at (eqb at target) s (λ t. eqb-true at target t) (λ t. inl refl)
    of_course zero opposite at s = end zero at false s (λ t. absurd (true≢false (sym t))) (λ t. inl refl)
    of_course (suc left) at_home at s =
        of_each (P (suc left)) (eqb at target) _ _ (λ t. end (suc left) at true s (λ u. eqb-true at target t) (λ u. absurd (true≢false u)))
        (λ t. of_each (P (suc left)) (ahead_of home stations links at) _ _
        (λ u. let to = kept home at s u in hop left (link_of home stations at) at_home (next_of home stations at) to u (of_course left at_home (next_of home stations at) to))
        (λ u. of_each (P (suc left)) (ahead_of away stations links at) _ _
        (λ v. let to = kept away at s v in hop left (link_of away stations at) opposite (next_of away stations at) to v (of_course left opposite (next_of away stations at) to))
        (λ v. end (suc left) at false s (λ w. absurd (true≢false (sym w))) (λ w. inr (u, v)))))
    of_course (suc left) opposite at s =
        of_each (P (suc left)) (ahead_of away stations links at) _ _
        (λ v. let to = kept away at s v in hop left (link_of away stations at) opposite (next_of away stations at) to v (of_course left opposite (next_of away stations at) to))
        (λ v. of_each (P (suc left)) (eqb at target) _ _ (λ t. end (suc left) at true s (λ u. eqb-true at target t) (λ u. absurd (true≢false u)))
        (λ t. of_each (P (suc left)) (ahead_of home stations links at) _ _
        (λ u. let to = kept home at s u in hop left (link_of home stations at) at_home (next_of home stations at) to u (of_course left at_home (next_of home stations at) to))
        (λ u. end (suc left) at false s (λ w. absurd (true≢false (sym w))) (λ w. inr (u, v)))))

  abbrev Any : ℕ → Type 0
  Any at = Unit {0}

  -- a course is no longer than the hops that were left
  pub short : (left : ℕ) (on : Ringlet) (at : ℕ) → length (course left on at).links ≤ left
  short left on at =
      of_course Any (λ way k s u. tt) (λ m c. length c.links ≤ m) (λ m k d s t f. zero-le) (λ m k o to s u l. suc-le-suc l) left on at tt

  -- each of its links is usable
  pub all_usable : (left : ℕ) (on : Ringlet) (at : ℕ) → Usable links (course left on at).links
  all_usable left on at =
      of_course Any (λ way k s u. tt) (λ m c. Usable links c.links) (λ m k d s t f. tt) (λ m k o to s u r. (u, r)) left on at tt
