-- The steps of the two walks, each with what it answers: the rows of the course, over the numbers as code has them.
-- Assumes nothing.
use mathlib.Core.Path.{◌≡◌, refl, sym, ap, ◌∙◌, subst}
use mathlib.Core.Bool.{Bool, true, false}
use Prim.Native.Nat.{ℕ, zero, suc, ◌+◌, ◌-◌}
use native.Mathlib.Omega.{arith}
use lib.ListN.{length}
use Rattle.ring.specs.declared.Way.{Way}
use Rattle.ring.specs.Links.{other_of, next_of, link_of, ahead_of}
use Rattle.wrap.specs.Walking.{Course, Ringlet, at_home, opposite, ended, across, course_of}
use Rattle.wrap.proofs.Courses.{delivered_there, used_home, used_opposite, moves_home, moves_opposite, turns_away, turns_back, stuck}

-- what holds of each number and the one before it
before : (P : ℕ → ℕ → Type 0) → ((m : ℕ) → P (suc m) m) → (left : ℕ) → (left ≡ 0 → ⊥) → P left (left - 1)
before P f zero z = absurd (z refl)
before P f (suc m) z = subst (P (suc m)) (let e : m ≡ suc m - 1 = omega arith in e) (f m)

-- all the hops of a walk: those moved, and those of the rest
abbrev pub all_of : ℕ → Course → ℕ
all_of moved rest = moved + length rest.links

-- the hops moved are all
none_more : (moved : ℕ) (d : Bool) → moved ≡ all_of moved (ended d)
none_more moved d = omega arith

-- a hop is counted once, before the rest or in it
one_more : (moved link : ℕ) (rest : Course) → all_of (moved + 1) rest ≡ all_of moved (across link rest)
one_more moved link rest = omega arith

module _ (stations links target : ℕ) (home : Way) (left at moved : ℕ) where
  abbrev course : ℕ → Ringlet → ℕ → Course
  course = course_of stations links target home

  -- ---- no hop more

  pub arrived : at ≡ target → moved ≡ all_of moved (course left at_home at)
  arrived p = none_more moved true ∙ ap (all_of moved) (sym (delivered_there stations links target home left at p))

  -- a course that has ended, short of the target
  lost : {c : Course} → c ≡ ended false → moved ≡ all_of moved c
  lost e = none_more moved false ∙ ap (all_of moved) (sym e)

  pub used : left ≡ 0 → (at ≡ target → ⊥) → moved ≡ all_of moved (course left at_home at)
  used z f = lost (ap (λ (m : ℕ). course m at_home at) z ∙ used_home stations links target home at f)

  pub used_away : left ≡ 0 → moved ≡ all_of moved (course left opposite at)
  used_away z = lost (ap (λ (m : ℕ). course m opposite at) z ∙ used_opposite stations links target home at)

  module _ (z : left ≡ 0 → ⊥) where
    -- ---- a hop

    -- a hop on a side, and the rest on the same ringlet
    stepped : (on : Ringlet) (way : Way) {n to : ℕ} {j : ℕ}
        → course left on at ≡ across (link_of way stations at) (course (left - 1) on (next_of way stations at))
        → n ≡ stations → to ≡ next_of way stations at → j ≡ all_of (moved + 1) (course_of n links target home (left - 1) on to)
        → j ≡ all_of moved (course left on at)
    stepped on way {n} {to} c same e p =
        p
        ∙ ap (λ (x : ℕ). all_of (moved + 1) (course_of x links target home (left - 1) on to)) same
        ∙ ap (λ (x : ℕ). all_of (moved + 1) (course (left - 1) on x)) e
        ∙ one_more moved (link_of way stations at) (course (left - 1) on (next_of way stations at))
        ∙ ap (all_of moved) (sym c)

    pub moves : {n to : ℕ} {j : ℕ} → (at ≡ target → ⊥) → ahead_of home stations links at ≡ true
        → n ≡ stations → to ≡ next_of home stations at → j ≡ all_of (moved + 1) (course_of n links target home (left - 1) at_home to)
        → j ≡ all_of moved (course left at_home at)
    moves f u =
        stepped at_home home
        (before (λ l m. course l at_home at ≡ across (link_of home stations at) (course m at_home (next_of home stations at))) (λ m. moves_home stations links target home m at f u) left z)

    -- ---- a turn

    pub turned_away : (at ≡ target → ⊥) → ahead_of home stations links at ≡ false → course left at_home at ≡ course left opposite at
    turned_away f u = before (λ l m. course l at_home at ≡ course l opposite at) (λ m. turns_away stations links target home m at f u) left z

    -- both links are unusable
    caught : (at ≡ target → ⊥) → ahead_of home stations links at ≡ false → ahead_of (other_of home) stations links at ≡ false
        → course left at_home at ≡ ended false
    caught f u v = before (λ l m. course l at_home at ≡ ended false) (λ m. stuck stations links target home m at f u v) left z

    pub caught_home : (at ≡ target → ⊥) → ahead_of home stations links at ≡ false
        → ahead_of (other_of home) stations links at ≡ false → moved ≡ all_of moved (course left at_home at)
    caught_home f u v = lost (caught f u v)

    -- ---- the same on the opposite ringlet, where `seen` is what code was told of the link ahead

    module _ (away : Way) (o : away ≡ other_of home) (seen : Bool) (told : seen ≡ ahead_of away stations links at) where
      on_side : {b : Bool} → seen ≡ b → ahead_of (other_of home) stations links at ≡ b
      on_side u = ap (λ (w : Way). ahead_of w stations links at) (sym o) ∙ sym told ∙ u

      pub moves_away : {n to : ℕ} {j : ℕ} → seen ≡ true → n ≡ stations → to ≡ next_of away stations at
          → j ≡ all_of (moved + 1) (course_of n links target home (left - 1) opposite to) → j ≡ all_of moved (course left opposite at)
      moves_away u same e =
          stepped opposite (other_of home)
          (before
          (λ l m. course l opposite at ≡ across (link_of (other_of home) stations at) (course m opposite (next_of (other_of home) stations at)))
          (λ m. moves_opposite stations links target home m at (on_side u))
          left
          z)
          same
          (e ∙ ap (λ (w : Way). next_of w stations at) o)

      pub behind : seen ≡ false → ahead_of (other_of home) stations links at ≡ false
      behind u = on_side u

      pub turned_back : seen ≡ false → course left opposite at ≡ course left at_home at
      turned_back u = before (λ l m. course l opposite at ≡ course l at_home at) (λ m. turns_back stations links target home m at (behind u)) left z

      pub caught_away : (at ≡ target → ⊥) → ahead_of home stations links at ≡ false → seen ≡ false
          → moved ≡ all_of moved (course left opposite at)
      caught_away f u v = lost (turned_back v ∙ caught f u (behind v))
