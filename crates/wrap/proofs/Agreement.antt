-- Path and choice agree: where no side reaches, no path delivers, since the frame stays among the stations that the two runs reach and the target is
-- none of them; and where the home side reaches, the path is that run. Assumes nothing.
use mathlib.Core.Path.{◌≡◌, refl, sym, ap, ◌∙◌}
use mathlib.Core.Bool.{Bool, true, false, true≢false}
use mathlib.Core.Logic.{⊎_elim}
use Prim.Native.Nat.{ℕ, zero, suc, ◌+◌, ◌*◌, ◌≤◌, ◌<◌, zero-le}
use native.Mathlib.Omega.{arith}
use lib.ListN.{length}
use borrow.Author.Tests.{leb-true, leb-false}
use Rattle.std.specs.Prelude.{Err}
use Rattle.decide.specs.Number.{number_in}
use Rattle.decide.specs.declared.refusal.Refusal.{Refusal}
use Rattle.decide.proofs.Cases.{by_cases, le_or}
use Rattle.ring.specs.declared.Way.{Way}
use Rattle.ring.specs.declared.Way.TheVariants.{Left, Right}
use Rattle.ring.specs.Links.{other_of, next_of, ahead_of, reach_of, station_after}
use Rattle.ring.specs.Choosing.{distance_of, reaches_of, choose_of, Between, Placed}
use Rattle.ring.proofs.Distances.{whole_ring}
use Rattle.ring.proofs.Hops.{after_lt, after_suc, back, arrives, not_before_lem, run_on, run_ends}
use Rattle.decide.proofs.Tests.{failing}
use Rattle.ring.proofs.Faults.{placed_free, no_way_means}
use Rattle.wrap.specs.Walking.{Course, at_home, course_of, side_of, whole_of, bad_home, path_of, journey}
use Rattle.wrap.proofs.Courses.{delivered_there, moves_home, of_course}
use Rattle.wrap.proofs.Answers.{found, path_length}

-- ---- the stations within reach

-- so many hops on a side, no more than it reaches
pub record Near (n own w at : ℕ) : Type 0 where
  pub way : Way
  pub hops : ℕ
  pub within : hops ≤ reach_of way n own w
  pub there : at ≡ station_after way n own hops

module _ (n own w : ℕ) (station : own < n) (broken : (way : Way) → reach_of way n own w < n) where
  -- on along the run
  along : (way : Way) (i at : ℕ) → i ≤ reach_of way n own w → at ≡ station_after way n own i → ahead_of way n w at ≡ true → Near n own w (next_of way n at)
  along way i at l e u =
      by_cases (le_or (suc i) (reach_of way n own w))
      (λ k. record { way = way; hops = suc i; within = k; there = ap (next_of way n) e ∙ sym (after_suc way n own i) })
      (λ k. let same : i ≡ reach_of way n own w = omega arith in
      absurd (true≢false (sym u ∙ ap (λ (x : ℕ). ahead_of way n w x) (e ∙ ap (station_after way n own) same) ∙ run_ends way n w n own (broken way))))

  -- back along the run, and past its start along the other
  back_along : (way : Way) (i at : ℕ) → i ≤ reach_of way n own w → at ≡ station_after way n own i → ahead_of (other_of way) n w at ≡ true
      → Near n own w (next_of (other_of way) n at)
  back_along way zero at l e u = along (other_of way) zero at zero-le e u
  back_along way (suc i) at l e u =
      record {
        way = way;
        hops = i;
        within = omega arith;
        there = ap (next_of (other_of way) n) (e ∙ after_suc way n own i) ∙ back way n (station_after way n own i) (after_lt way n own i station);
      }

  stays_near : (toward : Way) (at : ℕ) → Near n own w at → ahead_of toward n w at ≡ true → Near n own w (next_of toward n at)
  stays_near toward at s = go toward s.way s.hops s.within s.there
    where
      go : (toward way : Way) (i : ℕ) → i ≤ reach_of way n own w → at ≡ station_after way n own i → ahead_of toward n w at ≡ true
          → Near n own w (next_of toward n at)
      go Left Left i l e = along Left i at l e
      go Left Right i l e = back_along Right i at l e
      go Right Left i l e = back_along Left i at l e
      go Right Right i l e = along Right i at l e

-- ---- two stations of a ring

module _ (stations own target links : ℕ) (p : Placed stations own target links) where
  between : Between stations own target
  between = record { small = p.small; station = p.station; reached = p.reached }

  -- ---- no side reaches

  module _ (no : (way : Way) → reaches_of way stations own target links ≡ false) where
    past : (way : Way) → reach_of way stations own links < distance_of way stations own target
    unfolding reaches_of
    past way = leb-false (distance_of way stations own target) (reach_of way stations own links) (no way)

    broken : (way : Way) → reach_of way stations own links < stations
    broken Left = let w = whole_ring stations own target between in let h = past Left in omega arith
    broken Right = let w = whole_ring stations own target between in let h = past Right in omega arith

    elsewhere : (at : ℕ) → Near stations own links at → at ≡ target → ⊥
    elsewhere at s e =
        let h = s.within in
        let k = past s.way in
        not_before_lem stations own target between p.differ s.way s.hops (omega arith) (sym s.there ∙ e)

    pub undelivered : (home : ℕ) → (whole_of stations own target links home).delivered ≡ false
    undelivered home =
        of_course stations links target (side_of home) (Near stations own links) (stays_near stations own links p.station broken)
        (λ left c. c.delivered ≡ false)
        (λ left at d s f h. ends d (λ t. elsewhere at s (f t)))
        (λ left k on to s u r. r)
        (2 * stations)
        at_home
        own
        (record { way = Right; hops = 0; within = zero-le; there = refl })
      where
        ends : (d : Bool) → (d ≡ true → ⊥) → d ≡ false
        ends true f = absurd (f refl)
        ends false f = refl

  -- ---- the home side reaches

  module _ (home : Way) (yes : reaches_of home stations own target links ≡ true) where
    abbrev far : ℕ
    far = distance_of home stations own target

    enough : far ≤ reach_of home stations own links
    unfolding reaches_of
    enough = leb-true far (reach_of home stations own links) yes

    -- from i hops on, with k to go
    abbrev rest : ℕ → ℕ → Course
    rest left i = course_of stations links target home left at_home (station_after home stations own i)

    -- whether a course delivers, and its hops
    abbrev told : Course → Bool × ℕ
    told course = (course.delivered, length course.links)

    straight : (k i left : ℕ) → i + k ≡ far → k ≤ left → told (rest left i) ≡ (true, k)
    straight zero i left e l =
        ap told
        (delivered_there stations links target home left (station_after home stations own i)
        (ap (station_after home stations own) (let f : i ≡ far = omega arith in f) ∙ arrives stations own target between p.differ home))
    straight (suc k) i zero e l = absurd (omega arith)
    straight (suc k) i (suc left) e l =
        let n = enough in
        ap told
        (moves_home stations links target home left (station_after home stations own i)
        (not_before_lem stations own target between p.differ home i (omega arith))
        (run_on home stations links stations own i (omega arith)))
        ∙ ap
        (λ (p : Bool × ℕ). (p.0, suc p.1))
        (ap (λ (x : ℕ). told (course_of stations links target home left at_home x)) (sym (after_suc home stations own i))
        ∙ straight k (suc i) left (omega arith) (omega arith))

-- Where the choice is 8, no wrap-marked frame is delivered, whatever its home side.
pub no_way_no_path : (stations own target links side protection ring home : ℕ) (delivered : Bool) (hops : ℕ)
    → (r : Refusal) → number_in r ≡ 8 → choose_of stations own target links side protection ring ≡ Err r → path_of stations own target links home ≡ journey delivered hops
    → delivered ≡ false
no_way_no_path stations own target links side protection ring home delivered hops r k e m =
    let n = no_way_means stations own target links side protection ring r k e in
    (path_length stations own target links home delivered hops m).delivers ∙ undelivered stations own target links n.0 n.1 home

-- Where the home side reaches, the frame is delivered after as many hops as the distance.
pub home_run : (stations own target links home : ℕ) → Placed stations own target links → 1 ≤ home → home ≤ 2
    → reaches_of (side_of home) stations own target links ≡ true
    → path_of stations own target links home ≡ journey true (distance_of (side_of home) stations own target)
home_run stations own target links home p l h r =
    let w = whole_ring stations own target (between stations own target links p) in
    sym
    (found stations own target links home (placed_free stations own target links p)
    (failing (bad_home home) (λ k. ⊎_elim (λ q. omega arith) (λ q. omega arith) k)))
    ∙ ap (λ (p : Bool × ℕ). journey p.0 p.1)
    (straight stations own target links p (side_of home) r (distance_of (side_of home) stations own target) 0 (2 * stations) (omega arith) (few (side_of home)))
  where
    few : (way : Way) → distance_of way stations own target ≤ 2 * stations
    few Left = let w = whole_ring stations own target (between stations own target links p) in omega arith
    few Right = let w = whole_ring stations own target (between stations own target links p) in omega arith
