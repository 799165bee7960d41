-- The path of a wrap-marked frame, as the list of links that its hops use.
-- Assumes nothing: these are definitions.
use Rattle.std.specs.Prelude.{ℕ, zero, suc, ◌*◌, ◌<◌, Bool, true, false, cond, List, [], ◌∷◌, ◌++◌, eqb, length, Result, Ok, Err}
use Rattle.decide.specs.Test.{Test, test, ◌<?◌, ◌∨?◌}
use Rattle.decide.specs.Number.{number_in, refusal_of}
use Rattle.decide.specs.declared.refusal.Refusal.{Refusal}
use Rattle.decide.specs.Refusal.{Fault, fault, first_of, refused_or}
use Rattle.ring.specs.declared.Way.{Way}
use Rattle.ring.specs.declared.Way.TheVariants.{Left, Right}
use Rattle.ring.specs.Links.{other_of, next_of, link_of, ahead_of}
use Rattle.ring.specs.Choosing.{place_faults}
use Rattle.wrap.specs.declared.Journey.{Journey}

-- the links that a frame's hops use, in order, and whether it is delivered at the end
pub record Course : Type 0 where
  pub links : List ℕ
  pub delivered : Bool

-- no hop more
abbrev pub ended : Bool → Course
ended d = record { links = []; delivered = d }

-- a hop over a link, and then the rest
abbrev pub across : ℕ → Course → Course
across link rest = record { links = link ∷ rest.links; delivered = rest.delivered }

-- where a frame moves: on its home side, or on the opposite ringlet
pub data Ringlet : Type 0 where
  at_home : Ringlet
  opposite : Ringlet

-- a ring of so many stations with its usable links, and a frame for `target` whose home side is `home`
module _ (stations links target : ℕ) (home : Way) where
  -- a hop on a side from a station, and then the rest from the station there
  abbrev hop : Way → ℕ → (ℕ → Course) → Course
  hop way at rest = across (link_of way stations at) (rest (next_of way stations at))

  -- The rest of the course from a station, with so many hops left.
  -- On its home side it moves on until the link ahead is unusable, then turns to the opposite ringlet, and back again at the next break.
  -- Delivered when on the home side at the target, also just after a turn. Not delivered once the hops are used, or if both links of the
  -- station are unusable. A turn is no hop. On the home side delivery is tested before the hops left.
  unfoldable pub course_of : ℕ → Ringlet → ℕ → Course
  course_of zero at_home at = ended (eqb at target)
  course_of zero opposite at = ended false
  course_of (suc left) at_home at =
      cond (eqb at target) (ended true)
      (cond (ahead_of home stations links at) (hop home at (course_of left at_home))
      (cond (ahead_of (other_of home) stations links at) (hop (other_of home) at (course_of left opposite))
      (ended false)))
  course_of (suc left) opposite at =
      cond (ahead_of (other_of home) stations links at) (hop (other_of home) at (course_of left opposite))
      (cond (eqb at target) (ended true)
      (cond (ahead_of home stations links at) (hop home at (course_of left at_home))
      (ended false)))

-- The home side: 1 left, 2 right.
abbrev pub side_of : ℕ → Way
side_of home = cond (eqb home 1) Left Right

-- The whole course from the station: not delivered once 2 × stations hops are used.
abbrev pub whole_of : ℕ → ℕ → ℕ → ℕ → ℕ → Course
whole_of stations own target links home = course_of stations links target (side_of home) (2 * stations) at_home own

-- A home side that is neither gives 3.
abbrev pub bad_home : ℕ → Test
bad_home home = home <? 1 ∨? 2 <? home

-- The path's faults: the place's, as for the choice, and the home side's.
abbrev pub path_faults : ℕ → ℕ → ℕ → ℕ → ℕ → List Fault
path_faults stations own target links home =
    place_faults stations own target links ++ (fault 3 (test (bad_home home)) ∷ [])

-- What a path answers:
abbrev pub PathAnswer : Type 0
PathAnswer = Result Journey Refusal

-- whether the frame is delivered, and the hops that it moves,
abbrev pub journey : Bool → ℕ → PathAnswer
journey delivered hops = Ok (record { delivered = delivered; hops = hops })

-- or the refusal of a number.
abbrev pub no_path : ℕ → PathAnswer
no_path n = Err (refusal_of n)

-- The answer holds whether the frame is delivered, and the hops moved, equal to the path's length.
abbrev pub outcome_of : Course → PathAnswer
outcome_of course = journey course.delivered (length course.links)

-- The path, for any numbers at all.
unfoldable pub path_of : ℕ → ℕ → ℕ → ℕ → ℕ → PathAnswer
path_of stations own target links home =
    refused_or no_path (first_of (path_faults stations own target links home)) (outcome_of (whole_of stations own target links home))

-- Document 01's number of an answer: 0 where the path was walked.
abbrev pub path_number : PathAnswer → ℕ
path_number (Ok j) = 0
path_number (Err r) = number_in r

-- a station of a ring of at most 63
pub record Stops (stations at : ℕ) : Type 0 where
  pub small : stations < 64
  pub station : at < stations
