-- A path that passes its target on the opposite ringlet, computed on a ring of five stations from 0 to 2, home side right. Link k is bit k.
-- Assumes nothing.
use mathlib.Core.Path.{◌≡◌, refl}
use mathlib.Core.Bool.{true}
use mathlib.Core.List.{[], ◌∷◌}
use Rattle.decide.specs.Test.{test}
use Rattle.decide.specs.Refusal.{first, first_of, refused_or}
use Rattle.ring.specs.Links.{usable}
use Rattle.wrap.specs.Walking.{course_of, whole_of, path_of, journey}

-- Link 0 down: the frame turns at once, goes over links 4, 3 and 2 to station 2, its target, and on over link 1 to station 1, where link 0 is down; turns
-- there, and comes back over link 1 to station 2 on its home side: 5 hops. Stripped at its target on the opposite ringlet it would have 3.
pub passed_by_lem : path_of 5 0 2 30 2 ≡ journey true 5
unfolding path_of refused_or course_of usable test first first_of
passed_by_lem = refl

pub passed_links : (whole_of 5 0 2 30 2).links ≡ 4 ∷ 3 ∷ 2 ∷ 1 ∷ 1 ∷ []
unfolding course_of usable
passed_links = refl
