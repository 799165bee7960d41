-- Two paths that are not delivered, computed on a ring of five stations from 0 to 2, home side right. Link k is bit k.
-- Assumes nothing.
use mathlib.Core.Path.{◌≡◌, refl}
use mathlib.Core.Bool.{false}
use Rattle.decide.specs.Test.{test}
use Rattle.decide.specs.Refusal.{first, first_of, refused_or}
use Rattle.ring.specs.Links.{usable}
use Rattle.wrap.specs.Walking.{course_of, path_of, journey}

-- a station without links stays where it is: link 0 and link 4 down
pub alone : path_of 5 0 2 14 2 ≡ journey false 0
unfolding path_of refused_or course_of usable test first first_of
alone = refl

-- both ways broken, links 1 and 3 down: 10 hops
pub cut_off : path_of 5 0 2 21 2 ≡ journey false 10
unfolding path_of refused_or course_of usable test first first_of
cut_off = refl
