-- The block at which two blocks of an index part.
-- Assumes nothing.
use Rattle.std.specs.Prelude.{ℕ, suc, ◌+◌, ◌-◌, ◌*◌, ◌≤◌, ◌<◌, min, Bool, ◌&&◌, eqb, ◌≡◌}
use Rattle.index.specs.Tree.{size_of, from_of}

-- Blocks x < y part at block m, where the halves of the lowest node that has both meet: it is the nth of its level, h blocks long in each half, x lies in its first half and y in
-- its second.
pub record Parted (x y m h : ℕ) : Type 0 where
  pub level : ℕ
  pub nth : ℕ
  pub half : h ≡ size_of level
  pub meets : m ≡ size_of (suc level) * nth + size_of level
  pub begins : size_of (suc level) * nth ≤ x
  pub before : x < m
  pub behind : m ≤ y
  pub ends : y < m + size_of level

-- A stretch of n events is just what the entry covers that parts its blocks before block m, h blocks on each side.
unfoldable pub covers_of : ℕ → ℕ → ℕ → ℕ → ℕ → Bool
covers_of n m h first last = eqb first (from_of (m - h)) && eqb last (min (from_of (m + h)) n)
