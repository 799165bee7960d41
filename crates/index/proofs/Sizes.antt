-- How many blocks a node has.
-- Assumes nothing.
use Prim.Native.Nat.{ℕ, zero, suc, ◌+◌, ◌-◌, ◌≤◌}
use mathlib.Core.Path.{◌≡◌, refl}
use native.Mathlib.Nat.{zero-add, suc-add}
use native.Mathlib.Omega.{arith}
use Rattle.index.specs.Tree.{top_level, size_of}

pub size_some : (k : ℕ) → 1 ≤ size_of k
unfolding size_of
size_some zero = omega arith
size_some (suc k) = omega (arith, size_some k)

pub size_next : (k : ℕ) → size_of (suc k) ≡ size_of k + size_of k
unfolding size_of
size_next k = refl

pub size_block : size_of 0 ≡ 1
unfolding size_of
size_block = refl

-- one is left at the top: 4,096 blocks hold more than 1,000,000 events
pub size_top : size_of top_level ≡ 4096
unfolding size_of
size_top = refl

-- no node has more blocks than one above it
size_up : (d k : ℕ) → size_of k ≤ size_of (d + k)
size_up zero k = rw zero-add (omega arith)
size_up (suc d) k = rw suc-add (omega (arith, size_up d k, size_next (d + k)))

pub size_mono : (k j : ℕ) → k ≤ j → size_of k ≤ size_of j
size_mono k j h = let e : j - k + k ≡ j = omega arith in rw e at (size_up (j - k) k)
