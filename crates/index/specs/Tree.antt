-- Where the summaries of an index stand. A node is a summary by its level and the first of its blocks; every node has its entry, and an odd one alone has that of the one below it.
-- Assumes nothing.
use Rattle.std.specs.Prelude.{ℕ, zero, suc, ◌+◌, ◌-◌, ◌*◌, ◌/◌, min, cond, ltb, eqb}

-- One summary for each 256 events (the last may be short).
abbrev pub block_events : ℕ
block_events = 256

-- n events make B = ⌈n / 256⌉ blocks
unfoldable pub blocks_of : ℕ → ℕ
blocks_of n = (n + 255) / 256

-- and an index of 2B − 1 entries of 40 bytes (none for n = 0).
abbrev pub entry_length : ℕ
entry_length = 40

unfoldable pub index_length : ℕ → ℕ
index_length n = cond (eqb n 0) 0 (80 * blocks_of n - 40)

-- Above them one for each pair, halving until one is left: a node of level k has 2^k blocks, or all that are left.
unfoldable pub size_of : ℕ → ℕ
size_of zero = 1
size_of (suc k) = size_of k + size_of k

-- One is left at level 12, if not before: 1,000,000 events make 3,907 blocks, and 2^12 is 4,096. From there on up it would be the same one, alone.
abbrev pub top_level : ℕ
top_level = 12

-- the first event of the node from block x on, and the one just past its last, of n events
abbrev pub from_of : ℕ → ℕ
from_of x = block_events * x

abbrev pub to_of : ℕ → ℕ → ℕ → ℕ
to_of n k x = min (block_events * (x + size_of k)) n

-- Block j stands at entry 2j; the entry above, which parts its blocks before block m, stands at 2m − 1. An odd one alone is the same summary as the one below it and is stored once.
unfoldable pub stands_at : ℕ → ℕ → ℕ → ℕ
stands_at n zero x = 2 * x
stands_at n (suc k) x = cond (ltb (block_events * (x + size_of k)) n) (2 * (x + size_of k) - 1) (stands_at n k x)
