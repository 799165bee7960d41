-- Repeats by doubling, and how many joins they take.
-- Assumes nothing.
use Rattle.std.specs.Prelude.{Ok}
use Rattle.std.specs.Prelude.{ℕ, zero, suc, ◌+◌, ◌-◌, ◌/◌, ◌%◌, Bool, true, false, eqb}
use Rattle.std.specs.Int.Count.{count_leading_zeros}
use Rattle.summary.specs.declared.Summary.{Summary}
use Rattle.summary.specs.Answer.{Answer}
use Rattle.summary.specs.Answer.{empty_answer, and_then, join_next}
use Rattle.heartbeat.specs.declared.Repeats.{Repeats}

-- no repeat, and no join
abbrev pub none_of : Summary → Repeats
none_of s = record { sum = empty_answer s.limits; joins = 0 }

-- one join more is asked for; behind a refusal none is made
abbrev pub joined_more : Repeats → Answer → Repeats
joined_more d next = record { sum = and_then d.sum (λ s. join_next s next); joins = d.joins + 1 }

-- twice the repeats so far, joined with themselves, and one more where the number is odd
abbrev pub twice_of : Bool → Summary → Repeats → Repeats
twice_of true s d = joined_more (joined_more d d.sum) (Ok s)
twice_of false s d = joined_more d d.sum

-- By joining a summary with itself, doubling: r repeats, where r has at most so many binary digits, are half as many, joined with themselves, and with one more where r is
-- odd.
unfoldable pub doubling : ℕ → Summary → ℕ → Repeats
doubling zero s r = none_of s
doubling (suc k) s r = twice_of (eqb (r % 2) 1) s (doubling k s (r / 2))

-- the binary digits of a number of 64 bits: ⌈log2(r + 1)⌉, the least k with r < 2 ^ k (`digits_enough`, `digits_least`)
unfoldable pub digits_in : ℕ → ℕ
digits_in r = 64 - count_leading_zeros 64 r

unfoldable pub doubling_of : Summary → ℕ → Repeats
doubling_of s r = doubling (digits_in r) s r

-- two for each of 64 binary digits, so that the count of joins cannot overflow
abbrev pub most_joins : ℕ
most_joins = 128
