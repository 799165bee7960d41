-- The answer to a record of which n events stand in a tally, some bytes are left and so many more events may come: what a reader's loop keeps.
-- Assumes nothing.
use Rattle.std.specs.Prelude.{◌≡◌, ℕ, ◌+◌, ◌-◌, ◌<◌, ◌≤◌, Bool, List, length, drop, Result, Ok, Err}
use Rattle.decide.specs.declared.refusal.Refusal.{Refusal}
use Rattle.shaper.specs.declared.Limits.{Limits}
use Rattle.plain.specs.declared.Plain.{Plain}
use Rattle.plain.specs.Plain.{plain_joined, plain_of}
use Rattle.tally.specs.declared.Tally.{Tally}
use Rattle.tally.specs.Tally.{plain_at, Ready}
use Rattle.tally.specs.Part.{Steady}
use Rattle.summary.specs.Plain.{signed_from}
use Rattle.account.specs.declared.Reach.{Reach}
use Rattle.record.specs.Read.{Events, faulty, events, read_items}
use Rattle.summary.specs.Answer.{Answer}
use Rattle.decide.specs.Number.{refusal_of}

-- the summary so far, joined with what is left
abbrev pub rested : Limits → Plain → Events → Answer
rested l p (faulty n) = Err (refusal_of n)
rested l p (events es) = Ok (signed_from (plain_joined p (plain_of l es)))

-- `left` more events may come, and any byte after the last of them gives `late`; `runs` says whether runs may stand
unfoldable pub rest_of : Bool → ℕ → Limits → ℕ → ℕ → Tally → List ℕ → Answer
rest_of runs late l left n t ys = rested l (plain_at l n t) (read_items runs late l.mtu left 0 ys)

-- m events from a place to another were tallied and none has a fault: what is left behind them has the answer of what was left before
pub record Passed (runs : Bool) (l : Limits) (xs : List ℕ) (from n : ℕ) (t : Tally) (m to : ℕ) (u : Tally) : Type 0 where
  pub ready : Ready l (n + m) u
  pub same : (late left : ℕ) → rest_of runs late l (left + m) n t (drop from xs) ≡ rest_of runs late l left (n + m) u (drop to xs)

-- how far whole blocks go without a fault: what is behind them has the answer of what was there before, in either form
pub record Blocked (l : Limits) (xs : List ℕ) (from n : ℕ) (t : Tally) (most : ℕ) (r : Reach) : Type 0 where
  pub count : ℕ
  pub counts : r.n ≡ n + count
  pub few : r.n ≤ most
  pub within : r.at ≤ length xs
  pub further : from ≤ r.at
  pub steady : Steady (l.hi - l.lo) r.tally
  pub passed : (runs : Bool) → Passed runs l xs from n t count r.at r.tally

-- how far a walk goes: some items, and then what is left has the answer of what was left before
pub record Onward (runs : Bool) (late : ℕ) (l : Limits) (xs : List ℕ) (from n : ℕ) (t : Tally) (left : ℕ) (r : Reach) : Type 0 where
  pub further : from < r.at
  pub within : r.at ≤ length xs
  pub few : r.n ≤ n + left
  pub ready : Ready l r.n r.tally
  pub steady : Steady (l.hi - l.lo) r.tally
  pub same : rest_of runs late l (n + left - r.n) r.n r.tally (drop r.at xs) ≡ rest_of runs late l left n t (drop from xs)

-- or the fault that is that answer
abbrev pub Goes : Bool → ℕ → Limits → List ℕ → ℕ → ℕ → Tally → ℕ → Result Reach Refusal → Type 0
Goes runs late l xs from n t left (Err r) = Err r ≡ rest_of runs late l left n t (drop from xs)
Goes runs late l xs from n t left (Ok r) = Onward runs late l xs from n t left r
