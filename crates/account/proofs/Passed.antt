-- Events that stand at their places are passed: each goes over to the tally as the laws of the rest say, and what is left keeps its answer.
-- Assumes nothing.
use Rattle.std.proofs.Common.{◌≡◌, ℕ, ◌+◌, ◌-◌, ◌*◌, ◌<◌, ◌≤◌, Bool, List, length, ◌∙◌, add-zero, add_assoc, arith}
use Rattle.decide.specs.Test.{Holds}
use Rattle.shaper.specs.declared.Limits.{Limits}
use Rattle.shaper.specs.Limits.{limits_ok, most_events}
use Rattle.wire.specs.Wire.{le, Bytes}
use Rattle.tally.specs.declared.Tally.{Tally}
use Rattle.tally.specs.Tally.{step_of, Ready}
use Rattle.record.proofs.Steps.{GoodAt, Stood, good_stands}
use Rattle.account.specs.Rest.{Passed}
use Rattle.account.proofs.Rest.{rest_found, rest_found_ready}

-- ---- sizes, whatever the bytes hold

-- hiLimit less loLimit, which a step asks for, is small
pub rise_max : (l : Limits) (n : ℕ) (t : Tally) → Ready l n t → l.hi - l.lo ≤ 1048576
rise_max l n t p = by p.sound.0
  where
    by : Holds (limits_ok l) → l.hi - l.lo ≤ 1048576
    by ok = omega arith

-- and so is the depth that a tally ends with
pub depth_max : (l : Limits) (n : ℕ) (t : Tally) → Ready l n t → t.peak - t.level ≤ 9223372036854775807
depth_max l n t p = omega (arith, p.few, p.within.level_min, p.within.peak_max)

-- ---- events passed

module _ (runs : Bool) (l : Limits) (xs : List ℕ) (from n : ℕ) (t : Tally) where
  -- none
  pub passed_none : Ready l n t → Passed runs l xs from n t 0 from t
  passed_none p = record { ready = rw add-zero p; same = λ late left. rw (add-zero left, add-zero n) }

  -- some, and then some more
  pub passed_then : (m mid : ℕ) (u : Tally) (k to : ℕ) (v : Tally) → Passed runs l xs from n t m mid u → Passed runs l xs mid (n + m) u k to v → Passed runs l xs from n t (m + k) to v
  passed_then m mid u k to v p q =
      record {
        ready = rw (add_assoc n m k) at q.ready;
        same = λ late left. let z : left + (m + k) ≡ left + k + m = omega arith in rw z (p.same late (left + k)) ∙ (rw (add_assoc n m k) at (q.same late left));
      }

  -- those of an item that the decoder finds, where so many may come
  pub passed_found : Ready l n t → Bytes xs → (k v c next : ℕ) → Stood runs l.mtu xs from k v c next → n + c ≤ most_events →
      Passed runs l xs from n t c next (step_of (l.hi - l.lo) k (c * v) t)
  passed_found p b k v c next s few =
      record { ready = rest_found_ready l n t p runs xs from b k v c next s few; same = λ late left. rest_found l n t p runs xs from b k v c next s late left }

  -- one event, whose fields are good
  pub passed_one : Ready l n t → n < most_events → Bytes xs → from + 6 ≤ length xs → GoodAt l.mtu xs from →
      Passed runs l xs from n t 1 (from + 6) (step_of (l.hi - l.lo) (le 2 xs (from + 2)) (le 2 xs (from + 4)) t)
  passed_one p few b h g =
      let s = good_stands runs l.mtu xs from h g in
      let v : 1 * le 2 xs (from + 4) ≡ le 2 xs (from + 4) = omega arith in
      rw v at (passed_found p b _ _ 1 (from + 6) s (omega arith))
