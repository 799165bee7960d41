-- The range tests say exactly the named facts.
-- Assumes nothing.
use mathlib.Core.Bool.{true}
use mathlib.Core.Logic.{◌↔◌}
use mathlib.Core.Path.{◌≡◌, ap}
use native.Mathlib.Omega.{arith}
use Rattle.decide.specs.Test.{test, Holds, facts, passes}
use Rattle.shaper.specs.declared.Limits.{Limits}
use Rattle.shaper.specs.declared.Event.{Event}
use Rattle.shaper.specs.declared.Event.TheVariants.{Waiting, Idle, Send}
use Rattle.shaper.specs.Limits.{limits_ok, LimitsOk, same_limits}
use Rattle.shaper.specs.Credit.{event_ok, Valid}

pub limits_facts : (l : Limits) → Holds (limits_ok l) → LimitsOk l
limits_facts l h =
    record { mtu_least = omega arith; mtu_most = omega arith; lo_least = omega arith; lo_most = omega arith; hi_least = omega arith; hi_most = omega arith }

pub facts_limits : (l : Limits) → LimitsOk l → Holds (limits_ok l)
facts_limits l ok = omega arith

-- mtu 64 to 9,216; loLimit mtu to 65,536; hiLimit loLimit+1 to 1,048,576
pub limits_exactly : (l : Limits) → (test (limits_ok l) ≡ true) ↔ LimitsOk l
limits_exactly l = (λ h. limits_facts l (facts (limits_ok l) h), λ ok. passes (limits_ok l) (facts_limits l ok))

agree : (l m : Limits) → l ≡ m → Holds (same_limits l m)
agree l m e = (ap (λ (k : Limits). k.mtu) e, (ap (λ (k : Limits). k.lo) e, ap (λ (k : Limits). k.hi) e))

-- the settings agree exactly where they are the same
pub same_exactly : (l m : Limits) → (test (same_limits l m) ≡ true) ↔ (l ≡ m)
same_exactly l m = (
  λ e. let h = facts (same_limits l m) e in λ i. record { mtu = h.0 i; lo = h.1.0 i; hi = h.1.1 i },
  λ e. passes (same_limits l m) (agree l m e),
)

-- amount per tick 0 to 65,535; frame size 16 to mtu
pub valid_exactly : (l : Limits) (e : Event) → (test (event_ok l e) ≡ true) ↔ Valid l e
valid_exactly l (Waiting x) = (facts (event_ok l (Waiting x)), passes (event_ok l (Waiting x)))
valid_exactly l (Idle x) = (facts (event_ok l (Idle x)), passes (event_ok l (Idle x)))
valid_exactly l (Send z) = (facts (event_ok l (Send z)), passes (event_ok l (Send z)))
