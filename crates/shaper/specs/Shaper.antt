-- A shaper by value: what its calls answer.
-- Assumes nothing.
use Rattle.std.specs.Prelude.{ℕ, Bool, not, List, [], ◌∷◌, Result, Ok, Err}
use Rattle.decide.specs.Refusal.{Fault, fault, first_of, refused_or}
use Rattle.shaper.specs.declared.Limits.{Limits}
use Rattle.shaper.specs.declared.Shaper.{Shaper}
use Rattle.shaper.specs.declared.Refused.{Refused}
use Rattle.shaper.specs.declared.Event.TheVariants.{Send}
use Rattle.shaper.specs.Credit.{permits, next, tick_of}
use Rattle.shaper.specs.Short.{shortfall, detail_of}
use Rattle.shaper.specs.Refused.{refused}

-- Credit starts at loLimit.
abbrev pub fresh_of : Limits → Shaper
fresh_of l = record { limits = l; credit = l.lo }

abbrev pub ticked_of : Shaper → Bool → ℕ → Shaper
ticked_of s waits x = record { limits = s.limits; credit = next s.limits s.credit (tick_of waits x) }

-- what a charge answers: the shaper afterwards, or a refusal
abbrev pub Charged : Type 0
Charged = Result Shaper Refused

-- 6: a needed shaper doesn't permit
abbrev pub charge_faults : Shaper → List Fault
charge_faults s = fault 6 (not (permits s.credit s.limits.lo)) ∷ []

-- a refusal changes nothing, and says how far short the shaper is
abbrev pub not_charged_of : Shaper → ℕ → Charged
not_charged_of s n = Err (refused n (detail_of n (shortfall s.credit s.limits.lo)))

-- A send is permitted exactly when credit > loLimit, then the size is taken off.
abbrev pub charge_of : Shaper → ℕ → Charged
charge_of s z =
    refused_or (not_charged_of s) (first_of (charge_faults s))
    (Ok (record { limits = s.limits; credit = next s.limits s.credit (Send z) }))
