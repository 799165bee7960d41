-- The paper's own record, byte for byte: what its writer writes, and what is read from it.
-- Assumes nothing.
use Prim.Native.Nat.{ℕ}
use mathlib.Core.Bool.{Bool}
use mathlib.Core.List.{List, [], ◌∷◌}
use mathlib.Core.Path.{◌≡◌, refl, sym, ap, ◌∙◌}
use native.Mathlib.Omega.{arith}
use Rattle.shaper.specs.declared.Limits.{Limits}
use Rattle.shaper.specs.declared.Event.{Event}
use Rattle.shaper.specs.declared.Event.TheVariants.{Waiting, Idle, Send}
use Rattle.wire.specs.Wire.{digits}
use Rattle.record.specs.Record.{header_bytes, event_bytes, written}
use Rattle.record.specs.Read.{whole, read_in}
use Rattle.record.proofs.Written.{written_read}

-- 0e00 1000 4000 64000000 2c010000 060001009600 060003003c00 060003004000 060002003200
abbrev pub paper : List ℕ
paper =
    14 ∷ 0 ∷ 16 ∷ 0 ∷ 64 ∷ 0 ∷ 100 ∷ 0 ∷ 0 ∷ 0 ∷ 44 ∷ 1 ∷ 0 ∷ 0
    ∷ 6 ∷ 0 ∷ 1 ∷ 0 ∷ 150 ∷ 0
    ∷ 6 ∷ 0 ∷ 3 ∷ 0 ∷ 60 ∷ 0
    ∷ 6 ∷ 0 ∷ 3 ∷ 0 ∷ 64 ∷ 0
    ∷ 6 ∷ 0 ∷ 2 ∷ 0 ∷ 50 ∷ 0
    ∷ []

-- mtu 64, loLimit 100, hiLimit 300: waiting tick 150, send 60, send 64, idle tick 50
abbrev pub limits : Limits
limits = record { mtu = 64; lo = 100; hi = 300 }

abbrev pub happened : List Event
happened = Waiting 150 ∷ Send 60 ∷ Send 64 ∷ Idle 50 ∷ []

pub example_written : written limits happened ≡ paper
unfolding header_bytes event_bytes digits
example_written = refl

pub example_read : (runs : Bool) → read_in runs paper ≡ whole limits happened
example_read runs =
    ap (read_in runs) (sym example_written)
    ∙ written_read runs limits happened (record { settings = omega arith; valid = omega arith; few = omega arith })
