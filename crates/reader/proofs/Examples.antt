-- The paper's own record, walked; and one with a run.
-- Assumes nothing.
use Prim.Native.Nat.{ℕ}
use mathlib.Core.List.{List, [], ◌∷◌}
use mathlib.Core.Path.{◌≡◌, refl, sym, ◌∙◌}
use native.Mathlib.Omega.{arith}
use denote.Ref.{Bor}
use Rattle.shaper.specs.declared.Event.TheVariants.{Idle, Send}
use Rattle.wire.specs.Wire.{digits}
use Rattle.record.specs.Record.{header_bytes, event_bytes}
use Rattle.record.specs.Items.{Item, one, run, run_bytes, written_items}
use Rattle.record.specs.Read.{events}
use Rattle.record.proofs.Examples.{paper, limits, happened, example_written}
use Rattle.reader.specs.Walk.{new_of, walk_of}
use Rattle.reader.proofs.Walk.{walk_items, walk_written}

-- four events and the end: a waiting tick of 150, sends of 60 and 64, an idle tick of 50
pub example_walked : (s : Bor (List ℕ)) → s.now ≡ paper → walk_of 5 (new_of s) ≡ events happened
example_walked s e =
    walk_written s limits happened 4 (e ∙ sym example_written) (record { settings = omega arith; valid = omega arith; few = omega arith }) (omega arith)

-- 0e00 1000 4000 64000000 2c010000 0a000400020032000300 060003003c00
abbrev pub short : List ℕ
short =
    14 ∷ 0 ∷ 16 ∷ 0 ∷ 64 ∷ 0 ∷ 100 ∷ 0 ∷ 0 ∷ 0 ∷ 44 ∷ 1 ∷ 0 ∷ 0
    ∷ 10 ∷ 0 ∷ 4 ∷ 0 ∷ 2 ∷ 0 ∷ 50 ∷ 0 ∷ 3 ∷ 0
    ∷ 6 ∷ 0 ∷ 3 ∷ 0 ∷ 60 ∷ 0
    ∷ []

abbrev items : List Item
items = run (Idle 50) 3 ∷ one (Send 60) ∷ []

short_written : written_items limits items ≡ short
unfolding header_bytes event_bytes run_bytes digits
short_written = refl

-- a run of three idle ticks of 50 and a send of 60: two items and the end
pub run_walked : (s : Bor (List ℕ)) → s.now ≡ short → walk_of 3 (new_of s) ≡ events (Idle 50 ∷ Idle 50 ∷ Idle 50 ∷ Send 60 ∷ [])
run_walked s e =
    walk_items s limits items 2 (e ∙ sym short_written)
    (record { settings = omega arith; items = ((refl, omega arith, omega arith, omega arith, omega arith), (omega arith, tt)); few = omega arith })
    (omega arith)
