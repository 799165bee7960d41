-- The parts of a record's events, from any bytes.
-- Assumes nothing.
use Rattle.std.specs.Prelude.{ℕ, zero, suc, ◌+◌, ◌*◌, List, ◌==◌}
use Rattle.decide.specs.Test.{test}
use Rattle.wire.specs.Wire.{le}
use Rattle.tally.specs.declared.Part.{Part}
use Rattle.tally.specs.Part.{none_part, grow_of}
use Rattle.record.specs.Read.{good}

-- the first four bytes of an event of that kind, as one number: its length, and its kind
abbrev pub head_of : ℕ → ℕ
head_of kind = 6 + 65536 * kind

-- the part behind the event at a place: a send is of kind 3, an idle tick of kind 2
abbrev pub part_after : ℕ → ℕ → List ℕ → ℕ → Part → Part
part_after rise mtu xs at p =
    grow_of rise (le 4 xs at == head_of 3) (le 4 xs at == head_of 2) (le 2 xs (at + 4))
    (test (good mtu (le 2 xs at) (le 2 xs (at + 2)) (le 2 xs (at + 4)))) p

-- the part of n events from a place on
unfoldable pub part_of : ℕ → ℕ → List ℕ → ℕ → ℕ → Part
part_of rise mtu xs from zero = none_part rise
part_of rise mtu xs from (suc n) = part_after rise mtu xs (from + 6 * n) (part_of rise mtu xs from n)
