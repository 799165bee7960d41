-- A shaper's record as its host can tell it: from its own calls, and from the numbers that it got for them.
-- Assumes nothing.
use Rattle.std.specs.Prelude.{ℕ, List, [], ◌∷◌, ◌++◌, get_or}
use Rattle.wire.specs.Wire.{le, digits}
use Rattle.shaper.specs.declared.Event.{Event}
use Rattle.credits.specs.declared.Which.{Which}
use Rattle.station.specs.declared.Station.{Station}
use Rattle.station.specs.History.{Call, Answer, trace}
use Rattle.layout.specs.Layout.{station_at}
use Rattle.rpr.specs.Lent.{LentCall, answer_to, calls_of, Lending, lent_to, memory_after}

-- A call answers one number, read as eight bytes, byte 0 the lowest.
abbrev pub answer_byte : ℕ → ℕ → ℕ
answer_byte r k = get_or (digits 8 r) k 0

-- Byte 0 is 0 where the call was carried out, else the refusal number. Byte 1 origin, 2 class, 3 hops, 4 eligible, 6 and 7 size.
abbrev pub read_off : ℕ → Answer
read_off r =
    record {
      number = answer_byte r 0;
      mark = answer_byte r 4;
      origin = answer_byte r 1;
      frame = record { size = le 2 (digits 8 r) 6; hops = answer_byte r 3; class = answer_byte r 2; mark = answer_byte r 4 };
    }

-- what calls with this answer were to a shaper
abbrev pub traced : Which → List Call → Answer → Station → List Event
traced w [] r st = []
traced w (c ∷ cs) r st = trace w c r st ++ traced w cs r st

-- What an exported call that answered this number was to a shaper: one event per tick, one send per charge. No credit of the lent station is asked, and no
-- length: a call that is lent other bytes is refused, and its number says so.
abbrev pub events_told : Which → LentCall → ℕ → Station → List Event
events_told w c r st = traced w (calls_of c) (read_off r) st

-- the record of a shaper over calls on one piece of memory, each lent what the one before left
abbrev pub record_told : Which → List ℕ → List Lending → List Event
record_told w mem [] = []
record_told w mem (l ∷ ls) =
    events_told w l.call (answer_to l.call (lent_to l mem)) (station_at (lent_to l mem)) ++ record_told w (memory_after l mem) ls
