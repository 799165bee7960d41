-- A steady rate as a host sees it: by the words of a reading, over any calls on one piece of memory. Assumes nothing.
use Rattle.std.specs.Prelude.{ℕ, ◌*◌, List, [], ◌∷◌, ◌≡◌, length, take}
use Rattle.wire.specs.Wire.{le}
use Rattle.station.specs.Steady.{Rate, add, fw, add_congested, fw_congested, intervals}
use Rattle.layout.specs.Layout.{station_length}
use Rattle.rpr.specs.Station.{show_answer, show_after}
use Rattle.rpr.specs.Lent.{age, Lending, lent_to, memory_after, calls_on}

-- word k that rpr_show leaves in the room, of the station in the memory
abbrev pub shown_word : List ℕ → List ℕ → ℕ → ℕ
shown_word room mem k = le 4 (show_after (take station_length mem) room) (4 * k)

-- the word of a rate's counter, and that of its smoothed rate
abbrev pub counter_word : Rate → ℕ
counter_word add = 13
counter_word fw = 14
counter_word add_congested = 15
counter_word fw_congested = 16

abbrev pub smoothed_word : Rate → ℕ
smoothed_word add = 17
smoothed_word fw = 18
smoothed_word add_congested = 19
smoothed_word fw_congested = 20

-- an rpr_age that is lent a station's bytes,
abbrev pub EndsInterval : Lending → List ℕ → Type 0
EndsInterval l mem = (l.call ≡ age) × (length (lent_to l mem) ≡ station_length)

-- and how many of them there are
abbrev pub intervals_in : List ℕ → List Lending → ℕ
intervals_in mem ls = intervals (calls_on mem ls)

-- At each of them the counter, as rpr_show would tell it there, stands at this number.
abbrev pub SteadyIn : List ℕ → Rate → ℕ → List ℕ → List Lending → Type 0
SteadyIn room k rate mem [] = Unit {0}
SteadyIn room k rate mem (l ∷ ls) =
    (EndsInterval l mem → shown_word room mem (counter_word k) ≡ rate) × SteadyIn room k rate (memory_after l mem) ls

-- rpr_show is carried out, and gives this number for the smoothed rate
abbrev pub GivesRate : List ℕ → List ℕ → Rate → ℕ → Type 0
GivesRate room mem k rate = (show_answer (take station_length mem) room ≡ 0) × (shown_word room mem (smoothed_word k) ≡ rate)
