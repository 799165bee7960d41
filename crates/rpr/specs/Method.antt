-- The conservative method as a host sees it (document 02, A7): by the words of a reading, over any calls on one piece of memory. Assumes nothing.
use Rattle.std.specs.Prelude.{ℕ, ◌≤◌, List, ◌⊎◌, ◌≡◌, take}
use Rattle.settings.specs.declared.Settings.{Settings}
use Rattle.fair.specs.Methods.{Row}
use Rattle.station.specs.Method.{row_now}
use Rattle.layout.specs.Layout.{station_length}
use Rattle.rpr.specs.Station.{show_answer}
use Rattle.rpr.specs.Lent.{Lending, memory_after, station_in}
use Rattle.rpr.specs.Steady.{shown_word}

-- the words of localFairRate, and of local congestion
abbrev pub local_word : ℕ
local_word = 21

abbrev pub congested_word : ℕ
congested_word = 25

-- the row that an rpr_age takes on the station in the memory
abbrev pub row_in : List ℕ → Row
row_in mem = row_now (station_in mem)

-- An rpr_age alters local congestion or localFairRate, as rpr_show tells them before and after it,
abbrev pub AlteredIn : List ℕ → Lending → List ℕ → Type 0
AlteredIn room l mem =
    (shown_word room mem congested_word ≡ shown_word room (memory_after l mem) congested_word → ⊥)
    ⊎ (shown_word room mem local_word ≡ shown_word room (memory_after l mem) local_word → ⊥)

-- and one alters localFairRate while the station counts as locally congested before and after it.
abbrev pub AlteredWithinIn : List ℕ → Lending → List ℕ → Type 0
AlteredWithinIn room l mem =
    (shown_word room mem congested_word ≡ 1)
    × (shown_word room (memory_after l mem) congested_word ≡ 1)
    × (shown_word room mem local_word ≡ shown_word room (memory_after l mem) local_word → ⊥)

-- With these settings, of the station in the memory: rpr_show is carried out, and the conservative localFairRate that it tells is at most unreservedRate.
abbrev pub RateTold : List ℕ → Settings → List ℕ → Type 0
RateTold room s mem =
    (show_answer (take station_length mem) room ≡ 0) × (s.site.method ≡ 1 → shown_word room mem local_word ≤ s.fairness.unreserved)

-- and where it does not count as locally congested, by either method, localFairRate is unreservedRate
abbrev pub FreeTold : List ℕ → Settings → List ℕ → Type 0
FreeTold room s mem = shown_word room mem congested_word ≡ 0 → shown_word room mem local_word ≡ s.fairness.unreserved
