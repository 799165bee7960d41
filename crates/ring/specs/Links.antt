-- Links of a ring, and how far a station reaches.
-- Assumes nothing: these are definitions.
use Rattle.std.specs.Prelude.{ℕ, zero, suc, ◌+◌, ◌-◌, ◌*◌, ◌/◌, ◌%◌, ◌^◌, ◌<◌, Bool, cond, eqb}
use Rattle.ring.specs.declared.Way.{Way}
use Rattle.ring.specs.declared.Way.TheVariants.{Left, Right}

-- One 64-bit word holds a bit per link, set if usable.
unfoldable pub usable : ℕ → ℕ → Bool
usable links k = eqb (links / 2 ^ k % 2) 1

-- the opposite side
abbrev pub other_of : Way → Way
other_of Left = Right
other_of Right = Left

-- Stations are numbered from 0; right goes to the next higher number, and from the last to 0.
abbrev pub next_of : Way → ℕ → ℕ → ℕ
next_of Right stations at = (at + 1) % stations
next_of Left stations at = (at + (stations - 1)) % stations

-- the station so many hops on
abbrev pub station_after : Way → ℕ → ℕ → ℕ → ℕ
station_after way stations at zero = at
station_after way stations at (suc hops) = station_after way stations (next_of way stations at) hops

-- Link k joins k and k+1, the last joins 0: the link ahead of a station is its own number to the right, and to the left that of the station there.
abbrev pub link_of : Way → ℕ → ℕ → ℕ
link_of Right stations at = at
link_of Left stations at = next_of Left stations at

-- the link ahead of a station is usable
abbrev pub ahead_of : Way → ℕ → ℕ → ℕ → Bool
ahead_of way stations links at = usable links (link_of way stations at)

-- The unbroken run of usable links from a station, as far as so many hops: a hop on while the link ahead is usable.
unfoldable pub run_of : Way → ℕ → ℕ → ℕ → ℕ → ℕ
run_of way stations links zero at = zero
run_of way stations links (suc hops) at = cond (ahead_of way stations links at) (suc (run_of way stations links hops (next_of way stations at))) zero

-- How far each side reaches is the unbroken run of usable links from the station: at most once round.
abbrev pub reach_of : Way → ℕ → ℕ → ℕ → ℕ
reach_of way stations own links = run_of way stations links stations own

-- the word of links rotated so that the station's own link is bit 0
abbrev pub rotated_of : ℕ → ℕ → ℕ → ℕ
rotated_of stations own links = links % 2 ^ own * 2 ^ (stations - own) + links / 2 ^ own

-- a station of a ring of at most 63 stations, and no bit above its links
pub record Stands (stations own links : ℕ) : Type 0 where
  pub small : stations < 64
  pub station : own < stations
  pub clear : links < 2 ^ stations
