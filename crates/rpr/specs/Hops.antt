-- No hops beyond the ring, as a host sees it. Assumes nothing.
use Rattle.std.specs.Prelude.{ℕ, ◌<◌, List, ◌≡◌, length, take, get_or}
use Rattle.heard.specs.Range.{hops_of}
use Rattle.advert.specs.Frame.{advert_length}
use Rattle.station.specs.Hops.{WithinRing}
use Rattle.layout.specs.Layout.{station_length}
use Rattle.rpr.specs.Station.{select_answer, write_frame_after}
use Rattle.rpr.specs.Lent.{station_in}
use Rattle.rpr.specs.Told.{answer_byte}

-- On a ring of so many stations, of the station in the memory:
pub record RingTold (stations : ℕ) (mem : List ℕ) : Type 0 where
  -- its frames, what it received and what it tells stay within the ring;
  pub within : WithinRing stations (station_in mem)
  -- so does the frame that rpr_select gives: its hops are byte 3 of the answer;
  pub selected : answer_byte (select_answer (take station_length mem)) 3 < stations
  -- and so does the frame that rpr_write_frame leaves in a room: its first byte is its ttl
  pub written : (room : List ℕ) → length room ≡ advert_length → hops_of (get_or (write_frame_after (take station_length mem) room) 0 0) < stations
