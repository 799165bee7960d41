-- Calls keep a lent station in range, whatever calls or bytes it came from: not only one that a start left.
-- Assumes nothing.
use Prim.Native.Nat.{ℕ}
use mathlib.Core.List.{List}
use mathlib.Core.Path.{◌≡◌, refl, sym, subst}
use lib.ListN.{length, take}
use Rattle.wire.specs.Wire.{Bytes}
use Rattle.station.specs.Range.{StationOk}
use Rattle.layout.specs.Layout.{station_length, station_at}
use Rattle.rpr.specs.Lent.{LentCall, left_by, Lending, memory_through, station_in}
use Rattle.rpr.specs.Says.{Keeps}
use Rattle.rpr.proofs.Step.{left}
use Rattle.rpr.proofs.Lent.{memory_keeps}

module _ (xs : List ℕ) (bytes : Bytes xs) (whole : length xs ≡ station_length) (ok : StationOk (station_at xs)) where
  -- bytes of a station's length keep the station that they hold
  pub bytes_keep : Keeps xs (station_at xs)
  bytes_keep = record { bytes = bytes; whole = whole; holds = refl; in_range_lem = ok }

  -- and so do the bytes that any call leaves
  pub call_kept : (c : LentCall) → Keeps (left_by c xs) (station_at (left_by c xs))
  call_kept c = let k = (left bytes_keep c).keeps in subst (Keeps (left_by c xs)) (sym k.holds) k

-- Any calls on one piece of memory, new starts among them, keep the station in it in range.
pub kept_lent : (mem : List ℕ) → Bytes (take station_length mem) → length (take station_length mem) ≡ station_length → StationOk (station_in mem)
    → (ls : List Lending) → StationOk (station_in (memory_through mem ls))
kept_lent mem bytes whole ok ls =
    let k = (memory_keeps mem ls (bytes_keep (take station_length mem) bytes whole ok)).keeps in
    subst StationOk (sym k.holds) k.in_range_lem
