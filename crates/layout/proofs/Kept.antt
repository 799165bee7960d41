-- Every call on a station in range leaves one whose numbers fit their bytes, so that over any calls the bytes that are lent read back to the station.
-- Assumes nothing.
use native.Mathlib.Omega.{arith}
use Rattle.settings.specs.declared.Settings.{Settings}
use Rattle.settings.specs.Range.{SettingsOk}
use Rattle.settings.specs.Words.{SettingsFit}
use Rattle.station.specs.declared.Station.{Station}
use Rattle.station.specs.Range.{StationOk}
use Rattle.station.specs.Narrow.{Narrow}
use Rattle.station.specs.Calls.{fresh_of}
use Rattle.station.specs.History.{Call, step}
use Rattle.station.proofs.Range.{fresh_ok}
use Rattle.station.proofs.Kept.{range_kept}
use Rattle.station.proofs.Narrow.{narrow_kept, fresh_narrow}
use Rattle.layout.specs.Layout.{StationFits}
use Rattle.layout.proofs.Round.{station_in_range_fits}

fits_narrow : {st : Station} → StationFits st → Narrow st
fits_narrow f = record { own_low = f.of_settings.of_address.1; low = omega (arith, f.of_fair.of_received) }

-- what a call leaves fits where what it was lent did
pub fits_kept : {st : Station} → StationOk st → StationFits st → (c : Call) → StationFits (step c st).station
fits_kept {st} ok f c = station_in_range_fits (step c st).station (range_kept ok c) (narrow_kept (fits_narrow f) c)

-- and a fresh station's fit where its settings do
pub fresh_fits : {s : Settings} → SettingsOk s → SettingsFit s → StationFits (fresh_of s)
fresh_fits {s} ok f = station_in_range_fits (fresh_of s) (fresh_ok ok) (fresh_narrow s f.of_address.1)
