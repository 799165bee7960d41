-- What a lender hands on: what the entry point answers, and what it leaves behind the reference.
-- Assumes nothing.
use Rattle.std.specs.Prelude.{Result}
use Rattle.shaper.specs.declared.Shaper.{Shaper}
use Rattle.shaper.specs.declared.Refused.{Refused}
use Rattle.shaper.specs.Refused.{afterwards}
use Rattle.shaper.specs.Shaper.{Charged}
use Rattle.station.specs.Answers.{Done, rest_after}
use Rattle.station.specs.Offers.{station_left}
use Rattle.station.specs.declared.Client.{Client}
use Rattle.station.specs.declared.Selected as station
use Rattle.entry.specs.Brief.{Brief, Marked, brief_of, charge_brief_of, marked_of, chosen_of}
use Rattle.station.specs.declared.Station.{Station}
use Rattle.entry.specs.declared.Chosen.{Chosen}
use Rattle.vectors_entry.specs.declared.lent.Lent.{Lent}

abbrev pub charge_left : Shaper → Charged → Lent Brief Shaper
charge_left s out = record { said = charge_brief_of out; left = afterwards s out }

abbrev pub call_left : Station → Done → Lent Brief Station
call_left s out = record { said = brief_of out; left = afterwards s out }

abbrev pub offer_left : Station → Result Client Refused → Lent Marked Station
offer_left s out = record { said = marked_of out; left = station_left s out }

abbrev pub select_left : Station → Result station.Selected Refused → Lent (Result Chosen Refused) Station
select_left s out = record { said = chosen_of out; left = rest_after s out }
