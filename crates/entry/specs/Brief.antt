-- What an entry point answers: what the step answers beside the station or the shaper, which lies behind the reference.
-- Assumes nothing.
use Rattle.std.specs.Prelude.{ℕ, Result, Ok, Err}
use Rattle.shaper.specs.declared.Refused.{Refused}
use Rattle.shaper.specs.Shaper.{Charged}
use Rattle.station.specs.Answers.{Done}
use Rattle.station.specs.declared.Client.{Client}
use Rattle.station.specs.declared.Selected.{Selected}
use Rattle.entry.specs.declared.Chosen.{Chosen}

-- of most calls: nothing, or the refusal
abbrev pub Brief : Type 0
Brief = Result (Unit {0}) Refused

abbrev pub brief_of : Done → Brief
brief_of (Ok st) = Ok tt
brief_of (Err e) = Err e

-- of a charge
abbrev pub charge_brief_of : Charged → Brief
charge_brief_of (Ok s) = Ok tt
charge_brief_of (Err e) = Err e

-- of a client's offer: the mark that its frame was given, or the refusal
abbrev pub Marked : Type 0
Marked = Result ℕ Refused

abbrev pub marked_of : Result Client Refused → Marked
marked_of (Ok r) = Ok r.mark
marked_of (Err e) = Err e

-- of a selection: where the frame comes from, and the frame, or the refusal
abbrev pub chosen_of : Result Selected Refused → Result Chosen Refused
chosen_of (Ok r) = Ok (record { origin = r.origin; frame = r.frame })
chosen_of (Err e) = Err e
