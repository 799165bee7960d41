-- Selection without the queues: what it says, and what it leaves of the station but for the queue that the frame left.
-- Assumes nothing.
use Rattle.settings.specs.declared.Settings.{Settings}
use Rattle.selection.specs.declared.Sight.{Sight}
use Rattle.selection.specs.Pick.{seen_in}
use Rattle.fair.specs.declared.Fair.{Fair}
use Rattle.station.specs.declared.Station.{Station}
use Rattle.station.specs.declared.Pick.{Pick}
use Rattle.station.specs.declared.Selected.{Selected}
use Rattle.station.specs.Answers.{chosen_of}

-- of a selection's answer: the origin, the frame, and the credits, the stage and the fairness state afterwards
abbrev pub pick_from : Selected → Pick
pick_from r =
    record { origin = r.origin; frame = r.frame; credits = r.station.flow.credits; stage = r.station.flow.stage; fair = r.station.fair }

-- of what a station chooses, in range or not
abbrev pub pick_of : Station → Pick
pick_of st = pick_from (chosen_of st)

-- a station under these settings, with this fairness state, whose credits, stage and queues look so
abbrev pub seen_as_of : Settings → Sight → Fair → Station
seen_as_of s v f = record { settings = s; flow = seen_in v; fair = f }
