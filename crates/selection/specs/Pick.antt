-- Selection without the queues: what it looks at, what it says and what it leaves of credits and stage.
-- Assumes nothing.
use Rattle.queue.specs.declared.Front.{Front}
use Rattle.queue.specs.Front.{front_of, fronted}
use Rattle.settings.specs.declared.Settings.{Settings}
use Rattle.flow.specs.declared.Flow.{Flow}
use Rattle.flow.specs.declared.Line.{Line}
use Rattle.flow.specs.declared.Line.TheVariants.{Control, Primary, Secondary}
use Rattle.selection.specs.declared.Pick.{Pick}
use Rattle.selection.specs.declared.Selected.{Selected}
use Rattle.selection.specs.declared.Sight.{Sight}
use Rattle.selection.specs.Select.{select_of}

-- ---- what a selection looks at

-- the credits, the stage, and the front of each queue
abbrev pub sight_of : Flow → Sight
sight_of f =
    record { credits = f.credits; stage = f.stage; control = front_of f.control; primary = front_of f.primary; secondary = front_of f.secondary }

-- a flow that looks so
abbrev pub seen_in : Sight → Flow
seen_in v =
    record { credits = v.credits; control = fronted v.control; primary = fronted v.primary; secondary = fronted v.secondary; stage = v.stage }

abbrev pub front_at : Sight → Line → Front
front_at v Control = v.control
front_at v Primary = v.primary
front_at v Secondary = v.secondary

-- ---- what goes next

-- of what is selected: the origin, the frame, and the credits and the stage afterwards
abbrev pub pick_from : Selected → Pick
pick_from r = record { origin = r.origin; frame = r.frame; credits = r.flow.credits; stage = r.flow.stage }

-- what the table selects
abbrev pub pick_of : Settings → Flow → Pick
pick_of s f = pick_from (select_of s f)
