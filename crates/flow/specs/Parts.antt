-- The parts of a flow: its queues by name, what the settings say of them and of their frames, and a flow with one part anew.
-- Assumes nothing.
use Rattle.std.specs.Prelude.{ℕ, Bool, ltb}
use Rattle.queue.specs.declared.Bounds.{Bounds}
use Rattle.queue.specs.declared.Queue.{Queue}
use Rattle.settings.specs.declared.Settings.{Settings}
use Rattle.credits.specs.declared.Credits.{Credits}
use Rattle.flow.specs.declared.Flow.{Flow}
use Rattle.flow.specs.declared.Line.{Line}
use Rattle.flow.specs.declared.Line.TheVariants.{Control, Primary, Secondary}

abbrev pub queue_of : Flow → Line → Queue
queue_of f Control = f.control
queue_of f Primary = f.primary
queue_of f Secondary = f.secondary

abbrev pub capacity_of : Settings → Line → ℕ
capacity_of s Control = s.queues.control
capacity_of s Primary = s.queues.primary
capacity_of s Secondary = s.queues.secondary

-- what the frames of a station are held to
abbrev pub bounds_of : Settings → Bounds
bounds_of s = record { mtu = s.mtu; stations = s.site.stations }

-- The stage holds one client frame: its word, or 0 where there is none.
abbrev pub stage_holds : Flow → Bool
stage_holds f = ltb 0 f.stage

-- ---- a flow with one part anew

abbrev pub with_credits : Flow → Credits → Flow
with_credits f c = record { credits = c; control = f.control; primary = f.primary; secondary = f.secondary; stage = f.stage }

abbrev pub with_stage : Flow → ℕ → Flow
with_stage f w = record { credits = f.credits; control = f.control; primary = f.primary; secondary = f.secondary; stage = w }

abbrev pub with_queue : Flow → Line → Queue → Flow
with_queue f Control q = record { credits = f.credits; control = q; primary = f.primary; secondary = f.secondary; stage = f.stage }
with_queue f Primary q = record { credits = f.credits; control = f.control; primary = q; secondary = f.secondary; stage = f.stage }
with_queue f Secondary q = record { credits = f.credits; control = f.control; primary = f.primary; secondary = q; stage = f.stage }
