-- The flow at its start, and after a tick.
-- Assumes nothing.
use Rattle.std.specs.Prelude.{ℕ, min, Bool, ◌||◌, List, [], ◌∷◌}
use Rattle.shaper.specs.declared.Event.{Event}
use Rattle.shaper.specs.Credit as shaper
use Rattle.queue.specs.Queue.{empty_queue, holds_frame}
use Rattle.settings.specs.declared.Settings.{Settings}
use Rattle.credits.specs.declared.Which.{Which}
use Rattle.credits.specs.declared.Which.TheVariants.{M, A, B, C, D}
use Rattle.credits.specs.Which.{bucket_of, fed}
use Rattle.flow.specs.declared.Flow.{Flow}
use Rattle.flow.specs.Parts.{stage_holds, with_credits}

-- Credit starts at loLimit. Each queue has 128 slots, all empty at the start; so is the stage.
unfoldable pub start_of : Settings → Flow
start_of s =
    record {
      credits =
          record {
            m = s.shapers.m.lo;
            a = s.shapers.a.lo;
            b = s.shapers.b.lo;
            c = s.shapers.c.lo;
            d = s.shapers.d.lo;
          };
      control = empty_queue;
      primary = empty_queue;
      secondary = empty_queue;
      stage = 0;
    }

-- The host's tick says whether A, B, C traffic waits. M waits when the control queue holds a frame; C when B or C waits; D when B or C waits or the stage
-- or secondary queue holds a frame.
abbrev pub waits : Flow → Bool → Bool → Bool → Which → Bool
waits f a b c M = holds_frame f.control
waits f a b c A = a
waits f a b c B = b
waits f a b c C = b || c
waits f a b c D = (b || c) || (stage_holds f || holds_frame f.secondary)

-- C's amount is the smaller of its setting and its share of the allowed rate; the others' is their setting.
abbrev pub amount_of : Settings → ℕ → Which → ℕ
amount_of s share M = (bucket_of s M).amount
amount_of s share A = (bucket_of s A).amount
amount_of s share B = (bucket_of s B).amount
amount_of s share C = min (bucket_of s C).amount share
amount_of s share D = (bucket_of s D).amount

-- what a tick is to each shaper: one event
abbrev pub tick_events : Settings → Flow → ℕ → Bool → Bool → Bool → Which → List Event
tick_events s f share a b c w = shaper.tick_of (waits f a b c w) (amount_of s share w) ∷ []

unfoldable pub tick_of : Settings → Flow → ℕ → Bool → Bool → Bool → Flow
tick_of s f share a b c = with_credits f (fed s f.credits (tick_events s f share a b c))
