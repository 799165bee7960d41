-- Public functions of `flow`, by name: two answers that meet the contract are equal.
-- Assumes nothing.
use Rattle.credits.specs.declared.Credits.{Credits}
use Rattle.decide.specs.Test.{test}
use Rattle.flow.specs.Leave.{left_of}
use Rattle.flow.specs.Offer.{client_of, control_of, queue_for, transit_of}
use Rattle.flow.specs.Parts.{bounds_of, stage_holds}
use Rattle.flow.specs.Range.{flow_ok, stage_ok}
use Rattle.flow.specs.Tick.{start_of, tick_of}
use Rattle.flow.specs.declared.Client.{Client}
use Rattle.flow.specs.declared.Flow.{Flow}
use Rattle.flow.specs.declared.Line.{Line}
use Rattle.queue.specs.declared.Bounds.{Bounds}
use Rattle.queue.specs.declared.Frame.{Frame}
use Rattle.settings.specs.declared.Settings.{Settings}
use Rattle.shaper.specs.declared.Refused.{Refused}
use Rattle.std.specs.Prelude.{Bool, Result, ℕ, ◌≡◌}
use Rattle.paper.specs.Determined.{Determined}

pub record Functions : Type 0 where
  -- Flow::leave
  pub flow_leave : (self : Flow) (origin : ℕ) (credits : Credits) (stage : ℕ) → Determined (λ (r : Flow). r ≡ left_of self origin credits stage)
  -- Flow::start
  pub flow_start : (settings : Settings) → Determined (λ (r : Flow). r ≡ start_of settings)
  -- Flow::in_range
  pub flow_in_range : (self : Flow) (settings : Settings) → Determined (λ (r : Bool). r ≡ test (flow_ok settings self))
  -- Flow::tick
  pub flow_tick : (self : Flow) (settings : Settings) (share : ℕ) (a b c : Bool) → Determined (λ (r : Flow). r ≡ tick_of settings self share a b c)
  -- Flow::stage_holds
  pub flow_stage_holds : (self : Flow) → Determined (λ (r : Bool). r ≡ stage_holds self)
  -- bounds
  pub bounds : (settings : Settings) → Determined (λ (r : Bounds). r ≡ bounds_of settings)
  -- stage_ok
  pub stage_ok_lem : (bounds : Bounds) (word : ℕ) → Determined (λ (r : Bool). r ≡ test (stage_ok bounds word))
  -- Flow::transit (a leaf: it asks that Offered settings self frame)
  pub flow_transit : (self : Flow) (settings : Settings) (frame : Frame) → Determined (λ (r : Result Flow Refused). r ≡ transit_of settings self frame)
  -- Flow::control (a leaf: it asks that Offered settings self (control_frame size))
  pub flow_control : (self : Flow) (settings : Settings) (size : ℕ) → Determined (λ (r : Result Flow Refused). r ≡ control_of settings self size)
  -- Flow::client
  pub flow_client : (self : Flow) (settings : Settings) (class size hops : ℕ) (over : Bool) → Determined (λ (r : Result Client Refused). r ≡ client_of settings self class size hops over)
  -- Line::queue_for
  pub line_queue_for : (settings : Settings) (class : ℕ) → Determined (λ (r : Line). r ≡ queue_for settings class)
