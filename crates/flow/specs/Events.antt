-- What an offer is to each shaper: one send per charge, told from the call and its answer. And what it is that events feed the shapers, which ticks,
-- offers and selections share.
-- Assumes nothing.
use Rattle.std.specs.Prelude.{ℕ, cond, List, [], ◌≡◌, eqb}
use Rattle.shaper.specs.declared.Event.{Event}
use Rattle.shaper.specs.Credit.{AllValid, Permitted, end_credit}
use Rattle.settings.specs.declared.Settings.{Settings}
use Rattle.credits.specs.declared.Way.{Way}
use Rattle.credits.specs.declared.Way.TheVariants.{ClassA, ClassB, Excess}
use Rattle.credits.specs.declared.Which.{Which}
use Rattle.credits.specs.Which.{credit_of, limits_for, sends}
use Rattle.credits.specs.Way.{needs_of}
use Rattle.flow.specs.declared.Flow.{Flow}

-- transit and control frames are charged to nobody
abbrev pub no_events : Which → List Event
no_events w = []

-- Client A .. charges A. Client B .. charges B and D. Excess B and C .. charge both, and are marked eligible: class and mark say how a frame went in.
abbrev pub way_back : ℕ → ℕ → Way
way_back class mark = cond (eqb class 0) ClassA (cond (eqb mark 0) ClassB Excess)

-- a client frame that was taken, by the number and the mark that were answered
abbrev pub client_events : ℕ → ℕ → ℕ → ℕ → Which → List Event
client_events class size number mark = sends (cond (eqb number 0) (needs_of (way_back class mark)) []) size

-- From f to g each shaper saw these events: its credit is theirs, every send was permitted at its place, and each is an event of a record.
pub record Feeds (s : Settings) (f g : Flow) (events : Which → List Event) : Type 0 where
  pub credit : (w : Which) → credit_of g.credits w ≡ end_credit (limits_for s w) (credit_of f.credits w) (events w)
  pub permitted : (w : Which) → Permitted (limits_for s w) (credit_of f.credits w) (events w)
  pub valid : (w : Which) → AllValid (limits_for s w) (events w)
