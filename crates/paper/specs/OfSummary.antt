-- Public functions of `summary`, by name: two answers that meet the contract are equal.
-- Assumes nothing.
use Rattle.decide.specs.declared.refusal.Refusal.{Refusal}
use Rattle.plain.specs.declared.Plain.{Plain}
use Rattle.shaper.specs.Kind.{event_of}
use Rattle.shaper.specs.declared.Event.{Event}
use Rattle.shaper.specs.declared.Limits.{Limits}
use Rattle.std.specs.Prelude.{Bool, Option, Result, ℕ, ◌≡◌}
use Rattle.summary.specs.Answer.{counted_answer, empty_answer, join_next, join_of, settle_of, single_answer}
use Rattle.summary.specs.Plain.{signed_from}
use Rattle.summary.specs.Range.{in_range}
use Rattle.summary.specs.declared.Summary.{Summary}
use Rattle.paper.specs.Determined.{Determined}

pub record Functions : Type 0 where
  -- Summary::empty
  pub summary_empty : (limits : Limits) → Determined (λ (r : Result Summary Refusal). r ≡ empty_answer limits)
  -- Summary::waiting_tick
  pub summary_waiting_tick : (limits : Limits) (amount : ℕ) → Determined (λ (r : Result Summary Refusal). r ≡ single_answer limits (Event.Waiting amount))
  -- Summary::idle_tick
  pub summary_idle_tick : (limits : Limits) (amount : ℕ) → Determined (λ (r : Result Summary Refusal). r ≡ single_answer limits (Event.Idle amount))
  -- Summary::send
  pub summary_send : (limits : Limits) (size : ℕ) → Determined (λ (r : Result Summary Refusal). r ≡ single_answer limits (Event.Send size))
  -- Summary::counted
  pub summary_counted : (limits : Limits) (kind number count : ℕ) → Determined (λ (r : Result Summary Refusal). r ≡ counted_answer limits (event_of kind number) count)
  -- Summary::in_range
  pub summary_in_range : (self : Summary) → Determined (λ (r : Bool). r ≡ in_range self)
  -- Summary::join
  pub summary_join : (self other : Summary) → Determined (λ (r : Result Summary Refusal). r ≡ join_of self other)
  -- Summary::join_next
  pub summary_join_next : (self : Summary) (next : Result Summary Refusal) → Determined (λ (r : Result Summary Refusal). r ≡ join_next self next)
  -- Summary::settle
  pub summary_settle : (self : Summary) (start : ℕ) → Determined (λ (r : Result (Option ℕ) Refusal). r ≡ settle_of self start)
  -- signed (a leaf: it asks that (p.events ≤ 4294967295) × (p.depth ≤ 9223372036854775807))
  pub signed : (p : Plain) → Determined (λ (r : Summary). r ≡ signed_from p)
