-- Public functions of `apart`, by name: two answers that meet the contract are equal.
-- Assumes nothing.
use Rattle.apart.specs.Page.{level_of, most_turns, page_of, passed_of, walk_text}
use Rattle.apart.specs.Text.{both_text, closing_text, opening_text, setting_text}
use Rattle.apart.specs.Told.{differ}
use Rattle.apart.specs.Turn.{line_if, line_text, stand_of, turn_of}
use Rattle.apart.specs.declared.Begun.{Begun}
use Rattle.apart.specs.declared.Finding.{Finding}
use Rattle.apart.specs.declared.Place.{Place}
use Rattle.apart.specs.declared.Reached.{Reached}
use Rattle.apart.specs.declared.Side.{Side}
use Rattle.apart.specs.declared.Stand.{Stand}
use Rattle.apart.specs.declared.Turn.{Turn}
use Rattle.apart.specs.declared.Walk.{Walk}
use Rattle.decide.specs.Test.{test}
use Rattle.decide.specs.declared.refusal.Refusal.{Refusal}
use Rattle.record.specs.Read.{good}
use Rattle.shaper.specs.Kind.{event_of}
use Rattle.shaper.specs.declared.Event.{Event}
use Rattle.shaper.specs.declared.Limits.{Limits}
use Rattle.std.specs.Prelude.{Bool, List, Result, length, ℕ, ◌+◌, ◌≡◌}
use Rattle.summary.specs.declared.Summary.{Summary}
use Rattle.wire.specs.Wire.{le, put}
use Rattle.paper.specs.Determined.{Determined, Determined²}

pub record Functions : Type 0 where
  -- opening
  pub opening : (first second : Limits) (room : List ℕ) → Determined² (λ (r : ℕ) (after-room : List ℕ). (r ≡ length (opening_text first second)) × (after-room ≡ put room 0 (opening_text first second)))
  -- page (a leaf: it asks that (walk.position ≤ most_events) × (440000 ≤ length room.old))
  pub page : (first second : List ℕ) (a b : Side) (walk : Walk) (room : List ℕ) → Determined² (λ (r : Reached) (after-room : List ℕ). (r ≡ page_of a b first second walk) × (after-room ≡ put room 0 (walk_text most_turns a b first second walk)))
  -- closing
  pub closing : (first second : Result Summary Refusal) (room : List ℕ) → Determined² (λ (r : ℕ) (after-room : List ℕ). (r ≡ length (closing_text first second)) × (after-room ≡ put room 0 (closing_text first second)))
  -- line::put_setting (a leaf: it asks that at + length (setting_text words.now a b) ≤ length s.old)
  pub line_put_setting : (s : List ℕ) (at : ℕ) (words : List ℕ) (a b : ℕ) → Determined² (λ (r : ℕ) (after-s : List ℕ). (r ≡ at + length (setting_text words a b)) × (after-s ≡ put s at (setting_text words a b)))
  -- line::put_line (a leaf: it asks that at + length (line_text n line) ≤ length s.old)
  pub line_put_line : (s : List ℕ) (at n : ℕ) (line : Finding) → Determined² (λ (r : ℕ) (after-s : List ℕ). (r ≡ at + length (line_text n line)) × (after-s ≡ put s at (line_text n line)))
  -- line::put_both (a leaf: it asks that at + length (both_text n e f) ≤ length s.old)
  pub line_put_both : (s : List ℕ) (at n : ℕ) (e f : Event) → Determined² (λ (r : ℕ) (after-s : List ℕ). (r ≡ at + length (both_text n e f)) × (after-s ≡ put s at (both_text n e f)))
  -- step::level
  pub step_level : (first second : List ℕ) (p q : Place) → Determined (λ (r : ℕ). r ≡ level_of first second p q)
  -- step::is_event (a leaf: it asks that at + 6 ≤ length s.now)
  pub step_is_event : (s : List ℕ) (at mtu : ℕ) → Determined (λ (r : Bool). r ≡ test (good mtu (le 2 s at) (le 2 s (at + 2)) (le 2 s (at + 4))))
  -- step::event_in (a leaf: it asks that at + 6 ≤ length s.now)
  pub step_event_in : (s : List ℕ) (at : ℕ) → Determined (λ (r : Event). r ≡ event_of (le 2 s (at + 2)) (le 2 s (at + 4)))
  -- step::put_if (a leaf: it asks that at + length (line_if n e f) ≤ length s.old)
  pub step_put_if : (s : List ℕ) (at n : ℕ) (e f : Event) → Determined² (λ (r : ℕ) (after-s : List ℕ). (r ≡ at + length (line_if n e f)) × (after-s ≡ put s at (line_if n e f)))
  -- step::passed (a leaf: it asks that (walk.first.at + 6 * k < 18446744073709551616) × (walk.second.at + 6 * k < 18446744073709551616) × (walk.position + k < 18446744073709551616))
  pub step_passed : (walk : Walk) (k end : ℕ) → Determined (λ (r : Begun). r ≡ record { walk = passed_of walk k; turns = k; end = end })
  -- together::turn (a leaf: it asks that walk.position < 9223372036854775808)
  pub together_turn : (first second : List ℕ) (a b : Side) (walk : Walk) → Determined (λ (r : Turn). r ≡ turn_of a b first second walk)
  -- together::stand
  pub together_stand : (window : List ℕ) (place : Place) (side : Side) → Determined (λ (r : Stand). r ≡ stand_of side window place)
  -- together::event
  pub together_event : (kind number : ℕ) → Determined (λ (r : Event). r ≡ event_of kind number)
  -- together::differs
  pub together_differs : (e f : Event) → Determined (λ (r : Bool). r ≡ differ e f)
