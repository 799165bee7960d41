-- What a mover's answer says, exactly: when it refuses and with which number, when it writes, and what the room holds afterwards.
-- Assumes nothing.
use Rattle.std.specs.Prelude.{ℕ, ◌≤◌, ◌<◌, Bool, List, ◌↔◌, ◌≡◌, length, take, drop, Ok, Err}
use Rattle.decide.specs.declared.refusal.Refusal.{Refusal}
use Rattle.decide.specs.Number.{refusal_of}
use Rattle.shaper.specs.declared.Limits.{Limits}
use Rattle.shaper.specs.declared.Event.{Event}
use Rattle.record.specs.Items.{written_items}
use Rattle.record.specs.Read.{whole, read_in}
use Rattle.record.specs.Cause.{Cause}
use Rattle.roll.specs.Rolled.{rolled}
use Rattle.roll.specs.Moved.{Output, moved_number, moved_of, left_of}

-- A form is what a mover writes of settings and events: the old one is `written`, and this is the new one.
abbrev pub new_form : Limits → List Event → List ℕ
new_form l es = written_items l (rolled es)

-- The record xs has no fault, and its form does not fit the room. `runs` says whether runs may stand in it.
pub record Short (runs : Bool) (form : Limits → List Event → List ℕ) (xs room : List ℕ) : Type 0 where
  pub limits : Limits
  pub events : List Event
  pub reads : read_in runs xs ≡ whole limits events
  pub shorter : length room < length (form limits events)

-- Refusals: the record's earliest fault; where it has none, 12 for a room that is too short.
pub data Refuses (runs : Bool) (form : Limits → List Event → List ℕ) (xs room : List ℕ) : ℕ → Type 0 where
  earliest : {n : ℕ} → Cause runs xs n → Refuses runs form xs room n
  no_room : Short runs form xs room → Refuses runs form xs room 12

-- The record has no fault, and its form, n bytes long, fits the room.
pub record Carried (runs : Bool) (form : Limits → List Event → List ℕ) (xs room : List ℕ) (n : ℕ) : Type 0 where
  pub limits : Limits
  pub events : List Event
  pub reads : read_in runs xs ≡ whole limits events
  pub counted : n ≡ length (form limits events)
  pub fits : length (form limits events) ≤ length room

-- What a mover promises of its answer and of the room, where its output is o.
pub record MovesExactly (runs : Bool) (form : Limits → List Event → List ℕ) (xs room : List ℕ) (o : Output) : Type 0 where
  -- a number is answered exactly when it has its cause,
  pub refused_exactly : (n : ℕ) → 0 < n → (moved_number (moved_of o room) ≡ n → Refuses runs form xs room n) × (Refuses runs form xs room n → moved_of o room ≡ Err (refusal_of n))
  -- 12 last, exactly when nothing else is wrong,
  pub short_exactly : (moved_of o room ≡ Err (refusal_of 12)) ↔ Short runs form xs room
  -- and a refusal leaves the room;
  pub refused_leaves : (r : Refusal) → moved_of o room ≡ Err r → left_of o room ≡ room
  -- else it is carried out,
  pub written_exactly : (n : ℕ) → (moved_of o room ≡ Ok n) ↔ Carried runs form xs room n
  -- and then the form stands at the front of the room, and the bytes behind it stay.
  pub front : {n : ℕ} (c : Carried runs form xs room n) → take n (left_of o room) ≡ form c.limits c.events
  pub behind : {n : ℕ} → Carried runs form xs room n → drop n (left_of o room) ≡ drop n room
  pub as_long : length (left_of o room) ≡ length room
