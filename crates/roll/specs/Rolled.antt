-- The events of an old record as items of the new form, and when runs are the longest that can be.
-- Assumes nothing.
use Rattle.std.specs.Prelude.{ℕ, zero, suc, ◌<◌, Bool, ◌&&◌, cond, List, [], ◌∷◌, ◌≡◌, eqb, ltb}
use Rattle.shaper.specs.declared.Event.{Event}
use Rattle.shaper.specs.Kind.{kind_of, number_of}
use Rattle.record.specs.Items.{Item, one, run, item_of, most_of_run}

-- whether an event is a tick, kind 1 or 2, and another is the same tick
unfoldable pub same_tick : Event → Event → Bool
same_tick e f = ltb (kind_of e) 3 && eqb (kind_of e) (kind_of f) && eqb (number_of e) (number_of f)

-- From the front, always taking the longest run it can: `count` equal ticks stand before these events. One more goes to them where it is the same tick and they are not
-- yet 65,535; else they are an item, and the next begins.
unfoldable pub rolled_onto : Event → ℕ → List Event → List Item
rolled_onto e count [] = item_of e count ∷ []
rolled_onto e count (f ∷ fs) =
    cond (ltb count most_of_run && same_tick e f) (rolled_onto e (suc count) fs) (item_of e count ∷ rolled_onto f 1 fs)

-- the items of an old record's events
unfoldable pub rolled : List Event → List Item
rolled [] = []
rolled (e ∷ es) = rolled_onto e 1 es

-- how many events from the front of these, at most `most`, are the same tick as e
unfoldable pub same_ahead : ℕ → Event → List Event → ℕ
same_ahead zero e fs = 0
same_ahead (suc most) e [] = 0
same_ahead (suc most) e (f ∷ fs) = cond (same_tick e f) (suc (same_ahead most e fs)) 0

-- ---- runs that are the longest that can be

-- the event that an item repeats, and how many times
abbrev pub event_in : Item → Event
event_in (one e) = e
event_in (run e count) = e

abbrev pub count_in : Item → ℕ
count_in (one e) = 1
count_in (run e count) = count

-- No item below 65,535 stands before an equal tick or a run of it.
abbrev pub Apart : Item → Item → Type 0
Apart i j = count_in i < most_of_run → (kind_of (event_in i) < 3) → event_in i ≡ event_in j → ⊥

abbrev pub Longest : List Item → Type 0
Longest [] = Unit {0}
Longest (i ∷ []) = Unit {0}
Longest (i ∷ j ∷ is) = Apart i j × Longest (j ∷ is)
