-- How many events stand from a place to the record's end: how an index's last block tells whether the index is this record's.
-- Assumes nothing.
use Rattle.std.specs.Prelude.{ℕ, zero, suc, ◌+◌, Bool, true, cond, List, leb, eqb, length, drop}
use Rattle.decide.specs.Refusal.{first_of}
use Rattle.record.specs.Read.{length_at, item_faults, item_count}
use Rattle.excerpt.specs.declared.Place.{Place}
use Rattle.excerpt.specs.declared.Shape.{Shape}
use Rattle.excerpt.specs.Place.{next_place, place_faults}

-- In the walk of the last block only 2 is looked for.
abbrev pub not_whole : ℕ → List ℕ → Place → Bool
not_whole mtu xs p = eqb (first_of (place_faults mtu xs p)) 2

-- The events from a place to the end; one more than `most` where it does not lead there in so many events.
unfoldable pub events_left : ℕ → ℕ → List ℕ → Place → ℕ
events_left zero mtu xs p = cond (leb (length xs) p.at) 0 1
events_left (suc most) mtu xs p =
    cond (leb (length xs) p.at) 0 (cond (not_whole mtu xs p) (suc (suc most)) (suc (events_left most mtu xs (next_place xs p))))

-- the item at a byte by its shape alone: how many events it stands for, none where it is not whole, and where the next begins
unfoldable pub shape_of : ℕ → List ℕ → ℕ → Shape
shape_of mtu xs at =
    cond (eqb (first_of (item_faults true mtu (drop at xs))) 2)
    (record { count = 0; next = at })
    (record { count = item_count (drop at xs); next = at + length_at (drop at xs) })
