-- A turn of two windows that are walked together: what stands at both places, what is listed of it, and the places behind it.
-- Assumes nothing.
use Rattle.std.specs.Prelude.{Ok, Err, Some, None, ℕ, ◌+◌, ◌-◌, min, Bool, true, false, cond, List, [], ltb}
use Rattle.shaper.specs.declared.Event.{Event}
use Rattle.shaper.specs.Kind.{event_of}
use Rattle.record.specs.Step.{Step}
use Rattle.record.specs.Step.{item_at}
use Rattle.apart.specs.declared.Side.{Side}
use Rattle.apart.specs.declared.Place.{Place}
use Rattle.apart.specs.declared.Walk.{Walk}
use Rattle.apart.specs.declared.Stand.{Stand}
use Rattle.apart.specs.declared.Stand.TheVariants.{Events, Ended, Unread}
use Rattle.apart.specs.declared.Finding.{Finding}
use Rattle.apart.specs.declared.Finding.TheVariants.{Nothing, Both, First, Second}
use Rattle.apart.specs.declared.Turn.{Turn}
use Rattle.apart.specs.Told.{differ}
use Rattle.apart.specs.Text.{both_text, only_text, first_words, second_words}

-- ---- what stands at a place

-- An item that stands for more events than have gone by; behind the last byte the file's end, where no more bytes come. Else the window has no whole item there.
abbrev pub stand_by : Bool → ℕ → Step → Stand
stand_by last gone (Ok (Some p)) = cond (ltb gone p.count) (Events p.kind p.number p.count p.next) Unread
stand_by last gone (Ok None) = cond last Ended Unread
stand_by last gone (Err r) = Unread

unfoldable pub stand_of : Side → List ℕ → Place → Stand
stand_of side w p = stand_by side.last p.gone (item_at true side.mtu w p.at)

-- the place behind m more events of an item of c events, behind which the next begins
unfoldable pub moved_of : Place → ℕ → ℕ → ℕ → Place
moved_of p m c next = cond (ltb (p.gone + m) c) (record { at = p.at; gone = p.gone + m }) (record { at = next; gone = 0 })

-- ---- a turn

-- it goes on,
abbrev pub on_of : Place → Place → ℕ → Finding → Turn
on_of p q n line = record { walk = record { first = p; second = q; position = n }; line = line; stops = false }

-- or it stops where it is
abbrev pub stopped_of : Walk → Turn
stopped_of walk = record { walk = walk; line = Nothing; stops = true }

-- by m events of each
abbrev pub both_on : Walk → ℕ → ℕ → ℕ → ℕ → ℕ → Finding → Turn
both_on walk m c next d behind line = on_of (moved_of walk.first m c next) (moved_of walk.second m d behind) (walk.position + m) line

-- Where the two events differ the position is listed; equal events list nothing, and are passed as many at once as both items have left.
unfoldable pub pair_of : Walk → Event → Event → ℕ → ℕ → ℕ → ℕ → Turn
pair_of walk e f c next d behind =
    cond (differ e f) (both_on walk 1 c next d behind (Both e f))
    (both_on walk (min (c - walk.first.gone) (d - walk.second.gone)) c next d behind Nothing)

-- An event that only one record has is listed where the other has ended. Where a window has no whole item left, no more can be told.
abbrev pub beside_of : Walk → Event → ℕ → ℕ → Stand → Turn
beside_of walk e c next (Events j u d behind) = pair_of walk e (event_of j u) c next d behind
beside_of walk e c next Ended = on_of (moved_of walk.first 1 c next) walk.second (walk.position + 1) (First e)
beside_of walk e c next Unread = stopped_of walk

abbrev pub behind_end : Walk → Stand → Turn
behind_end walk (Events j u d behind) = on_of walk.first (moved_of walk.second 1 d behind) (walk.position + 1) (Second (event_of j u))
behind_end walk Ended = stopped_of walk
behind_end walk Unread = stopped_of walk

abbrev pub met_of : Stand → Stand → Walk → Turn
met_of (Events k v c next) y walk = beside_of walk (event_of k v) c next y
met_of Ended y walk = behind_end walk y
met_of Unread y walk = stopped_of walk

unfoldable pub turn_of : Side → Side → List ℕ → List ℕ → Walk → Turn
turn_of a b w v walk = met_of (stand_of a w walk.first) (stand_of b v walk.second) walk

-- ---- its text

-- what is listed of a position, as bytes
abbrev pub line_text : ℕ → Finding → List ℕ
line_text n Nothing = []
line_text n (Both e f) = both_text n e f
line_text n (First e) = only_text first_words n e
line_text n (Second f) = only_text second_words n f

-- the line of two events at a position, where they differ
unfoldable pub line_if : ℕ → Event → Event → List ℕ
line_if n e f = cond (differ e f) (both_text n e f) []
