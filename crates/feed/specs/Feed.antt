-- A record fed byte by byte: what is kept of the bytes so far, and what they come to.
-- Assumes nothing.
use Rattle.std.specs.Prelude.{ℕ, ◌+◌, ◌-◌, ◌≤◌, ◌<◌, Bool, true, false, ◌&&◌, cond, List, [], ◌∷◌, ◌≡◌, eqb, leb, ltb, length, replicate, set, take, Some, None, Ok, Err}
use Rattle.decide.specs.declared.refusal.Refusal.{Refusal}
use Rattle.decide.specs.Number.{refusal_of}
use Rattle.shaper.specs.Limits.{most_events}
use Rattle.shaper.specs.Kind.{event_of}
use Rattle.summary.specs.declared.Summary.{Summary}
use Rattle.summary.specs.Range.{in_range}
use Rattle.summary.specs.Answer.{Answer, empty_answer, counted_answer, join_next}
use Rattle.record.specs.Read.{is_run}
use Rattle.record.specs.Step.{Header, Step, header_of_of, step_within}
use Rattle.account.specs.Account.{events_of}
use Rattle.feed.specs.declared.Stage.{Stage}
use Rattle.feed.specs.declared.Stage.TheVariants.{Heading, Summing, Stopped}
use Rattle.feed.specs.declared.Feed.{Feed}
use Rattle.feed.specs.declared.Front.{Front}

-- ---- the stage after a whole header and after a whole item

-- a summary goes on, and a refusal is the record's fault
abbrev pub stage_of : Answer → Stage
stage_of (Ok s) = Summing s
stage_of (Err r) = Stopped r

-- behind a header: no event yet, or the header's fault
abbrev pub opened_by : Header → Stage
opened_by (Ok l) = stage_of (empty_answer l)
opened_by (Err r) = Stopped r

-- behind an item: its events are joined in one step, however many they are (`counted_one_by_one` of summary: as one by one), or its fault
abbrev pub passed_by : Summary → Step → Stage
passed_by s (Ok (Some i)) = stage_of (join_next s (counted_answer s.limits (event_of i.kind i.number) i.count))
passed_by s (Ok None) = Summing s
passed_by s (Err r) = Stopped r

-- an event has 6 bytes and a run 10, by the kind: that is bytes 2 and 3
unfoldable pub item_size : List ℕ → ℕ
item_size xs = cond (is_run xs) 10 6

-- a header is the 14 bytes held, an item the first 6 or 10; 9: an item that stands for more events than may come
abbrev pub next_stage : Stage → List ℕ → Stage
next_stage Heading xs = opened_by (header_of_of xs)
next_stage (Summing s) xs = passed_by s (step_within (refusal_of 9) (most_events - s.events) s.limits.mtu (take (item_size xs) xs) 0)
next_stage (Stopped r) xs = Stopped r

-- ---- a byte more

-- where nothing is held all places are 0
abbrev pub none_held : List ℕ
none_held = replicate 14 0

-- before the last place the byte is held; at the last place what is held is whole, and nothing is held any more
unfoldable pub held_byte : ℕ → Feed → ℕ → Feed
held_byte size f b =
    cond (ltb (f.held + 1) size)
    (record { stage = f.stage; pending = set f.pending f.held b; held = f.held + 1 })
    (record { stage = next_stage f.stage (set f.pending f.held b); pending = none_held; held = 0 })

-- past a fault
abbrev pub stopped_at : Feed → Refusal → Feed
stopped_at f r = record { stage = Stopped r; pending = f.pending; held = f.held }

-- A header has 14 bytes, and an item 6 or 10: its kind is held before as many are. Within a record the earliest fault counts, and any byte after the millionth event
-- gives 9.
abbrev pub fed_at : Stage → Feed → ℕ → Feed
fed_at Heading f b = held_byte 14 f b
fed_at (Summing s) f b = cond (leb most_events s.events) (stopped_at f (refusal_of 9)) (held_byte (item_size f.pending) f b)
fed_at (Stopped r) f b = f

unfoldable pub fed_byte : Feed → ℕ → Feed
fed_byte f b = fed_at f.stage f b

-- ---- all bytes, from none

abbrev pub start_of : Feed
start_of = record { stage = Heading; pending = none_held; held = 0 }

unfoldable pub fed_of : Feed → List ℕ → Feed
fed_of f [] = f
fed_of f (b ∷ bs) = fed_of (fed_byte f b) bs

-- chunk after chunk
unfoldable pub fed_chunks : Feed → List (List ℕ) → Feed
fed_chunks f [] = f
fed_chunks f (xs ∷ chunks) = fed_chunks (fed_of f xs) chunks

-- ---- items summed at once

-- the summary so far joined with that of all items of some bytes, where as many events more may come as a record has left; or their earliest fault
unfoldable pub with_items : Summary → List ℕ → Answer
with_items s ys = join_next s (events_of true s.limits (most_events - s.events) ys)

-- whether items of a chunk of n bytes may be summed at once: it begins with an item, one of either size stands in it, and the summary so far is in range
abbrev pub may_sum : Summary → ℕ → ℕ → Bool
may_sum s held n = eqb held 0 && (leb 10 n && in_range s)

-- some bytes at the front of a chunk were
pub record AtOnce (s : Summary) (xs : List ℕ) (front : Front) : Type 0 where
  pub some : 0 < front.end
  pub within : front.end ≤ length xs
  pub same : front.answer ≡ with_items s (take front.end xs)

-- ---- the end

-- a fault was seen
abbrev pub ends_at : Stage → Bool
ends_at Heading = false
ends_at (Summing s) = false
ends_at (Stopped r) = true

unfoldable pub ends_of : Feed → Bool
ends_of f = ends_at f.stage

-- 2: bytes are not a whole record: the header or an item is cut short.
abbrev pub finish_at : Stage → ℕ → Answer
finish_at Heading held = Err (refusal_of 2)
finish_at (Summing s) held = cond (eqb held 0) (Ok s) (Err (refusal_of 2))
finish_at (Stopped r) held = Err r

unfoldable pub finish_of : Feed → Answer
finish_of f = finish_at f.stage f.held
