-- What a stretch of a record's events comes to, put together from its index by repeated halving and at most two partly read blocks (document 02, A1).
-- Assumes nothing.
use Rattle.std.specs.Prelude.{ℕ, zero, suc, ◌+◌, ◌-◌, ◌*◌, ◌≤◌, ◌<◌, min, max, Bool, ◌&&◌, ◌||◌, cond, List, leb, eqb, ◌≡◌, length, drop, Ok, Err}
use Rattle.decide.specs.Number.{refusal_of}
use Rattle.decide.specs.Test.{Holds}
use Rattle.shaper.specs.declared.Limits.{Limits}
use Rattle.shaper.specs.Limits.{limits_ok, most_events}
use Rattle.summary.specs.declared.Summary.{Summary}
use Rattle.summary.specs.Summary.{summary_of}
use Rattle.summary.specs.Range.{in_range}
use Rattle.summary.specs.Answer.{Answer, join_of}
use Rattle.record.specs.Read.{Events, faulty, events}
use Rattle.excerpt.specs.Excerpt.{read_part}
use Rattle.index.specs.Tree.{entry_length, index_length, size_of, from_of, to_of, stands_at}
use Rattle.index.specs.Entry.{summary_in, place_in}
use Rattle.stretch.specs.declared.Found.{Found}
use Rattle.stretch.specs.declared.Found.TheVariants.{Nothing, Faulty, Outside, Sum}

-- what is asked of: the settings, the bytes of the record and of its index, and how many events there are
pub record Source : Type 0 where
  pub limits : Limits
  pub bytes : List ℕ
  pub index : List ℕ
  pub events : ℕ

abbrev pub source_of : Limits → List ℕ → List ℕ → ℕ → Source
source_of l xs ix n = record { limits = l; bytes = xs; index = ix; events = n }

-- a question that is not empty, of a record of n events whose index has the right length
pub record Asking (l : Limits) (ix : List ℕ) (n first last : ℕ) : Type 0 where
  pub settings : Holds (limits_ok l)
  pub long : length ix ≡ index_length n
  pub few : n ≤ most_events
  pub some : first < last
  pub within : last ≤ n

-- ---- the parts of an answer

-- One part and then the next. Nothing is neutral; a fault of a partly read block goes before an entry that is out of range, and the first block's before the second's; else they
-- are joined.
abbrev pub joined_found : Answer → Found
joined_found (Ok s) = Sum s
joined_found (Err r) = Outside

unfoldable pub and_found : Found → Found → Found
and_found Nothing g = g
and_found (Faulty r) g = Faulty r
and_found Outside Nothing = Outside
and_found Outside (Faulty r) = Faulty r
and_found Outside Outside = Outside
and_found Outside (Sum b) = Outside
and_found (Sum a) Nothing = Sum a
and_found (Sum a) (Faulty r) = Faulty r
and_found (Sum a) Outside = Outside
and_found (Sum a) (Sum b) = joined_found (join_of a b)

-- An entry is in range if its events are those its position covers and, with the record's settings, its summary is in range.
abbrev pub entry_ok : ℕ → Summary → Bool
entry_ok covers s = eqb s.events covers && in_range s

unfoldable pub entry_found : Source → ℕ → ℕ → Found
entry_found q entry covers =
    cond (entry_ok covers (summary_in q.limits q.index (entry_length * entry))) (Sum (summary_in q.limits q.index (entry_length * entry))) Outside

-- A partly read block, from its first event to the last of the stretch in it: the earliest fault there, or the summary of those from the stretch's first event on.
abbrev pub part_summed : Limits → ℕ → Events → Found
part_summed l skipped (faulty n) = Faulty (refusal_of n)
part_summed l skipped (events es) = Sum (summary_of l (drop skipped es))

unfoldable pub part_found : Source → ℕ → ℕ → ℕ → Found
part_found q x skipped count = part_summed q.limits skipped (read_part q.limits.mtu count q.bytes (place_in q.index (80 * x)))

-- ---- the stretch

-- whether a node lies whole in the stretch, and whether it lies apart from it
unfoldable pub whole : ℕ → ℕ → ℕ → ℕ → ℕ → Bool
whole n first last k x = leb first (from_of x) && leb (to_of n k x) last

unfoldable pub apart : ℕ → ℕ → ℕ → ℕ → ℕ → Bool
apart n first last k x = leb last (from_of x) || leb (to_of n k x) first

-- A block that lies partly in the stretch is read, from its first event to the last of the stretch in it.
abbrev pub part_in : Source → ℕ → ℕ → ℕ → Found
part_in q first last x = part_found q x (max first (from_of x) - from_of x) (min last (to_of q.events 0 x) - from_of x)

-- The part of the stretch from event `first` to just before event `last` that lies in a node: its entry, where all of it does; else both halves, and of a block what is read.
unfoldable pub found_in : Source → ℕ → ℕ → ℕ → ℕ → Found
found_in q first last zero x =
    cond (apart q.events first last 0 x)
    Nothing
    (cond (whole q.events first last 0 x) (entry_found q (stands_at q.events 0 x) (to_of q.events 0 x - from_of x)) (part_in q first last x))
found_in q first last (suc k) x =
    cond (apart q.events first last (suc k) x)
    Nothing
    (cond (whole q.events first last (suc k) x)
    (entry_found q (stands_at q.events (suc k) x) (to_of q.events (suc k) x - from_of x))
    (and_found (found_in q first last k x) (found_in q first last k (x + size_of k))))
