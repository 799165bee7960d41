-- What a record comes to: the summary of its events, event by event, or the number of its earliest fault.
-- Assumes nothing.
use Rattle.std.specs.Prelude.{◌≡◌, ℕ, Bool, true, List, Ok, Err}
use Rattle.shaper.specs.declared.Limits.{Limits}
use Rattle.summary.specs.declared.Summary.{Summary}
use Rattle.summary.specs.Summary.{summary_of}
use Rattle.record.specs.Items.{Item, written_items, unrolled, Formed}
use Rattle.record.specs.Read.{Read, unreadable, whole, under, read_items, read_in}
use Rattle.summary.specs.Answer.{Answer}
use Rattle.decide.specs.Number.{refusal_of}

abbrev pub summarized : Read → Answer
summarized (unreadable n) = Err (refusal_of n)
summarized (whole l es) = Ok (summary_of l es)

-- `runs` says whether runs may stand
unfoldable pub summarize_in : Bool → List ℕ → Answer
summarize_in runs xs = summarized (read_in runs xs)

-- in either form
abbrev pub summarize_of : List ℕ → Answer
summarize_of xs = summarize_in true xs

-- the same of what stands behind a header with these settings, where `left` more events may come: any byte after the last of them gives 9, and so does a run that
-- passes them
unfoldable pub events_of : Bool → Limits → ℕ → List ℕ → Answer
events_of runs l left ys = summarized (under l (read_items runs 9 l.mtu left 0 ys))

-- the record behind a summary
pub record Accounted (runs : Bool) (xs : List ℕ) (s : Summary) : Type 0 where
  pub settings : Limits
  pub items : List Item
  pub formed : Formed runs settings items
  pub bytes : xs ≡ written_items settings items
  pub sums : s ≡ summary_of settings (unrolled items)
