-- Request A12 of document 02, "Heartbeats that always fit": what rpr_heartbeat says of a pattern, repeated, for the third condition. Why it refuses is in `Reasons`.
-- Assumes nothing.
use Rattle.decide.specs.declared.refusal.Refusal.{Refusal}
use Rattle.std.specs.Prelude.{Ok, Err}
use Rattle.decide.specs.Number.{number_in, refusal_of}
use Rattle.std.specs.Prelude.{ℕ, suc, ◌+◌, ◌*◌, ◌/◌, ◌%◌, ◌^◌, ◌≤◌, ◌<◌, List, [], ◌++◌, ◌↔◌, ◌≡◌, length}
use Rattle.wire.specs.Wire.{Bytes}
use Rattle.shaper.specs.declared.Limits.{Limits}
use Rattle.shaper.specs.declared.Event.{Event}
use Rattle.shaper.specs.Limits.{LimitsOk}
use Rattle.shaper.specs.Credit.{Permitted, end_credit}
use Rattle.summary.specs.declared.Summary.{Summary}
use Rattle.summary.specs.Answer.{Answer}
use Rattle.summary.specs.Answer.{Outcome}
use Rattle.summary.specs.Summary.{empty_of, joined, summary_of}
use Rattle.summary.specs.Range.{InRange}
use Rattle.summary.specs.Answer.{join_of, and_then, settle_of}
use Rattle.record.specs.Record.{written}
use Rattle.record.specs.Items.{Item, written_items, unrolled}
use Rattle.account.specs.Account.{summarize_of}
use Rattle.sheet.specs.Sheet.{sheet_length}
use Rattle.heartbeat.specs.declared.Repeats.{Repeats}
use Rattle.heartbeat.specs.Repeat.{times_over, power_of, repeated_of}
use Rattle.heartbeat.specs.Doubling.{doubling_of}
use Rattle.heartbeat.specs.Heartbeat.{pattern_of, heartbeats_of, from_low_of, heartbeat_answer}
use Rattle.heartbeat.specs.Cause.{PatternOk}
use Rattle.rpr.specs.Calls.{summarize_answer, summarize_after, settle_answer, outcome_answer, EndsAt}
use Rattle.paper.specs.Reasons.{HeartbeatRefused}

-- ---- a pattern of at most 256 events, in either form (`PatternOk`), repeated

-- "Repeated a stated number of times": the events of the written_out record, and their summary by joins, one after the other.
pub record Repeating : Type 0 where
  pub none : (es : List Event) → times_over 0 es ≡ []
  pub more : (r : ℕ) (es : List Event) → times_over (suc r) es ≡ times_over r es ++ es
  pub events : (r : ℕ) (es : List Event) → length (times_over r es) ≡ r * length es
  pub power_none : (s : Summary) → power_of s 0 ≡ empty_of s.limits
  pub power_more : (s : Summary) (r : ℕ) → power_of s (suc r) ≡ joined (power_of s r) s

-- ---- by joining a summary with itself, doubling

-- One join more: what came out before, joined with this; a refusal stays.
pub record OneMore (d : Repeats) (a : Answer) (after : Repeats) : Type 0 where
  pub sum : after.sum ≡ and_then d.sum (λ s. and_then a (λ t. join_of s t))
  pub joins : after.joins ≡ d.joins + 1

-- r repeats of a summary: none by no join; else half as many, joined with themselves, and with the summary once more where r is odd.
pub record Doubles (s : Summary) (r : ℕ) : Type 0 where
  pub none : r ≡ 0 → ((doubling_of s r).sum ≡ Ok (empty_of s.limits)) × ((doubling_of s r).joins ≡ 0)
  pub even : 0 < r → r % 2 ≡ 0 → OneMore (doubling_of s (r / 2)) (doubling_of s (r / 2)).sum (doubling_of s r)
  pub odd : 0 < r → r % 2 ≡ 1 → (d : Repeats) → OneMore (doubling_of s (r / 2)) (doubling_of s (r / 2)).sum d → OneMore d (Ok s) (doubling_of s r)
  -- They are the joins one after the other, or 9 where they are too many.
  pub all : r * s.events ≤ 1000000 → (doubling_of s r).sum ≡ Ok (power_of s r)
  pub many : 1000000 < r * s.events → (doubling_of s r).sum ≡ Err (refusal_of 9)
  -- At most 2⌈log2(r + 1)⌉ joins: ⌈log2(r + 1)⌉ is the least k with r + 1 ≤ 2 ^ k.
  pub few_joins : (k : ℕ) → r + 1 ≤ 2 ^ k → (doubling_of s r).joins ≤ 2 * k

-- ---- what the host is told

-- A pattern of events es under the settings l, lent as the bytes xs, r times over:
pub record Beats (xs : List ℕ) (l : Limits) (es : List Event) (r : ℕ) : Type 0 where
  -- It equals the answer from the written_out record: rpr_summarize of that is carried out, and rpr_settle from loLimit answers the same.
  pub written_out : r * length es ≤ 1000000 → (room : List ℕ) → length room ≡ sheet_length
      → (summarize_answer (written l (times_over r es)) room ≡ 0) × (heartbeat_answer xs r ≡ settle_answer (summarize_after (written l (times_over r es)) room) l.lo)
  -- Where that has too many events, both are refused with 9.
  pub too_many : 1000000 < r * length es → (room : List ℕ) → length room ≡ sheet_length
      → (summarize_answer (written l (times_over r es)) room ≡ 9) × (heartbeat_answer xs r ≡ 9)
  -- It says whether the pattern, repeated, is permitted throughout from loLimit, event by event, and if so the credit at the end.
  pub permitted : r * length es ≤ 1000000 → Permitted l l.lo (times_over r es) → EndsAt (heartbeat_answer xs r) (end_credit l l.lo (times_over r es))
  pub not_permitted : r * length es ≤ 1000000 → (Permitted l l.lo (times_over r es) → ⊥) → heartbeat_answer xs r ≡ 0
  -- And where it says so, so it is.
  pub said : (end : ℕ) → EndsAt (heartbeat_answer xs r) end
      → (r * length es ≤ 1000000) × Permitted l l.lo (times_over r es) × (end_credit l l.lo (times_over r es) ≡ end)

-- The same by value.
pub record ByValue : Type 0 where
  -- a summary in range or out of it, repeated
  pub repeated : (s : Summary) (r : ℕ) → InRange s → r * s.events ≤ 1000000 → repeated_of s r ≡ Ok (power_of s r)
  pub repeated_9 : (s : Summary) (r : ℕ) → InRange s → 1000000 < r * s.events → repeated_of s r ≡ Err (refusal_of 9)
  pub repeated_3 : (s : Summary) (r : ℕ) → (InRange s → ⊥) → repeated_of s r ≡ Err (refusal_of 3)
  -- a pattern: by joining its summary with itself, doubling,
  pub by_doubling : (l : Limits) (is : List Item) → PatternOk l is → (r : ℕ) → r < 2 ^ 64
      → heartbeats_of (written_items l is) r ≡ (doubling_of (summary_of l (unrolled is)) r).sum
  -- which is what the written_out record comes to, 9 too,
  pub written_out : (l : Limits) (is : List Item) → PatternOk l is → (r : ℕ)
      → heartbeats_of (written_items l is) r ≡ summarize_of (written l (times_over r (unrolled is)))
  -- or the number of its refusal;
  pub faults : (xs : List ℕ) (r : ℕ) → Bytes xs → (n : ℕ) → 0 < n
      → ((f : Refusal) → number_in f ≡ n → heartbeats_of xs r ≡ Err f → HeartbeatRefused xs r n) × (HeartbeatRefused xs r n → heartbeats_of xs r ≡ Err (refusal_of n))
  -- once alone is the pattern, and
  pub once : (xs : List ℕ) → Bytes xs → pattern_of xs ≡ heartbeats_of xs 1
  -- what it does from loLimit is what the host is told.
  pub from_low : (s : Summary) → from_low_of (Ok s) ≡ settle_of s s.limits.lo
  pub refused : (r : Refusal) → from_low_of (Err r) ≡ Err r
  pub told : (xs : List ℕ) (r : ℕ) → heartbeat_answer xs r ≡ outcome_answer (from_low_of (heartbeats_of xs r))

-- these bytes are a pattern, and the repeats have at most 1,000,000 events
pub record Beating (xs : List ℕ) (r : ℕ) : Type 0 where
  pub limits : Limits
  pub items : List Item
  pub bytes : xs ≡ written_items limits items
  pub pattern : PatternOk limits items
  pub few : r * length (unrolled items) ≤ 1000000

-- the answer is permitted, and the credit at the end is loLimit or above
pub record EndsSteady (l : Limits) (answer : ℕ) : Type 0 where
  pub end : ℕ
  pub ends : EndsAt answer end
  pub steady : l.lo ≤ end

pub record Heartbeats : Type 0 where
  pub repeating : Repeating
  pub doubles : (s : Summary) → InRange s → (r : ℕ) → r < 2 ^ 64 → Doubles s r
  pub by_value : ByValue
  pub beats : (l : Limits) (is : List Item) → PatternOk l is → (r : ℕ) → Beats (written_items l is) l (unrolled is) r
  -- Nothing else is carried out.
  pub beats_only : (xs : List ℕ) (r : ℕ) → Bytes xs → heartbeat_answer xs r % 256 ≡ 0 → Beating xs r
  -- "Zero repeats are permitted and end at loLimit", also where the pattern never is; and so are any repeats of no event.
  pub zero_repeats : (l : Limits) (is : List Item) → PatternOk l is → EndsAt (heartbeat_answer (written_items l is) 0) l.lo
  pub empty_pattern : (l : Limits) → LimitsOk l → (r : ℕ) → EndsAt (heartbeat_answer (written_items l []) r) l.lo
  -- "Where one run from loLimit is permitted and ends at loLimit or above, show that every number of repeats within the limit is permitted": event by event,
  pub steady : (l : Limits) (es : List Event) → Permitted l l.lo es → l.lo ≤ end_credit l l.lo es → (r : ℕ)
      → Permitted l l.lo (times_over r es) × (l.lo ≤ end_credit l l.lo (times_over r es))
  -- and by the answers that the host gets.
  pub steady_answers : (l : Limits) (is : List Item) → PatternOk l is → EndsSteady l (heartbeat_answer (written_items l is) 1) → (r : ℕ)
      → r * length (unrolled is) ≤ 1000000 → EndsSteady l (heartbeat_answer (written_items l is) r)
  -- Where some number of repeats is permitted, so is every smaller one: so a host can search for the largest.
  pub fewer_fit : (l : Limits) (is : List Item) → PatternOk l is → (q r end : ℕ) → EndsAt (heartbeat_answer (written_items l is) r) end → q ≤ r
      → (x : ℕ) × EndsAt (heartbeat_answer (written_items l is) q) x
  -- Either form has the same answers, a fault behind its items too.
  pub either_form : (l : Limits) (is : List Item) → PatternOk l is → (rest : List ℕ) (r : ℕ)
      → heartbeat_answer (written_items l is ++ rest) r ≡ heartbeat_answer (written l (unrolled is) ++ rest) r
