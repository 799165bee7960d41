-- Shaper records and summaries in the paper's words, for the third condition: what events do to a credit, how they are written, the summary of none and of one,
-- what joins and settling say, and the same by the host's calls. Assumes nothing.
use Rattle.decide.specs.declared.refusal.Refusal.{Refusal}
use Rattle.std.specs.Prelude.{Ok, Err, Some, None}
use Rattle.decide.specs.Number.{refusal_of}
use Rattle.std.specs.Prelude.{Ok, Err}
use Rattle.std.specs.Prelude.{◌%◌, ℕ, ◌+◌, ◌-◌, ◌≤◌, ◌<◌, min, true, false, List, [], ◌∷◌, ◌++◌, map, ◌⊎◌, ◌↔◌, ◌≡◌, ℤ, pos, negsuc, ◌+ℤ◌, ◌-ℤ◌, length, replicate}
use Rattle.std.specs.Int.Signed.{le_z, lt_z}
use Rattle.wire.specs.Wire.{le, digits}
use Rattle.shaper.specs.declared.Limits.{Limits}
use Rattle.shaper.specs.declared.Event.{Event}
use Rattle.shaper.specs.declared.Event.TheVariants.{Waiting, Idle, Send}
use Rattle.shaper.specs.declared.Shaper.{Shaper}
use Rattle.shaper.specs.Limits.{LimitsOk}
use Rattle.shaper.specs.Kind.{kind_of}
use Rattle.shaper.specs.Refused.{refused, number_said, detail_said, afterwards}
use Rattle.shaper.specs.Shaper.{fresh_of, ticked_of, charge_of}
use Rattle.shaper.specs.Credit.{Valid, AllValid, Permitted, end_credit, accrued_of, sent_of}
use Rattle.summary.specs.declared.Summary.{Summary}
use Rattle.summary.specs.Answer.{Answer}
use Rattle.summary.specs.Answer.{Outcome}
use Rattle.summary.specs.Summary.{smaller_ℤ, larger_ℤ, gain, empty_of, single_of, joined, summary_of}
use Rattle.summary.specs.Range.{InRange}
use Rattle.summary.specs.Answer.{empty_answer, single_answer, counted_answer, join_of, and_then, settle_of}
use Rattle.record.specs.Read.{limits_at}
use Rattle.record.specs.Record.{event_bytes, written, WellFormed}
use Rattle.record.specs.Items as items
use Rattle.record.specs.Items.{Item, one, run, run_bytes, item_bytes, written_items, unrolled, ItemOk, ItemsOk}
use Rattle.sheet.specs.Sheet.{sheet_length, summary_at}
use Rattle.rpr.specs.Calls.{join_answer, join_after, settle_answer, EndsAt}

-- ---- a record's events

-- The credit c, event by event.
pub record Follows (l : Limits) (c : ℕ) : Type 0 where
  -- A tick adds the amount; while traffic waits the sum is cut to hiLimit, otherwise to loLimit. A send takes its size off.
  pub none : end_credit l c [] ≡ c
  pub waiting : (x : ℕ) (es : List Event) → end_credit l c (Waiting x ∷ es) ≡ end_credit l (min (c + x) l.hi) es
  pub idle : (x : ℕ) (es : List Event) → end_credit l c (Idle x ∷ es) ≡ end_credit l (min (c + x) l.lo) es
  pub send : (z : ℕ) (es : List Event) → end_credit l c (Send z ∷ es) ≡ end_credit l (c - z) es
  -- A send is permitted exactly when credit > loLimit.
  pub none_permitted : Permitted l c []
  pub waiting_permitted : (x : ℕ) (es : List Event) → Permitted l c (Waiting x ∷ es) ↔ Permitted l (min (c + x) l.hi) es
  pub idle_permitted : (x : ℕ) (es : List Event) → Permitted l c (Idle x ∷ es) ↔ Permitted l (min (c + x) l.lo) es
  pub send_permitted : (z : ℕ) (es : List Event) → Permitted l c (Send z ∷ es) ↔ ((l.lo < c) × Permitted l (c - z) es)

-- A shaper by value.
pub record OneShaper (s : Shaper) : Type 0 where
  -- Credit starts at loLimit.
  pub fresh : fresh_of s.limits ≡ record { limits = s.limits; credit = s.limits.lo }
  pub waiting : (x : ℕ) → ticked_of s true x ≡ record { limits = s.limits; credit = min (s.credit + x) s.limits.hi }
  pub idle : (x : ℕ) → ticked_of s false x ≡ record { limits = s.limits; credit = min (s.credit + x) s.limits.lo }
  -- A send is permitted exactly when credit > loLimit, then the size is taken off; else 6, and the bytes missing.
  pub charged : (z : ℕ) → s.limits.lo < s.credit → charge_of s z ≡ Ok (record { limits = s.limits; credit = s.credit - z })
  pub refused : (z : ℕ) → s.credit ≤ s.limits.lo → charge_of s z ≡ Err (refused 6 (s.limits.lo + 1 - s.credit))
  -- A host is told that number and that detail, and the shaper stays as it was.
  pub told : (z : ℕ) → s.credit ≤ s.limits.lo
      → (number_said (charge_of s z) ≡ 6) × (detail_said (charge_of s z) ≡ s.limits.lo + 1 - s.credit) × (afterwards s (charge_of s z) ≡ s)

-- The bytes that ticks brought, and the bytes that were sent.
pub record Sums (es : List Event) : Type 0 where
  pub none : (accrued_of [] ≡ 0) × (sent_of [] ≡ 0)
  pub waiting : (x : ℕ) → (accrued_of (Waiting x ∷ es) ≡ x + accrued_of es) × (sent_of (Waiting x ∷ es) ≡ sent_of es)
  pub idle : (x : ℕ) → (accrued_of (Idle x ∷ es) ≡ x + accrued_of es) × (sent_of (Idle x ∷ es) ≡ sent_of es)
  pub send : (z : ℕ) → (accrued_of (Send z ∷ es) ≡ accrued_of es) × (sent_of (Send z ∷ es) ≡ z + sent_of es)

-- Records: length (2, of the whole), kind (2), payload, little-endian.
pub record RecordBytes (l : Limits) : Type 0 where
  -- Kind 16, length 14, first and once: mtu 2, loLimit 4, hiLimit 4.
  pub header : written l [] ≡ (14 ∷ 0 ∷ 16 ∷ 0 ∷ []) ++ (digits 2 l.mtu ++ (digits 4 l.lo ++ digits 4 l.hi))
  -- Events, length 6: kind 1 tick while waiting (amount 2), kind 2 tick while idle (amount 2), kind 3 send (size 2).
  pub waiting : (x : ℕ) → event_bytes (Waiting x) ≡ (6 ∷ 0 ∷ 1 ∷ 0 ∷ []) ++ digits 2 x
  pub idle : (x : ℕ) → event_bytes (Idle x) ≡ (6 ∷ 0 ∷ 2 ∷ 0 ∷ []) ++ digits 2 x
  pub send : (z : ℕ) → event_bytes (Send z) ≡ (6 ∷ 0 ∷ 3 ∷ 0 ∷ []) ++ digits 2 z
  -- a header's settings, of any bytes
  pub limits : (xs : List ℕ) → limits_at xs ≡ record { mtu = le 2 xs 4; lo = le 4 xs 6; hi = le 4 xs 10 }
  -- each behind the one before
  pub next : (es : List Event) (e : Event) → written l (es ++ (e ∷ [])) ≡ written l es ++ event_bytes e

-- Kind 4, length 10: a tick kind (2, being 1 or 2), an amount (2), a count (2, from 2 to 65,535), standing for that many equal ticks (document 02, A8).
pub record ItemBytes (l : Limits) : Type 0 where
  pub waiting : (x count : ℕ) → run_bytes (Waiting x) count ≡ (10 ∷ 0 ∷ 4 ∷ 0 ∷ 1 ∷ 0 ∷ []) ++ (digits 2 x ++ digits 2 count)
  pub idle : (x count : ℕ) → run_bytes (Idle x) count ≡ (10 ∷ 0 ∷ 4 ∷ 0 ∷ 2 ∷ 0 ∷ []) ++ (digits 2 x ++ digits 2 count)
  -- An item is an event as before, or a run.
  pub event : (e : Event) → item_bytes (one e) ≡ event_bytes e
  pub run : (e : Event) (count : ℕ) → item_bytes (run e count) ≡ run_bytes e count
  -- A record in either form is its header and its items, each behind the one before.
  pub header : written_items l [] ≡ written l []
  pub next : (is : List Item) (i : Item) → written_items l (is ++ (i ∷ [])) ≡ written_items l is ++ item_bytes i
  -- One in the old form has events alone.
  pub old : (es : List Event) → written_items l (map one es) ≡ written l es

-- Events are counted unrolled.
pub record Unrolls : Type 0 where
  pub none : unrolled [] ≡ []
  pub event : (e : Event) (is : List Item) → unrolled (one e ∷ is) ≡ e ∷ unrolled is
  pub run : (e : Event) (count : ℕ) (is : List Item) → unrolled (run e count ∷ is) ≡ replicate count e ++ unrolled is
  pub old : (es : List Event) → unrolled (map one es) ≡ es

-- What may be written: settings and events in range, at most 1,000,000 events.
pub record Formed (l : Limits) : Type 0 where
  pub exactly : (es : List Event) → WellFormed l es ↔ (LimitsOk l × AllValid l es × (length es ≤ 1000000))
  pub none : AllValid l []
  pub more : (e : Event) (es : List Event) → AllValid l (e ∷ es) ↔ (Valid l e × AllValid l es)
  -- Amount per tick 0 to 65,535; frame size 16 to mtu.
  pub waiting : (x : ℕ) → Valid l (Waiting x) ↔ (x ≤ 65535)
  pub idle : (x : ℕ) → Valid l (Idle x) ↔ (x ≤ 65535)
  pub send : (z : ℕ) → Valid l (Send z) ↔ ((16 ≤ z) × (z ≤ l.mtu))

-- The same in either form, its events counted unrolled: a run is of 2 to 65,535 equal ticks, and a send comes alone.
pub record ItemsFormed (l : Limits) : Type 0 where
  pub exactly : (is : List Item) → items.Formed true l is ↔ (LimitsOk l × ItemsOk true l is × (length (unrolled is) ≤ 1000000))
  pub none : ItemsOk true l []
  pub more : (i : Item) (is : List Item) → ItemsOk true l (i ∷ is) ↔ (ItemOk true l i × ItemsOk true l is)
  pub event : (e : Event) → ItemOk true l (one e) ↔ Valid l e
  pub waiting : (x count : ℕ) → ItemOk true l (run (Waiting x) count) ↔ ((x ≤ 65535) × (2 ≤ count) × (count ≤ 65535))
  pub idle : (x count : ℕ) → ItemOk true l (run (Idle x) count) ↔ ((x ≤ 65535) × (2 ≤ count) × (count ≤ 65535))
  pub send : (z count : ℕ) → ItemOk true l (run (Send z) count) → ⊥

-- ---- summaries

pub record Singles (l : Limits) : Type 0 where
  -- Empty: ceiling hiLimit, need 0.
  pub empty : empty_of l ≡ record { limits = l; events = 0; accrued = 0; sent = 0; ceiling = pos l.hi; need = 0 }
  -- Tick: ceiling hiLimit waiting, loLimit idle; need 0.
  pub waiting : (x : ℕ) → single_of l (Waiting x) ≡ record { limits = l; events = 1; accrued = x; sent = 0; ceiling = pos l.hi; need = 0 }
  pub idle : (x : ℕ) → single_of l (Idle x) ≡ record { limits = l; events = 1; accrued = x; sent = 0; ceiling = pos l.lo; need = 0 }
  -- Send: ceiling hiLimit − size, need loLimit+1.
  pub send : (z : ℕ) → single_of l (Send z) ≡ record { limits = l; events = 1; accrued = 0; sent = z; ceiling = pos l.hi -ℤ pos z; need = l.lo + 1 }

-- so many equal events come together: one alone, or ticks, kind 1 or 2
abbrev pub Together : Event → ℕ → Type 0
Together e count = (1 ≤ count) × ((count ≡ 1) ⊎ (kind_of e < 3))

-- The constructors: 1 where a setting is outside its range, then 3 where the event's number is.
pub record Constructs (l : Limits) : Type 0 where
  pub empty : LimitsOk l → empty_answer l ≡ Ok (empty_of l)
  pub empty_refused : (LimitsOk l → ⊥) → empty_answer l ≡ Err (refusal_of 1)
  pub single : (e : Event) → LimitsOk l → Valid l e → single_answer l e ≡ Ok (single_of l e)
  pub settings_refused : (e : Event) → (LimitsOk l → ⊥) → single_answer l e ≡ Err (refusal_of 1)
  pub number_refused : (e : Event) → LimitsOk l → (Valid l e → ⊥) → single_answer l e ≡ Err (refusal_of 3)
  -- Of so many equal events, as an item stands for them: one event, or ticks. Then 3 where the count is 0 or a send comes more than once, and 9 where it is
  -- over 1,000,000 events.
  pub counted : (e : Event) (count : ℕ) → LimitsOk l → Valid l e → Together e count → count ≤ 1000000
      → counted_answer l e count ≡ Ok (summary_of l (replicate count e))
  pub counted_settings : (e : Event) (count : ℕ) → (LimitsOk l → ⊥) → counted_answer l e count ≡ Err (refusal_of 1)
  pub counted_number : (e : Event) (count : ℕ) → LimitsOk l → (Valid l e → ⊥) → counted_answer l e count ≡ Err (refusal_of 3)
  pub counted_apart : (e : Event) (count : ℕ) → LimitsOk l → Valid l e → (Together e count → ⊥) → counted_answer l e count ≡ Err (refusal_of 3)
  pub counted_many : (e : Event) (count : ℕ) → LimitsOk l → Valid l e → Together e count → 1000000 < count → counted_answer l e count ≡ Err (refusal_of 9)

-- Join of 1 then 2, which are in range and have the same settings.
pub record JoinsTwo (a b : Summary) : Type 0 where
  -- Counts add;
  pub counts : ((joined a b).events ≡ a.events + b.events) × ((joined a b).accrued ≡ a.accrued + b.accrued) × ((joined a b).sent ≡ a.sent + b.sent)
  pub settings : (joined a b).limits ≡ a.limits
  -- ceiling is the smaller of ceiling1 + gain2 and ceiling2;
  pub ceiling : (joined a b).ceiling ≡ smaller_ℤ (a.ceiling +ℤ gain b) b.ceiling
  -- need is hiLimit+1 ("never") if ceiling1 < need2,
  pub never : lt_z a.ceiling (pos b.need) ≡ true → (joined a b).need ≡ a.limits.hi + 1
  -- else max(need1, need2 − gain1), at most hiLimit+1.
  pub need : lt_z a.ceiling (pos b.need) ≡ false
      → pos (joined a b).need ≡ smaller_ℤ (larger_ℤ (pos a.need) (pos b.need -ℤ gain a)) (pos (a.limits.hi + 1))

-- From credit c, which is 0 to hiLimit, of a summary in range: permitted throughout exactly if c ≥ need, ending at min(c + gain, ceiling).
pub record SettlesFrom (s : Summary) (c : ℕ) : Type 0 where
  pub permitted : s.need ≤ c → (end : ℕ) × (settle_of s c ≡ Ok (Some end)) × (pos end ≡ smaller_ℤ (pos c +ℤ gain s) s.ceiling)
  pub not_permitted : c < s.need → settle_of s c ≡ Ok None

-- Join is associative, with the empty summary neutral, for in-range summaries of the same settings; both groupings give 9 or neither does.
pub record Groups : Type 0 where
  pub associative : (a b c : Summary) → InRange a → InRange b → InRange c → a.limits ≡ b.limits → b.limits ≡ c.limits
      → and_then (join_of a b) (λ z. join_of z c) ≡ and_then (join_of b c) (λ z. join_of a z)
  pub few : (a b : Summary) → InRange a → InRange b → a.limits ≡ b.limits → a.events + b.events ≤ 1000000 → join_of a b ≡ Ok (joined a b)
  pub out : (a b : Summary) → (InRange a × InRange b → ⊥) → join_of a b ≡ Err (refusal_of 3)
  pub apart : (a b : Summary) → InRange a → InRange b → (a.limits ≡ b.limits → ⊥) → join_of a b ≡ Err (refusal_of 10)
  pub many : (a b : Summary) → InRange a → InRange b → a.limits ≡ b.limits → 1000000 < a.events + b.events → join_of a b ≡ Err (refusal_of 9)
  pub empty_left : (a : Summary) → InRange a → join_of (empty_of a.limits) a ≡ Ok a
  pub empty_right : (a : Summary) → InRange a → join_of a (empty_of a.limits) ≡ Ok a

-- ---- by the host's calls

-- rpr_join that is carried out leaves the joined summary in the room. rpr_settle says what settling says: byte 1 permitted throughout, 4 to 7 the credit at
-- the end; all 0 where it is not permitted.
pub record LentSummaries : Type 0 where
  pub join : (first second room : List ℕ) → join_answer first second room % 256 ≡ 0
      → (join_answer first second room ≡ 0) × (summary_at (join_after first second room) ≡ joined (summary_at first) (summary_at second))
  pub ends : (answer end : ℕ) → EndsAt answer end ↔ ((digits 8 answer ≡ 0 ∷ 1 ∷ 0 ∷ 0 ∷ digits 4 end) × (end < 4294967296))
  pub permitted : (summary : List ℕ) (start end : ℕ) → length summary ≡ sheet_length → settle_of (summary_at summary) start ≡ Ok (Some end)
      → EndsAt (settle_answer summary start) end
  pub not_permitted : (summary : List ℕ) (start : ℕ) → length summary ≡ sheet_length → settle_of (summary_at summary) start ≡ Ok None
      → settle_answer summary start ≡ 0

-- Where each field of a summary stands in its 48 bytes; the ceiling is two's complement.
pub record SummaryPlaces (xs : List ℕ) (s : Summary) : Type 0 where
  pub settings : (s.limits.mtu ≡ le 4 xs 0) × (s.limits.lo ≡ le 4 xs 4) × (s.limits.hi ≡ le 4 xs 8)
  pub events : s.events ≡ le 4 xs 12
  pub accrued : s.accrued ≡ le 8 xs 16
  pub sent : s.sent ≡ le 8 xs 24
  pub ceiling : le 8 xs 32 < 9223372036854775808 → s.ceiling ≡ pos (le 8 xs 32)
  -- a number from 2 ^ 63 on stands for itself less 2 ^ 64, which is -1 - (2 ^ 64 - 1 - it)
  pub ceiling_negative : 9223372036854775808 ≤ le 8 xs 32 → s.ceiling ≡ negsuc (18446744073709551615 - le 8 xs 32)
  pub need : s.need ≡ le 8 xs 40

-- ---- together

pub record SummaryRules : Type 0 where
  pub follows : (l : Limits) (c : ℕ) → Follows l c
  pub sums : (es : List Event) → Sums es
  pub writes : (l : Limits) → RecordBytes l
  pub formed : (l : Limits) → Formed l
  pub writes_items : (l : Limits) → ItemBytes l
  pub unrolls : Unrolls
  pub formed_items : (l : Limits) → ItemsFormed l
  -- Gain is accrued − sent.
  pub gains : (s : Summary) → gain s ≡ pos s.accrued -ℤ pos s.sent
  -- the smaller and the larger of two numbers
  pub smaller : (x y : ℤ) → (le_z x y ≡ true → smaller_ℤ x y ≡ x) × (le_z x y ≡ false → smaller_ℤ x y ≡ y)
  pub larger : (x y : ℤ) → (le_z x y ≡ true → larger_ℤ x y ≡ y) × (le_z x y ≡ false → larger_ℤ x y ≡ x)
  -- one answer after another: the first refusal counts
  pub in_turn : (s : Summary) (then : Summary → Answer) → and_then (Ok s) then ≡ then s
  pub refused_first : (r : Refusal) (then : Summary → Answer) → and_then (Err r) then ≡ Err r
  pub singles : (l : Limits) → Singles l
  pub constructs : (l : Limits) → Constructs l
  pub shapers : (s : Shaper) → OneShaper s
  -- The summary of events is that of each, joined one after the other.
  pub one_by_one : (l : Limits) → (summary_of l [] ≡ empty_of l) × ((e : Event) (es : List Event) → summary_of l (e ∷ es) ≡ joined (single_of l e) (summary_of l es))
  pub joins : (a b : Summary) → InRange a → InRange b → a.limits ≡ b.limits → JoinsTwo a b
  pub settles : (s : Summary) (c : ℕ) → InRange s → c ≤ s.limits.hi → SettlesFrom s c
  pub not_settled : (s : Summary) (c : ℕ) → (InRange s × (c ≤ s.limits.hi) → ⊥) → settle_of s c ≡ Err (refusal_of 3)
  pub groups : Groups
  pub lent : LentSummaries
  pub places : (xs : List ℕ) → SummaryPlaces xs (summary_at xs)
