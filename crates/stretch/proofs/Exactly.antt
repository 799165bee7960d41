-- The answer to a question, row by row: each number is given exactly where its row applies and none before it does, and what is not asked for doesn't matter.
-- Assumes nothing.
use Prim.Native.Nat.{ℕ, zero, suc, ◌+◌, ◌*◌, ◌/◌, ◌%◌, ◌≤◌, ◌<◌}
use mathlib.Core.Bool.{Bool, true, false, ◌||◌, cond}
use mathlib.Core.List.{List, [], ◌∷◌}
use mathlib.Core.Logic.{◌⊎◌, inl, inr, ◌↔◌}
use mathlib.Core.Path.{◌≡◌, refl, sym, ap, ◌∙◌}
use native.Mathlib.Omega.{arith}
use borrow.Author.Tests.{le-leb, lt-leb, le-ltb, lt-ltb, eq-eqb, eqb-true}
use lib.Dec.{leb, ltb, eqb}
use lib.ListN.{length}
use Rattle.decide.specs.Test.{passes, either, or_r}
use Rattle.decide.specs.Refusal.{first, first_of, RefusedExactly}
use Rattle.decide.proofs.Cases.{by_cases}
use Rattle.decide.proofs.Given.{refused_exactly}
use Rattle.std.specs.Prelude.{Ok, Err}
use Rattle.decide.specs.declared.refusal.Refusal.{Refusal}
use Rattle.decide.specs.Number.{refusal_of}
use Rattle.decide.proofs.Number.{number_told}
use Rattle.wire.specs.Wire.{le, Bytes}
use Rattle.shaper.specs.declared.Limits.{Limits}
use Rattle.shaper.specs.Limits.{limits_ok, most_events}
use Rattle.summary.specs.declared.Summary.{Summary}
use Rattle.summary.specs.Summary.{empty_of}
use Rattle.summary.specs.Answer.{answered, answer_number}
use Rattle.record.specs.Read.{limits_at}
use Rattle.record.proofs.Steps.{Headed}
use Rattle.index.specs.Tree.{entry_length, top_level, stands_at}
use Rattle.index.proofs.Sizes.{size_some, size_top}
use Rattle.stretch.specs.declared.Found.{Found}
use Rattle.stretch.specs.declared.Found.TheVariants.{Nothing, Faulty, Outside, Sum}
use Rattle.stretch.specs.Found.{Source, source_of, found_in}
use Rattle.stretch.specs.Used.{Node, used_of, read_of, Among, first_fault}
use Rattle.stretch.specs.Stretch.{length_ok, last_block, last_place, last_events, belongs, events_counted, stretched, found_of, part_fault, has_fault, is_outside, summary_found, later, stretch_faults, stretch_of, found_answer, asked_of}
use Rattle.stretch.proofs.Facts.{whole_facts, apart_not}
use Rattle.stretch.proofs.Used.{used_exactly}
use Rattle.stretch.proofs.Refused.{SomeOut, fault_first}
use Rattle.stretch.proofs.Answers.{Numbered, answered_named, numbered_stretched}
use Rattle.stretch.proofs.Refused as R
use Rattle.stretch.proofs.Free.{SameBytes, place_same, other_bytes_free}
use Rattle.stretch.proofs.Kept.{part_kept}

-- ---- every number

answered_number : (n : ℕ) (s : Summary) → answer_number (answered n s) ≡ n
answered_number zero s = refl
answered_number (suc n) s = number_told (suc n)

pub stretch_refused_exactly : (xs ix : List ℕ) (first last : ℕ) → RefusedExactly (answer_number (stretch_of xs ix first last)) (stretch_faults xs ix first last)
unfolding stretch_of
stretch_refused_exactly xs ix first last = refused_exactly (stretch_faults xs ix first last) refl _ (answered_number (first_of (stretch_faults xs ix first last)) _)

-- An index of B + 1 blocks has 80(B + 1) − 40 bytes, and of none 0; no other length is one.
pub length_ok_exactly : (m : ℕ) → (length_ok m ≡ true) ↔ ((m ≡ 0) ⊎ ((B : ℕ) × (m + 40 ≡ 80 * suc B)))
unfolding length_ok
length_ok_exactly m = (
  λ e. by_cases (either (eqb m 0) (eqb (m % 80) 40) e) (λ z. inl (eqb-true m 0 z)) (λ z. let f = eqb-true (m % 80) 40 z in inr (m / 80, omega arith)),
  λ o. by_cases o (λ z. rw z) (λ z. let f = z.1 in or_r (eqb m 0) (eqb (m % 80) 40) (eq-eqb (m % 80) 40 (omega arith))),
)

-- ---- the stretch

-- an empty stretch comes to nothing, and any other to what is found
pub stretched_none : (q : Source) (first last : ℕ) → last ≤ first → stretched q first last ≡ Nothing
unfolding stretched
stretched_none q first last h = rw (le-leb last first h)

pub stretched_some : (q : Source) (first last : ℕ) → first < last → stretched q first last ≡ found_in q first last top_level 0
unfolding stretched
stretched_some q first last h = rw (lt-leb last first h)

-- ---- the rows

-- Where neither 2 nor 1 nor 9 applies: the header stands, and the index is of a right length, this record's, and of few enough events.
pub record Fits (l : Limits) (xs ix : List ℕ) : Type 0 where
  pub header : Headed xs l
  pub long : length_ok (length ix) ≡ true
  pub own : belongs xs ix ≡ true
  pub few : events_counted xs ix ≤ most_events

-- the rows behind that of 9, one after the other
last_rows : (l : Limits) (past : Bool) (f : Found) → Numbered f →
    answered (first_of (later 1 3 past ∷ later 2 (part_fault f) (has_fault f) ∷ later 3 3 (is_outside f) ∷ [])) (summary_found l f) ≡ cond past (Err (refusal_of 3)) (found_answer l f)
unfolding first_of first
last_rows l true Nothing u = refl
last_rows l true (Faulty r) u = refl
last_rows l true Outside u = refl
last_rows l true (Sum s) u = refl
last_rows l false Nothing u = refl
last_rows l false (Faulty r) u = answered_named (empty_of l) r u
last_rows l false Outside u = refl
last_rows l false (Sum s) u = refl

summed : (l : Limits) (f : Found) → has_fault f ≡ false → is_outside f ≡ false → found_answer l f ≡ Ok (summary_found l f)
summed l Nothing a b = refl
summed l (Faulty r) a b = absurd (mathlib.Core.Bool.true≢false a)
summed l Outside a b = absurd (mathlib.Core.Bool.true≢false b)
summed l (Sum s) a b = refl

module _ (l : Limits) (xs ix : List ℕ) (w : Fits l xs ix) (first last : ℕ) where
  abbrev here : Source
  here = source_of l xs ix (events_counted xs ix)

  found_there : found_of xs ix first last ≡ stretched here first last
  unfolding found_of
  found_there = rw (← w.header.settings)

  -- the answer is then what the code asks for
  pub row_asked : stretch_of xs ix first last ≡ asked_of l xs ix (events_counted xs ix) first last
  unfolding stretch_of asked_of first_of first
  row_asked =
      let h = w.header in
      let ok = rw h.settings at h.in_range_lem in
      rw (le-ltb (length xs) 14 h.long, eq-eqb (le 2 xs 0) 14 h.length_field, eq-eqb (le 2 xs 2) 16 h.kind_field, passes (limits_ok (limits_at xs)) ok, w.long, w.own, le-ltb most_events (events_counted xs ix) w.few, found_there, ← h.settings)
      (last_rows l (ltb last first || ltb (events_counted xs ix) last) (stretched here first last) (numbered_stretched here first last))

  -- 3: it runs past the end or backwards
  pub row_past : (last < first) ⊎ (events_counted xs ix < last) → stretch_of xs ix first last ≡ Err (refusal_of 3)
  unfolding asked_of
  row_past o =
      let past : (ltb last first || ltb (events_counted xs ix) last) ≡ true =
      by_cases o (λ h. rw (lt-ltb last first h)) (λ h. or_r (ltb last first) (ltb (events_counted xs ix) last) (lt-ltb (events_counted xs ix) last h)) in
      row_asked ∙ rw past

  module _ (ahead : first ≤ last) (within : last ≤ events_counted xs ix) where
    -- else it is what the stretch comes to
    pub row_found : stretch_of xs ix first last ≡ found_answer l (stretched (source_of l xs ix (events_counted xs ix)) first last)
    unfolding asked_of
    row_found = row_asked ∙ rw (le-ltb last first ahead, le-ltb (events_counted xs ix) last within)

    -- an empty one is the empty summary, whatever the index holds,
    pub row_empty : first ≡ last → stretch_of xs ix first last ≡ Ok (empty_of l)
    row_empty e = row_found ∙ ap (found_answer l) (stretched_none here first last (omega arith))

    -- and of any other what is found
    found_some : first < last → stretch_of xs ix first last ≡ found_answer l (found_in here first last top_level 0)
    found_some some = row_found ∙ ap (found_answer l) (stretched_some here first last some)

    -- then the earliest fault of the partly read blocks
    pub row_part : first < last → (r : Refusal) → first_fault (source_of l xs ix (events_counted xs ix)) first last (read_of (events_counted xs ix) first last) ≡ Faulty r → stretch_of xs ix first last ≡ Err r
    row_part some r e = found_some some ∙ ap (found_answer l) ((fault_first here first last top_level 0 r).1 e)

    -- then 3 for an entry used that is out of range
    pub row_entry : Bytes xs → first_fault (source_of l xs ix (events_counted xs ix)) first last (read_of (events_counted xs ix) first last) ≡ Nothing → SomeOut (source_of l xs ix (events_counted xs ix)) (used_of (events_counted xs ix) first last) →
        stretch_of xs ix first last ≡ Err (refusal_of 3)
    row_entry b none out =
        let n = events_counted xs ix in
        let t = size_top in
        let m = w.few in
        let u = (used_exactly n first last within m out.0).0 out.1 in
        let f = whole_facts n first last out.0.level out.0.block u.lies_whole in
        let some : first < last = omega (arith, u.exists, size_some out.0.level) in
        let meets = apart_not n first last top_level 0 (omega arith) (omega arith) in
        found_some some ∙ ap (found_answer l) ((R.refused_exactly here (part_kept here w.header.in_range_lem b) first last some within m top_level 0 meets).1 (none, out))

    -- and where no row applies the summary
    pub row_answer : has_fault (found_of xs ix first last) ≡ false → is_outside (found_of xs ix first last) ≡ false → stretch_of xs ix first last ≡ Ok (summary_found l (found_of xs ix first last))
    row_answer f o = row_found ∙ ap (found_answer l) (sym found_there) ∙ summed l (found_of xs ix first last) f o

-- ---- what is not asked for

-- Indexes of one length that agree in the bytes of the entries used, of those of the blocks partly read and of the last block's give the same answer.
module _ (xs ix iy : List ℕ) (long : length ix ≡ length iy) (end : SameBytes ix iy (2 * last_block ix)) where
  last_place_same : last_place ix ≡ last_place iy
  unfolding last_place
  last_place_same =
      let z : entry_length * (2 * last_block ix) ≡ 80 * last_block ix = omega arith in
      rw (← long) (rw z at (place_same ix iy (2 * last_block ix) end))

  last_same : last_events xs ix ≡ last_events xs iy
  unfolding last_events
  last_same = rw last_place_same

  belongs_same : belongs xs ix ≡ belongs xs iy
  unfolding belongs
  belongs_same = rw (long, last_same, last_place_same)

  counted_same : events_counted xs ix ≡ events_counted xs iy
  unfolding events_counted
  counted_same = rw (long, last_same)

  module _ (first last : ℕ)
      (used : (d : Node) → Among d (used_of (events_counted xs ix) first last) → SameBytes ix iy (stands_at (events_counted xs ix) d.level d.block))
      (read : (c : ℕ) → Among c (read_of (events_counted xs ix) first last) → SameBytes ix iy (2 * c)) where
    found_same : found_of xs ix first last ≡ found_of xs iy first last
    unfolding found_of stretched
    found_same =
        ap (cond (leb last first) Nothing)
        (other_bytes_free (source_of (limits_at xs) xs ix (events_counted xs ix)) (source_of (limits_at xs) xs iy (events_counted xs iy)) first last refl refl counted_same top_level 0 used read)

    pub other_entries_free : stretch_of xs ix first last ≡ stretch_of xs iy first last
    unfolding stretch_of
    other_entries_free = rw (long, belongs_same, counted_same, found_same)
