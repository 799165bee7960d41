-- What feeding promises: chunks of any sizes come to what the whole record comes to.
-- Assumes nothing.
use Prim.Native.Nat.{ℕ, ◌≤◌, ◌<◌}
use mathlib.Core.Bool.{true, false}
use mathlib.Core.List.{List, [], ◌∷◌, ◌++◌, flatten}
use mathlib.Core.Path.{◌≡◌, refl, sym, ap, ◌∙◌}
use native.Mathlib.Omega.{arith}
use lib.ListN.{length, take, drop, take-append-drop}
use lib.Seq.{length-take-le}
use Rattle.decide.specs.Test.{Holds, passes}
use Rattle.decide.proofs.Cases.{by_cases, le_or}
use Rattle.wire.specs.Wire.{Bytes}
use Rattle.wire.proofs.Places.{bytes_drop}
use Rattle.std.specs.Prelude.{Ok, Err}
use Rattle.decide.specs.declared.refusal.Refusal.{Refusal}
use Rattle.decide.specs.Number.{number_in, refusal_of}
use Rattle.shaper.specs.declared.Limits.{Limits}
use Rattle.shaper.specs.Limits.{limits_ok, most_events}
use Rattle.summary.specs.Summary.{empty_of, summary_of}
use Rattle.summary.specs.Range.{in_range}
use Rattle.summary.specs.Answer.{join_of, join_next}
use Rattle.summary.proofs.Rows.{empty_made}
use Rattle.summary.proofs.Promises.{join_empty_left, summary_limits, summary_range}
use Rattle.record.specs.Record.{written}
use Rattle.record.specs.Items.{Item, written_items, unrolled, Formed}
use Rattle.record.specs.Read.{Events, faulty, events, read_from, under}
use Rattle.record.specs.Step.{Header, header_of_of}
use Rattle.record.specs.Cause.{Cause}
use Rattle.record.proofs.Steps.{header_stands}
use Rattle.record.proofs.Earliest.{short_header}
use Rattle.account.specs.Account.{summarized, summarize_of, events_of}
use Rattle.account.proofs.Rest.{rest_start, rest_unreadable}
use Rattle.account.proofs.Promises.{summarize_unreadable, summarize_refused_exactly}
use Rattle.account.proofs.Promises as account
use Rattle.feed.specs.declared.Stage.{Stage}
use Rattle.feed.specs.declared.Stage.TheVariants.{Heading, Summing, Stopped}
use Rattle.feed.specs.declared.Feed.{Feed}
use Rattle.feed.specs.Feed.{opened_by, none_held, fed_byte, start_of, fed_of, fed_chunks, with_items, ends_of, finish_of}
use Rattle.feed.proofs.Rows.{ends_heading, ends_summing, finish_heading, finish_stopped, fed_stopped}
use Rattle.feed.proofs.Fronts.{header_front}
use Rattle.feed.proofs.Held.{holding, beginning, header_held, header_cut}
use Rattle.feed.proofs.Items.{read_valid, items_finish}

-- two chunks one after the other are their bytes one after the other
pub fed_chunks_lem : (f : Feed) (xs ys : List ℕ) → fed_of f (xs ++ ys) ≡ fed_of (fed_of f xs) ys
unfolding fed_of
fed_chunks_lem f [] ys = refl
fed_chunks_lem f (x ∷ xs) ys = fed_chunks_lem (fed_byte f x) xs ys

-- so are any number of them
pub fed_chunks_all : (f : Feed) (chunks : List (List ℕ)) → fed_chunks f chunks ≡ fed_of f (flatten chunks)
unfolding fed_chunks fed_of flatten
fed_chunks_all f [] = refl
fed_chunks_all f (xs ∷ chunks) = fed_chunks_all (fed_of f xs) chunks ∙ rw (fed_chunks_lem f xs (flatten chunks))

-- ---- a whole record

-- behind a header no event is summed yet: its items come to what they say
from_none : (l : Limits) → Holds (limits_ok l) → (ys : List ℕ) → Bytes ys → with_items (empty_of l) ys ≡ events_of true l most_events ys
unfolding with_items events_of
from_none l ok ys b = by (read_from 9 l.mtu most_events 0 ys) refl
  where
    by : (r : Events) → read_from 9 l.mtu most_events 0 ys ≡ r → join_next (empty_of l) (summarized (under l r)) ≡ summarized (under l r)
    by (faulty n) e = refl
    by (events es) e =
        let read = read_valid l most_events ys es b e in
        ap (λ m. join_of (empty_of m) (summary_of l es)) (sym (summary_limits l ok es)) ∙ join_empty_left (summary_of l es) (summary_range l ok es read.0 read.1)

empty_range : (l : Limits) → Holds (limits_ok l) → in_range (empty_of l) ≡ true
unfolding summary_of
empty_range l ok = summary_range l ok [] tt (omega arith)

module _ (xs : List ℕ) (b : Bytes xs) where
  -- fewer bytes than a header
  cut : length xs < 14 → finish_of (fed_of start_of xs) ≡ summarize_of xs
  cut h =
      ap finish_of (header_cut xs none_held h refl)
      ∙ finish_heading (holding Heading xs (drop (length xs) none_held)) refl
      ∙ sym ((summarize_unreadable true xs 2).1 (short_header true xs h))

  -- a header, and what stands behind it
  opened : (h : Header) → header_of_of xs ≡ h → finish_of (fed_of (beginning (opened_by h) none_held) (drop 14 xs)) ≡ summarize_of xs
  opened (Err r) e =
      ap finish_of (fed_stopped (beginning (Stopped r) none_held) r refl (drop 14 xs))
      ∙ finish_stopped (beginning (Stopped r) none_held) r refl
      ∙ sym (rest_unreadable true xs r e)
  opened (Ok l) e =
      let ok = (header_stands xs l e).in_range_lem in
      rw (empty_made l (passes (limits_ok l) ok))
      (items_finish (empty_of l) (drop 14 xs) (empty_range l ok) (bytes_drop 14 xs b) ∙ from_none l ok (drop 14 xs) (bytes_drop 14 xs b) ∙ sym (rest_start true xs l e))

  whole : 14 ≤ length xs → finish_of (fed_of start_of xs) ≡ summarize_of xs
  whole h =
      let parts = take-append-drop 14 xs in
      let long = length-take-le 14 xs h in
      ap (λ z. finish_of (fed_of start_of z)) (sym parts)
      ∙ ap finish_of (header_held (take 14 xs) none_held (drop 14 xs) long refl)
      ∙ ap (λ z. finish_of (fed_of (beginning (opened_by z) none_held) (drop 14 xs))) (sym (header_front (take 14 xs) (drop 14 xs) (omega arith)) ∙ ap header_of_of parts)
      ∙ opened (header_of_of xs) refl

-- Fed byte by byte from none, a record comes to what the whole comes to: its summary, or its earliest fault.
pub fed_once : (xs : List ℕ) → Bytes xs → finish_of (fed_of start_of xs) ≡ summarize_of xs
fed_once xs b = by_cases (le_or 14 (length xs)) (whole xs b) (cut xs b)

-- A record fed in chunks of any sizes gives what the whole gives.
pub fed_whole : (chunks : List (List ℕ)) → Bytes (flatten chunks) → finish_of (fed_chunks start_of chunks) ≡ summarize_of (flatten chunks)
fed_whole chunks b = ap finish_of (fed_chunks_all start_of chunks) ∙ fed_once (flatten chunks) b

-- Events are counted unrolled: a record comes to what its unrolled form comes to, each fed in chunks of any sizes.
pub either_form : (l : Limits) (is : List Item) → Formed true l is → (chunks unrolls : List (List ℕ)) → Bytes (flatten chunks) → Bytes (flatten unrolls) →
    flatten chunks ≡ written_items l is → flatten unrolls ≡ written l (unrolled is) → finish_of (fed_chunks start_of chunks) ≡ finish_of (fed_chunks start_of unrolls)
either_form l is w chunks unrolls b c p q =
    fed_whole chunks b ∙ ap summarize_of p ∙ account.either_form l is w ∙ sym (fed_whole unrolls c ∙ ap summarize_of q)

-- A number is given exactly when it has its cause in the record that was fed.
pub fed_refused_exactly : (chunks : List (List ℕ)) (n : ℕ) → Bytes (flatten chunks) → 0 < n →
    ((f : Refusal) → number_in f ≡ n → finish_of (fed_chunks start_of chunks) ≡ Err f → Cause true (flatten chunks) n)
    × (Cause true (flatten chunks) n → finish_of (fed_chunks start_of chunks) ≡ Err (refusal_of n))
fed_refused_exactly chunks n b p =
    let e = fed_whole chunks b in
    let x = summarize_refused_exactly true (flatten chunks) n b p in
    (λ f k h. x.0 f k (sym e ∙ h), λ c. e ∙ x.1 c)

-- Once a fault was seen, no byte more changes what the record comes to.
pub ends_stands : (f : Feed) → ends_of f ≡ true → (xs : List ℕ) → finish_of (fed_of f xs) ≡ finish_of f
ends_stands f e xs = by f.stage refl
  where
    goes_on : ends_of f ≡ false → finish_of (fed_of f xs) ≡ finish_of f
    goes_on h = let z : ◌≡◌ {A = ℕ} 0 1 = cc in absurd (omega arith)

    by : (g : Stage) → f.stage ≡ g → finish_of (fed_of f xs) ≡ finish_of f
    by Heading p = goes_on (ends_heading f p)
    by (Summing s) p = goes_on (ends_summing f s p)
    by (Stopped r) p = ap finish_of (fed_stopped f r p xs)
