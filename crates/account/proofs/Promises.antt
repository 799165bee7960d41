-- What a summary says of a record: it is given exactly for what a writer writes, and each fault of a record is its refusal. And either form has the same.
-- Assumes nothing.
use Rattle.std.specs.Prelude.{Ok, Err}
use Rattle.std.proofs.Common.{◌≡◌, ℕ, ◌<◌, Bool, true, List, [], sym, refl, ap, ◌∙◌, arith}
use Rattle.decide.specs.declared.refusal.Refusal.{Refusal}
use Rattle.decide.specs.Number.{number_in, refusal_of}
use Rattle.decide.proofs.Number.{number_told}
use Rattle.shaper.specs.declared.Limits.{Limits}
use Rattle.shaper.specs.declared.Event.{Event}
use Rattle.wire.specs.Wire.{Bytes}
use Rattle.summary.specs.declared.Summary.{Summary}
use Rattle.summary.specs.Summary.{summary_of}
use Rattle.summary.specs.Answer.{answer_number}
use Rattle.record.specs.Record.{written, WellFormed}
use Rattle.record.specs.Items.{Item, written_items, unrolled, Formed}
use Rattle.record.specs.Read.{Read, unreadable, whole, read_in}
use Rattle.record.specs.Cause.{Cause}
use Rattle.record.proofs.Written.{items_read, written_read}
use Rattle.record.proofs.Wrote.{read_items_lem, formed_events}
use Rattle.record.proofs.Earliest.{no_bytes}
use Rattle.record.proofs.Means.{unreadable_means, means_unreadable}
use Rattle.account.specs.Account.{summarized, summarize_in, Accounted}

-- ---- refused

module _ (runs : Bool) (xs : List ℕ) (n : ℕ) where
  number_read : (r : Read) (f : Refusal) → number_in f ≡ n → read_in runs xs ≡ r → summarized r ≡ Err f → read_in runs xs ≡ unreadable n
  number_read (unreadable m) f k e h = e ∙ ap unreadable (sym (number_told m) ∙ ap answer_number h ∙ k)
  number_read (whole l es) f k e h = let z : ◌≡◌ {A = ℕ} 0 1 = cc in absurd (omega arith)

  -- The record's number is the answer's. So each law of its faults is one of the summary.
  pub summarize_unreadable : ((f : Refusal) → number_in f ≡ n → summarize_in runs xs ≡ Err f → read_in runs xs ≡ unreadable n)
      × (read_in runs xs ≡ unreadable n → summarize_in runs xs ≡ Err (refusal_of n))
  unfolding summarize_in
  summarize_unreadable = (λ f k h. number_read (read_in runs xs) f k refl h, λ e. ap summarized e)

  -- A number is given exactly when it has its cause: in the header, or behind items without fault.
  pub summarize_refused_exactly : Bytes xs → 0 < n → ((f : Refusal) → number_in f ≡ n → summarize_in runs xs ≡ Err f → Cause runs xs n) × (Cause runs xs n → summarize_in runs xs ≡ Err (refusal_of n))
  summarize_refused_exactly b p =
      (λ f k h. unreadable_means runs xs n b (summarize_unreadable.0 f k h), λ c. summarize_unreadable.1 (means_unreadable runs xs n p c))

-- Zero bytes are no record.
pub summarize_none : (runs : Bool) → summarize_in runs [] ≡ Err (refusal_of 2)
summarize_none runs = (summarize_unreadable runs [] 2).1 (no_bytes runs)

-- ---- summed

-- a record that a writer wrote has the summary of its events, event by event: of items,
pub summarize_items : (runs : Bool) (l : Limits) (is : List Item) → Formed runs l is → summarize_in runs (written_items l is) ≡ Ok (summary_of l (unrolled is))
unfolding summarize_in
summarize_items runs l is w = ap summarized (items_read runs l is w)

-- and in the old form
pub summarize_written : (runs : Bool) (l : Limits) (es : List Event) → WellFormed l es → summarize_in runs (written l es) ≡ Ok (summary_of l es)
unfolding summarize_in
summarize_written runs l es w = ap summarized (written_read runs l es w)

summed_read : (runs : Bool) (xs : List ℕ) (s : Summary) → Bytes xs → (r : Read) → read_in runs xs ≡ r → summarized r ≡ Ok s → Accounted runs xs s
summed_read runs xs s b (unreadable n) e h = let z : ◌≡◌ {A = ℕ} 0 1 = cc in absurd (omega arith)
summed_read runs xs s b (whole l es) e h =
    let w = read_items_lem runs xs l es b e in
    let sums : s ≡ summary_of l es = cc in
    record { settings = l; items = w.items; formed = w.formed; bytes = w.same; sums = sums ∙ ap (summary_of l) w.gives }

-- and only such a record has a summary
pub summarized_written : (runs : Bool) (xs : List ℕ) (s : Summary) → Bytes xs → summarize_in runs xs ≡ Ok s → Accounted runs xs s
unfolding summarize_in
summarized_written runs xs s b h = summed_read runs xs s b (read_in runs xs) refl h

-- ---- either form

-- Events are counted unrolled: a record and its unrolled form have the same summary.
pub either_form : (l : Limits) (is : List Item) → Formed true l is → summarize_in true (written_items l is) ≡ summarize_in true (written l (unrolled is))
either_form l is w = summarize_items true l is w ∙ sym (summarize_written true l (unrolled is) (formed_events true l is w))
