-- What is left of a record has the answer of the whole: at the start, after each item, at a fault and at the end.
-- Assumes nothing.
use Rattle.std.specs.Prelude.{Ok, Err}
use Rattle.std.proofs.Common.{◌≡◌, ℕ, ◌+◌, ◌-◌, ◌*◌, ◌≤◌, Bool, List, ◌++◌, length, drop, replicate, sym, refl, ap, ◌∙◌, inl, inr, ⊎_elim, add_comm, arith}
use Rattle.decide.specs.declared.refusal.Refusal.{Refusal}
use Rattle.decide.specs.Number.{number_in, refusal_of}
use Rattle.decide.specs.Test.{Holds}
use Rattle.shaper.specs.declared.Limits.{Limits}
use Rattle.shaper.specs.declared.Event.{Event}
use Rattle.shaper.specs.Limits.{limits_ok, most_events}
use Rattle.shaper.specs.Credit.{Valid, AllValid}
use Rattle.shaper.specs.Kind.{kind_of, number_of, event_of}
use Rattle.wire.specs.Wire.{Bytes}
use Rattle.wire.proofs.Places.{bytes_drop}
use Rattle.plain.specs.Range.{count_ok}
use Rattle.tally.specs.declared.Tally.{Tally}
use Rattle.tally.specs.Tally.{start_of, step_of, plain_at, Ready}
use Rattle.tally.proofs.Laws.{start_rest, end_rest}
use Rattle.tally.proofs.Runs.{run_rest, run_ready}
use Rattle.summary.specs.Plain.{signed_from}
use Rattle.summary.proofs.Promises.{summary_signed}
use Rattle.record.specs.Read.{Events, faulty, events, ahead, read_items, under}
use Rattle.record.specs.Step.{header_of_of, item_within}
use Rattle.record.proofs.Named.{header_named, within_named}
use Rattle.record.proofs.Fields.{event_good}
use Rattle.record.proofs.Steps.{Stood, header_stands, header_faulty, read_end, failed_within, stood_bound}
use Rattle.record.proofs.Written.{ahead_behind, behind_faulty, behind_events}
use Rattle.record.proofs.Wrote.{items_written, items_valid}
use Rattle.account.specs.Account.{summarized, summarize_in, events_of}
use Rattle.account.specs.Rest.{rested, rest_of}

-- what is read of some bytes is valid
abbrev pub ValidEvents : Limits → Events → Type 0
ValidEvents l (faulty n) = Unit {0}
ValidEvents l (events es) = AllValid l es

valid_by : (runs : Bool) (late : ℕ) (l : Limits) (left : ℕ) (ys : List ℕ) → Bytes ys → (r : Events) → read_items runs late l.mtu left 0 ys ≡ r → ValidEvents l r
valid_by runs late l left ys b (faulty n) e = tt
valid_by runs late l left ys b (events es) e = let w = items_written runs late l left ys es b e in rw w.gives (items_valid runs l w.items w.ok)

valid_read : (runs : Bool) (late : ℕ) (l : Limits) (left : ℕ) (ys : List ℕ) → Bytes ys → ValidEvents l (read_items runs late l.mtu left 0 ys)
valid_read runs late l left ys b = valid_by runs late l left ys b (read_items runs late l.mtu left 0 ys) refl

-- ---- the start

pub start_by : (l : Limits) → Holds (limits_ok l) → (r : Events) → ValidEvents l r → summarized (under l r) ≡ rested l (plain_at l 0 (start_of l.lo)) r
start_by l ok (faulty n) v = refl
start_by l ok (events es) v = ap Ok (summary_signed l ok es ∙ ap signed_from (sym (start_rest l ok es v)))

-- before the first event all are left
pub rest_events : (runs : Bool) (l : Limits) (left : ℕ) (ys : List ℕ) → Holds (limits_ok l) → Bytes ys → events_of runs l left ys ≡ rest_of runs 9 l left 0 (start_of l.lo) ys
unfolding events_of rest_of
rest_events runs l left ys ok b = start_by l ok (read_items runs 9 l.mtu left 0 ys) (valid_read runs 9 l left ys b)

module _ (runs : Bool) (xs : List ℕ) where
  -- a header that stands: the record comes to what all behind it comes to
  pub rest_start : (l : Limits) → header_of_of xs ≡ Ok l → summarize_in runs xs ≡ events_of runs l most_events (drop 14 xs)
  unfolding summarize_in events_of
  rest_start l e = ap summarized ((header_stands xs l e).goes_on runs)

  -- one that does not
  pub rest_unreadable : (r : Refusal) → header_of_of xs ≡ Err r → summarize_in runs xs ≡ Err r
  unfolding summarize_in
  rest_unreadable r e = ap summarized (header_faulty runs xs r e).1 ∙ ap Err (rw e at (header_named xs))

-- ---- on the way

-- so many of an event before others
ahead_events : (c : ℕ) (e : Event) (es : List Event) → ahead c e (events es) ≡ events (replicate c e ++ es)
ahead_events c e es = ahead_behind c e (events es) ∙ behind_events (replicate c e) es

ahead_faulty : (c : ℕ) (e : Event) (n : ℕ) → ahead c e (faulty n) ≡ faulty n
ahead_faulty c e n = ahead_behind c e (faulty n) ∙ behind_faulty (replicate c e) n

module _ (l : Limits) (n : ℕ) (t : Tally) (p : Ready l n t) where
  -- at the end the tally is the summary
  pub rest_end : (runs : Bool) (late left : ℕ) (xs : List ℕ) (at : ℕ) → length xs ≤ at → rest_of runs late l left n t (drop at xs) ≡ Ok (signed_from (plain_at l n t))
  unfolding rest_of
  rest_end runs late left xs at h = rw (read_end runs late l.mtu left xs at h) (ap (λ q. Ok (signed_from q)) (end_rest l n t p))

  pub step_by : (e : Event) → Valid l e → (c : ℕ) → Holds (count_ok e c) → (r : Events) → ValidEvents l r →
      rested l (plain_at l n t) (ahead c e r) ≡ rested l (plain_at l (n + c) (step_of (l.hi - l.lo) (kind_of e) (c * number_of e) t)) r
  step_by e v c h (faulty m) w = rw (ahead_faulty c e m)
  step_by e v c h (events es) w = rw (ahead_events c e es) (ap (λ q. Ok (signed_from q)) (run_rest l n t p e v c h es w))

  -- an item at a place, of bytes, for as many events as may come: they are counted, and what stands behind it is left
  module _ (runs : Bool) (xs : List ℕ) (at : ℕ) (b : Bytes xs) (k v c next : ℕ) (s : Stood runs l.mtu xs at k v c next) where
    fields : (kind_of (event_of k v) ≡ k) × (number_of (event_of k v) ≡ v)
    fields = event_good l.mtu 6 k v s.fields

    valid : Valid l (event_of k v)
    valid = s.valid l refl (stood_bound runs l.mtu xs at k v c next b s)

    counts : Holds (count_ok (event_of k v) c)
    counts = (s.some, ⊎_elim (λ e. inl e) (λ tick. inr (omega (arith, fields.0))) s.alone)

    pub rest_found : (late left : ℕ) → rest_of runs late l (left + c) n t (drop at xs) ≡ rest_of runs late l left (n + c) (step_of (l.hi - l.lo) k (c * v) t) (drop next xs)
    unfolding rest_of
    rest_found late left =
        let rest = read_items runs late l.mtu left 0 (drop next xs) in
        rw (add_comm left c, s.goes_on late left)
        (rw (fields.0, fields.1) at (step_by (event_of k v) valid c counts rest (valid_read runs late l left (drop next xs) (bytes_drop next xs b))))

    pub rest_found_ready : n + c ≤ most_events → Ready l (n + c) (step_of (l.hi - l.lo) k (c * v) t)
    rest_found_ready few = rw (fields.0, fields.1) at (run_ready l n t p (event_of k v) valid c counts few)

-- a fault at a place, or a byte after the last event that may come
pub rest_faulty : (runs : Bool) (late : Refusal) (l : Limits) (left n : ℕ) (t : Tally) (xs : List ℕ) (at : ℕ) (r : Refusal) → refusal_of (number_in late) ≡ late →
    item_within runs late left l.mtu xs at ≡ Err r → rest_of runs (number_in late) l left n t (drop at xs) ≡ Err r
unfolding rest_of
rest_faulty runs late l left n t xs at r h e =
    rw (failed_within runs late left l.mtu xs at r e).1 (ap Err (rw e at (within_named runs late left l.mtu xs at h)))
