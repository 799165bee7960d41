-- What is left of a part has the answer of the whole: at the start, after each item, and at the end.
-- Assumes nothing.
use Prim.Native.Nat.{ℕ, zero, suc, ◌+◌, ◌-◌, ◌*◌, ◌≤◌, ◌<◌}
use mathlib.Core.Bool.{true}
use mathlib.Core.List.{List}
use mathlib.Core.Logic.{inl, inr, ⊎_elim}
use mathlib.Core.Path.{◌≡◌, refl, ap, ◌∙◌}
use native.Mathlib.Omega.{arith}
use Rattle.std.specs.Prelude.{Ok, Err}
use Rattle.decide.specs.Number.{refusal_of}
use Rattle.decide.specs.Test.{Holds}
use Rattle.decide.specs.Refusal.{first_of}
use Rattle.shaper.specs.declared.Limits.{Limits}
use Rattle.shaper.specs.Limits.{limits_ok, most_events}
use Rattle.shaper.specs.Credit.{Valid}
use Rattle.shaper.specs.Kind.{kind_of, number_of, event_of}
use Rattle.wire.specs.Wire.{Bytes}
use Rattle.plain.specs.Range.{count_ok}
use Rattle.tally.specs.declared.Tally.{Tally}
use Rattle.tally.specs.Tally.{start_of, step_of, plain_at, Ready}
use Rattle.tally.proofs.Laws.{end_rest}
use Rattle.tally.proofs.Runs.{run_ready}
use Rattle.summary.specs.Answer.{Answer}
use Rattle.summary.specs.Plain.{signed_from}
use Rattle.record.specs.Read.{Events, faulty, events, under}
use Rattle.record.proofs.Fields.{event_good}
use Rattle.record.proofs.Steps.{stood_bound}
use Rattle.account.specs.Account.{summarized}
use Rattle.account.specs.Rest.{rested}
use Rattle.account.proofs.Rest.{start_by, step_by}
use Rattle.excerpt.specs.declared.Place.{Place}
use Rattle.excerpt.specs.Place.{passed_of, place_after, place_faults}
use Rattle.excerpt.specs.Excerpt.{Answered, summed, read_part, excerpted, excerpt_of}
use Rattle.excerpt.proofs.Faults.{Standing}
use Rattle.excerpt.proofs.Parts.{placed, after_none, after_more, after_item, part_none, part_fault_lem, part_item, part_valid}

-- an answer beside the place behind it
abbrev beside : Place → Answer → Answered
beside next (Ok s) = summed s next
beside next (Err r) = Err r

-- n events are tallied, and so many more are wanted from a place on
unfoldable pub rest_part : Limits → ℕ → Tally → ℕ → List ℕ → Place → Answered
rest_part l n t left xs p = beside (place_after left xs p) (rested l (plain_at l n t) (read_part l.mtu left xs p))

module _ (l : Limits) (ok : Holds (limits_ok l)) (xs : List ℕ) (b : Bytes xs) where
  beside_summed : (next : Place) (r : Events) → excerpted l next r ≡ beside next (summarized (under l r))
  beside_summed next (faulty n) = refl
  beside_summed next (events es) = refl

  -- at the start all are wanted
  pub part_start : (count : ℕ) (p : Place) → excerpt_of l count xs p ≡ rest_part l 0 (start_of l.lo) count xs p
  unfolding excerpt_of rest_part
  part_start count p =
      let r = read_part l.mtu count xs p in
      beside_summed (place_after count xs p) r ∙ ap (beside (place_after count xs p)) (start_by l ok r (part_valid l xs b count p))

-- a fault at the first place
pub excerpt_stops : (l : Limits) (count : ℕ) (xs : List ℕ) (p : Place) (f : ℕ) → 0 < count → 0 < f → first_of (place_faults l.mtu xs p) ≡ f → excerpt_of l count xs p ≡ Err (refusal_of f)
unfolding excerpt_of
excerpt_stops l zero xs p f some h e = absurd (omega arith)
excerpt_stops l (suc m) xs p f some h e = rw (part_fault_lem l.mtu xs p m f h e)

-- a fault at the place of the next event that is wanted
pub part_stops : (l : Limits) (n : ℕ) (t : Tally) (left : ℕ) (xs : List ℕ) (p : Place) (f : ℕ) → 0 < left → 0 < f → first_of (place_faults l.mtu xs p) ≡ f →
    rest_part l n t left xs p ≡ Err (refusal_of f)
unfolding rest_part
part_stops l n t zero xs p f some h e = absurd (omega arith)
part_stops l n t (suc m) xs p f some h e = rw (part_fault_lem l.mtu xs p m f h e)

module _ (l : Limits) (n : ℕ) (t : Tally) (ready : Ready l n t) (xs : List ℕ) where
  -- at the end the tally is the summary
  pub part_end : (p : Place) → rest_part l n t 0 xs p ≡ summed (signed_from (plain_at l n t)) p
  unfolding rest_part
  part_end p = rw (part_none l.mtu xs p, after_none xs p) (ap (λ q. summed (signed_from q) p) (end_rest l n t ready))

  -- some events of an item in one step
  module _ (b : Bytes xs) (at k v c next : ℕ) (s : Standing l.mtu xs at k v c next) (behind : 14 ≤ at) (j gone : ℕ) (some : 1 ≤ j) (few : gone + j ≤ c) where
    fields : (kind_of (event_of k v) ≡ k) × (number_of (event_of k v) ≡ v)
    fields = event_good l.mtu 6 k v s.stood.fields

    valid : Valid l (event_of k v)
    valid = s.stood.valid l refl (stood_bound true l.mtu xs at k v c next b s.stood)

    counts : Holds (count_ok (event_of k v) j)
    counts = (some, ⊎_elim (λ e. inl (omega arith)) (λ tick. inr (omega (arith, fields.0))) s.stood.alone)

    pub part_step : (left : ℕ) → j ≤ left →
        rest_part l n t left xs (placed at gone) ≡ rest_part l (n + j) (step_of (l.hi - l.lo) k (j * v) t) (left - j) xs (passed_of at (gone + j) c next)
    unfolding rest_part
    part_step left enough =
        let sum : left ≡ j + (left - j) = omega arith in
        let there = after_item xs at c next s.told.count s.behind j gone some few in
        let rest = read_part l.mtu (left - j) xs (passed_of at (gone + j) c next) in
        let step = rw (fields.0, fields.1) at (step_by l n t ready (event_of k v) valid j counts rest (part_valid l xs b (left - j) (passed_of at (gone + j) c next))) in
        ap (λ (m : ℕ). beside (place_after m xs (placed at gone)) (rested l (plain_at l n t) (read_part l.mtu m xs (placed at gone)))) sum
        ∙ rw (after_more xs j (left - j) (placed at gone), part_item l.mtu xs at k v c next s behind j (left - j) gone few, there)
        (ap (beside (place_after (left - j) xs (passed_of at (gone + j) c next))) step)

    pub step_ready : n + j ≤ most_events → Ready l (n + j) (step_of (l.hi - l.lo) k (j * v) t)
    step_ready h = rw (fields.0, fields.1) at (run_ready l n t ready (event_of k v) valid j counts h)
