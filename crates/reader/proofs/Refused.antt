-- A reader gives a number exactly when that is wrong at its place: the header first, then a byte after the millionth event, then a fault of the item, then a run that
-- passes the million.
-- Assumes nothing.
use Prim.Native.Nat.{ℕ, ◌+◌, ◌≤◌, ◌<◌}
use mathlib.Core.Bool.{true}
use mathlib.Core.List.{List}
use mathlib.Core.Logic.{◌↔◌}
use mathlib.Core.Path.{◌≡◌, refl, sym, ap, ◌∙◌}
use native.Mathlib.Omega.{arith}
use lib.ListN.{length}
use Rattle.std.specs.Prelude.{Some, None, Ok, Err}
use Rattle.decide.specs.Number.{refusal_of}
use Rattle.decide.proofs.Number.{number_told}
use Rattle.decide.proofs.Cases.{by_cases, le_or}
use Rattle.shaper.specs.Limits.{most_events}
use Rattle.record.specs.Step.{Header, Step, header_of_of, step_at, header_number, step_number}
use Rattle.record.proofs.Rows.{free_stands}
use Rattle.record.proofs.Refused.{header_refused_exactly, item_refused_exactly}
use Rattle.record.proofs.Steps.{step_stands, step_end, step_faulty}
use Rattle.reader.specs.declared.Place.{Place}
use Rattle.reader.specs.Place.{next_at, Wrong, in_header, too_many, has_fault, passes}
use Rattle.reader.proofs.Rows.{next_unreadable, next_item, next_passes, next_faulty, next_over, next_end}

module _ (xs : List ℕ) (p : Place) (n : ℕ) (some : 0 < n) where
  wrong : (h : Header) → header_of_of xs ≡ h → step_number (next_at xs p) ≡ n → Wrong xs p n
  wrong (Err r) e f = in_header ((header_refused_exactly xs n some).0 (ap header_number e ∙ sym (ap step_number (next_unreadable xs p r e)) ∙ f))
  wrong (Ok l) e f = by (step_at l.mtu xs p.at) refl
    where
      none : {s : Step} → next_at xs p ≡ s → step_number s ≡ n
      none g = sym (ap step_number g) ∙ f

      over : most_events ≤ p.done → p.at < length xs → Wrong xs p n
      over o k = too_many l e o k (sym (none (next_over xs p l e o k)))

      by : (s : Step) → step_at l.mtu xs p.at ≡ s → Wrong xs p n
      by (Ok None) g = let h = none (next_end xs p l e (step_end true l.mtu xs p.at g)) in absurd (omega arith)
      by (Ok (Some i)) g =
          let t = step_stands true l.mtu xs p.at i.kind i.number i.count i.next g in
          let j : p.at < length xs = omega (arith, t.further, t.fits) in
          by_cases (le_or most_events p.done) (λ o. over o j)
          (λ o. by_cases (le_or (p.done + i.count) most_events)
          (λ few. let h = none (next_item xs p l e i.kind i.number i.count i.next g few) in absurd (omega arith))
          (λ many. passes l e o j t.free (omega (arith, t.counts)) (sym (none (next_passes xs p l e i.kind i.number i.count i.next g many)))))
      by (Err r) g =
          let k = (step_faulty true l.mtu xs p.at r g).some in
          by_cases (le_or most_events p.done) (λ o. over o k)
          (λ o. has_fault l e o k ((item_refused_exactly true l.mtu xs p.at n k some).0 (ap step_number g ∙ none (next_faulty xs p l e r g o))))

  given : Wrong xs p n → next_at xs p ≡ Err (refusal_of n)
  given (in_header g) = next_unreadable xs p (refusal_of n) ((header_refused_exactly xs n some).1 g)
  given (too_many l e o k s) = next_over xs p l e o k ∙ ap (λ m. Err (refusal_of m)) (sym s)
  given (has_fault l e o k g) = next_faulty xs p l e (refusal_of n) ((item_refused_exactly true l.mtu xs p.at n k some).1 g) o
  given (passes l e o k g many s) = next_passes xs p l e _ _ _ _ (free_stands true l.mtu xs p.at k g) many ∙ ap (λ m. Err (refusal_of m)) (sym s)

  pub next_refused_exactly : (step_number (next_at xs p) ≡ n → Wrong xs p n) × (Wrong xs p n → next_at xs p ≡ Err (refusal_of n))
  next_refused_exactly = (wrong (header_of_of xs) refl, given)

  -- the same of the paper's number
  pub next_exactly : (step_number (next_at xs p) ≡ n) ↔ Wrong xs p n
  next_exactly = (next_refused_exactly.0, λ w. ap step_number (next_refused_exactly.1 w) ∙ number_told n)
