-- The paper's number and values of what the header and a place say: a number is given exactly when its row applies and none before it does, and where it
-- is 0 the values are the fields.
-- Assumes nothing.
use Rattle.std.specs.Prelude.{Ok, Err, Some, None}
use Prim.Native.Nat.{ℕ, ◌+◌, ◌<◌}
use mathlib.Core.Bool.{Bool, false}
use mathlib.Core.List.{List, [], ◌∷◌}
use mathlib.Core.Logic.{⊎_elim}
use mathlib.Core.Path.{◌≡◌, refl, ap, ◌∙◌}
use native.Mathlib.Omega.{arith}
use lib.ListN.{length, drop}
use Rattle.decide.specs.Refusal.{RefusedExactly}
use Rattle.wire.specs.Wire.{le}
use Rattle.record.specs.Read.{header_faults, item_faults}
use Rattle.record.specs.Step.{header_of_of, item_at, header_number, header_values, step_number, step_values, Header, Step}
use Rattle.record.proofs.Refused.{header_refused_exactly, item_refused_exactly}
use Rattle.record.proofs.Steps.{Stood, header_stands, header_faulty, step_stands, step_end, step_faulty}
use Rattle.decide.proofs.Number.{number_told}

-- ---- the header

module _ (xs : List ℕ) where
  pub header_exactly : RefusedExactly (header_number (header_of_of xs)) (header_faults xs)
  header_exactly =
      record {
        has_cause = λ n p e. (header_refused_exactly xs n p).0 e;
        is_given = λ n p g. ap header_number ((header_refused_exactly xs n p).1 g) ∙ number_told n;
      }

  -- Kind 16, length 14, first and once: mtu 2, loLimit 4, hiLimit 4.
  pub header_values_lem : header_number (header_of_of xs) ≡ 0 → header_values (header_of_of xs) ≡ le 2 xs 4 ∷ le 4 xs 6 ∷ le 4 xs 10 ∷ []
  header_values_lem z = by (header_of_of xs) refl z
    where
      by : (h : Header) → header_of_of xs ≡ h → header_number (header_of_of xs) ≡ 0 → header_values (header_of_of xs) ≡ le 2 xs 4 ∷ le 4 xs 6 ∷ le 4 xs 10 ∷ []
      by (Ok l) e z = ap header_values (e ∙ ap Ok (header_stands xs l e).settings)
      by (Err r) e z = absurd (omega (arith, (header_faulty false xs r e).0, ap header_number e))

-- ---- a place

module _ (runs : Bool) (mtu : ℕ) (xs : List ℕ) (at : ℕ) (some : at < length xs) where
  pub item_exactly : RefusedExactly (step_number (item_at runs mtu xs at)) (item_faults runs mtu (drop at xs))
  item_exactly =
      record {
        has_cause = λ n p e. (item_refused_exactly runs mtu xs at n some p).0 e;
        is_given = λ n p g. ap step_number ((item_refused_exactly runs mtu xs at n some p).1 g) ∙ number_told n;
      }

  -- what a place says by an item that stands there
  values_by : (zs : List ℕ) → ((k v c next : ℕ) → Stood runs mtu xs at k v c next → k ∷ v ∷ c ∷ [] ≡ zs) → step_number (item_at runs mtu xs at) ≡ 0 →
      step_values (item_at runs mtu xs at) ≡ zs
  values_by zs f z = by (item_at runs mtu xs at) refl
    where
      by : (s : Step) → item_at runs mtu xs at ≡ s → step_values (item_at runs mtu xs at) ≡ zs
      by (Ok (Some p)) e = ap step_values e ∙ f p.kind p.number p.count p.next (step_stands runs mtu xs at p.kind p.number p.count p.next e)
      by (Ok None) e = absurd (omega (arith, step_end runs mtu xs at e))
      by (Err r) e = absurd (omega (arith, (step_faulty runs mtu xs at r e).given, ap step_number e))

  -- Events, length 6: kind 1 tick while waiting (amount 2), kind 2 tick while idle (amount 2), kind 3 send (size 2).
  pub event_values : (le 2 xs (at + 2) ≡ 4 → ⊥) → step_number (item_at runs mtu xs at) ≡ 0 → step_values (item_at runs mtu xs at) ≡ le 2 xs (at + 2) ∷ le 2 xs (at + 4) ∷ 1 ∷ []
  event_values n z =
      values_by (le 2 xs (at + 2) ∷ le 2 xs (at + 4) ∷ 1 ∷ [])
      (λ k v c next s. ⊎_elim (λ e. rw (e.kind_field, e.number_field, e.one)) (λ r. absurd (n r.1.run_field)) s.there)
      z

  -- Kind 4, length 10: a tick kind (2, being 1 or 2), an amount (2), a count (2, from 2 to 65,535).
  pub run_values : le 2 xs (at + 2) ≡ 4 → step_number (item_at runs mtu xs at) ≡ 0 →
      step_values (item_at runs mtu xs at) ≡ le 2 xs (at + 4) ∷ le 2 xs (at + 6) ∷ le 2 xs (at + 8) ∷ []
  run_values n z =
      values_by (le 2 xs (at + 4) ∷ le 2 xs (at + 6) ∷ le 2 xs (at + 8) ∷ [])
      (λ k v c next s. ⊎_elim (λ e. absurd (omega (arith, e.kind_field, s.fields.last))) (λ r. rw (r.1.kind_field, r.1.number_field, r.1.count_field)) s.there)
      z
