-- Each number that the two functions answer is given exactly when its row applies and none before it does.
-- Assumes nothing.
use Rattle.std.specs.Prelude.{Err}
use Prim.Native.Nat.{ℕ, zero, suc, ◌<◌}
use mathlib.Core.Bool.{Bool, true, false, ◌&&◌, cond}
use mathlib.Core.List.{List}
use mathlib.Core.Path.{◌≡◌, refl, sym, ap, ◌∙◌}
use native.Mathlib.Omega.{arith}
use borrow.Author.Tests.{lt-leb}
use lib.ListN.{length, drop}
use Rattle.decide.specs.Refusal.{first_of, Given, ranked}
use Rattle.decide.proofs.Number.{number_told}
use Rattle.decide.proofs.Given.{first_exact}
use Rattle.record.specs.Read.{header_faults, event_faults, is_run, run_faults, item_faults}
use Rattle.record.specs.Step.{headed, header_of_of, stepped, item_at, header_number, step_number}
use Rattle.decide.specs.Number.{refusal_of}

module _ (xs : List ℕ) where
  header_number_lem : (m : ℕ) → header_number (headed m xs) ≡ m
  header_number_lem zero = refl
  header_number_lem (suc m) = number_told (suc m)

  number_header : (m n : ℕ) → m ≡ n → 0 < n → headed m xs ≡ Err (refusal_of n)
  number_header zero n e h = absurd (omega arith)
  number_header (suc m) n e h = ap (λ k. Err (refusal_of k)) e

  pub header_refused_exactly : (n : ℕ) → 0 < n → (header_number (header_of_of xs) ≡ n → Given (header_faults xs) n)
      × (Given (header_faults xs) n → header_of_of xs ≡ Err (refusal_of n))
  unfolding header_of_of
  header_refused_exactly n h =
      let x = first_exact (header_faults xs) refl n h in
      (λ e. x.has_cause (sym (header_number_lem (first_of (header_faults xs))) ∙ e), λ g. number_header (first_of (header_faults xs)) n (x.is_given g) h)

-- rows of one rank bear one number, in either form
ranked_items : (runs : Bool) (mtu : ℕ) (xs : List ℕ) → ranked (item_faults runs mtu xs) ≡ true
unfolding item_faults
ranked_items runs mtu xs = by (runs && is_run xs)
  where
    by : (b : Bool) → ranked (cond b (run_faults xs) (event_faults mtu xs)) ≡ true
    by true = refl
    by false = refl

module _ (runs : Bool) (mtu : ℕ) (xs : List ℕ) (at : ℕ) where
  step_number_lem : (m : ℕ) → step_number (stepped m xs at) ≡ m
  step_number_lem zero = refl
  step_number_lem (suc m) = number_told (suc m)

  number_step : (m n : ℕ) → m ≡ n → 0 < n → stepped m xs at ≡ Err (refusal_of n)
  number_step zero n e h = absurd (omega arith)
  number_step (suc m) n e h = ap (λ k. Err (refusal_of k)) e

  pub item_refused_exactly : (n : ℕ) → at < length xs → 0 < n → (step_number (item_at runs mtu xs at) ≡ n → Given (item_faults runs mtu (drop at xs)) n)
      × (Given (item_faults runs mtu (drop at xs)) n → item_at runs mtu xs at ≡ Err (refusal_of n))
  unfolding item_at
  item_refused_exactly n some h =
      let x = first_exact (item_faults runs mtu (drop at xs)) (ranked_items runs mtu (drop at xs)) n h in
      rw (lt-leb (length xs) at some)
      (λ e. x.has_cause (sym (step_number_lem (first_of (item_faults runs mtu (drop at xs)))) ∙ e), λ g. number_step (first_of (item_faults runs mtu (drop at xs))) n (x.is_given g) h)
