-- What is advertised, row by row: each row follows from the definition by whether its tests hold. Assumes nothing.
use Prim.Native.Nat.{◌-◌, ◌≤◌, ◌<◌}
use mathlib.Core.Bool.{true, false}
use mathlib.Core.Logic.{◌⊎◌, inl, inr, ⊎_elim}
use mathlib.Core.Path.{◌≡◌, sym}
use native.Mathlib.Omega.{arith}
use Rattle.decide.specs.Test.{test, passes, decided}
use Rattle.decide.proofs.Tests.{failing}
use Rattle.decide.proofs.Cases.{of_each}
use Rattle.advert.specs.declared.Advert.{Advert}
use Rattle.settings.specs.declared.Settings.{Settings}
use Rattle.heard.specs.Frame.{own_frame, last_hop}
use Rattle.heard.specs.Range.{hops_of}
use Rattle.fair.specs.declared.Fair.{Fair}
use Rattle.fair.specs.Advertise.{passed_on_of, uncongested, own_counts, told_of}

-- the received rate counts: downstream congested, and not locally too or own > received
abbrev pub ReceivedCounts : Fair → Type 0
ReceivedCounts f = (f.received.downstream ≡ 1) × ((f.decided.congested ≡ 0) ⊎ (f.received.rate < f.decided.own))

module _ (f : Fair) (s : Settings) where
  -- ---- the cases of the definition

  pub told_free : test (uncongested f) ≡ true → told_of f s ≡ own_frame s 65535
  unfolding told_of
  told_free e = rw e

  pub told_own : test (uncongested f) ≡ false → test (own_counts f) ≡ true → told_of f s ≡ own_frame s f.decided.own
  unfolding told_of
  told_own n e = rw (n, e)

  pub told_last : test (uncongested f) ≡ false → test (own_counts f) ≡ false → test (last_hop s f.received.ttl) ≡ true → told_of f s ≡ own_frame s 65535
  unfolding told_of
  told_last n m e = rw (n, m, e)

  pub told_passed : test (uncongested f) ≡ false → test (own_counts f) ≡ false → test (last_hop s f.received.ttl) ≡ false → told_of f s ≡ passed_on_of f s
  unfolding told_of
  told_passed n m e = rw (n, m, e)

  -- what holds of a FULL frame, of an own one, and of a received one that goes further, holds of what is told
  pub told_each : (P : Advert → Type 0) → P (own_frame s 65535) → P (own_frame s f.decided.own) → (test (last_hop s f.received.ttl) ≡ false → P (passed_on_of f s)) →
      P (told_of f s)
  unfolding told_of
  told_each P full own passed =
      of_each P (test (uncongested f)) _ _ (λ e. full)
      (λ e. of_each P (test (own_counts f)) _ _ (λ e. own) (λ e. of_each P (test (last_hop s f.received.ttl)) _ _ (λ e. full) passed))

  -- ---- one law for each row

  -- Advertise 65,535 (FULL_RATE) when not congested either way;
  pub not_congested : f.decided.congested ≡ 0 → f.received.downstream ≡ 0 → told_of f s ≡ own_frame s 65535
  not_congested a b = told_free (passes (uncongested f) (a, b))

  -- own rate when only locally congested,
  pub only_locally : f.decided.congested ≡ 1 → f.received.downstream ≡ 0 → told_of f s ≡ own_frame s f.decided.own
  only_locally a b =
      told_own (sym (decided (uncongested f) false (λ h. omega arith))) (passes (own_counts f) (inl (a, b)))

  -- or both and own ≤ received;
  pub both_own : f.decided.congested ≡ 1 → f.received.downstream ≡ 1 → f.decided.own ≤ f.received.rate → told_of f s ≡ own_frame s f.decided.own
  both_own a b h =
      told_own (sym (decided (uncongested f) false (λ h. omega arith))) (passes (own_counts f) (inr (a, (b, h))))

  module _ (r : ReceivedCounts f) where
    congested : test (uncongested f) ≡ false
    congested = let d = r.0 in sym (decided (uncongested f) false (λ h. omega arith))

    not_own : test (own_counts f) ≡ false
    not_own =
        let d = r.0 in
        sym
        (decided (own_counts f) false
        (λ h. ⊎_elim (λ p. omega arith) (λ p. ⊎_elim (λ q. omega arith) (λ q. omega arith) r.1) h))

    -- else the received rate, its address, ttl less 1,
    pub else_received : (hops_of f.received.ttl ≡ s.site.stations - 1 → ⊥) → told_of f s ≡ passed_on_of f s
    else_received n = told_passed congested not_own (failing (last_hop s f.received.ttl) n)

    -- but FULL_RATE when the received hops are the number of stations less 1.
    pub else_last : hops_of f.received.ttl ≡ s.site.stations - 1 → told_of f s ≡ own_frame s 65535
    else_last e = told_last congested not_own (passes (last_hop s f.received.ttl) e)
