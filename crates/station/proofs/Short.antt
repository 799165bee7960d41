-- What the answer to a client's frame says beside its number: 6 how far short the needed shapers are, every other nothing.
-- Assumes nothing.
use Rattle.std.specs.Prelude.{Result}
use Rattle.decide.proofs.Number.{number_told}
use Rattle.shaper.specs.declared.Refused.{Refused}
use Rattle.shaper.specs.Refused.{number_said, detail_said}
use Prim.Native.Nat.{ℕ, ◌≤◌}
use mathlib.Core.Bool.{Bool, true, false, cond, not, ◌&&◌, true≢false}
use mathlib.Core.Path.{◌≡◌, refl, sym, ap, ◌∙◌}
use native.Mathlib.Omega.{arith}
use borrow.Author.Tests.{ne_eqb}
use lib.Dec.{eqb}
use Rattle.decide.specs.Test.{test}
use Rattle.decide.specs.Hops.{in_ring}
use Rattle.decide.specs.Refusal.{first_of}
use Rattle.decide.proofs.Given.{in_order_lem}
use Rattle.decide.proofs.Refused.{of_answer, number_by}
use Rattle.shaper.specs.Short.{detail_of}
use Rattle.queue.specs.Frame.{frame_ok}
use Rattle.credits.specs.Which.{permits_all}
use Rattle.credits.specs.Way.{needs_of, mark_of}
use Rattle.credits.proofs.Short.{permits_short, short_most}
use Rattle.flow.specs.Parts.{bounds_of, stage_holds}
use Rattle.station.specs.declared.Station.{Station}
use Rattle.station.specs.declared.Client.{Client}
use Rattle.station.specs.Range.{station_ok}
use Rattle.station.specs.Offers.{given_frame, over_for, way_for, offer_client_faults, short_for, offer_client_of}
use Rattle.station.proofs.Range.{in_range_facts}

-- of the rows 1, 3, 13, 5, 6, 7 it is that of 6 that counts
six : (ok fits ring holds permits over : Bool) → ◌≡◌ {A = ℕ} (cond (not ok) 1 (cond (not fits) 3 (cond (not ring) 13 (cond holds 5 (cond (not permits) 6 (cond over 7 0)))))) 6
    → (ok ≡ true) × (permits ≡ false)
six false fits ring holds permits over e = absurd (omega arith)
six true false ring holds permits over e = absurd (omega arith)
six true true false holds permits over e = absurd (omega arith)
six true true true true permits over e = absurd (omega arith)
six true true true false false over e = (refl, refl)
six true true true false true true e = absurd (omega arith)
six true true true false true false e = absurd (omega arith)

module _ (st : Station) (class size hops : ℕ) where
  abbrev answer : Result Client Refused
  answer = offer_client_of st class size hops

  number_is : number_said answer ≡ first_of (offer_client_faults st class size hops)
  number_is = number_by (λ (r : Result Client Refused). number_said r) _ _ number_told refl _

  -- A refusal other than 6 says nothing beside its number, and so does a call that was carried out.
  pub client_alone : (number_said answer ≡ 6 → ⊥) → detail_said answer ≡ 0
  client_alone =
      of_answer _ _ (λ (r : Result Client Refused). (number_said r ≡ 6 → ⊥) → detail_said r ≡ 0) (first_of (offer_client_faults st class size hops))
      (λ z n. refl)
      (λ p n. ap (λ (b : Bool). cond b (short_for st class) 0) (ne_eqb _ 6 (λ e. n (number_told _ ∙ e))))

  -- 6 says how far short the needed shapers are.
  pub client_short : number_said answer ≡ 6 → detail_said answer ≡ short_for st class
  client_short =
      of_answer _ _ (λ (r : Result Client Refused). number_said r ≡ 6 → detail_said r ≡ short_for st class) (first_of (offer_client_faults st class size hops))
      (λ z e. absurd (omega arith))
      (λ p e. ap (λ (n : ℕ). detail_of n (short_for st class)) (sym (number_told _) ∙ e))

  module _ (e : number_said answer ≡ 6) where
    rows_six : (test (station_ok st) ≡ true) × (permits_all st.settings st.flow.credits (needs_of (way_for st class)) ≡ false)
    rows_six =
        six (test (station_ok st)) (test (frame_ok (bounds_of st.settings) (given_frame class size hops 0))) (test (in_ring st.settings.site.stations hops)) (stage_holds st.flow)
        (permits_all st.settings st.flow.credits (needs_of (way_for st class))) (eqb (mark_of (way_for st class)) 1 && over_for st size hops)
        (sym (in_order_lem (offer_client_faults st class size hops) refl) ∙ sym number_is ∙ e)

    -- It is given where a needed shaper does not permit,
    pub short_denied : permits_all st.settings st.flow.credits (needs_of (way_for st class)) ≡ false
    short_denied = rows_six.1

    -- so that 1 to 65,537 bytes are missing.
    pub short_range : (1 ≤ short_for st class) × (short_for st class ≤ 65537)
    short_range =
        let s = st.settings in
        let c = st.flow.credits in
        let ws = needs_of (way_for st class) in
        let some : short_for st class ≡ 0 → ⊥ = λ z. true≢false (sym ((permits_short s c ws).1 z) ∙ short_denied) in
        (omega (arith, some), short_most s c (in_range_facts st rows_six.0).settings ws)
