-- The tick of a station: what C is given, and what each shaper is left with.
-- Assumes nothing.
use Rattle.shaper.specs.Refused.{afterwards}
use Prim.Native.Nat.{ℕ, ◌+◌, ◌*◌, ◌/◌, min}
use mathlib.Core.Bool.{true, false}
use mathlib.Core.Path.{◌≡◌, refl, ap, ◌∙◌}
use lib.Dec.{eqb}
use Rattle.decide.specs.Test.{Holds, passes}
use Rattle.rates.specs.Rates.{share_of}
use Rattle.credits.specs.declared.Which.{Which}
use Rattle.credits.specs.declared.Which.TheVariants.{C}
use Rattle.credits.specs.Which.{bucket_of, credit_of}
use Rattle.flow.specs.Tick.{waits}
use Rattle.flow.specs.Tick as ticked
use Rattle.flow.proofs.Tick as flow
use Rattle.station.specs.declared.Station.{Station}
use Rattle.station.specs.Answers.{Done}
use Rattle.station.specs.Range.{StationOk}
use Rattle.station.specs.Calls.{share_for, flags_ok, tick_of, amount_for}
use Rattle.station.proofs.Range.{facts_in_range}
use Rattle.station.proofs.Calls.{tick_done}

-- C's amount is the smaller of its setting and floor(allowedRate / (ageCoef × ticks per interval)).
pub c_amount : (st : Station)
    → amount_for st C ≡ min st.settings.shapers.c.amount (st.fair.decided.allowed / (st.settings.fairness.age * st.settings.fairness.ticks))
unfolding share_of
c_amount st = refl

module _ {st : Station} (ok : StationOk st) (a b c : ℕ) (flags : Holds (flags_ok a b c)) (w : Which) where
  done : credit_of (afterwards st (tick_of st a b c)).flow.credits w ≡ credit_of (ticked.tick_of st.settings st.flow (share_for st) (eqb a 1) (eqb b 1) (eqb c 1)).credits w
  done = ap (λ (r : Done). credit_of (afterwards st r).flow.credits w) (tick_done st a b c (facts_in_range st ok) (passes (flags_ok a b c) flags))

  -- A tick adds the amount; while traffic waits the sum is cut to hiLimit,
  pub tick_waiting : waits st.flow (eqb a 1) (eqb b 1) (eqb c 1) w ≡ true
      → credit_of (afterwards st (tick_of st a b c)).flow.credits w ≡ min (credit_of st.flow.credits w + amount_for st w) (bucket_of st.settings w).hi
  tick_waiting e = done ∙ flow.tick_waiting st.settings st.flow (share_for st) (eqb a 1) (eqb b 1) (eqb c 1) w e

  -- otherwise to loLimit.
  pub tick_idle : waits st.flow (eqb a 1) (eqb b 1) (eqb c 1) w ≡ false
      → credit_of (afterwards st (tick_of st a b c)).flow.credits w ≡ min (credit_of st.flow.credits w + amount_for st w) (bucket_of st.settings w).lo
  tick_idle e = done ∙ flow.tick_idle st.settings st.flow (share_for st) (eqb a 1) (eqb b 1) (eqb c 1) w e
