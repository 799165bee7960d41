-- A refusal leaves what lies behind the reference as it was: where an entry point answers a refusal, what its contract says of the exit is what was there at entry.
-- Assumes nothing.
use mathlib.Core.List.{List}
use mathlib.Core.Path.{◌≡◌}
use Prim.Native.Nat.{ℕ, ◌<◌}
use Rattle.wire.specs.Wire.{Bytes}
use Rattle.shaper.specs.declared.Shaper.{Shaper}
use Rattle.shaper.specs.Shaper.{charge_of}
use Rattle.shaper.proofs.Charge as charge
use Rattle.station.specs.declared.Station.{Station}
use Rattle.station.specs.Calls.{tick_of, select_of, age_of}
use Rattle.station.specs.Offers.{offer_client_of, offer_transit_of, offer_control_of}
use Rattle.station.specs.Hear.{hear_of}
use Rattle.station.specs.History.{tick, offer_client, offer_transit, offer_control, select, age, hear}
use Rattle.station.proofs.Refused.{refused_leaves}
use Rattle.std.specs.Prelude.{Result, Ok, Err}
use mathlib.Core.Path.{refl}
use Rattle.shaper.specs.declared.Refused.{Refused}
use Rattle.shaper.specs.Refused.{number_said, afterwards}
use Rattle.station.specs.declared.Client.{Client}
use Rattle.station.specs.declared.Selected.{Selected}
use Rattle.station.specs.Answers.{Done, rest_after}
use Rattle.shaper.specs.Shaper.{Charged}
use Rattle.station.specs.Offers.{station_left}
use Rattle.entry.specs.Brief.{brief_of, charge_brief_of, marked_of, chosen_of}

-- an entry point answers the number that the step answers
brief_number : (r : Done) → number_said (brief_of r) ≡ number_said r
brief_number (Ok st) = refl
brief_number (Err e) = refl

charge_number : (r : Charged) → number_said (charge_brief_of r) ≡ number_said r
charge_number (Ok s) = refl
charge_number (Err e) = refl

marked_number : (r : Result Client Refused) → number_said (marked_of r) ≡ number_said r
marked_number (Ok c) = refl
marked_number (Err e) = refl

chosen_number : (r : Result Selected Refused) → number_said (chosen_of r) ≡ number_said r
chosen_number (Ok s) = refl
chosen_number (Err e) = refl

module _ (st : Station) where
  pub tick_leaves : (a b c : ℕ) → 0 < number_said (brief_of (tick_of st a b c)) → afterwards st (tick_of st a b c) ≡ st
  tick_leaves a b c = λ h. refused_leaves (tick a b c) st (rw (brief_number _) at h)

  pub offer_client_leaves : (class size hops : ℕ) → 0 < number_said (marked_of (offer_client_of st class size hops)) → station_left st (offer_client_of st class size hops) ≡ st
  offer_client_leaves class size hops = λ h. refused_leaves (offer_client class size hops) st (rw (marked_number _) at h)

  pub offer_transit_leaves : (class size hops eligible : ℕ) → 0 < number_said (brief_of (offer_transit_of st class size hops eligible)) → afterwards st (offer_transit_of st class size hops eligible) ≡ st
  offer_transit_leaves class size hops eligible = λ h. refused_leaves (offer_transit class size hops eligible) st (rw (brief_number _) at h)

  pub offer_control_leaves : (size : ℕ) → 0 < number_said (brief_of (offer_control_of st size)) → afterwards st (offer_control_of st size) ≡ st
  offer_control_leaves size = λ h. refused_leaves (offer_control size) st (rw (brief_number _) at h)

  pub select_leaves : 0 < number_said (chosen_of (select_of st)) → rest_after st (select_of st) ≡ st
  select_leaves = λ h. refused_leaves select st (rw (chosen_number _) at h)

  pub age_leaves : 0 < number_said (brief_of (age_of st)) → afterwards st (age_of st) ≡ st
  age_leaves = λ h. refused_leaves age st (rw (brief_number _) at h)

  pub hear_leaves : (frame : List ℕ) → Bytes frame → 0 < number_said (brief_of (hear_of st frame)) → afterwards st (hear_of st frame) ≡ st
  hear_leaves frame bytes = λ h. refused_leaves (hear frame bytes) st (rw (brief_number _) at h)

pub charge_leaves : (s : Shaper) (size : ℕ) → 0 < number_said (charge_brief_of (charge_of s size)) → afterwards s (charge_of s size) ≡ s
charge_leaves s size = λ h. charge.charge_leaves s size (rw (charge_number _) at h)
