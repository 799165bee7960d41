-- The low words of addresses stay numbers of 32 bits: a fresh station has received none, a frame has four bytes for them, and no other call touches them.
-- So the frame that a station tells is read back at any place of a history.
-- Assumes nothing.
use Rattle.std.specs.Prelude.{Result}
use Rattle.shaper.specs.declared.Refused.{Refused}
use Rattle.shaper.specs.Refused.{afterwards}
use Prim.Native.Nat.{ℕ, ◌<◌}
use mathlib.Core.Bool.{false}
use mathlib.Core.List.{List, [], ◌∷◌}
use mathlib.Core.Path.{◌≡◌, sym, subst}
use native.Mathlib.Omega.{arith}
use Rattle.decide.specs.Test.{test, ◌≡?◌}
use Rattle.decide.specs.Refusal.{refused_or}
use Rattle.decide.proofs.Cases.{of_each}
use Rattle.decide.proofs.Refused.{of_answer}
use Rattle.wire.specs.Wire.{Bytes}
use Rattle.advert.specs.Frame.{advert_bytes, advert_in}
use Rattle.advert.proofs.ReadBack.{parsed_fits}
use Rattle.settings.specs.declared.Settings.{Settings}
use Rattle.settings.specs.Range.{SettingsOk}
use Rattle.heard.specs.declared.Received.{Received}
use Rattle.heard.specs.Frame.{received_of, own_address}
use Rattle.fair.specs.ReadBack.{ReadBack}
use Rattle.fair.proofs.ReadBack.{frame_read_back}
use Rattle.station.specs.declared.Station.{Station}
use Rattle.station.specs.declared.Client.{Client}
use Rattle.station.specs.declared.Selected.{Selected}
use Rattle.station.specs.Range.{StationOk}
use Rattle.station.specs.Narrow.{NarrowOwn, Narrow}
use Rattle.station.specs.Answers.{Done, refused_of, done_of, rest_after}
use Rattle.station.specs.Calls.{fresh_of}
use Rattle.station.specs.Offers.{station_left}
use Rattle.station.specs.Hear.{changed_of, hear_of, advert_said, tell_of}
use Rattle.station.specs.History.{Call, tick, offer_client, offer_transit, offer_control, select, age, hear, tell, show, step, after}
use Rattle.station.proofs.History.{reached_in_range, after_settings}
use Rattle.station.proofs.Range.{fresh_ok}
use Rattle.station.proofs.ReadBack.{told_heard}

-- ---- a call leaves the station, or what it makes of it

done_narrow : {st next : Station} → Narrow st → Narrow next → (n : ℕ) → Narrow (afterwards st (refused_or refused_of n (done_of next)))
done_narrow {st} old new n = of_answer _ _ (λ (r : Done). Narrow (afterwards st r)) n (λ e. new) (λ e. old)

-- what a frame's bytes say of an address has four of them for the low word
heard_narrow : {st : Station} (xs : List ℕ) → Bytes xs → Narrow st → Narrow (changed_of st (advert_in xs))
unfolding received_of
heard_narrow {st} xs bytes old =
    record {
      own_low = old.own_low;
      low =
          of_each (λ (r : Received). r.low < 4294967296) (test ((advert_in xs).rate ≡? 65535)) _ _
          (λ e. omega arith)
          (λ e. (parsed_fits xs bytes).low_fits);
    }

-- ---- every call keeps it

pub narrow_kept : {st : Station} → Narrow st → (c : Call) → Narrow (step c st).station
narrow_kept old (tick a b c) = done_narrow old (record { own_low = old.own_low; low = old.low }) _
narrow_kept {st} old (offer_client class size hops) =
    of_answer _ _ (λ (r : Result Client Refused). Narrow (station_left st r)) _ (λ e. record { own_low = old.own_low; low = old.low }) (λ e. old)
narrow_kept old (offer_transit class size hops eligible) = done_narrow old (record { own_low = old.own_low; low = old.low }) _
narrow_kept old (offer_control size) = done_narrow old (record { own_low = old.own_low; low = old.low }) _
narrow_kept {st} old select = of_answer _ _ (λ (r : Result Selected Refused). Narrow (rest_after st r)) _ (λ e. record { own_low = old.own_low; low = old.low }) (λ e. old)
narrow_kept old age = done_narrow old (record { own_low = old.own_low; low = old.low }) _
narrow_kept old (hear xs bytes) = done_narrow old (heard_narrow xs bytes old) _
narrow_kept old tell = old
narrow_kept old show = old

-- a fresh station has received address 0
pub fresh_narrow : (s : Settings) → NarrowOwn s → Narrow (fresh_of s)
fresh_narrow s own = record { own_low = own; low = omega arith }

-- ---- over any calls

pub after_narrow : {st : Station} → Narrow st → (cs : List Call) → Narrow (after st cs)
after_narrow old [] = old
after_narrow {st = st} old (c ∷ cs) = after_narrow {st = (step c st).station} (narrow_kept old c) cs

module _ (s : Settings) (good : SettingsOk s) (own : NarrowOwn s) (cs : List Call) where
  reached : Narrow (after (fresh_of s) cs)
  reached = after_narrow (fresh_narrow s own) cs

  -- Reading a written frame, with the same settings but an address it doesn't bear, gives back its ringlet bit, ttl, address and rate: whatever calls led there.
  pub reached_read_back : ReadBack s (after (fresh_of s) cs).fair
  reached_read_back =
      let st = after (fresh_of s) cs in
      let ok = reached_in_range s good cs in
      subst (λ (t : Settings). ReadBack t st.fair) (after_settings (fresh_ok good) cs)
      (frame_read_back st.settings st.fair ok.settings ok.fair reached.own_low reached.low)

  -- and a station that hears it takes what was told
  pub reached_heard : {t : Station} → StationOk t → t.settings.ringlet ≡ s.ringlet → t.settings.site.stations ≡ s.site.stations
      → test (own_address t.settings (advert_said (tell_of (after (fresh_of s) cs)))) ≡ false
      → hear_of t (advert_bytes (advert_said (tell_of (after (fresh_of s) cs)))) ≡ done_of (changed_of t (advert_said (tell_of (after (fresh_of s) cs))))
  reached_heard {t} ok same many other =
      told_heard (reached_in_range s good cs) reached.own_low reached.low ok
      (subst (λ (u : Settings). t.settings.ringlet ≡ u.ringlet) (sym (after_settings (fresh_ok good) cs)) same)
      (subst (λ (u : Settings). t.settings.site.stations ≡ u.site.stations) (sym (after_settings (fresh_ok good) cs)) many)
      other
