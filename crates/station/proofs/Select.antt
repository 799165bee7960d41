-- What a selection leaves and counts: the queue that the origin names is without its first frame, and each counter has what document 01 says.
-- Assumes nothing.
use Rattle.std.specs.Prelude.{Result, Ok}
use Rattle.shaper.specs.declared.Refused.{Refused}
use Prim.Native.Nat.{ℕ, ◌+◌, min}
use mathlib.Core.Bool.{true}
use mathlib.Core.Path.{◌≡◌, refl, sym, ap, subst, ◌∙◌}
use native.Mathlib.Omega.{arith}
use Rattle.decide.specs.Test.{test}
use Rattle.decide.proofs.Cases.{by_cases, true_or_false}
use Rattle.rates.specs.Rates.{counted_of}
use Rattle.flow.specs.Leave.{left_of}
use Rattle.selection.specs.Select.{nothing_of}
use Rattle.selection.specs.declared.Pick as picks
use Rattle.selection.specs.Pick.{sight_of}
use Rattle.selection.proofs.Select.{nothing_exactly}
use Rattle.selection.proofs.Picking as selection
use Rattle.selection.specs.declared.Selected as picked
use Rattle.settings.specs.declared.Settings.{Settings}
use Rattle.fair.specs.declared.Fair.{Fair}
use Rattle.fair.specs.Count.{beyond, raised_of, count_of}
use Rattle.fair.proofs.Count.{other_origin}
use Rattle.station.specs.declared.Station.{Station}
use Rattle.station.specs.declared.Pick.{Pick}
use Rattle.station.specs.declared.Selected.{Selected}
use Rattle.station.specs.Range.{station_ok, StationOk}
use Rattle.station.specs.Answers.{given_of, chosen_of, origin_said, frame_said, rest_after}
use Rattle.station.specs.Calls.{select_of}
use Rattle.station.specs.Pick.{pick_of, seen_as_of}
use Rattle.station.proofs.Range.{facts_in_range}
use Rattle.station.proofs.Calls.{select_lost, select_done}

-- ---- the whole of a selection

-- what is picked, with the station that it leaves
abbrev pub leaving : Station → Pick → Selected
leaving st p =
    record {
      origin = p.origin;
      frame = p.frame;
      station = record { settings = st.settings; flow = left_of st.flow p.origin p.credits p.stage; fair = p.fair };
    }

-- What is chosen is what is picked, and the station that this leaves.
pub pick_leaves : (st : Station) → chosen_of st ≡ leaving st (pick_of st)
pick_leaves st = ap (given_of st) (selection.pick_leaves st.settings st.flow)

-- what is picked of the frames and credits, and counted
abbrev pub counting : Settings → Fair → picks.Pick → Pick
counting s f p =
    record { origin = p.origin; frame = p.frame; credits = p.credits; stage = p.stage; fair = count_of s f p.origin p.frame.mark p.frame.hops p.frame.size }

-- A station that looks like this one picks the same.
pub sight_picks : (st : Station) → pick_of (seen_as_of st.settings (sight_of st.flow) st.fair) ≡ pick_of st
sight_picks st = ap (counting st.settings st.fair) (selection.sight_picks st.settings st.flow)

-- ---- nothing

-- Where nothing is selected the station is as it was.
module _ (st : Station) where
  pub nothing_leaves : origin_said (select_of st) ≡ 0 → rest_after st (select_of st) ≡ st
  nothing_leaves e =
      by_cases (true_or_false (test (station_ok st)))
      (λ in_range_lem.
      let done = select_done st in_range_lem in
      let none = nothing_exactly st.settings st.flow in
      let given = none.whenever (none.only (sym (ap origin_said done) ∙ e)) in
      ap (rest_after st) (done ∙ ap (λ (r : picked.Selected). Ok (given_of st r)) given) ∙ uncounted)
      (λ lost. ap (rest_after st) (select_lost st lost))
    where
      uncounted : (given_of st (nothing_of st.flow)).station ≡ st
      uncounted = rw (other_origin st.fair st.settings 0 0 0 0 (λ e. omega arith) (λ e. omega arith))

-- ---- counting

module _ {st : Station} (ok : StationOk st) where
  -- The state and the hops are those of the selection.
  pub select_counts :
      let r = select_of st in
      (rest_after st r).fair ≡ count_of st.settings st.fair (origin_said r) (frame_said r).mark (frame_said r).hops (frame_said r).size
  select_counts = subst (λ (r : Result Selected Refused). (rest_after st r).fair ≡ count_of st.settings st.fair (origin_said r) (frame_said r).mark (frame_said r).hops (frame_said r).size) (sym (select_done st (facts_in_range st ok))) refl

  module _ (marked : (frame_said (select_of st)).mark ≡ 1) where
    counted : (origin : ℕ) → origin_said (select_of st) ≡ origin → (rest_after st (select_of st)).fair ≡ count_of st.settings st.fair origin 1 (frame_said (select_of st)).hops (frame_said (select_of st)).size
    counted origin e = select_counts ∙ rw (e, marked)

    -- An eligible stage frame adds its size to addRate, which stops at 2,147,483,647;
    pub stage_adds : origin_said (select_of st) ≡ 4 → (rest_after st (select_of st)).fair.counters.add ≡ min (st.fair.counters.add + (frame_said (select_of st)).size) 2147483647
    unfolding test raised_of counted_of
    stage_adds e = ap (λ (f : Fair). f.counters.add) (counted 4 e)

    -- a secondary one to fwRate;
    pub secondary_adds : origin_said (select_of st) ≡ 3 → (rest_after st (select_of st)).fair.counters.fw ≡ min (st.fair.counters.fw + (frame_said (select_of st)).size) 2147483647
    unfolding test raised_of counted_of
    secondary_adds e = ap (λ (f : Fair). f.counters.fw) (counted 3 e)

    -- also to the Congested twin if downstream congested and hops > hopsToCongestion.
    module _ (far : test (beyond st.fair (frame_said (select_of st)).hops) ≡ true) where
      pub stage_adds_twin : origin_said (select_of st) ≡ 4 → (rest_after st (select_of st)).fair.counters.addc ≡ min (st.fair.counters.addc + (frame_said (select_of st)).size) 2147483647
      unfolding test raised_of counted_of
      stage_adds_twin e = ap (λ (f : Fair). f.counters.addc) (counted 4 e) ∙ rw far

      pub secondary_adds_twin : origin_said (select_of st) ≡ 3 → (rest_after st (select_of st)).fair.counters.fwc ≡ min (st.fair.counters.fwc + (frame_said (select_of st)).size) 2147483647
      unfolding test raised_of counted_of
      secondary_adds_twin e = ap (λ (f : Fair). f.counters.fwc) (counted 3 e) ∙ rw far
