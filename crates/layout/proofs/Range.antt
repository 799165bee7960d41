-- The range of a station, asked part by part: one part out of range puts the station out of range, and where all others are in range the last one says.
-- Assumes nothing.
use Prim.Native.Nat.{ℕ}
use mathlib.Core.Bool.{Bool, true, false, not}
use mathlib.Core.List.{List}
use mathlib.Core.Path.{◌≡◌, refl}
use native.Mathlib.Omega.{arith}
use lib.ListN.{length, take}
use lib.Seq.{take_all}
use Rattle.decide.specs.Test.{Test, test, Holds, denied}
use Rattle.decide.proofs.Early as early
use Rattle.settings.specs.Range.{settings_ok}
use Rattle.flow.specs.declared.Line.{Line}
use Rattle.flow.specs.declared.Line.TheVariants.{Control, Primary, Secondary}
use Rattle.flow.specs.Parts.{queue_of}
use Rattle.flow.specs.Range.{flow_ok}
use Rattle.fair.specs.Range.{fair_ok}
use Rattle.station.specs.declared.Station.{Station}
use Rattle.station.specs.Range.{station_ok}
use Rattle.slots.specs.Slots.{queue_at}
use Rattle.layout.specs.Layout.{place_of, station_length, station_at}

-- a slice that is cut to its own length is as it was
pub whole_cut : (xs : List ℕ) → length xs ≡ station_length → take station_length xs ≡ xs
whole_cut xs e = take_all station_length xs (omega arith)

-- a queue stands at its place
pub queue_here : (xs : List ℕ) (l : Line) → queue_at xs (place_of l) ≡ queue_of (station_at xs).flow l
unfolding station_at
queue_here xs Control = refl
queue_here xs Primary = refl
queue_here xs Secondary = refl

module _ (st : Station) where
  -- a part of the range that does not hold
  pub part_out : (t : Test) {r : Bool} → (Holds (station_ok st) → Holds t) → r ≡ test t → not r ≡ true → false ≡ test (station_ok st)
  part_out t part e n = early.part_out (station_ok st) t part (denied t e n)

  -- all parts but this one, which is of the flow, hold
  pub last_says : (t : Test) → (Holds (flow_ok st.settings st.flow) → Holds t) → (Holds t → Holds (flow_ok st.settings st.flow))
      → Holds (settings_ok st.settings) → Holds (fair_ok st.settings st.fair) → test t ≡ test (station_ok st)
  unfolding station_ok
  last_says t part rest p f = early.last_says (station_ok st) t (λ h. part h.1.0) (λ h. (p, (rest h, f)))
