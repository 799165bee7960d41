-- The calls, row by row: rows stand in the order of their ranks, so they may be tried one after the other.
-- Assumes nothing.
use Rattle.std.specs.Prelude.{Ok}
use Prim.Native.Nat.{ℕ}
use mathlib.Core.Bool.{true, false}
use mathlib.Core.Path.{◌≡◌, refl}
use lib.Dec.{eqb}
use Rattle.decide.specs.Test.{test}
use Rattle.decide.specs.Refusal.{refused_or}
use Rattle.decide.proofs.Given.{in_order_lem}
use Rattle.settings.specs.declared.Settings.{Settings}
use Rattle.settings.specs.Range.{settings_ok}
use Rattle.station.specs.declared.Station.{Station}
use Rattle.station.specs.Range.{station_ok}
use Rattle.station.specs.Answers.{refused_of, done_of, chosen_of, not_chosen_of}
use Rattle.station.specs.Calls.{start_faults, fresh_of, start_of, flags_ok, tick_faults, ticked_of, tick_of, select_faults, select_of, age_faults, aged_of, age_of}

-- ---- start

module _ (st : Station) (s : Settings) where
  -- 1 where a setting is outside its range
  pub start_refused_lem : test (settings_ok s) ≡ false → start_of st s ≡ refused_of 1
  unfolding refused_or
  start_refused_lem e = rw (in_order_lem (start_faults s) refl, e)

  pub start_done : test (settings_ok s) ≡ true → start_of st s ≡ done_of (fresh_of s)
  unfolding refused_or
  start_done e = rw (in_order_lem (start_faults s) refl, e)

module _ (st : Station) where
  -- ---- tick

  module _ (a b c : ℕ) where
    -- 1 where the station is out of range
    pub tick_lost : test (station_ok st) ≡ false → tick_of st a b c ≡ refused_of 1
    unfolding refused_or
    tick_lost e = rw (in_order_lem (tick_faults st a b c) refl, e)

    -- else 3 where a flag is neither 0 nor 1
    pub tick_coded : test (station_ok st) ≡ true → test (flags_ok a b c) ≡ false → tick_of st a b c ≡ refused_of 3
    unfolding refused_or
    tick_coded e f = rw (in_order_lem (tick_faults st a b c) refl, e, f)

    -- else each shaper has its tick
    pub tick_done : test (station_ok st) ≡ true → test (flags_ok a b c) ≡ true → tick_of st a b c ≡ done_of (ticked_of st (eqb a 1) (eqb b 1) (eqb c 1))
    unfolding refused_or
    tick_done e f = rw (in_order_lem (tick_faults st a b c) refl, e, f)

  -- ---- select

  pub select_lost : test (station_ok st) ≡ false → select_of st ≡ not_chosen_of 1
  unfolding refused_or
  select_lost e = rw (in_order_lem (select_faults st) refl, e)

  pub select_done : test (station_ok st) ≡ true → select_of st ≡ Ok (chosen_of st)
  unfolding refused_or
  select_done e = rw (in_order_lem (select_faults st) refl, e)

  -- ---- age

  pub age_lost : test (station_ok st) ≡ false → age_of st ≡ refused_of 1
  unfolding refused_or
  age_lost e = rw (in_order_lem (age_faults st) refl, e)

  pub age_done : test (station_ok st) ≡ true → age_of st ≡ done_of (aged_of st)
  unfolding refused_or
  age_done e = rw (in_order_lem (age_faults st) refl, e)
