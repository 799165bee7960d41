-- Hearing, telling and showing, row by row: rows stand in the order of their ranks, so they may be tried one after the other.
-- Assumes nothing.
use Prim.Native.Nat.{ℕ}
use mathlib.Core.Bool.{true, false}
use mathlib.Core.List.{List}
use mathlib.Core.Path.{◌≡◌, refl}
use native.Mathlib.Omega.{arith}
use borrow.Author.Tests.{eq-eqb, ne_eqb}
use Rattle.decide.specs.Test.{test}
use Rattle.decide.specs.Hops.{in_ring}
use Rattle.decide.specs.Refusal.{refused_or}
use Rattle.decide.proofs.Cases.{by_cases, true_or_false}
use Rattle.decide.proofs.Given.{in_order_lem}
use Rattle.queue.specs.Frame.{frame_of}
use Rattle.advert.specs.declared.Advert.{Advert}
use Rattle.std.specs.Prelude.{Ok, Err}
use Rattle.decide.specs.declared.refusal.Refusal.{Refusal}
use Rattle.decide.specs.Number.{refusal_of}
use Rattle.advert.specs.Frame.{whole, advert_in, parsed_of}
use Rattle.advert.proofs.Parsing.{parsed_whole, parsed_not}
use Rattle.heard.specs.Range.{ttl_ok, hops_of}
use Rattle.heard.specs.Frame.{own_ringlet, own_address}
use Rattle.fair.specs.Advertise.{told_of}
use Rattle.station.specs.declared.Station.{Station}
use Rattle.station.specs.Range.{station_ok}
use Rattle.station.specs.Answers.{refused_of, done_of}
use Rattle.station.specs.Hear.{listen_faults, changed_of, listen_of, hear_faults, hear_of, tell_faults, not_told_of, tell_of}
use Rattle.station.specs.Show.{held_on, reading_of, show_faults, not_shown_of, show_of}

-- ---- what a parse found

module _ (xs : List ℕ) where
  -- a frame: the bytes are whole, and say what it says
  pub frame_found : (a : Advert) → parsed_of xs ≡ Ok a → (test (whole xs) ≡ true) × (a ≡ advert_in xs)
  frame_found a e =
      by_cases (true_or_false (test (whole xs)))
      (λ w. let p = parsed_whole xs w in (w, cc))
      (λ w. let p = parsed_not xs w in let z : ◌≡◌ {A = ℕ} 0 1 = cc in absurd (omega arith))

  -- a refusal: the bytes are not whole, and it is 2
  pub none_found : (r : Refusal) → parsed_of xs ≡ Err r → (test (whole xs) ≡ false) × (r ≡ refusal_of 2)
  none_found r e =
      by_cases (true_or_false (test (whole xs)))
      (λ w. let p = parsed_whole xs w in let z : ◌≡◌ {A = ℕ} 0 1 = cc in absurd (omega arith))
      (λ w. let p = parsed_not xs w in (w, cc))

-- ---- hear

module _ (st : Station) (xs : List ℕ) where
  -- 2 where the bytes are not a whole frame
  pub hear_not_whole : test (whole xs) ≡ false → hear_of st xs ≡ refused_of 2
  unfolding refused_or
  hear_not_whole e = rw (in_order_lem (hear_faults st xs) refl, e)

  -- else what the frame says decides
  pub hear_whole : test (whole xs) ≡ true → hear_of st xs ≡ listen_of st (advert_in xs)
  hear_whole e = rw (in_order_lem (hear_faults st xs) refl, in_order_lem (listen_faults st (advert_in xs)) refl, e)

module _ (st : Station) (a : Advert) where
  -- 2 where it bears the ringlet bit of the station
  pub listen_own : test (own_ringlet st.settings a) ≡ true → listen_of st a ≡ refused_of 2
  unfolding refused_or
  listen_own r = rw (in_order_lem (listen_faults st a) refl, r)

  module _ (r : test (own_ringlet st.settings a) ≡ false) where
    -- else 1 where the station is out of range
    pub listen_lost : test (station_ok st) ≡ false → listen_of st a ≡ refused_of 1
    unfolding refused_or
    listen_lost e = rw (in_order_lem (listen_faults st a) refl, r, e)

    module _ (e : test (station_ok st) ≡ true) where
      -- else 3 where the frame's ttl is not 193 to 255
      pub listen_far : test (ttl_ok a.ttl) ≡ false → listen_of st a ≡ refused_of 3
      unfolding refused_or
      listen_far t = rw (in_order_lem (listen_faults st a) refl, r, e, t)

      module _ (t : test (ttl_ok a.ttl) ≡ true) where
        -- else 13 where the hops that it tells of reach the number of stations or more
        pub listen_beyond : test (in_ring st.settings.site.stations (hops_of a.ttl)) ≡ false → listen_of st a ≡ refused_of 13
        unfolding refused_or
        listen_beyond g = rw (in_order_lem (listen_faults st a) refl, r, e, t, g)

        module _ (g : test (in_ring st.settings.site.stations (hops_of a.ttl)) ≡ true) where
          -- else 11 where it bears the station's own address
          pub listen_self : test (own_address st.settings a) ≡ true → listen_of st a ≡ refused_of 11
          unfolding refused_or
          listen_self o = rw (in_order_lem (listen_faults st a) refl, r, e, t, g, o)

          -- else it is heard
          pub listen_done : test (own_address st.settings a) ≡ false → listen_of st a ≡ done_of (changed_of st a)
          unfolding refused_or
          listen_done o = rw (in_order_lem (listen_faults st a) refl, r, e, t, g, o)

-- ---- tell and show

module _ (st : Station) where
  pub tell_lost : test (station_ok st) ≡ false → tell_of st ≡ not_told_of 1
  unfolding refused_or
  tell_lost e = rw (in_order_lem (tell_faults st) refl, e)

  pub tell_done : test (station_ok st) ≡ true → tell_of st ≡ Ok (told_of st.fair st.settings)
  unfolding refused_or
  tell_done e = rw (in_order_lem (tell_faults st) refl, e)

  pub show_lost : test (station_ok st) ≡ false → show_of st ≡ not_shown_of 1
  unfolding refused_or
  show_lost e = rw (in_order_lem (show_faults st) refl, e)

  pub show_done : test (station_ok st) ≡ true → show_of st ≡ Ok (reading_of st)
  unfolding refused_or
  show_done e = rw (in_order_lem (show_faults st) refl, e)

-- an empty stage, and one with a frame
pub held_none : (w : ℕ) → w ≡ 0 → held_on w ≡ record { frames = 0; bytes = 0 }
unfolding held_on
held_none w e = rw (eq-eqb w 0 e)

pub held_one : (w : ℕ) → (w ≡ 0 → ⊥) → held_on w ≡ record { frames = 1; bytes = (frame_of w).size }
unfolding held_on
held_one w n = rw (ne_eqb w 0 n)
