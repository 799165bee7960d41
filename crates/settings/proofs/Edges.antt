-- Each range of the paper at its ends and just past them, computed over the words that a host gives.
-- Assumes nothing.
use Prim.Native.Nat.{ℕ}
use mathlib.Core.Bool.{Bool, true, false, ◌||◌}
use mathlib.Core.List.{List, [], ◌∷◌, ◌++◌}
use mathlib.Core.Path.{◌≡◌, refl}
use lib.ListN.{get_or, set}
use Rattle.decide.specs.Test.{test}
use Rattle.settings.specs.Range.{settings_ok}
use Rattle.settings.proofs.Words.{settings_of}

-- whether the settings of these words are in range
unfoldable pub ok : List ℕ → Bool
ok ws = test (settings_ok (settings_of (λ k. get_or ws k 0)))

-- a shaper's three words, for each of the five
abbrev five : List ℕ → List ℕ
five ws = ws ++ ws ++ ws ++ ws ++ ws

-- The words of settings in range: own address, own ringlet, mtu; loLimit, hiLimit and amount of each shaper; control, primary and secondary queue, low
-- threshold; weight, rate unit, ticks, unreservedRate; ageCoef, lpCoef, rampUp; stations; method, round trip, rampDn. Each at its least,
abbrev pub least : List ℕ
least =
    (0 ∷ 0 ∷ 0 ∷ 64 ∷ [])
    ++ five (64 ∷ 65 ∷ 0 ∷ [])
    ++ (64 ∷ 64 ∷ 128 ∷ 0 ∷ [])
    ++ (1 ∷ 1 ∷ 1 ∷ 1 ∷ 1 ∷ 16 ∷ 16 ∷ 2 ∷ 0 ∷ 1 ∷ 16 ∷ [])

-- each at its most,
abbrev pub most : List ℕ
most =
    (65535 ∷ 4294967295 ∷ 1 ∷ 9216 ∷ [])
    ++ five (65536 ∷ 1048576 ∷ 65535 ∷ [])
    ++ (1048576 ∷ 1048576 ∷ 1048576 ∷ 1048576 ∷ [])
    ++ (255 ∷ 1024 ∷ 10000 ∷ 2147483647 ∷ 16 ∷ 512 ∷ 512 ∷ 63 ∷ 1 ∷ 1000 ∷ 512 ∷ [])

-- and between, with the default coefficients
abbrev pub usual : List ℕ
usual =
    (0 ∷ 0 ∷ 1 ∷ 1500 ∷ [])
    ++ five (2000 ∷ 9000 ∷ 300 ∷ [])
    ++ (100000 ∷ 100000 ∷ 200000 ∷ 50000 ∷ [])
    ++ (1 ∷ 4 ∷ 100 ∷ 1000000 ∷ 4 ∷ 64 ∷ 64 ∷ 6 ∷ 1 ∷ 40 ∷ 64 ∷ [])

-- the words of what each shaper has of its own, and of control and primary queue, which have one range
abbrev pub lo : List ℕ
lo = 4 ∷ 7 ∷ 10 ∷ 13 ∷ 16 ∷ []

abbrev pub hi : List ℕ
hi = 5 ∷ 8 ∷ 11 ∷ 14 ∷ 17 ∷ []

abbrev pub amount : List ℕ
amount = 6 ∷ 9 ∷ 12 ∷ 15 ∷ 18 ∷ []

abbrev pub queue : List ℕ
queue = 19 ∷ 20 ∷ []

-- whether the settings are in range with any one of these words, alone, set to v
abbrev pub any_at : List ℕ → List ℕ → ℕ → Bool
any_at ws [] v = false
any_at ws (k ∷ ks) v = ok (set ws k v) || any_at ws ks v

-- each of these words, alone, takes the settings out of range at v
abbrev pub Outside : List ℕ → List ℕ → ℕ → Type 0
Outside ws ks v = any_at ws ks v ≡ false

pub record Edges : Type 0 where
  pub at_least : ok least ≡ true
  pub at_most : ok most ≡ true
  pub at_usual : ok usual ≡ true
  -- an address of more than 48 bits
  pub high_65536 : Outside least (0 ∷ []) 65536
  pub ringlet_2 : Outside least (2 ∷ []) 2
  pub mtu_63 : Outside least (3 ∷ []) 63
  pub mtu_9217 : Outside most (3 ∷ []) 9217
  pub lo_below_mtu : Outside least lo 63
  pub lo_65537 : Outside most lo 65537
  pub hi_at_lo : Outside least hi 64
  pub hi_1048577 : Outside most hi 1048577
  pub amount_65536 : Outside most amount 65536
  pub queue_below_mtu : Outside least queue 63
  pub queue_1048577 : Outside most queue 1048577
  pub secondary_below_2_mtu : Outside least (21 ∷ []) 127
  pub secondary_1048577 : Outside most (21 ∷ []) 1048577
  pub threshold_above : Outside least (22 ∷ []) 129
  pub weight_0 : Outside least (23 ∷ []) 0
  pub weight_256 : Outside most (23 ∷ []) 256
  pub unit_0 : Outside least (24 ∷ []) 0
  pub unit_1025 : Outside most (24 ∷ []) 1025
  pub ticks_0 : Outside least (25 ∷ []) 0
  pub ticks_10001 : Outside most (25 ∷ []) 10001
  pub unreserved_0 : Outside least (26 ∷ []) 0
  pub unreserved_2147483648 : Outside most (26 ∷ []) 2147483648
  -- 0 is no default
  pub age_0 : Outside least (27 ∷ []) 0
  pub age_3 : Outside least (27 ∷ []) 3
  pub age_32 : Outside most (27 ∷ []) 32
  pub lp_0 : Outside least (28 ∷ []) 0
  pub lp_8 : Outside least (28 ∷ []) 8
  pub lp_1024 : Outside most (28 ∷ []) 1024
  pub ramp_8 : Outside least (29 ∷ []) 8
  pub ramp_100 : Outside usual (29 ∷ []) 100
  pub ramp_1024 : Outside most (29 ∷ []) 1024
  -- no ring
  pub stations_0 : Outside least (30 ∷ []) 0
  pub stations_1 : Outside least (30 ∷ []) 1
  pub stations_64 : Outside most (30 ∷ []) 64
  -- neither method
  pub method_2 : Outside least (31 ∷ []) 2
  -- under either method, the aggressive one at the least and the conservative one at the most
  pub trip_0 : (Outside least (32 ∷ []) 0) × (Outside most (32 ∷ []) 0)
  pub trip_1001 : (Outside least (32 ∷ []) 1001) × (Outside most (32 ∷ []) 1001)
  pub down_0 : (Outside least (33 ∷ []) 0) × (Outside most (33 ∷ []) 0)
  pub down_8 : (Outside least (33 ∷ []) 8) × (Outside most (33 ∷ []) 8)
  pub down_100 : Outside usual (33 ∷ []) 100
  pub down_1024 : (Outside least (33 ∷ []) 1024) × (Outside most (33 ∷ []) 1024)

pub edges : Edges
unfolding ok test settings_ok
edges =
    record {
      at_least = refl;
      at_most = refl;
      at_usual = refl;
      high_65536 = refl;
      ringlet_2 = refl;
      mtu_63 = refl;
      mtu_9217 = refl;
      lo_below_mtu = refl;
      lo_65537 = refl;
      hi_at_lo = refl;
      hi_1048577 = refl;
      amount_65536 = refl;
      queue_below_mtu = refl;
      queue_1048577 = refl;
      secondary_below_2_mtu = refl;
      secondary_1048577 = refl;
      threshold_above = refl;
      weight_0 = refl;
      weight_256 = refl;
      unit_0 = refl;
      unit_1025 = refl;
      ticks_0 = refl;
      ticks_10001 = refl;
      unreserved_0 = refl;
      unreserved_2147483648 = refl;
      age_0 = refl;
      age_3 = refl;
      age_32 = refl;
      lp_0 = refl;
      lp_8 = refl;
      lp_1024 = refl;
      ramp_8 = refl;
      ramp_100 = refl;
      ramp_1024 = refl;
      stations_0 = refl;
      stations_1 = refl;
      stations_64 = refl;
      method_2 = refl;
      trip_0 = (refl, refl);
      trip_1001 = (refl, refl);
      down_0 = (refl, refl);
      down_8 = (refl, refl);
      down_100 = refl;
      down_1024 = (refl, refl);
    }
