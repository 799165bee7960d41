-- Ranges of a station's settings, and the default coefficients.
-- Assumes nothing.
use Rattle.std.specs.Prelude.{ℕ, ◌+◌, ◌*◌, ◌≤◌, List, [], ◌∷◌, ◌⊎◌, ◌≡◌}
use Rattle.decide.specs.Test.{Test, ◌≤?◌, ◌≡?◌, ◌∧?◌, ◌∨?◌}
use Rattle.shaper.specs.declared.Limits.{Limits}
use Rattle.shaper.specs.Limits.{limits_ok}
use Rattle.settings.specs.declared.Bucket.{Bucket}
use Rattle.settings.specs.declared.Shapers.{Shapers}
use Rattle.settings.specs.declared.Queues.{Queues}
use Rattle.settings.specs.declared.Fairness.{Fairness}
use Rattle.settings.specs.declared.Site.{Site}
use Rattle.settings.specs.declared.Address.{Address}
use Rattle.settings.specs.declared.Settings.{Settings}

-- what bounds a shaper's credit
abbrev pub limits_of : ℕ → Bucket → Limits
limits_of mtu b = record { mtu = mtu; lo = b.lo; hi = b.hi }

-- Each shaper: loLimit mtu to 65,536, hiLimit loLimit+1 to 1,048,576 (these with the mtu's own range), amount per tick 0 to 65,535.
abbrev pub bucket_ok : ℕ → Bucket → Test
bucket_ok mtu b = limits_ok (limits_of mtu b) ∧? b.amount ≤? 65535

-- Five: M (control), A, B, C, D (downstream).
abbrev pub shapers_ok : ℕ → Shapers → Test
shapers_ok mtu s = bucket_ok mtu s.m ∧? bucket_ok mtu s.a ∧? bucket_ok mtu s.b ∧? bucket_ok mtu s.c ∧? bucket_ok mtu s.d

-- a capacity from the least one to 1,048,576 bytes
abbrev pub capacity_ok : ℕ → ℕ → Test
capacity_ok least bytes = least ≤? bytes ∧? bytes ≤? 1048576

-- Primary and control queue mtu to 1,048,576 bytes, secondary 2 mtu to 1,048,576, low threshold 0 to its capacity.
abbrev pub queues_ok : ℕ → Queues → Test
queues_ok mtu q =
    capacity_ok mtu q.primary ∧? capacity_ok mtu q.control
    ∧? capacity_ok (2 * mtu) q.secondary ∧? q.threshold ≤? q.secondary

-- x is the first value or one of the others
abbrev pub one_of : ℕ → ℕ → List ℕ → Test
one_of x v [] = x ≡? v
one_of x v (w ∷ ws) = x ≡? v ∨? one_of x w ws

-- ageCoef 1, 2, 4, 8 or 16
abbrev pub age_ok : ℕ → Test
age_ok x = one_of x 1 (2 ∷ 4 ∷ 8 ∷ 16 ∷ [])

-- lpCoef and rampUp 16, 32, 64, 128, 256 or 512; rampDn has rampUp's values (document 02, A7)
abbrev pub coef_ok : ℕ → Test
coef_ok x = one_of x 16 (32 ∷ 64 ∷ 128 ∷ 256 ∷ 512 ∷ [])

-- Weight 1 to 255, rate unit 1 to 1,024, ticks per interval 1 to 10,000, unreservedRate 1 to 2,147,483,647.
abbrev pub fairness_ok : Fairness → Test
fairness_ok f =
    1 ≤? f.weight ∧? f.weight ≤? 255
    ∧? 1 ≤? f.unit ∧? f.unit ≤? 1024
    ∧? 1 ≤? f.ticks ∧? f.ticks ≤? 10000
    ∧? 1 ≤? f.unreserved ∧? f.unreserved ≤? 2147483647
    ∧? age_ok f.age ∧? coef_ok f.lp ∧? coef_ok f.ramp

-- The number of stations, 2 to 63 (document 02, A5). The method, 0 aggressive or 1 conservative; a fairness round trip, 1 to 1,000 intervals; rampDn has
-- rampUp's values (A7): whichever method is chosen.
abbrev pub site_ok : Site → Test
site_ok s = 2 ≤? s.stations ∧? s.stations ≤? 63 ∧? s.method ≤? 1 ∧? 1 ≤? s.trip ∧? s.trip ≤? 1000 ∧? coef_ok s.down

-- the aggressive method is chosen; in range the other is the conservative one
abbrev pub aggressive : Site → Test
aggressive s = s.method ≡? 0

-- Own address of 48 bits, own ringlet 0 or 1, mtu 64 to 9,216, and the settings of the parts.
unfoldable pub settings_ok : Settings → Test
settings_ok s =
    s.address.high ≤? 65535 ∧? s.ringlet ≤? 1
    ∧? 64 ≤? s.mtu ∧? s.mtu ≤? 9216
    ∧? shapers_ok s.mtu s.shapers ∧? queues_ok s.mtu s.queues ∧? fairness_ok s.fairness ∧? site_ok s.site

-- ageCoef default 4; lpCoef and rampUp default 64
abbrev pub usual_of : ℕ → ℕ → ℕ → ℕ → Fairness
usual_of weight unit ticks rate =
    record { weight = weight; unit = unit; ticks = ticks; unreserved = rate; age = 4; lp = 64; ramp = 64 }

-- an address as one number
abbrev pub address_of : Address → ℕ
address_of a = a.high * 4294967296 + a.low

-- ---- the same as named facts

pub record BucketOk (mtu : ℕ) (s : Bucket) : Type 0 where
  pub lo_least : mtu ≤ s.lo
  pub lo_most : s.lo ≤ 65536
  pub hi_least : s.lo + 1 ≤ s.hi
  pub hi_most : s.hi ≤ 1048576
  pub amount_most : s.amount ≤ 65535

pub record QueuesOk (mtu : ℕ) (q : Queues) : Type 0 where
  pub primary_least : mtu ≤ q.primary
  pub primary_most : q.primary ≤ 1048576
  pub control_least : mtu ≤ q.control
  pub control_most : q.control ≤ 1048576
  pub secondary_least : 2 * mtu ≤ q.secondary
  pub secondary_most : q.secondary ≤ 1048576
  pub threshold_most : q.threshold ≤ q.secondary

abbrev pub AgeCoef : ℕ → Type 0
AgeCoef x = (x ≡ 1) ⊎ ((x ≡ 2) ⊎ ((x ≡ 4) ⊎ ((x ≡ 8) ⊎ (x ≡ 16))))

abbrev pub Coef : ℕ → Type 0
Coef x = (x ≡ 16) ⊎ ((x ≡ 32) ⊎ ((x ≡ 64) ⊎ ((x ≡ 128) ⊎ ((x ≡ 256) ⊎ (x ≡ 512)))))

pub record FairnessOk (f : Fairness) : Type 0 where
  pub weight_least : 1 ≤ f.weight
  pub weight_most : f.weight ≤ 255
  pub unit_least : 1 ≤ f.unit
  pub unit_most : f.unit ≤ 1024
  pub ticks_least : 1 ≤ f.ticks
  pub ticks_most : f.ticks ≤ 10000
  pub unreserved_least : 1 ≤ f.unreserved
  pub unreserved_most : f.unreserved ≤ 2147483647
  pub age_one_of : AgeCoef f.age
  pub lp_one_of : Coef f.lp
  pub ramp_one_of : Coef f.ramp

pub record SiteOk (s : Site) : Type 0 where
  pub stations_least : 2 ≤ s.stations
  pub stations_most : s.stations ≤ 63
  pub method_most : s.method ≤ 1
  pub trip_least : 1 ≤ s.trip
  pub trip_most : s.trip ≤ 1000
  pub down_one_of : Coef s.down

pub record SettingsOk (s : Settings) : Type 0 where
  pub high_most : s.address.high ≤ 65535
  pub ringlet_most : s.ringlet ≤ 1
  pub mtu_least : 64 ≤ s.mtu
  pub mtu_most : s.mtu ≤ 9216
  pub of_m : BucketOk s.mtu s.shapers.m
  pub of_a : BucketOk s.mtu s.shapers.a
  pub of_b : BucketOk s.mtu s.shapers.b
  pub of_c : BucketOk s.mtu s.shapers.c
  pub of_d : BucketOk s.mtu s.shapers.d
  pub of_queues : QueuesOk s.mtu s.queues
  pub of_fairness : FairnessOk s.fairness
  pub of_site : SiteOk s.site
