-- The range test says exactly the named facts, both ways, part by part.
-- Assumes nothing.
use Prim.Native.Nat.{ℕ, ◌≤◌, ◌<◌}
use mathlib.Core.Bool.{true}
use mathlib.Core.List.{List, [], ◌∷◌}
use mathlib.Core.Logic.{inl, inr}
use mathlib.Core.Path.{◌≡◌, refl}
use native.Mathlib.Omega.{arith}
use Rattle.decide.specs.Test.{test, Holds, facts, passes}
use Rattle.shaper.specs.Limits.{limits_ok}
use Rattle.settings.specs.declared.Address.{Address}
use Rattle.settings.specs.declared.Bucket.{Bucket}
use Rattle.settings.specs.declared.Queues.{Queues}
use Rattle.settings.specs.declared.Fairness.{Fairness}
use Rattle.settings.specs.declared.Site.{Site}
use Rattle.settings.specs.declared.Settings.{Settings}
use Rattle.settings.specs.Range.{limits_of, bucket_ok, queues_ok, one_of, fairness_ok, site_ok, settings_ok, usual_of, address_of}
use Rattle.settings.specs.Range.{BucketOk, QueuesOk, AgeCoef, Coef, FairnessOk, SiteOk, SettingsOk}

-- ---- one shaper

module _ (mtu : ℕ) (s : Bucket) where
  bucket_facts : Holds (bucket_ok mtu s) → BucketOk mtu s
  bucket_facts h = record { lo_least = omega arith; lo_most = omega arith; hi_least = omega arith; hi_most = omega arith; amount_most = omega arith }

  -- a shaper of settings in range has limits in range
  pub limits_hold : 64 ≤ mtu → mtu ≤ 9216 → BucketOk mtu s → Holds (limits_ok (limits_of mtu s))
  limits_hold l m ok = omega arith

  bucket_holds : 64 ≤ mtu → mtu ≤ 9216 → BucketOk mtu s → Holds (bucket_ok mtu s)
  bucket_holds l m ok = (limits_hold l m ok, ok.amount_most)

-- ---- queues, fairness and site

module _ (mtu : ℕ) (q : Queues) where
  queues_facts : Holds (queues_ok mtu q) → QueuesOk mtu q
  queues_facts h =
      record {
        primary_least = omega arith;
        primary_most = omega arith;
        control_least = omega arith;
        control_most = omega arith;
        secondary_least = omega arith;
        secondary_most = omega arith;
        threshold_most = omega arith;
      }

  queues_hold : QueuesOk mtu q → Holds (queues_ok mtu q)
  queues_hold ok = omega arith

module _ (f : Fairness) where
  fairness_facts : Holds (fairness_ok f) → FairnessOk f
  fairness_facts (w, (w', (u, (u', (t, (t', (r, (r', (a, (l, p)))))))))) =
      record {
        weight_least = w;
        weight_most = w';
        unit_least = u;
        unit_most = u';
        ticks_least = t;
        ticks_most = t';
        unreserved_least = r;
        unreserved_most = r';
        age_one_of = a;
        lp_one_of = l;
        ramp_one_of = p;
      }

  fairness_hold : FairnessOk f → Holds (fairness_ok f)
  fairness_hold ok = (
    ok.weight_least,
    (
      ok.weight_most,
      (
        ok.unit_least,
        (
          ok.unit_most,
          (
            ok.ticks_least,
            (
              ok.ticks_most,
              (ok.unreserved_least, (ok.unreserved_most, (ok.age_one_of, (ok.lp_one_of, ok.ramp_one_of)))),
            ),
          ),
        ),
      ),
    ),
  )

module _ (s : Site) where
  site_facts : Holds (site_ok s) → SiteOk s
  site_facts (l, (m, (k, (t, (t', d))))) = record { stations_least = l; stations_most = m; method_most = k; trip_least = t; trip_most = t'; down_one_of = d }

  site_hold : SiteOk s → Holds (site_ok s)
  site_hold ok = (ok.stations_least, (ok.stations_most, (ok.method_most, (ok.trip_least, (ok.trip_most, ok.down_one_of)))))

-- ---- the settings

module _ (s : Settings) where
  -- settings in range: the facts
  pub in_range_facts : test (settings_ok s) ≡ true → SettingsOk s
  unfolding settings_ok
  in_range_facts e =
      let (h, (r, (l, (m, ((sm, (sa, (sb, (sc, sd)))), (q, (f, o))))))) = facts (settings_ok s) e in
      record {
        high_most = h;
        ringlet_most = r;
        mtu_least = l;
        mtu_most = m;
        of_m = bucket_facts s.mtu s.shapers.m sm;
        of_a = bucket_facts s.mtu s.shapers.a sa;
        of_b = bucket_facts s.mtu s.shapers.b sb;
        of_c = bucket_facts s.mtu s.shapers.c sc;
        of_d = bucket_facts s.mtu s.shapers.d sd;
        of_queues = queues_facts s.mtu s.queues q;
        of_fairness = fairness_facts s.fairness f;
        of_site = site_facts s.site o;
      }

  -- the facts: settings in range
  pub facts_in_range : SettingsOk s → test (settings_ok s) ≡ true
  unfolding settings_ok
  facts_in_range ok =
      let b : (x : Bucket) → BucketOk s.mtu x → Holds (bucket_ok s.mtu x) = λ x. bucket_holds s.mtu x ok.mtu_least ok.mtu_most in
      passes
      (settings_ok s) (
        ok.high_most,
        (
          ok.ringlet_most,
          (
            ok.mtu_least,
            (
              ok.mtu_most,
              (
                (b s.shapers.m ok.of_m, (b s.shapers.a ok.of_a, (b s.shapers.b ok.of_b, (b s.shapers.c ok.of_c, b s.shapers.d ok.of_d)))),
                (
                  queues_hold s.mtu s.queues ok.of_queues,
                  (fairness_hold s.fairness ok.of_fairness, site_hold s.site ok.of_site),
                ),
              ),
            ),
          ),
        ),
      )

-- ---- the values of coefficients

abbrev Within : ℕ → ℕ → List ℕ → Type 0
Within lo hi [] = Unit {0}
Within lo hi (v ∷ vs) = (lo ≤ v) × (v ≤ hi) × Within lo hi vs

within : (lo hi x v : ℕ) (vs : List ℕ) → Within lo hi (v ∷ vs) → Holds (one_of x v vs) → (lo ≤ x) × (x ≤ hi)
within lo hi x v [] w e = omega arith
within lo hi x v (u ∷ us) w (inl e) = omega arith
within lo hi x v (u ∷ us) w (inr h) = within lo hi x u us w.2 h

pub age_bounds : (x : ℕ) → AgeCoef x → (1 ≤ x) × (x ≤ 16)
age_bounds x h = within 1 16 x 1 (2 ∷ 4 ∷ 8 ∷ 16 ∷ []) (omega arith) h

pub coef_bounds : (x : ℕ) → Coef x → (16 ≤ x) × (x ≤ 512)
coef_bounds x h = within 16 512 x 16 (32 ∷ 64 ∷ 128 ∷ 256 ∷ 512 ∷ []) (omega arith) h

-- ---- defaults and addresses

-- the default coefficients are in range
pub usual_in_range : (weight unit ticks rate : ℕ) → 1 ≤ weight → weight ≤ 255 → 1 ≤ unit → unit ≤ 1024 → 1 ≤ ticks → ticks ≤ 10000 →
    1 ≤ rate → rate ≤ 2147483647 → FairnessOk (usual_of weight unit ticks rate)
usual_in_range weight unit ticks rate w w' u u' t t' r r' =
    record {
      weight_least = w;
      weight_most = w';
      unit_least = u;
      unit_most = u';
      ticks_least = t;
      ticks_most = t';
      unreserved_least = r;
      unreserved_most = r';
      age_one_of = inr (inr (inl refl));
      lp_one_of = inr (inr (inl refl));
      ramp_one_of = inr (inr (inl refl));
    }

-- an address has 48 bits exactly where its high word has 16
pub address_exact : (a : Address) → a.low < 4294967296 →
    (a.high ≤ 65535 → address_of a < 281474976710656) × (address_of a < 281474976710656 → a.high ≤ 65535)
address_exact a l = ((λ h. omega arith), (λ h. omega arith))
