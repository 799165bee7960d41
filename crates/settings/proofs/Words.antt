-- Settings and their bytes say the same. Each group of words is read back where it stands, and stands where it was read; the settings
-- follow from their groups.
-- Assumes nothing.
use Prim.Native.Nat.{ℕ, ◌+◌, ◌*◌, ◌≤◌, ◌<◌}
use mathlib.Core.List.{List}
use mathlib.Core.Path.{◌≡◌, refl, sym, ◌∙◌}
use native.Mathlib.Nat.{add-zero}
use native.Mathlib.Omega.{arith}
use lib.ListN.{length}
use Rattle.wire.specs.Wire.{le, digits, Bytes}
use Rattle.wire.specs.Parts.{Part, laid_out, nth, offset}
use Rattle.wire.proofs.Puts.{put_whole}
use Rattle.wire.proofs.Places.{Stands, stands_whole, put_stands}
use Rattle.wire.proofs.Numbers.{digits_stand, digits_bytes, le_bound}
use Rattle.wire.proofs.Laid.{le_part, part_stands}
use Rattle.wire.proofs.Placed.{placed_stand, laid_out_bytes}
use Rattle.settings.proofs.Range.{age_bounds, coef_bounds}
use Rattle.settings.specs.declared.Address.{Address}
use Rattle.settings.specs.declared.Bucket.{Bucket}
use Rattle.settings.specs.declared.Shapers.{Shapers}
use Rattle.settings.specs.declared.Queues.{Queues}
use Rattle.settings.specs.declared.Fairness.{Fairness}
use Rattle.settings.specs.declared.Site.{Site}
use Rattle.settings.specs.declared.Settings.{Settings}
use Rattle.settings.specs.Range.{BucketOk, QueuesOk, FairnessOk, SiteOk, SettingsOk}
use Rattle.settings.specs.Words.{address_length, bucket_length, shapers_length, queues_length, fairness_length, site_length, settings_length}
use Rattle.settings.specs.Words.{ringlet_place, mtu_place, shapers_place, queues_place, fairness_place, site_place}
use Rattle.settings.specs.Words.{address_parts, bucket_parts, shapers_parts, queues_parts, fairness_parts, site_parts, settings_parts}
use Rattle.settings.specs.Words.{address_bytes, bucket_bytes, shapers_bytes, queues_bytes, fairness_bytes, site_bytes, settings_bytes, settings_length_lem}
use Rattle.settings.specs.Words.{address_at, bucket_at, shapers_at, queues_at, fairness_at, site_at, settings_at}
use Rattle.settings.specs.Words.{AddressFits, BucketFits, ShapersFit, QueuesFit, FairnessFits, SiteFits, SettingsFit}

-- ---- read where they stand

-- the k-th word behind the first, and the first
module _ (ps : List Part) (xs : List ℕ) (at : ℕ) (s : Stands xs at (laid_out ps)) where
  word_back : (k v : ℕ) → (nth ps k).bytes ≡ digits 4 v → v < 4294967296 → le 4 xs (at + offset ps k) ≡ v
  word_back k v e h = le_part ps k 4 v xs at e h s

  first_back : (v : ℕ) → offset ps 0 ≡ 0 → (nth ps 0).bytes ≡ digits 4 v → v < 4294967296 → le 4 xs at ≡ v
  first_back v z e h = rw (z, add-zero) at (word_back 0 v e h)

  first_stands : offset ps 0 ≡ 0 → Stands xs at (nth ps 0).bytes
  first_stands z = rw (z, add-zero) at (part_stands ps 0 xs at s)

module _ (xs : List ℕ) (at : ℕ) where
  address_back : (v : Address) → AddressFits v → Stands xs at (address_bytes v) → address_at xs at ≡ v
  address_back v f s =
      let ps : List Part = address_parts v in
      rw (first_back ps xs at s v.high refl refl f.0, word_back ps xs at s 1 v.low refl f.1)

  bucket_back : (v : Bucket) → BucketFits v → Stands xs at (bucket_bytes v) → bucket_at xs at ≡ v
  bucket_back v f s =
      let ps : List Part = bucket_parts v in
      rw (first_back ps xs at s v.lo refl refl f.0, word_back ps xs at s 1 v.hi refl f.1, word_back ps xs at s 2 v.amount refl f.2)

  queues_back : (v : Queues) → QueuesFit v → Stands xs at (queues_bytes v) → queues_at xs at ≡ v
  queues_back v f s =
      let ps : List Part = queues_parts v in
      let w : (k v : ℕ) → (nth ps k).bytes ≡ digits 4 v → v < 4294967296 → le 4 xs (at + offset ps k) ≡ v = word_back ps xs at s in
      rw (first_back ps xs at s v.control refl refl f.0, w 1 v.primary refl f.1, w 2 v.secondary refl f.2, w 3 v.threshold refl f.3)

  fairness_back : (v : Fairness) → FairnessFits v → Stands xs at (fairness_bytes v) → fairness_at xs at ≡ v
  fairness_back v f s =
      let ps : List Part = fairness_parts v in
      let w : (k v : ℕ) → (nth ps k).bytes ≡ digits 4 v → v < 4294967296 → le 4 xs (at + offset ps k) ≡ v = word_back ps xs at s in
      rw (
        first_back ps xs at s v.weight refl refl f.0,
        w 1 v.unit refl f.1,
        w 2 v.ticks refl f.2,
        w 3 v.unreserved refl f.3,
        w 4 v.age refl f.4,
        w 5 v.lp refl f.5,
        w 6 v.ramp refl f.6,
      )

  site_back : (v : Site) → SiteFits v → Stands xs at (site_bytes v) → site_at xs at ≡ v
  site_back v f s =
      let ps : List Part = site_parts v in
      let w : (k v : ℕ) → (nth ps k).bytes ≡ digits 4 v → v < 4294967296 → le 4 xs (at + offset ps k) ≡ v = word_back ps xs at s in
      rw (first_back ps xs at s v.stations refl refl f.0, w 1 v.method refl f.1, w 2 v.trip refl f.2, w 3 v.down refl f.3)

shapers_back : (xs : List ℕ) (at : ℕ) (v : Shapers) → ShapersFit v → Stands xs at (shapers_bytes v) → shapers_at xs at ≡ v
shapers_back xs at v f s =
    let ps : List Part = shapers_parts v in
    let p : (k : ℕ) → Stands xs (at + offset ps k) (nth ps k).bytes = λ k. part_stands ps k xs at s in
    rw (
      bucket_back xs at v.m f.0 (first_stands ps xs at s refl),
      bucket_back xs (at + 12) v.a f.1 (p 1),
      bucket_back xs (at + 24) v.b f.2 (p 2),
      bucket_back xs (at + 36) v.c f.3 (p 3),
      bucket_back xs (at + 48) v.d f.4 (p 4),
    )

-- settings are read where their bytes stand
pub settings_back : (xs : List ℕ) (at : ℕ) (v : Settings) → SettingsFit v → Stands xs at (settings_bytes v) → settings_at xs at ≡ v
unfolding settings_bytes settings_at
settings_back xs at v f s =
    let ps : List Part = settings_parts v in
    let p : (k : ℕ) → Stands xs (at + offset ps k) (nth ps k).bytes = λ k. part_stands ps k xs at s in
    rw (
      address_back xs at v.address f.of_address (first_stands ps xs at s refl),
      word_back ps xs at s 1 v.ringlet refl f.of_ringlet,
      word_back ps xs at s 2 v.mtu refl f.of_mtu,
      shapers_back xs (at + shapers_place) v.shapers f.of_shapers (p 3),
      queues_back xs (at + queues_place) v.queues f.of_queues (p 4),
      fairness_back xs (at + fairness_place) v.fairness f.of_fairness (p 5),
      site_back xs (at + site_place) v.site f.of_site (p 6),
    )

-- ---- standing where they are read

module _ (xs : List ℕ) (b : Bytes xs) where
  -- the word at a place stands there
  w : (at : ℕ) → Stands xs at (digits 4 (le 4 xs at))
  w at = digits_stand 4 xs at b

  address_stands : (at : ℕ) → at + address_length ≤ length xs → Stands xs at (address_bytes (address_at xs at))
  address_stands at h = placed_stand (address_parts (address_at xs at)) xs at h (w at, (w (at + 4), tt))

  bucket_stands : (at : ℕ) → at + bucket_length ≤ length xs → Stands xs at (bucket_bytes (bucket_at xs at))
  bucket_stands at h = placed_stand (bucket_parts (bucket_at xs at)) xs at h (w at, (w (at + 4), (w (at + 8), tt)))

  shapers_stand : (at : ℕ) → at + shapers_length ≤ length xs → Stands xs at (shapers_bytes (shapers_at xs at))
  shapers_stand at h =
      placed_stand (shapers_parts (shapers_at xs at)) xs at h (
        bucket_stands at (omega arith),
        (
          bucket_stands (at + 12) (omega arith),
          (
            bucket_stands (at + 24) (omega arith),
            (bucket_stands (at + 36) (omega arith), (bucket_stands (at + 48) (omega arith), tt)),
          ),
        ),
      )

  queues_stand : (at : ℕ) → at + queues_length ≤ length xs → Stands xs at (queues_bytes (queues_at xs at))
  queues_stand at h = placed_stand (queues_parts (queues_at xs at)) xs at h (w at, (w (at + 4), (w (at + 8), (w (at + 12), tt))))

  fairness_stands : (at : ℕ) → at + fairness_length ≤ length xs → Stands xs at (fairness_bytes (fairness_at xs at))
  fairness_stands at h =
      placed_stand (fairness_parts (fairness_at xs at)) xs at h
      (w at, (w (at + 4), (w (at + 8), (w (at + 12), (w (at + 16), (w (at + 20), (w (at + 24), tt)))))))

  site_stands : (at : ℕ) → at + site_length ≤ length xs → Stands xs at (site_bytes (site_at xs at))
  site_stands at h = placed_stand (site_parts (site_at xs at)) xs at h (w at, (w (at + 4), (w (at + 8), (w (at + 12), tt))))

  -- the bytes of the settings that are read at a place stand there
  pub settings_stand : (at : ℕ) → at + settings_length ≤ length xs → Stands xs at (settings_bytes (settings_at xs at))
  unfolding settings_bytes settings_at
  settings_stand at h =
      placed_stand (settings_parts (settings_at xs at)) xs at h (
        address_stands at (omega arith),
        (
          w (at + ringlet_place),
          (
            w (at + mtu_place),
            (
              shapers_stand (at + shapers_place) (omega arith),
              (
                queues_stand (at + queues_place) (omega arith),
                (fairness_stands (at + fairness_place) (omega arith), (site_stands (at + site_place) (omega arith), tt)),
              ),
            ),
          ),
        ),
      )

-- ---- what is written are bytes

bucket_bytes_lem : (v : Bucket) → Bytes (bucket_bytes v)
bucket_bytes_lem v = laid_out_bytes (bucket_parts v) (digits_bytes 4 v.lo, (digits_bytes 4 v.hi, (digits_bytes 4 v.amount, tt)))

pub settings_bytes_lem : (v : Settings) → Bytes (settings_bytes v)
unfolding settings_bytes
settings_bytes_lem v =
    let d : (n : ℕ) → Bytes (digits 4 n) = digits_bytes 4 in
    let s : Shapers = v.shapers in
    let q : Queues = v.queues in
    let f : Fairness = v.fairness in
    let t : Site = v.site in
    laid_out_bytes (settings_parts v) (
      laid_out_bytes (address_parts v.address) (d v.address.high, (d v.address.low, tt)),
      (
        d v.ringlet,
        (
          d v.mtu,
          (
            laid_out_bytes (shapers_parts s) (bucket_bytes_lem s.m, (bucket_bytes_lem s.a, (bucket_bytes_lem s.b, (bucket_bytes_lem s.c, (bucket_bytes_lem s.d, tt))))),
            (
              laid_out_bytes (queues_parts q) (d q.control, (d q.primary, (d q.secondary, (d q.threshold, tt)))),
              (
                laid_out_bytes (fairness_parts f)
                    (d f.weight, (d f.unit, (d f.ticks, (d f.unreserved, (d f.age, (d f.lp, (d f.ramp, tt))))))),
                (laid_out_bytes (site_parts t) (d t.stations, (d t.method, (d t.trip, (d t.down, tt)))), tt),
              ),
            ),
          ),
        ),
      ),
    )

-- what is read from bytes are numbers of 32 bits
pub settings_fit : (xs : List ℕ) (at : ℕ) → Bytes xs → SettingsFit (settings_at xs at)
unfolding settings_at
settings_fit xs at b =
    let l : (k : ℕ) → le 4 xs k < 4294967296 = λ k. le_bound 4 xs k b in
    let t : (k : ℕ) → BucketFits (bucket_at xs k) = λ k. (l k, l (k + 4), l (k + 8)) in
    record {
      of_address = (l at, l (at + 4));
      of_ringlet = l (at + ringlet_place);
      of_mtu = l (at + mtu_place);
      of_shapers = let s : ℕ = at + shapers_place in (t s, t (s + 12), t (s + 24), t (s + 36), t (s + 48));
      of_queues = let q : ℕ = at + queues_place in (l q, l (q + 4), l (q + 8), l (q + 12));
      of_fairness = let f : ℕ = at + fairness_place in (l f, l (f + 4), l (f + 8), l (f + 12), l (f + 16), l (f + 20), l (f + 24));
      of_site = let t : ℕ = at + site_place in (l t, l (t + 4), l (t + 8), l (t + 12));
    }

-- and so are settings in range, with an address of 48 bits
pub in_range_fit : (v : Settings) → SettingsOk v → v.address.low < 4294967296 → SettingsFit v
in_range_fit v ok l =
    let q : QueuesOk v.mtu v.queues = ok.of_queues in
    let f : FairnessOk v.fairness = ok.of_fairness in
    record {
      of_address = omega (arith, ok.high_most);
      of_ringlet = omega (arith, ok.ringlet_most);
      of_mtu = omega (arith, ok.mtu_most);
      of_shapers =
          (bucket_fits ok.of_m, bucket_fits ok.of_a, bucket_fits ok.of_b, bucket_fits ok.of_c, bucket_fits ok.of_d);
      of_queues = omega arith;
      of_fairness =
          omega (arith, age_bounds v.fairness.age f.age_one_of, coef_bounds v.fairness.lp f.lp_one_of, coef_bounds v.fairness.ramp f.ramp_one_of);
      of_site = let t : SiteOk v.site = ok.of_site in omega (arith, t.stations_most, t.method_most, t.trip_most, coef_bounds v.site.down t.down_one_of);
    }
  where
    bucket_fits : {mtu : ℕ} {b : Bucket} → BucketOk mtu b → BucketFits b
    bucket_fits ok = omega arith

-- ---- both round trips

-- settings, written and read, are the settings
pub settings_of_bytes : (v : Settings) → SettingsFit v → settings_at (settings_bytes v) 0 ≡ v
settings_of_bytes v f = settings_back (settings_bytes v) 0 v f (stands_whole (settings_bytes v))

-- bytes of that length, read and written, are the bytes
pub bytes_of_settings : (xs : List ℕ) → Bytes xs → length xs ≡ settings_length → settings_bytes (settings_at xs 0) ≡ xs
bytes_of_settings xs b e =
    let n : length (settings_bytes (settings_at xs 0)) ≡ settings_length = settings_length_lem (settings_at xs 0) in
    sym (put_whole xs (settings_bytes (settings_at xs 0)) (omega arith))
    ∙ put_stands xs (settings_bytes (settings_at xs 0)) 0 (omega arith) (settings_stand xs b 0 (omega arith))

-- ---- the table of words

-- word k of a list of bytes
abbrev pub word_at : List ℕ → ℕ → ℕ
word_at xs k = le 4 xs (4 * k)

abbrev shaper_of : (ℕ → ℕ) → ℕ → Bucket
shaper_of w k = record { lo = w k; hi = w (k + 1); amount = w (k + 2) }

-- Words 0 and 1 are own address (high 16 bits, low 32 bits), 2 own ringlet, 3 mtu; 4, 7, 10, 13 and 16 begin shaper M, A, B, C and D
-- (loLimit, hiLimit, amount); 19 control queue, 20 primary, 21 secondary, 22 low threshold; 23 weight, 24 rate unit, 25 ticks per interval,
-- 26 unreservedRate; 27, 28, 29 ageCoef, lpCoef, rampUp; 30 the number of stations; 31 the method, 32 a round trip in intervals, 33 rampDn.
abbrev pub settings_of : (ℕ → ℕ) → Settings
settings_of w =
    record {
      address = record { high = w 0; low = w 1 };
      ringlet = w 2;
      mtu = w 3;
      shapers = record { m = shaper_of w 4; a = shaper_of w 7; b = shaper_of w 10; c = shaper_of w 13; d = shaper_of w 16 };
      queues = record { control = w 19; primary = w 20; secondary = w 21; threshold = w 22 };
      fairness = record { weight = w 23; unit = w 24; ticks = w 25; unreserved = w 26; age = w 27; lp = w 28; ramp = w 29 };
      site = record { stations = w 30; method = w 31; trip = w 32; down = w 33 };
    }

pub by_words : (xs : List ℕ) → settings_at xs 0 ≡ settings_of (word_at xs)
unfolding settings_at
by_words xs = refl
