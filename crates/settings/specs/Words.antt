-- The settings as words of 4 bytes, least byte first.
-- Assumes nothing.
use Rattle.std.specs.Prelude.{ℕ, ◌+◌, ◌*◌, ◌<◌, List, [], ◌∷◌, ◌≡◌, length}
use Rattle.wire.specs.Wire.{le}
use Rattle.wire.specs.Parts.{Part, number, group, laid_out, length_laid_out}
use Rattle.settings.specs.declared.Address.{Address}
use Rattle.settings.specs.declared.Bucket.{Bucket}
use Rattle.settings.specs.declared.Shapers.{Shapers}
use Rattle.settings.specs.declared.Queues.{Queues}
use Rattle.settings.specs.declared.Fairness.{Fairness}
use Rattle.settings.specs.declared.Site.{Site}
use Rattle.settings.specs.declared.Settings.{Settings}

-- one number of the settings
abbrev pub word : ℕ → Part
word v = number 4 v

-- ---- how many bytes each group of words is

abbrev pub address_length : ℕ
address_length = 2 * 4

abbrev pub bucket_length : ℕ
bucket_length = 3 * 4

abbrev pub shapers_length : ℕ
shapers_length = 5 * bucket_length

abbrev pub queues_length : ℕ
queues_length = 4 * 4

abbrev pub fairness_length : ℕ
fairness_length = 7 * 4

abbrev pub site_length : ℕ
site_length = 4 * 4

-- ---- where each part of the settings stands: behind the one before it

abbrev pub ringlet_place : ℕ
ringlet_place = address_length

abbrev pub mtu_place : ℕ
mtu_place = ringlet_place + 4

abbrev pub shapers_place : ℕ
shapers_place = mtu_place + 4

abbrev pub queues_place : ℕ
queues_place = shapers_place + shapers_length

abbrev pub fairness_place : ℕ
fairness_place = queues_place + queues_length

abbrev pub site_place : ℕ
site_place = fairness_place + fairness_length

-- how many bytes the settings are
abbrev pub settings_length : ℕ
settings_length = site_place + site_length

-- ---- what is written: the words, one after another

abbrev pub address_parts : Address → List Part
address_parts a = word a.high ∷ word a.low ∷ []

abbrev pub bucket_parts : Bucket → List Part
bucket_parts b = word b.lo ∷ word b.hi ∷ word b.amount ∷ []

abbrev pub shapers_parts : Shapers → List Part
shapers_parts s =
    group (bucket_parts s.m)
    ∷ group (bucket_parts s.a)
    ∷ group (bucket_parts s.b)
    ∷ group (bucket_parts s.c)
    ∷ group (bucket_parts s.d)
    ∷ []

abbrev pub queues_parts : Queues → List Part
queues_parts q = word q.control ∷ word q.primary ∷ word q.secondary ∷ word q.threshold ∷ []

abbrev pub fairness_parts : Fairness → List Part
fairness_parts f =
    word f.weight
    ∷ word f.unit
    ∷ word f.ticks
    ∷ word f.unreserved
    ∷ word f.age
    ∷ word f.lp
    ∷ word f.ramp
    ∷ []

abbrev pub site_parts : Site → List Part
site_parts s = word s.stations ∷ word s.method ∷ word s.trip ∷ word s.down ∷ []

abbrev pub settings_parts : Settings → List Part
settings_parts s =
    group (address_parts s.address)
    ∷ word s.ringlet
    ∷ word s.mtu
    ∷ group (shapers_parts s.shapers)
    ∷ group (queues_parts s.queues)
    ∷ group (fairness_parts s.fairness)
    ∷ group (site_parts s.site)
    ∷ []

abbrev pub address_bytes : Address → List ℕ
address_bytes a = laid_out (address_parts a)

abbrev pub bucket_bytes : Bucket → List ℕ
bucket_bytes b = laid_out (bucket_parts b)

abbrev pub shapers_bytes : Shapers → List ℕ
shapers_bytes s = laid_out (shapers_parts s)

abbrev pub queues_bytes : Queues → List ℕ
queues_bytes q = laid_out (queues_parts q)

abbrev pub fairness_bytes : Fairness → List ℕ
fairness_bytes f = laid_out (fairness_parts f)

abbrev pub site_bytes : Site → List ℕ
site_bytes s = laid_out (site_parts s)

unfoldable pub settings_bytes : Settings → List ℕ
settings_bytes s = laid_out (settings_parts s)

pub settings_length_lem : (s : Settings) → length (settings_bytes s) ≡ settings_length
unfolding settings_bytes
settings_length_lem s = length_laid_out (settings_parts s)

-- the settings as one part of a longer layout
abbrev pub settings_part : Settings → Part
settings_part s = record { size = settings_length; bytes = settings_bytes s; sized = settings_length_lem s }

-- ---- what is read: each number at its place

abbrev pub address_at : List ℕ → ℕ → Address
address_at xs at = record { high = le 4 xs at; low = le 4 xs (at + 4) }

abbrev pub bucket_at : List ℕ → ℕ → Bucket
bucket_at xs at = record { lo = le 4 xs at; hi = le 4 xs (at + 4); amount = le 4 xs (at + 8) }

abbrev pub shapers_at : List ℕ → ℕ → Shapers
shapers_at xs at =
    record {
      m = bucket_at xs at;
      a = bucket_at xs (at + 12);
      b = bucket_at xs (at + 24);
      c = bucket_at xs (at + 36);
      d = bucket_at xs (at + 48);
    }

abbrev pub queues_at : List ℕ → ℕ → Queues
queues_at xs at =
    record { control = le 4 xs at; primary = le 4 xs (at + 4); secondary = le 4 xs (at + 8); threshold = le 4 xs (at + 12) }

abbrev pub fairness_at : List ℕ → ℕ → Fairness
fairness_at xs at =
    record {
      weight = le 4 xs at;
      unit = le 4 xs (at + 4);
      ticks = le 4 xs (at + 8);
      unreserved = le 4 xs (at + 12);
      age = le 4 xs (at + 16);
      lp = le 4 xs (at + 20);
      ramp = le 4 xs (at + 24);
    }

abbrev pub site_at : List ℕ → ℕ → Site
site_at xs at = record { stations = le 4 xs at; method = le 4 xs (at + 4); trip = le 4 xs (at + 8); down = le 4 xs (at + 12) }

unfoldable pub settings_at : List ℕ → ℕ → Settings
settings_at xs at =
    record {
      address = address_at xs at;
      ringlet = le 4 xs (at + ringlet_place);
      mtu = le 4 xs (at + mtu_place);
      shapers = shapers_at xs (at + shapers_place);
      queues = queues_at xs (at + queues_place);
      fairness = fairness_at xs (at + fairness_place);
      site = site_at xs (at + site_place);
    }

-- ---- numbers of 32 bits

abbrev pub Fits32 : ℕ → Type 0
Fits32 v = v < 4294967296

abbrev pub AddressFits : Address → Type 0
AddressFits a = Fits32 a.high × Fits32 a.low

abbrev pub BucketFits : Bucket → Type 0
BucketFits b = Fits32 b.lo × Fits32 b.hi × Fits32 b.amount

abbrev pub ShapersFit : Shapers → Type 0
ShapersFit s = BucketFits s.m × BucketFits s.a × BucketFits s.b × BucketFits s.c × BucketFits s.d

abbrev pub QueuesFit : Queues → Type 0
QueuesFit q = Fits32 q.control × Fits32 q.primary × Fits32 q.secondary × Fits32 q.threshold

abbrev pub FairnessFits : Fairness → Type 0
FairnessFits f =
    Fits32 f.weight × Fits32 f.unit × Fits32 f.ticks × Fits32 f.unreserved
    × Fits32 f.age × Fits32 f.lp × Fits32 f.ramp

abbrev pub SiteFits : Site → Type 0
SiteFits s = Fits32 s.stations × Fits32 s.method × Fits32 s.trip × Fits32 s.down

pub record SettingsFit (s : Settings) : Type 0 where
  pub of_address : AddressFits s.address
  pub of_ringlet : Fits32 s.ringlet
  pub of_mtu : Fits32 s.mtu
  pub of_shapers : ShapersFit s.shapers
  pub of_queues : QueuesFit s.queues
  pub of_fairness : FairnessFits s.fairness
  pub of_site : SiteFits s.site
