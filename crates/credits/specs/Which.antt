-- The five shapers: which settings and which credit are whose, and what events make of the credits.
-- Assumes nothing.
use Rattle.std.specs.Prelude.{ℕ, Bool, true, false, cond, ◌&&◌, ◌||◌, List, [], ◌∷◌, eqb}
use Rattle.shaper.specs.declared.Limits.{Limits}
use Rattle.shaper.specs.declared.Event.{Event}
use Rattle.shaper.specs.declared.Event.TheVariants.{Send}
use Rattle.shaper.specs.Credit.{permits, end_credit}
use Rattle.settings.specs.declared.Bucket.{Bucket}
use Rattle.settings.specs.declared.Settings.{Settings}
use Rattle.settings.specs.Range.{limits_of}
use Rattle.credits.specs.declared.Credits.{Credits}
use Rattle.credits.specs.declared.Which.{Which}
use Rattle.credits.specs.declared.Which.TheVariants.{M, A, B, C, D}

-- Five: M (control), A, B, C, D (downstream).
abbrev pub bucket_of : Settings → Which → Bucket
bucket_of s M = s.shapers.m
bucket_of s A = s.shapers.a
bucket_of s B = s.shapers.b
bucket_of s C = s.shapers.c
bucket_of s D = s.shapers.d

abbrev pub credit_of : Credits → Which → ℕ
credit_of c M = c.m
credit_of c A = c.a
credit_of c B = c.b
credit_of c C = c.c
credit_of c D = c.d

-- what bounds the credit of one
abbrev pub limits_for : Settings → Which → Limits
limits_for s w = limits_of s.mtu (bucket_of s w)

abbrev pub with_credit : Credits → Which → ℕ → Credits
with_credit c M x = record { m = x; a = c.a; b = c.b; c = c.c; d = c.d }
with_credit c A x = record { m = c.m; a = x; b = c.b; c = c.c; d = c.d }
with_credit c B x = record { m = c.m; a = c.a; b = x; c = c.c; d = c.d }
with_credit c C x = record { m = c.m; a = c.a; b = c.b; c = x; d = c.d }
with_credit c D x = record { m = c.m; a = c.a; b = c.b; c = c.c; d = x }

-- ---- permissions and charges

-- A send is permitted exactly when credit > loLimit.
abbrev pub permits_of : Settings → Credits → Which → Bool
permits_of s c w = permits (credit_of c w) (bucket_of s w).lo

-- each of these permits
abbrev pub permits_all : Settings → Credits → List Which → Bool
permits_all s c [] = true
permits_all s c (w ∷ ws) = permits_of s c w && permits_all s c ws

abbrev pub number_of : Which → ℕ
number_of M = 0
number_of A = 1
number_of B = 2
number_of C = 3
number_of D = 4

abbrev pub member : Which → List Which → Bool
member v [] = false
member v (w ∷ ws) = eqb (number_of v) (number_of w) || member v ws

-- a charge to some shapers, as each sees it: those have one send of this size, the others nothing
abbrev pub sends : List Which → ℕ → Which → List Event
sends ws z v = cond (member v ws) (Send z ∷ []) []

-- the credits when each shaper has seen its events
abbrev pub fed : Settings → Credits → (Which → List Event) → Credits
fed s c events =
    record {
      m = end_credit (limits_for s M) c.m (events M);
      a = end_credit (limits_for s A) c.a (events A);
      b = end_credit (limits_for s B) c.b (events B);
      c = end_credit (limits_for s C) c.c (events C);
      d = end_credit (limits_for s D) c.d (events D);
    }
