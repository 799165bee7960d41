-- Counting the frames that are selected, and the test of refusal 7. Assumes nothing.
use Rattle.std.specs.Prelude.{ℕ, ◌+◌, Bool, cond}
use Rattle.decide.specs.Test.{Test, test, ◌<?◌, ◌≡?◌, ◌∧?◌}
use Rattle.rates.specs.Rates.{counted_of}
use Rattle.settings.specs.declared.Settings.{Settings}
use Rattle.heard.specs.Range.{hops_of}
use Rattle.fair.specs.Four.{Four}
use Rattle.fair.specs.declared.Fair.{Fair}

-- of the received ttl
abbrev pub hops_to_congestion : Fair → ℕ
hops_to_congestion f = hops_of f.received.ttl

-- downstream congested and hops > hopsToCongestion
abbrev pub beyond : Fair → ℕ → Test
beyond f hops = f.received.downstream ≡? 1 ∧? hops_to_congestion f <? hops

-- If downstream congested, an eligible client frame with hops > hopsToCongestion gets 7 when addRateCongested + size > allowedRateCongested.
abbrev pub over : Fair → ℕ → ℕ → Test
over f size hops = beyond f hops ∧? f.decided.allowedc <? f.counters.addc + size

-- an eligible stage frame (origin 4), and a secondary one (origin 3)
abbrev pub from_stage : ℕ → ℕ → Test
from_stage origin mark = origin ≡? 4 ∧? mark ≡? 1

abbrev pub from_secondary : ℕ → ℕ → Test
from_secondary origin mark = origin ≡? 3 ∧? mark ≡? 1

-- a counter to which the size is added where the frame counts for it. Counters stop at 2,147,483,647.
unfoldable pub raised_of : Bool → ℕ → ℕ → ℕ
raised_of counts counter size = cond counts (counted_of counter size) counter

-- An eligible stage frame adds its size to addRate, a secondary one to fwRate; also to the Congested twin if downstream congested and
-- hops > hopsToCongestion.
abbrev pub counters_of : Settings → Fair → ℕ → ℕ → ℕ → ℕ → Four
counters_of s f origin mark hops size = record {
  add = raised_of (test (from_stage origin mark)) f.counters.add size;
  fw = raised_of (test (from_secondary origin mark)) f.counters.fw size;
  addc = raised_of (test (from_stage origin mark ∧? beyond f hops)) f.counters.addc size;
  fwc = raised_of (test (from_secondary origin mark ∧? beyond f hops)) f.counters.fwc size;
}

-- the state with other counters
abbrev pub with_counters : Four → Fair → Fair
with_counters c f = record { counters = c; smoothed = f.smoothed; decided = f.decided; since = f.since; received = f.received }

-- under these settings
abbrev pub count_of : Settings → Fair → ℕ → ℕ → ℕ → ℕ → Fair
count_of s f origin mark hops size = with_counters (counters_of s f origin mark hops size) f
