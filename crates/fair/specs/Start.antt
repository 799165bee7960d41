-- The fairness state of a station that has just started. Assumes nothing.
use Rattle.rates.specs.Rates.{own_rate_of}
use Rattle.settings.specs.declared.Settings.{Settings}
use Rattle.heard.specs.Frame.{none_received}
use Rattle.fair.specs.Four.{Four, Stored}
use Rattle.fair.specs.declared.Fair.{Fair}

abbrev pub none_counted : Four
none_counted = record { add = 0; fw = 0; addc = 0; fwc = 0 }

abbrev pub none_stored : Stored
none_stored = record { add = 0; fw = 0; addc = 0; fwc = 0 }

-- Counters and smoothed rates start at 0, own rate by its formula, other rates at unreservedRate, with no congestion, received ttl 255, received
-- address and rate 0; no interval has gone by since a change.
abbrev pub start_of : Settings → Fair
start_of s = record {
  counters = none_counted;
  smoothed = none_stored;
  decided = record {
    local = s.fairness.unreserved;
    allowed = s.fairness.unreserved;
    allowedc = s.fairness.unreserved;
    own = own_rate_of s.fairness.unreserved s.fairness.weight s.fairness.unit;
    congested = 0;
  };
  since = 0;
  received = none_received;
}
