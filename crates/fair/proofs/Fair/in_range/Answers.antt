-- `fair::Fair::in_range` meets its contract: five tests, joined from the left, are their conjunction: `chain`.
-- Assumes nothing.
use mathlib.Core.List.{[], ◌∷◌}
use Rattle.decide.specs.Test.{test, ◌<?◌}
use Rattle.decide.proofs.Chain.{chain}
use Rattle.heard.specs.Range.{received_ok}
use Rattle.fair.specs.Range.{four_ok, stored_ok, decided_ok, fair_ok}
use Rattle.fair.proofs.Fair.in_range.Goals as goal

pub returns : goal.returns
unfolding fair_ok test
returns c = let f = c.args.self in
    let s = c.args.settings in
    rw (c.in_range-4.ensures, c.in_range-3.ensures, c.in_range-2.ensures, c.in_range.ensures) (chain (four_ok f.counters) (stored_ok s.fairness.lp f.smoothed ∷ decided_ok s f.decided ∷ (f.since <? s.site.trip) ∷ received_ok s.site.stations f.received ∷ []))
