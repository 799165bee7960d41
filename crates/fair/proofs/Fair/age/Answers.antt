-- `fair::Fair::age` meets its contract: smoothing, of the counters before they age, then local congestion and localFairRate, then what follows from them.
-- Assumes nothing.
use mathlib.Core.Path.{◌≡◌, sym, subst}
use native.Mathlib.Omega.{arith}
use Rattle.settings.proofs.Range.{coef_bounds}
use Rattle.fair.specs.Range.{StoredOk}
use Rattle.fair.specs.Age.{new_smoothed}
use Rattle.fair.proofs.Age.{smooth_in_range, sums_fit}
use Rattle.fair.proofs.Fair.age.Goals as goal

pub smooth-smoothed-requires : goal.smooth-smoothed-requires
smooth-smoothed-requires c =
    let (settings, ok) = c.requires in
    let a = c.args in
    let lp = coef_bounds a.settings.fairness.lp settings.of_fairness.lp_one_of in
    sums_fit a.settings.fairness.lp a.self.smoothed a.self.counters (omega arith) lp.1 ok.of_smoothed ok.of_counters

-- the stored numbers are by the counters before they age
pub adjust-adjusted-requires : goal.adjust-adjusted-requires
adjust-adjusted-requires c =
    let a = c.args in
    let ok = c.requires.1 in
    let smooths : c.smooth-smoothed.result ≡ new_smoothed a.self a.settings = c.smooth-smoothed.ensures in
    subst (StoredOk a.settings.fairness.lp) (sym smooths)
    (smooth_in_range a.settings.fairness.lp a.self.smoothed a.self.counters ok.of_smoothed ok.of_counters)

pub returns : goal.returns
returns c =
    let a = c.args in
    let smooths : c.smooth-smoothed.result ≡ new_smoothed a.self a.settings = c.smooth-smoothed.ensures in
    rw (c.new_decided.ensures, c.adjust-adjusted.ensures, smooths, c.lower-aged.ensures)
