-- `settings::Settings::in_range` meets its contract. One part out of range puts the settings out, and behind six in range the last two say.
-- Assumes nothing.
use native.Mathlib.Omega.{arith}
use Rattle.decide.specs.Test.{Test, test, ◌≤?◌, ◌∧?◌, said, denied}
use Rattle.settings.specs.declared.Settings.{Settings}
use Rattle.settings.specs.Range.{shapers_ok, queues_ok, fairness_ok, site_ok, settings_ok}
use Rattle.decide.proofs.Early.{part_out, last_says}
use Rattle.std.proofs.lemmas.Bool.{not_from_false, not_from_true}
use Rattle.settings.proofs.Settings.in_range.Goals as goal

pub returns-then-self-gt-MAX_HIGH : goal.returns-then-self-gt-MAX_HIGH
unfolding settings_ok
returns-then-self-gt-MAX_HIGH c =
    let a : Settings = c.args.self in
    part_out (settings_ok a) (a.address.high ≤? 65535) (λ h. h.0) (λ h. omega (arith, h, c.if-self-gt-MAX_HIGH.true))

pub returns-then-self-gt-MAX_RINGLET : goal.returns-then-self-gt-MAX_RINGLET
unfolding settings_ok
returns-then-self-gt-MAX_RINGLET c =
    let a : Settings = c.args.self in
    part_out (settings_ok a) (a.ringlet ≤? 1) (λ h. h.1.0) (λ h. omega (arith, h, c.if-self-gt-MAX_RINGLET.true))

pub returns-then-mtu-lt-MIN_MTU : goal.returns-then-mtu-lt-MIN_MTU
unfolding settings_ok
returns-then-mtu-lt-MIN_MTU c =
    let a : Settings = c.args.self in
    part_out (settings_ok a) (64 ≤? a.mtu) (λ h. h.1.1.0) (λ h. omega (arith, h, c.if-mtu-lt-MIN_MTU.true))

pub returns-then-mtu-gt-MAX_MTU : goal.returns-then-mtu-gt-MAX_MTU
unfolding settings_ok
returns-then-mtu-gt-MAX_MTU c =
    let a : Settings = c.args.self in
    part_out (settings_ok a) (a.mtu ≤? 9216) (λ h. h.1.1.1.0) (λ h. omega (arith, h, c.if-mtu-gt-MAX_MTU.true))

pub returns-then-not-in_range : goal.returns-then-not-in_range
unfolding settings_ok
returns-then-not-in_range c =
    let a : Settings = c.args.self in
    let t : Test = shapers_ok a.mtu a.shapers in
    part_out (settings_ok a) t (λ h. h.1.1.1.1.0) (denied t c.in_range.ensures (not_from_false c.in_range.result c.if-not-in_range.true))

pub returns-then-not-in_range-2 : goal.returns-then-not-in_range-2
unfolding settings_ok
returns-then-not-in_range-2 c =
    let a : Settings = c.args.self in
    let t : Test = queues_ok a.mtu a.queues in
    part_out (settings_ok a) t (λ h. h.1.1.1.1.1.0) (denied t c.in_range-2.ensures (not_from_false c.in_range-2.result c.if-not-in_range-2.true))

pub returns : goal.returns
unfolding test settings_ok
returns c =
    let a : Settings = c.args.self in
    rw (c.in_range-4.ensures, c.in_range-3.ensures)
    (last_says (settings_ok a) (fairness_ok a.fairness ∧? site_ok a.site) (λ h. h.1.1.1.1.1.1) (λ h. (
      c.if-self-gt-MAX_HIGH.false,
      (
        c.if-self-gt-MAX_RINGLET.false,
        (
          c.if-mtu-lt-MIN_MTU.false,
          (
            c.if-mtu-gt-MAX_MTU.false,
            (
              said (shapers_ok a.mtu a.shapers) c.in_range.ensures (not_from_true c.in_range.result c.if-not-in_range.false),
              (said (queues_ok a.mtu a.queues) c.in_range-2.ensures (not_from_true c.in_range-2.result c.if-not-in_range-2.false), h),
            ),
          ),
        ),
      ),
    )))
