-- `settings::Shapers::in_range` meets its contract. One shaper out of range puts all out, and behind four in range the last says.
-- Assumes nothing.
use mathlib.Core.Path.{◌∙◌}
use Rattle.decide.specs.Test.{Test, said, denied}
use Rattle.settings.specs.declared.Bucket.{Bucket}
use Rattle.settings.specs.Range.{bucket_ok, shapers_ok}
use Rattle.decide.proofs.Early.{part_out, last_says}
use Rattle.std.proofs.lemmas.Bool.{not_from_false, not_from_true}
use Rattle.settings.proofs.Shapers.in_range.Goals as goal

pub returns-then-not-in_range : goal.returns-then-not-in_range
returns-then-not-in_range c =
    let a : _ = c.args in
    let t : Test = bucket_ok a.mtu a.self.m in
    part_out (shapers_ok a.mtu a.self) t (λ h. h.0) (denied t c.in_range.ensures (not_from_false c.in_range.result c.if-not-in_range.true))

pub returns-then-not-in_range-2 : goal.returns-then-not-in_range-2
returns-then-not-in_range-2 c =
    let a : _ = c.args in
    let t : Test = bucket_ok a.mtu a.self.a in
    part_out (shapers_ok a.mtu a.self) t (λ h. h.1.0) (denied t c.in_range-2.ensures (not_from_false c.in_range-2.result c.if-not-in_range-2.true))

pub returns-then-not-in_range-3 : goal.returns-then-not-in_range-3
returns-then-not-in_range-3 c =
    let a : _ = c.args in
    let t : Test = bucket_ok a.mtu a.self.b in
    part_out (shapers_ok a.mtu a.self) t (λ h. h.1.1.0) (denied t c.in_range-3.ensures (not_from_false c.in_range-3.result c.if-not-in_range-3.true))

pub returns-then-not-in_range-4 : goal.returns-then-not-in_range-4
returns-then-not-in_range-4 c =
    let a : _ = c.args in
    let t : Test = bucket_ok a.mtu a.self.c in
    part_out (shapers_ok a.mtu a.self) t (λ h. h.1.1.1.0) (denied t c.in_range-4.ensures (not_from_false c.in_range-4.result c.if-not-in_range-4.true))

pub returns : goal.returns
returns c =
    let a : _ = c.args in
    let t : Bucket → Test = bucket_ok a.mtu in
    c.in_range-5.ensures
    ∙ last_says (shapers_ok a.mtu a.self) (t a.self.d) (λ h. h.1.1.1.1) (λ h. (
      said (t a.self.m) c.in_range.ensures (not_from_true c.in_range.result c.if-not-in_range.false),
      (
        said (t a.self.a) c.in_range-2.ensures (not_from_true c.in_range-2.result c.if-not-in_range-2.false),
        (
          said (t a.self.b) c.in_range-3.ensures (not_from_true c.in_range-3.result c.if-not-in_range-3.false),
          (said (t a.self.c) c.in_range-4.ensures (not_from_true c.in_range-4.result c.if-not-in_range-4.false), h),
        ),
      ),
    ))
