-- Kind or number differs, by the kinds and numbers that were asked for.
-- Assumes nothing.
use mathlib.Core.Path.{◌≡◌}
use Rattle.shaper.specs.Kind.{kind_of, number_of}
use Rattle.apart.specs.Told.{differ}
use Rattle.apart.proofs.together.differs.Goals as goal

pub returns : goal.returns
unfolding differ
returns c =
    let a = c.args in
    let k : c.kind.result ≡ kind_of a.e = c.kind.ensures in
    let l : c.kind-2.result ≡ kind_of a.f = c.kind-2.ensures in
    let m : c.number.result ≡ number_of a.e = c.number.ensures in
    let n : c.number-2.result ≡ number_of a.f = c.number-2.ensures in
    rw (k, l, m, n)
