-- An output is never longer than the record; else it is measured.
-- Assumes nothing.
use mathlib.Core.Path.{sym, ap}
use native.Mathlib.Omega.{arith}
use borrow.Author.Tests.{le-leb}
use Prim.Native.Nat.{◌≤◌}
use lib.Dec.{leb}
use lib.ListN.{length}
use Rattle.roll.specs.Moved.{rolled_bytes}
use Rattle.roll.specs.Steps.{output_of}
use Rattle.roll.proofs.Moving.{rolling}
use Rattle.roll.proofs.fits_in.Goals as goal

pub returns-then-s-most : goal.returns-then-s-most
returns-then-s-most c =
    let r = rolling _ c.requires.limits (λ j. (c.type_inv.s j).fits) c.requires.under in
    let h : length (output_of (rolled_bytes c.args.s.now)) ≤ c.args.most = omega (arith, r.shorter) in
    sym (le-leb _ _ h)

pub measured-requires : goal.measured-requires
measured-requires c = c.requires

pub returns : goal.returns
returns c = ap (λ n. leb n c.args.most) c.measured.ensures
