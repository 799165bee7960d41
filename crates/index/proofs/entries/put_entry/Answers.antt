-- Each put stands behind the one before, so that all of them are the parts of an entry.
-- Assumes nothing.
use mathlib.Core.Path.{◌≡◌}
use native.Mathlib.Omega.{arith}
use native.Mathlib.Nat.{add_assoc}
use mir.Facts.{to_z-of_z}
use mir.Syntax.{w64}
use Rattle.wire.specs.Signed.{unsigned_of}
use Rattle.wire.proofs.Numbers.{digits_mod}
use Rattle.wire.proofs.Laid.{laid_put}
use Rattle.index.specs.Entry.{entry_parts, entry_bytes}
use borrow.Author.Rules.{rules}
use Rattle.index.proofs.entries.put_entry.Goals as goal

pub overflow_add-at-6 : goal.overflow_add-at-6
overflow_add-at-6 c =
    record { fits = omega (arith, c.requires, c.well_formed) }

pub put64-requires-3 : goal.put64-requires-3
put64-requires-3 c = omega (arith, c.requires)

-- `turned`: the ceiling in two's complement
pub returns : goal.returns
unfolding entry_bytes
returns c =
    let a : _ = c.args in
    let turned : c.unsigned64-ceiling.result ≡ unsigned_of a.sum.ceiling = (let back = to_z-of_z {w = w64} {z = a.sum.ceiling} (search rules) in rw (c.unsigned64-ceiling.ensures, back)) in
    rw (
      c.put64-3.ensures,
      c.put64-2.ensures,
      c.put64.ensures,
      c.put32-4.ensures,
      c.put32-3.ensures,
      c.put32-2.ensures,
      c.put32.ensures,
      turned,
      digits_mod 4 a.place.at,
      digits_mod 4 a.place.gone,
      digits_mod 4 a.sum.need,
    )
    (simp add_assoc at (laid_put (entry_parts a.place a.sum) a.s.now a.at c.requires))
