-- Each put stands behind the one before, so that all of them are the parts of a sheet, laid out whole.
-- Assumes nothing.
use mathlib.Core.Path.{◌≡◌, sym}
use mir.Facts.{to_z-of_z}
use mir.Syntax.{w64}
use Rattle.wire.specs.Signed.{unsigned_of}
use Rattle.wire.proofs.Laid.{laid_whole}
use Rattle.sheet.specs.Sheet.{sheet_parts, sheet_of}
use borrow.Author.Rules.{rules}
use Rattle.sheet.proofs.write.Goals as goal

pub returns : goal.returns
unfolding sheet_of
returns c =
    let back = to_z-of_z {w = w64} {z = c.args.v.ceiling} (search rules) in
    -- the ceiling in two's complement
    let coded : c.unsigned64-ceiling.result ≡ unsigned_of c.args.v.ceiling = rw (c.unsigned64-ceiling.ensures, back) in
    rw (c.put64-4.ensures, c.put64-3.ensures, c.put64-2.ensures, c.put64.ensures, c.put32-4.ensures, c.put32-3.ensures, c.put32-2.ensures, c.put32.ensures, coded)
    (laid_whole (sheet_parts c.args.v) c.args.s.now (sym c.requires))
