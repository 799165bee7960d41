-- Field by field.
-- Assumes nothing.
use mir.Facts.{to_z-of_z}
use mir.Syntax.{w64}
use borrow.Author.Rules.{rules}
use Rattle.summary.proofs.Summary.plain.Goals as goal

pub returns : goal.returns
returns c =
    let back = to_z-of_z {w = w64} {z = c.args.self.ceiling} (search rules) in
    rw (c.depth_of-depth.ensures, back)
