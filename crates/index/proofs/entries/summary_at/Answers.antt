-- Each field is read at its place.
-- Assumes nothing.
use mathlib.Core.Path.{refl}
use mir.Facts.{to_z-of_z}
use mir.Syntax.{w64}
use Rattle.index.specs.Entry.{summary_in}
use Rattle.index.proofs.entries.summary_at.Goals as goal

pub returns : goal.returns
unfolding summary_in
returns c =
    let back = to_z-of_z {w = w64} {z = c.signed64.result} (record { sfits = c.signed64.type_inv }) in
    rw (c.get32-2.ensures, back, c.signed64.ensures, c.get64-3.ensures, c.get64-2.ensures, c.get64.ensures, c.get32.ensures) refl
