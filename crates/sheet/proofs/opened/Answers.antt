-- Each return is a row of opening a file.
-- Assumes nothing.
use Rattle.std.specs.Prelude.{Ok}
use mathlib.Core.Path.{sym, ap, ◌∙◌}
use lib.ListN.{length}
use borrow.Author.Rules.{rules}
use borrow.Author.Tests.{eq-eqb, ne_eqb}
use Rattle.summary.specs.Range.{in_range}
use Rattle.sheet.proofs.Files.{open_2, open_3, opens}
use Rattle.sheet.proofs.opened.Goals as goal

pub returns-then-s-ne-LENGTH : goal.returns-then-s-ne-LENGTH
returns-then-s-ne-LENGTH c = sym (open_2 _ (ne_eqb _ _ c.if-s-ne-LENGTH.true))

pub returns-then-not-in_range : goal.returns-then-not-in_range
returns-then-not-in_range c = sym (open_3 _ (eq-eqb (length c.args.s.now) 48 (search rules)) (ap in_range (sym c.read-held.ensures) ∙ sym c.in_range.ensures ∙ c.if-not-in_range.true))

pub returns : goal.returns
returns c =
    let read = c.read-held.ensures in
    let within = ap in_range (sym read) ∙ sym c.in_range.ensures ∙ c.if-not-in_range.false in
    ap Ok read ∙ sym (opens _ (eq-eqb (length c.args.s.now) 48 (search rules)) within)
