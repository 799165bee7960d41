-- `advert::parse` meets its contract: a parse goes by whether the bytes are a whole frame, and such a frame has 12 bytes.
-- Assumes nothing.
use Rattle.decide.specs.Test.{facts}
use Rattle.std.specs.Prelude.{Ok}
use Rattle.advert.specs.Frame.{whole}
use Rattle.advert.proofs.Parsing.{parsed_whole, parsed_not}
use mathlib.Core.Path.{sym, ap, ◌∙◌}
use Rattle.advert.proofs.parse.Goals as goal

pub returns-then-not-is_whole : goal.returns-then-not-is_whole
returns-then-not-is_whole c =
    let xs : _ = c.args.frame.now in
    sym (parsed_not xs (sym c.is_whole.ensures ∙ c.if-not-is_whole.true))

pub read-requires : goal.read-requires
read-requires c =
    let xs : _ = c.args.frame.now in
    (facts (whole xs) (sym c.is_whole.ensures ∙ c.if-not-is_whole.false)).0

pub returns : goal.returns
returns c =
    let xs : _ = c.args.frame.now in
    ap Ok c.read.ensures ∙ sym (parsed_whole xs (sym c.is_whole.ensures ∙ c.if-not-is_whole.false))
