-- The table has the code of every byte.
-- Assumes nothing.
use borrow.Author.Rules.{rules}
use Rattle.hex_text.proofs.code_in.Goals as goal

pub returns : goal.returns
returns c = c.requires c.args.c (search rules)
