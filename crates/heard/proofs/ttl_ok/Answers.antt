-- The range that the code asks for is the test.
-- Assumes nothing.
use borrow.Author.Rules.{rules}
use Rattle.decide.specs.Test.{test}
use Rattle.heard.proofs.ttl_ok.Goals as goal

pub returns : goal.returns
unfolding test
returns c = search rules
