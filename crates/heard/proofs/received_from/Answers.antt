-- `heard::received_from` meets its contract: the two returns are the two cases of the definition.
-- Assumes nothing.
use borrow.Author.Rules.{rules}
use Rattle.decide.specs.Test.{test}
use Rattle.heard.specs.Frame.{received_of}
use Rattle.heard.proofs.received_from.Goals as goal

pub returns-then-advert-eq-FULL_RATE : goal.returns-then-advert-eq-FULL_RATE
unfolding received_of test
returns-then-advert-eq-FULL_RATE c = search rules

pub returns : goal.returns
unfolding received_of test
returns c = search rules
