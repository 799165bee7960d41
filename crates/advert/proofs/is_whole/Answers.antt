-- `advert::is_whole` meets its contract. Each return decides the test by what the tests before it found.
-- Assumes nothing.
use Rattle.decide.specs.Test.{decided}
use native.Mathlib.Omega.{arith}
use Rattle.advert.proofs.is_whole.Goals as goal

pub returns-then-frame-ne-LENGTH : goal.returns-then-frame-ne-LENGTH
returns-then-frame-ne-LENGTH c = decided _ _ (omega arith)

pub returns-then-get8-ne-FAIRNESS : goal.returns-then-get8-ne-FAIRNESS
returns-then-get8-ne-FAIRNESS c = decided _ _ (omega arith)

pub returns-then-get16be-ne0 : goal.returns-then-get16be-ne0
returns-then-get16be-ne0 c = decided _ _ (omega arith)

pub returns : goal.returns
returns c = decided _ _ (omega arith)
