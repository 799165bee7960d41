-- Both ways are the step of the item's own kind.
-- Assumes nothing.
use Rattle.account.proofs.stepped.Goals as goal

pub returns-then-kind-eq-SEND_KIND : goal.returns-then-kind-eq-SEND_KIND
returns-then-kind-eq-SEND_KIND c = rw c.if-kind-eq-SEND_KIND.true c.step.ensures
