-- A summary behind is joined; a refusal stays.
-- Assumes nothing.
use Rattle.summary.proofs.Summary.join_next.Goals as goal

pub returns : goal.returns
returns c = rw c.in_ok-next.was c.join.ensures
