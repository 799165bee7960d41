-- Each arm is the turn by what stands at the second place.
-- Assumes nothing.
use Rattle.apart.proofs.together.beside.Goals as goal

pub returns-in-Events : goal.returns-in-Events
returns-in-Events c = rw c.in-Events.is (cc)

pub returns-in-Ended : goal.returns-in-Ended
returns-in-Ended c = rw c.in-Ended.is (cc)

pub returns-in-Unread : goal.returns-in-Unread
returns-in-Unread c = rw c.in-Unread.is (cc)
