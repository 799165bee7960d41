-- `index::put_node` ends: the level falls.
-- Assumes nothing.
use Rattle.index.proofs.+put_node.Given as goal

abbrev pub decreases-put_node : goal.decreases-put_node
decreases-put_node l = l.level
