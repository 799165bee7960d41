-- The record has no byte yet.
-- Assumes nothing.
use Rattle.hex_text.proofs.Hex.new.Goals as goal

pub returns : goal.returns
returns c = rw c.new-feed.ensures
