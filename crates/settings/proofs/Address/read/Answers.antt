-- `settings::Address::read` meets its contract. Each word is what stands at its place.
-- Assumes nothing.
use Rattle.wire.specs.Words.{words_at}
use Rattle.settings.proofs.Address.read.Goals as goal

pub returns : goal.returns
unfolding words_at
returns c = rw c.read_words.ensures
