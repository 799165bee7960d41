-- `settings::Bucket::write` meets its contract. The words are the parts, one for one.
-- Assumes nothing.
use Rattle.wire.specs.Words.{words_bytes}
use Rattle.settings.proofs.Bucket.write.Goals as goal

pub returns : goal.returns
unfolding words_bytes
returns c = c.write_words.ensures.0
