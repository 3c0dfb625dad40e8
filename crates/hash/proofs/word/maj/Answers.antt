-- `word::maj` computes the standard's Maj.
-- Assumes nothing.
use Rattle.hash.specs.Word.{Maj}
use Rattle.std.proofs.Common.{refl}
use Rattle.hash.proofs.word.maj.Goals as goal

pub returns : goal.returns
unfolding Maj
returns c = refl
