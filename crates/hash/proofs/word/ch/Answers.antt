-- `word::ch` computes the standard's Ch.
-- Assumes nothing.
use Rattle.hash.specs.Word.{Ch}
use Rattle.std.proofs.Common.{refl}
use Rattle.hash.proofs.word.ch.Goals as goal

pub returns : goal.returns
unfolding Ch
returns c = refl
