-- `word::small_sigma1` computes the standard's σ₁.
-- Assumes nothing.
use Rattle.hash.specs.Word.{ROTR, σ₁}
use Rattle.hash.proofs.word.small_sigma1.Goals as goal

pub returns : goal.returns
unfolding ROTR σ₁
returns c = rw (c.rotate_right-2.ensures, c.rotate_right.ensures)
