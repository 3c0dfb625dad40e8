-- `word::small_sigma0` computes the standard's σ₀.
-- Assumes nothing.
use Rattle.hash.specs.Word.{ROTR, σ₀}
use Rattle.hash.proofs.word.small_sigma0.Goals as goal

pub returns : goal.returns
unfolding ROTR σ₀
returns c = rw (c.rotate_right-2.ensures, c.rotate_right.ensures)
