-- `word::big_sigma0` computes the standard's Σ₀.
-- Assumes nothing.
use Rattle.hash.specs.Word.{ROTR, Σ₀}
use Rattle.hash.proofs.word.big_sigma0.Goals as goal

pub returns : goal.returns
unfolding ROTR Σ₀
returns c = rw (c.rotate_right-3.ensures, c.rotate_right-2.ensures, c.rotate_right.ensures)
