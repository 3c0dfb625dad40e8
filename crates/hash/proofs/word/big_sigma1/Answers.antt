-- `word::big_sigma1` computes the standard's Σ₁.
-- Assumes nothing.
use Rattle.hash.specs.Word.{ROTR, Σ₁}
use Rattle.hash.proofs.word.big_sigma1.Goals as goal

pub returns : goal.returns
unfolding ROTR Σ₁
returns c = rw (c.rotate_right-3.ensures, c.rotate_right-2.ensures, c.rotate_right.ensures)
