-- The numbers of a codeword: one for each point.
-- Assumes nothing.
use mathlib.Core.Path.{◌≡◌, ◌∙◌}
use mathlib.Core.List.{List, map}
use lib.ListN.{length, length-map}
use Rattle.field.specs.BabyBear.{R, F, val}
use Rattle.code.specs.Codeword.{codeword}
use Rattle.code.proofs.Evaluation.{codeword-length}

pub codeword-numbers-length : (points w : List F) → length (map val (codeword R points w)) ≡ length points
codeword-numbers-length points w = length-map (codeword R points w) val ∙ codeword-length R points w
