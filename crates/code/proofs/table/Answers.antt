-- `code::table` meets its contract: the table's rule, the first entry 1 and each next the one before times the generator, is one test
-- that the checker computes.
-- Assumes nothing.
use mathlib.Core.Path.{refl}
use Rattle.code.proofs.Generator.{powers_from, table-points}
use Rattle.code.proofs.table.Goals as goal

pub returns : goal.returns
unfolding powers_from
returns c = table-points _ refl tt
