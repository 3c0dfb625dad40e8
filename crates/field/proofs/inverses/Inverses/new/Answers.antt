-- `field::Inverses::new` keeps the struct's fact: the test of the table's entries passes.
-- Assumes nothing.
use mathlib.Core.Path.{refl}
use Rattle.field.proofs.SmallInverses.{small_inverses-by-test}
use Rattle.field.proofs.inverses.Inverses.new.Goals as goal

pub invariant_of-result : goal.invariant_of-result
invariant_of-result c = record { of_each = small_inverses-by-test _ refl tt }
