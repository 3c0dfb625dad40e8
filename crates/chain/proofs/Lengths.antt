-- Folding answers 0: the witnesses have their lengths.
use mathlib.Core.Path.{◌≡◌}
use mathlib.Core.List.{List}
use Prim.Native.Nat.{ℕ, ◌*◌}
use borrow.Author.Tests.{eqb-true}
use lib.ListN.{length}
use Rattle.numbers.proofs.Tests.{and_left}
use Rattle.theory.specs.Calls.{fold as fold_over}
use Rattle.theory.specs.Fp.{fp, list_fits, fold_outputs_fit, fold}
use Rattle.theory.proofs.Passed.{list-fits, fold-passes}

pub wits-size : (m n k l challenge : ℕ) (points a b c items wits quotient item wit : List ℕ) → (fold m n k l challenge points a b c items wits quotient item wit).answer ≡ 0
    → length wits ≡ l * (4 * k)
unfolding fold_over
wits-size m n k l challenge points a b c items wits quotient item wit h =
    eqb-true (length wits) (l * (4 * k)) (list-fits fp m n k l points a b c items wits
    (and_left (list_fits m n k l points a b c items wits) (fold_outputs_fit m n k l quotient item wit) (fold-passes fp m n k l points a b c items wits challenge quotient item wit h).fits)).wits-fit
