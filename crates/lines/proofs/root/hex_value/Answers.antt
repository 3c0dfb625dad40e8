-- `root::hex_value` meets its contract: a digit is one of 0 to 9 exactly if it is at most 57.
use mathlib.Core.Path.{sym}
use native.Mathlib.Omega.{arith}
use Rattle.lines.proofs.NumberLaws.{digit_low}
use Rattle.lines.proofs.HexLaws.{low_digit, high_digit, letter}
use Rattle.lines.proofs.root.hex_value.Goals as goal

pub overflow_sub-result : goal.overflow_sub-result
overflow_sub-result c = digit_low _ (low_digit c.args.d c.requires (omega arith))

pub overflow_sub-result-else-d-le57 : goal.overflow_sub-result-else-d-le57
overflow_sub-result-else-d-le57 c = (letter c.args.d c.requires (high_digit c.args.d c.requires (omega arith))).0

pub returns-then-d-le57 : goal.returns-then-d-le57
returns-then-d-le57 c = sym (rw (low_digit c.args.d c.requires (omega arith)))

pub returns-else-d-le57 : goal.returns-else-d-le57
returns-else-d-le57 c =
    let high = high_digit c.args.d c.requires (omega arith) in
    sym (rw high (omega (arith, letter c.args.d c.requires high)))
