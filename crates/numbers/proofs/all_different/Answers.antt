use mathlib.Core.Path.{◌≡◌, sym, ap, ◌∙◌}
use mathlib.Core.Bool.{Bool}
use mathlib.Core.List.{List}
use Prim.Native.Nat.{ℕ, ◌+◌, ◌-◌}
use native.Mathlib.Omega.{arith}
use lib.Dec.{eqb}
use lib.ListN.{length, get_or, take, drop, length-drop}
use lib.Seq.{take_all}
use Rattle.numbers.specs.Equality.{among}
use Rattle.numbers.proofs.Differences.{repeat-found, differs_more, all-differ}
use Rattle.numbers.proofs.all_different.Goals as goal

-- What the search in the rest of the list says, as the code cuts it out.
rest-found : {r : Bool} (xs : List ℕ) (i : ℕ) → r ≡ among eqb (get_or xs i 0) (take (length xs - (i + 1)) (drop (i + 1) xs)) → among eqb (get_or xs i 0) (drop (i + 1) xs) ≡ r
rest-found xs i e = ap (among eqb (get_or xs i 0)) (sym (take_all (length xs - (i + 1)) (drop (i + 1) xs) (omega (arith, length-drop (i + 1) xs)))) ∙ sym e

pub returns-then-is_among : goal.returns-then-is_among
returns-then-is_among c = repeat-found c.args.xs.now c.loop-i.i (omega arith) c.loop-i.invariant (rest-found c.args.xs.now c.loop-i.i c.is_among.ensures ∙ c.if-is_among.true)

pub loop-i-preserved : goal.loop-i-preserved
loop-i-preserved c = differs_more c.args.xs.now c.loop-i.i (omega arith) c.loop-i.invariant (rest-found c.args.xs.now c.loop-i.i c.is_among.ensures ∙ c.if-is_among.false)

pub returns : goal.returns
returns c = all-differ c.args.xs.now c.loop-i.i (omega arith) c.loop-i.invariant
