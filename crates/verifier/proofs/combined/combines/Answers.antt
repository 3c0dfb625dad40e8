-- `combined::combines` meets its contract: the quotient's numbers, the new item's, and their comparison.
use mathlib.Core.Path.{sym, ap, ◌∙◌}
use Prim.Native.Nat.{ℕ, ◌*◌}
use native.Mathlib.Omega.{arith}
use lib.Seq.{length-take-le}
use Rattle.theory.specs.Fp.{item_size}
use Rattle.verifier.proofs.Combining.{quotient-below, combines-is}
use Rattle.verifier.proofs.combined.combines.Goals as goal

pub new_numbers-requires : goal.new_numbers-requires
new_numbers-requires c =
    let fold = c.args.fold.now in (
      omega (arith, fold.l_least, c.requires.0),
      fold.items_length ∙ ap (λ (l : ℕ). l * item_size fold.sizes.m fold.sizes.n) (sym c.requires.0),
      quotient-below fold.quotient.now c.load.ensures c.requires.1,
      length-take-le _ _ (omega (arith, c.item_numbers.ensures, fold.sizes.m_most, fold.sizes.n_most)) ∙ c.item_numbers.ensures,
    )

pub returns : goal.returns
returns c = combines-is c.args.fold.now c.args.weights.now.at c.requires.0 c.requires.2 c.load.ensures c.new_numbers.ensures c.has_numbers.ensures
