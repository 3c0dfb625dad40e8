-- `opened::value_combines` meets its contract.
use mathlib.Core.Path.{ap, ◌∙◌}
use Prim.Native.Nat.{ℕ}
use native.Mathlib.Omega.{arith}
use Rattle.fold.specs.Weights.{lagrange_at}
use Rattle.fold.proofs.Mixing.{length-weights}
use Rattle.verifier.proofs.Places.{numbers-within}
use Rattle.verifier.proofs.Leading.{combines-is}
use Rattle.verifier.proofs.opened.value_combines.Goals as goal

pub weighted-sum-requires : goal.weighted-sum-requires
weighted-sum-requires c i h =
    numbers-within c.args.fold.now c.args.q i c.opening_size-stride.ensures.0 c.requires.0 (omega (arith, length-weights c.args.weights.now.l c.args.weights.now.at c.as_slice.ensures, c.requires.1))

pub get-requires : goal.get-requires
get-requires c = omega (arith, numbers-within c.args.fold.now c.args.q c.args.fold.now.l c.opening_size-stride.ensures.0 c.requires.0 (omega arith))

pub returns : goal.returns
returns c =
    combines-is c.args.fold.now c.args.weights.now.at c.args.q (c.as_slice.ensures ∙ ap (λ (l : ℕ). lagrange_at l c.args.weights.now.at) c.requires.1) c.opening_size-stride.ensures.0 c.get.ensures c.weighted-sum.ensures
