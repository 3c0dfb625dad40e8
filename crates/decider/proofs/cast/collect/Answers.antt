-- `cast::collect` meets its contract: 0 is written first, then the numbers of r, and those of x fill the rest.
use mathlib.Core.Path.{ap₂, ◌∙◌}
use mathlib.Core.List.{List, ◌∷◌, ◌++◌}
use Prim.Native.Nat.{ℕ}
use native.Mathlib.Omega.{arith}
use Rattle.checks.proofs.WitnessLaws.{loaded-length}
use Rattle.checks.proofs.Filled.{all-filled}
use Rattle.decider.proofs.cast.collect.Goals as goal

pub returns : goal.returns
returns c =
    let m = c.args.sizes.m in
    all-filled 0 m c.args.values.now c.load.new.out (loaded-length m c.args.r.now c.requires.0 c.load.ensures) (omega arith) c.load-2.new.out
    ∙ ap₂ (λ (rs xs : List ℕ). 0 ∷ (rs ++ xs)) c.load.ensures c.load-2.ensures
