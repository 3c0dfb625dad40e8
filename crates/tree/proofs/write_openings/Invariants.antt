-- `tree::write_openings` meets its contract. The invariant: writing the openings of the positions from q on gives what writing all gives.
use mathlib.Core.Path.{◌≡◌}
use Prim.Native.Nat.{◌*◌}
use lib.ListN.{drop}
use lib.Seq.{sets}
use Rattle.hash.specs.Sha256.{digest}
use Rattle.numbers.specs.Numbers.{numbers}
use Rattle.tree.specs.Layout.{opening_size, own_openings}
use Rattle.tree.proofs.write_openings.Given as goal

abbrev pub invariant-loop-q : goal.invariant-loop-q
invariant-loop-q l = sets l.out (l.q * opening_size l.depth) (own_openings digest l.depth l.values (drop l.q (numbers l.positions)))
    ≡ sets l.initial.out 0 (own_openings digest l.depth l.values (numbers l.positions))
