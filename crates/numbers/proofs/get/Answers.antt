-- `numbers::get` meets its contract: number i is made of the four bytes from 4 * i.
use native.Mathlib.Omega.{arith}
use Rattle.numbers.proofs.Bytes.{number_at}
use Rattle.numbers.proofs.get.Goals as goal

pub returns : goal.returns
returns c = omega (arith, number_at c.args.i c.args.b.now c.requires)
