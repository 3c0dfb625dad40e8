-- `hashed::eight` meets its contract: the eight bytes are two numbers of four.
use mathlib.Core.Path.{◌≡◌, ap}
use Prim.Native.Nat.{ℕ, ◌%◌}
use native.Mathlib.Omega.{arith}
use Rattle.numbers.proofs.Bytes.{number_at}
use Rattle.draw.specs.Draw.{eight}
use Rattle.draw.proofs.hashed.eight.Goals as goal

pub returns : goal.returns
returns c =
    let read : c.from_le_bytes.result ≡ eight c.args.digest = omega (arith, c.from_le_bytes.ensures, number_at 0 c.args.digest (omega arith), number_at 1 c.args.digest (omega arith)) in
    ap (λ (x : ℕ). x % c.args.q) read
