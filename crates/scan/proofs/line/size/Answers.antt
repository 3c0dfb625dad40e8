-- `line::size` meets its contract: the line is a size exactly if three numbers were read, which the local array gives back.
use mathlib.Core.Path.{refl}
use native.Mathlib.Omega.{arith}
use Rattle.lines.specs.declared.keyword.Keyword.TheVariants.{Size}
use Rattle.scan.proofs.LineStates.{exactly-stopped, exactly-found}
use Rattle.scan.proofs.line.size.Goals as goal

pub returns-in_default : goal.returns-in_default
returns-in_default c = exactly-stopped c.args.st c.args.s.now c.args.at 3 c.read_exactly.ensures.row Size (λ n. refl) c.stopped.ensures c.in_default.is

pub returns : goal.returns
returns c =
    rw (c.get.ensures, c.get-2.ensures, c.get-3.ensures)
    (exactly-found c.args.st c.args.s.now c.args.at 3 c.read_exactly.ensures.row Size (λ n. refl) c.in-Some.is _ _ (omega arith) c.read_exactly.ensures.buffer)
