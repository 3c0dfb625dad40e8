-- `line::end` meets its contract: the line is an end exactly if one number was read, which the local array gives back.
use mathlib.Core.Path.{refl}
use native.Mathlib.Omega.{arith}
use Rattle.lines.specs.declared.keyword.Keyword.TheVariants.{End}
use Rattle.scan.proofs.LineStates.{exactly-stopped, exactly-found}
use Rattle.scan.proofs.line.end.Goals as goal

pub returns-in_default : goal.returns-in_default
returns-in_default c = exactly-stopped c.args.st c.args.s.now c.args.at 1 c.read_exactly.ensures.row End (λ n. refl) c.stopped.ensures c.in_default.is

pub returns : goal.returns
returns c =
    rw c.get.ensures
    (exactly-found c.args.st c.args.s.now c.args.at 1 c.read_exactly.ensures.row End (λ n. refl) c.in-Some.is _ _ (omega arith) c.read_exactly.ensures.buffer)
