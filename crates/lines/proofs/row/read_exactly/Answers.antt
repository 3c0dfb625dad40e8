-- `row::read_exactly` meets its contract: numbers are read, and counted.
use mathlib.Core.Path.{◌∙◌}
use Rattle.lines.proofs.ReadLaws.{exactly-bad, exactly-other, exactly-read}
use Rattle.lines.proofs.row.read_exactly.Goals as goal

pub returns-in_err-row : goal.returns-in_err-row
returns-in_err-row c =
    record {
      row = c.from_residual.ensures ∙ exactly-bad c.args.s.now c.args.at c.args.count c.read_numbers.ensures.row c.args.size c.in_err-row.was;
      buffer = c.read_numbers.ensures.buffer;
    }

pub returns-then-row-count : goal.returns-then-row-count
returns-then-row-count c =
    record {
      row = exactly-other c.args.s.now c.args.at c.args.count c.read_numbers.ensures.row c.args.size c.in_ok-row.was c.if-row-count.true;
      buffer = c.read_numbers.ensures.buffer;
    }

pub returns : goal.returns
returns c =
    record {
      row = exactly-read c.args.s.now c.args.at c.args.count c.read_numbers.ensures.row c.args.size c.in_ok-row.was c.if-row-count.false;
      buffer = c.read_numbers.ensures.buffer;
    }
