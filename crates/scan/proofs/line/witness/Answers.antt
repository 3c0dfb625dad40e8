-- `line::witness` meets its contract: the line is a witness exactly if numbers were read.
use mathlib.Core.Path.{sym, ◌∙◌}
use Rattle.scan.proofs.LineStates.{state-broken, witness-bad, witness-read}
use Rattle.scan.proofs.line.witness.Goals as goal

pub returns-in_default : goal.returns-in_default
returns-in_default c = record { state = c.stopped.ensures ∙ sym (state-broken c.args.st _ _ (witness-bad c.args.s.now c.args.at c.args.st.pairs.wits c.read_numbers.ensures.row c.in_default.is)); wits = c.read_numbers.ensures.buffer }

pub returns : goal.returns
returns c =
    record {
      state = witness-read c.args.st c.args.s.now c.args.at c.in-Some.is c.read_numbers.ensures.row;
      wits = c.read_numbers.ensures.buffer;
    }
