-- `line::item` meets its contract: the line is an item exactly if numbers and a root were read.
use mathlib.Core.Path.{sym, ◌∙◌}
use Rattle.scan.proofs.LineStates.{state-broken, item-bad, item-read}
use Rattle.scan.proofs.line.item.Goals as goal

pub returns-in_default : goal.returns-in_default
returns-in_default c = record { state = c.stopped.ensures ∙ sym (state-broken c.args.st _ _ (item-bad c.args.s.now c.args.at c.args.st.pairs.items c.read_item.ensures.row c.in_default.is)); items = c.read_item.ensures.buffer }

pub returns : goal.returns
returns c =
    record {
      state = item-read c.args.st c.args.s.now c.args.at c.in-Some.is c.read_item.ensures.row;
      items = c.read_item.ensures.buffer;
    }
