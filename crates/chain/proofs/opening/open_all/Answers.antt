-- `opening::open_all` meets its contract.
use mathlib.Core.Path.{ap, ◌∙◌}
use Rattle.checks.specs.Refusals.{answer_of}
use Rattle.chain.proofs.Refusals.{and-first}
use Rattle.chain.proofs.Witnesses.{all-answered, all-opened}
use Rattle.chain.proofs.opening.open_all.Goals as goal

pub returns : goal.returns
returns c =
    record {
      value = all-answered c.args.k c.args.t c.args.l c.args.size c.args.points.now c.args.wits.now c.args.positions.now c.args.opened.now c.args.wit.now c.open_list-verdict.new.opened c.open_part-next.new.opened
          c.open_list-verdict.ensures.filled (answer_of c.open_list-verdict.result) (answer_of c.open_part-next.result) (answer_of c.and.result) c.open_list-verdict.ensures.value c.open_part-next.ensures.value
          (ap answer_of c.and.ensures ∙ and-first c.open_list-verdict.result c.open_part-next.result);
      filled = all-opened c.args.k c.args.t c.args.l c.args.size c.args.points.now c.args.wits.now c.args.positions.now c.args.opened.now c.args.wit.now c.open_list-verdict.new.opened c.open_part-next.new.opened
          c.open_list-verdict.ensures.filled c.requires.1 c.open_part-next.auto.opened c.open_part-next.ensures.opened_after;
    }
