-- `opening::open_list` meets its contract. The invariant: the witnesses before witness i are opened.
use mathlib.Core.Path.{◌≡◌}
use Rattle.algebra.specs.Lists.{build}
use Rattle.checks.specs.Refusals.{answer_of}
use Rattle.chain.specs.Answers.{first_refusal}
use Rattle.encoder.specs.Parts.{Filled}
use Rattle.chain.specs.Chained.{open_item}
use Rattle.chain.proofs.opening.open_list.Given as goal

abbrev pub invariant-loop-i : goal.invariant-loop-i
invariant-loop-i l = (answer_of l.verdict ≡ first_refusal (build l.i (λ j. (open_item l.k l.t l.size l.points l.wits l.positions l.initial.opened j).answer)))
    × Filled l.size (λ j. (open_item l.k l.t l.size l.points l.wits l.positions l.initial.opened j).openings) l.initial.opened l.i l.opened
