-- `tree::leaf` meets its contract: here alone the code sees what an entry is.
use borrow.Author.Rules.{rules}
use Rattle.tree.specs.Entry.{entry}
use Rattle.tree.proofs.leaf.Goals as goal

pub returns : goal.returns
unfolding entry
returns c = search rules
