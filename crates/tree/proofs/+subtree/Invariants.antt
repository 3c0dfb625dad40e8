-- `tree::subtree` meets its contract, by recursion on the depth: the roots of two halves where there are many values.
use Rattle.tree.proofs.+subtree.Given as goal

abbrev pub decreases-subtree : goal.decreases-subtree
decreases-subtree l = l.depth
