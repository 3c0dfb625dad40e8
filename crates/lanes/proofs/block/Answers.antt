use mathlib.Core.Path.{refl, sym, subst, ◌∙◌}
use mathlib.Core.List.{List}
use Prim.Native.Nat.{ℕ, ◌+◌}
use Rattle.lanes.proofs.Lanes.{Each, each_start, each_step, each-end}
use native.Mathlib.Omega.{arith}
use borrow.Author.Rules.{rules}
use Rattle.lanes.proofs.block.Invariants.{block_of}
use Rattle.lanes.proofs.block.Goals as goal

pub loop-i-init : goal.loop-i-init
loop-i-init c = (refl, each_start 4 16 _ _)

pub loop-i-preserved : goal.loop-i-preserved
loop-i-preserved c = (
  c.put.auto.s ∙ c.loop-i.invariant.0,
  subst (λ (m : List ℕ). Each 4 16 (block_of c.args.messages.now c.args.at) (c.loop-i.i + 1) _ m) (sym c.put.ensures)
      (each_step 4 16 (block_of c.args.messages.now c.args.at) c.loop-i.i _ c.loop-i.m c.block.result (omega arith) (omega arith) (search rules) c.block.ensures c.loop-i.invariant.1),
)

pub returns : goal.returns
returns c = each-end 4 16 _ _ _ c.loop-i.m (omega arith) c.loop-i.invariant.1
