use mathlib.Core.Path.{refl, sym, subst, ◌∙◌}
use mathlib.Core.List.{List}
use Prim.Native.Nat.{ℕ, ◌+◌}
use Rattle.hash.specs.Sha256.{H₀}
use Rattle.lanes.proofs.Lanes.{Each, each_start, each_step, each-end}
use native.Mathlib.Omega.{arith}
use Rattle.lanes.proofs.start.Goals as goal

pub loop-i-init : goal.loop-i-init
loop-i-init c = (refl, each_start 4 8 _ _)

pub loop-i-preserved : goal.loop-i-preserved
unfolding H₀
loop-i-preserved c = (
  c.put.auto.s ∙ c.loop-i.invariant.0,
  subst (λ (s : List ℕ). Each 4 8 (λ q. H₀) (c.loop-i.i + 1) _ s) (sym c.put.ensures)
      (each_step 4 8 (λ q. H₀) c.loop-i.i _ c.loop-i.s H₀ (omega arith) (omega arith) refl refl c.loop-i.invariant.1),
)

pub returns : goal.returns
unfolding H₀
returns c = each-end 4 8 (λ q. H₀) _ _ c.loop-i.s (omega arith) c.loop-i.invariant.1
