use borrow.Author.Count.{below_none, below_more}
use mathlib.Core.Path.{◌≡◌, refl, ap, ◌∙◌}
use mathlib.Core.List.{List, []}
use Prim.Native.Nat.{ℕ, ◌<◌}
use lib.ListN.{length, get_or, set, length-set}
use lib.Seq.{get_or-set_same, get_or-set_other}
use Rattle.hash.specs.Sha256.{H₀, hash, bytes}
use Rattle.hash.proofs.Blocks.{one_block}
use Rattle.lanes.specs.Lanes.{lane}
use native.Mathlib.Omega.{arith}
use borrow.Author.Rules.{rules}
use Rattle.lanes.proofs.digests.Goals as goal

pub loop-b-init : goal.loop-b-init
unfolding hash
loop-b-init c = (search rules, c.start-value.ensures)

pub loop-b-preserved : goal.loop-b-preserved
loop-b-preserved c = (
  search rules,
  λ i inside.
      one_block (get_or c.args.messages.now i []) H₀ (lane 4 i 8 c.loop-b.value) (lane 4 i 16 c.block.result) (lane 4 i 8 c.compress-next.result) c.loop-b.b
      (c.loop-b.invariant.1 i inside) (c.block.ensures i inside) (c.compress-next.ensures i inside),
)

pub loop-i-init : goal.loop-i-init
loop-i-init c = (refl, below_none _)

pub get-requires : goal.get-requires
get-requires c = (omega arith, c.loop-b.invariant.0)

pub loop-i-preserved : goal.loop-i-preserved
loop-i-preserved c =
    let fits : c.loop-i.i < length c.loop-i.out = omega arith in (
      length-set c.loop-i.out c.loop-i.i c.bytes.result ∙ c.loop-i.invariant.0,
      below_more (λ (q : ℕ). get_or (set c.loop-i.out c.loop-i.i c.bytes.result) q [] ≡ bytes (lane 4 q 8 c.loop-b.value) 8) c.loop-i.i
          (λ q few. get_or-set_other c.loop-i.out c.loop-i.i q c.bytes.result [] (omega arith) ∙ c.loop-i.invariant.1 q few)
          (get_or-set_same c.loop-i.out c.loop-i.i c.bytes.result [] fits ∙ c.bytes.ensures ∙ ap (λ (v : List ℕ). bytes v 8) c.get.ensures),
    )

pub returns : goal.returns
returns c i inside =
    let all : c.loop-b.b ≡ c.args.blocks = omega arith in
    c.loop-i.invariant.1 i (omega arith)
    ∙ ap (λ (v : List ℕ). bytes v 8) (c.loop-b.invariant.1 i inside ∙ ap (hash H₀ (get_or c.args.messages.now i [])) all)
