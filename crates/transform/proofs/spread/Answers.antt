use mathlib.Core.Path.{◌≡◌, ◌∙◌, ap, ap₂}
use Prim.Native.Nat.{ℕ, ◌+◌, ◌*◌, ◌-◌}
use native.Mathlib.Nat.{mul_comm}
use native.Mathlib.Omega.{arith}
use lib.ListN.{length, get_or, take, drop, replicate}
use Rattle.code.proofs.Sizes.{count-few}
use Rattle.transform.proofs.BlockLaws.{block-part, block-length, done_none, done_more}
use Rattle.transform.proofs.PlaceLaws.{found_none, stored, place-few, found-more}
use Rattle.transform.proofs.spread.Invariants.{written}
use Rattle.transform.proofs.spread.Goals as goal

pub loop-b-init : goal.loop-b-init
loop-b-init c = (done_none (length c.args.w.now) 4 (written c.args.w.now) c.args.out.now (c.requires.1 ∙ mul_comm 4 (length c.args.w.now)), found_none (length c.args.w.now) c.requires.0)

pub returns : goal.returns
returns c = λ b h. c.loop-b.invariant.0.new b (omega arith)

pub offset_bounds-w-place : goal.offset_bounds-w-place
offset_bounds-w-place c = omega (arith, stored (length c.args.w.now) c.requires.0 c.loop-b.b c.loop-b.place (omega arith) c.loop-b.invariant.1, place-few (length c.args.w.now) c.requires.0 c.loop-b.b (omega arith), count-few (length c.args.w.now) c.requires.0)

pub bounds-w-place : goal.bounds-w-place
bounds-w-place c = omega (arith, stored (length c.args.w.now) c.requires.0 c.loop-b.b c.loop-b.place (omega arith) c.loop-b.invariant.1, place-few (length c.args.w.now) c.requires.0 c.loop-b.b (omega arith))

pub loop-b-preserved : goal.loop-b-preserved
loop-b-preserved c =
    let four : length (take (c.loop-b.b * 4 + 4 - c.loop-b.b * 4) (drop (c.loop-b.b * 4) c.loop-b.out)) ≡ 4 = ap length (block-part c.loop-b.out 4 c.loop-b.b) ∙ block-length c.loop-b.out (length c.args.w.now) 4 c.loop-b.invariant.0.long c.loop-b.b (omega arith) in (
      done_more (length c.args.w.now) 4 (written c.args.w.now) c.args.out.now c.loop-b.b c.loop-b.out c.fill.new.self (omega arith) c.loop-b.invariant.0
          (c.fill.ensures.len ∙ four)
          (c.fill.ensures.after (λ y e. e) ∙ ap₂ (λ (m i : ℕ). replicate m (get_or c.args.w.now i 0)) four (stored (length c.args.w.now) c.requires.0 c.loop-b.b c.loop-b.place (omega arith) c.loop-b.invariant.1)),
      found-more (length c.args.w.now) c.requires.0 c.loop-b.b c.loop-b.place (omega arith) c.loop-b.invariant.1,
    )
