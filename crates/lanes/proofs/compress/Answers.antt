use mathlib.Core.Path.{◌≡◌, refl, ap, subst, ◌∙◌}
use Prim.Native.Nat.{ℕ, ◌+◌, ◌*◌}
use lib.ListN.{take}
use lib.Seq.{length-take-le}
use Rattle.hash.specs.Sha256.{K}
use Rattle.hash.proofs.Round.{length_part}
use Rattle.lanes.specs.Lanes.{lane}
use Rattle.lanes.proofs.Lanes.{length-lane, lane-front, lane-sum}
use Rattle.lanes.proofs.Compression.{SoFar, so-far-start, so-far-step, compressed}
use native.Mathlib.Omega.{arith}
use borrow.Author.Rules.{rules}
use Rattle.lanes.proofs.compress.Goals as goal

pub loop-i-init : goal.loop-i-init
loop-i-init c = (search rules, search rules, λ q inside. so-far-start (lane 4 q 8 c.args.h) (lane 4 q 16 c.args.m))

pub four_rounds-requires : goal.four_rounds-requires
four_rounds-requires c = (c.loop-i.invariant.0, length-take-le 16 c.loop-i.w (omega arith), length_part (4 * c.loop-i.i) 4 _ (omega arith))

pub next_words-requires : goal.next_words-requires
next_words-requires c = c.loop-i.invariant.1

pub loop-i-preserved : goal.loop-i-preserved
unfolding K
loop-i-preserved c =
    let t : ℕ = 4 * c.loop-i.i in
    let next : t + 4 ≡ 4 * (c.loop-i.i + 1) = omega arith in (
      c.four_rounds.auto.state ∙ c.loop-i.invariant.0,
      c.next_words.auto.words ∙ c.loop-i.invariant.1,
      λ q inside.
          subst (λ (n : ℕ). SoFar (lane 4 q 8 c.args.h) (lane 4 q 16 c.args.m) n (lane 4 q 8 c.four_rounds.new.state) (lane 4 q 16 c.next_words.new.words)) next
          (so-far-step (lane 4 q 8 c.args.h) (lane 4 q 16 c.args.m) (lane 4 q 8 c.loop-i.s) (lane 4 q 16 c.loop-i.w) (lane 4 q 4 (take 16 c.loop-i.w))
          (lane 4 q 8 c.four_rounds.new.state) (lane 4 q 16 c.next_words.new.words) t (length-lane 4 q 16 c.args.m) (c.loop-i.invariant.2 q inside)
          (lane-front 4 q 4 16 c.loop-i.w inside (omega arith)) (c.four_rounds.ensures q inside) (c.next_words.ensures q inside)),
    )

pub sum-requires : goal.sum-requires
sum-requires c = (c.loop-i.invariant.0, search rules)

pub returns : goal.returns
returns c q inside =
    compressed (lane 4 q 8 c.args.h) (lane 4 q 16 c.args.m) (lane 4 q 8 c.loop-i.s) (lane 4 q 16 c.loop-i.w) (lane 4 q 8 c.sum.new.z) (4 * c.loop-i.i) (length-lane 4 q 16 c.args.m)
    (omega arith) (c.loop-i.invariant.2 q inside) (ap (lane 4 q 8) c.sum.ensures ∙ lane-sum 4 q 32 c.loop-i.s c.args.h inside refl)
