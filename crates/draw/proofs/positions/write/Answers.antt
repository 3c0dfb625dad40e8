use mathlib.Core.Path.{sym, ap, ◌∙◌}
use mathlib.Core.List.{List, [], ◌∷◌, ◌++◌}
use Prim.Native.Nat.{ℕ, ◌*◌, ◌%◌}
use native.Mathlib.Omega.{arith}
use Rattle.algebra.specs.Lists.{build}
use Rattle.algebra.proofs.ListLaws.{length-build, get_or-build}
use Rattle.numbers.specs.Numbers.{bytes4}
use Rattle.numbers.proofs.Filling.{filling-none, filling-more, filling-all}
use Rattle.running.specs.Fed.{Fed}
use Rattle.running.proofs.Feeding.{feeds-as}
use Rattle.draw.specs.Draw.{four, position_of}
use Rattle.draw.proofs.positions.write.Goals as goal
use Rattle.draw.proofs.positions.write.Goals.{After-feed-common}

-- What all positions have in common is fed in.
common-fed : (c : After-feed-common) → Fed c.feed-common.result ((0x04 ∷ []) ++ c.args.seed.now ++ bytes4 c.args.challenge ++ c.args.root.now)
common-fed c =
    let number = feeds-as c.to_le_bytes.ensures c.feed-3.ensures in
    c.feed-common.ensures.follows _ (number.follows _ (c.feed-2.ensures.follows _ (c.feed.ensures.follows _ c.new.ensures)))

pub loop-j-init : goal.loop-j-init
loop-j-init c = filling-none (build c.args.t (position_of c.args.k c.args.seed.now c.args.challenge c.args.root.now)) c.args.positions.now

pub loop-j-preserved : goal.loop-j-preserved
unfolding position_of
loop-j-preserved c =
    let f = position_of c.args.k c.args.seed.now c.args.challenge c.args.root.now in
    let fed = (feeds-as c.to_le_bytes-in-loop-j.ensures c.feed-in-loop-j.ensures).follows _ (common-fed (goal.at.loop-j-preserved c).After-feed-common) in
    let drawn = ap (λ (d : List ℕ). four d % (4 * c.args.k)) (c.digest-d.ensures _ fed) in
    filling-more (build c.args.t f) c.args.positions.now c.loop-j.j c.loop-j.positions c.loop-j.invariant _ c.put.new.b (omega (arith, length-build c.args.t f)) (ap (λ (x : ℕ). x % (4 * c.args.k)) c.get.ensures ∙ drawn ∙ sym (get_or-build c.args.t f c.loop-j.j 0 c.loop-j-test.true)) c.put.ensures

pub returns : goal.returns
returns c =
    let f = position_of c.args.k c.args.seed.now c.args.challenge c.args.root.now in
    let size = length-build c.args.t f in
    filling-all (build c.args.t f) c.args.positions.now c.loop-j.j c.loop-j.positions c.loop-j.invariant (omega (arith, size)) (omega (arith, size, c.requires))
