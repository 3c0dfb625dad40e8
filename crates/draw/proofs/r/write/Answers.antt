use mathlib.Core.Path.{sym, ap, ◌∙◌}
use mathlib.Core.List.{List, [], ◌∷◌, ◌++◌}
use Prim.Native.Nat.{ℕ, ◌%◌}
use native.Mathlib.Omega.{arith}
use Rattle.algebra.specs.Lists.{build}
use Rattle.algebra.proofs.ListLaws.{length-build, get_or-build}
use Rattle.numbers.proofs.Filling.{filling-none, filling-more, filling-all}
use Rattle.field.specs.BabyBear.{p}
use Rattle.running.specs.Fed.{Fed}
use Rattle.running.proofs.Feeding.{feeds-as}
use Rattle.draw.specs.Draw.{eight, r_of}
use Rattle.draw.proofs.r.write.Goals as goal
use Rattle.draw.proofs.r.write.Goals.{After-feed-common}

-- What all numbers have in common is fed in.
common-fed : (c : After-feed-common) → Fed c.feed-common.result ((0x05 ∷ []) ++ c.args.root.now ++ c.args.x.now)
common-fed c = c.feed-common.ensures.follows _ (c.feed-2.ensures.follows _ (c.feed.ensures.follows _ c.new.ensures))

pub loop-j-init : goal.loop-j-init
loop-j-init c = filling-none (build c.args.m (r_of c.args.root.now c.args.x.now)) c.args.r.now

pub loop-j-preserved : goal.loop-j-preserved
unfolding r_of
loop-j-preserved c =
    let f = r_of c.args.root.now c.args.x.now in
    let fed = (feeds-as c.to_le_bytes.ensures c.feed-in-loop-j.ensures).follows _ (common-fed (goal.at.loop-j-preserved c).After-feed-common) in
    let drawn = ap (λ (d : List ℕ). eight d % p) (c.digest-d.ensures _ fed) in
    filling-more (build c.args.m f) c.args.r.now c.loop-j.j c.loop-j.r c.loop-j.invariant _ c.put.new.b (omega (arith, length-build c.args.m f)) (c.eight.ensures ∙ drawn ∙ sym (get_or-build c.args.m f c.loop-j.j 0 c.loop-j-test.true)) c.put.ensures

pub returns : goal.returns
returns c =
    let f = r_of c.args.root.now c.args.x.now in
    let size = length-build c.args.m f in
    filling-all (build c.args.m f) c.args.r.now c.loop-j.j c.loop-j.r c.loop-j.invariant (omega (arith, size)) (omega (arith, size, c.requires))
