-- `cast::write` meets its contract: the numbers of the new item are written with the root.
use mathlib.Core.Path.{◌∙◌}
use Rattle.decider.proofs.CastLaws.{cast-bytes}
use Rattle.decider.proofs.cast.write.Goals as goal

pub returns : goal.returns
returns c =
    let s = c.args.sizes in
    c.write.ensures
    ∙ cast-bytes s.m s.n s.k c.args.points.now c.args.r.now c.args.x.now c.args.w.now c.requires.lengths.0 c.requires.lengths.1 c.requires.below.0 c.requires.below.1 c.collect.ensures c.root-root.ensures
