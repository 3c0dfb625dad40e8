-- `challenge::seed_of` meets its contract: what is fed in is what is defined.
use Rattle.running.proofs.Feeding.{feeds-as}
use Rattle.draw.specs.Draw.{seed_of}
use Rattle.draw.proofs.challenge.seed_of.Goals as goal

pub returns : goal.returns
unfolding seed_of
returns c =
    let m = feeds-as c.to_le_bytes.ensures c.feed-2.ensures in
    let n = feeds-as c.to_le_bytes-2.ensures c.feed-3.ensures in
    let k = feeds-as c.to_le_bytes-3.ensures c.feed-4.ensures in
    let l = feeds-as c.to_le_bytes-4.ensures c.feed-5.ensures in
    let sized = l.follows _ (k.follows _ (n.follows _ (m.follows _ (c.feed.ensures.follows _ c.new.ensures)))) in
    c.digest.ensures _ (c.feed-7.ensures.follows _ (c.feed-6.ensures.follows _ sized))
