-- `sizes` meets its contract: the four fields follow one another.
use native.Mathlib.Omega.{arith}
use Rattle.running.proofs.Feeding.{feeds-as}
use Rattle.circuit.proofs.sizes.Goals as goal

pub returns : goal.returns
returns c =
    let m = feeds-as c.to_le_bytes.ensures c.feed-2.ensures in
    let n = feeds-as c.to_le_bytes-2.ensures c.feed-3.ensures in
    let k = feeds-as c.to_le_bytes-3.ensures c.feed-4.ensures in
    (omega (arith, c.new.ensures.size, c.feed.ensures.longer, m.longer, n.longer, k.longer), k.follows _ (n.follows _ (m.follows _ (c.feed.ensures.follows _ c.new.ensures))))
