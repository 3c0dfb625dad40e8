-- `feed_list` meets its contract: the count, and the entries behind it.
use Rattle.running.proofs.Feeding.{feeds-as, feeds-both}
use Rattle.circuit.proofs.feed_list.Goals as goal

pub returns : goal.returns
returns c = feeds-both (feeds-as c.to_le_bytes.ensures c.feed.ensures) c.feed-2.ensures
