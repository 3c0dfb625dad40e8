-- `digest` meets its contract: the sizes, and the three lists behind them.
use native.Mathlib.Omega.{arith}
use Rattle.circuit.specs.CircuitString.{circuit_string}
use Rattle.circuit.proofs.digest.Goals as goal

pub feed_list-requires : goal.feed_list-requires
feed_list-requires c = (omega (arith, c.sizes.ensures.0), c.requires.a_len_bound.0)

pub feed_list-requires-2 : goal.feed_list-requires-2
feed_list-requires-2 c = (omega (arith, c.requires.a_len_bound.0, c.sizes.ensures.0, c.feed_list.ensures.longer), c.requires.a_len_bound.1)

pub feed_list-lists-requires : goal.feed_list-lists-requires
feed_list-lists-requires c = (omega (arith, c.requires.a_len_bound.0, c.requires.a_len_bound.1, c.sizes.ensures.0, c.feed_list.ensures.longer, c.feed_list-2.ensures.longer), c.requires.a_len_bound.2)

pub digest-requires : goal.digest-requires
digest-requires c =
    omega (
      arith,
      c.requires.a_len_bound.0,
      c.requires.a_len_bound.1,
      c.requires.a_len_bound.2,
      c.sizes.ensures.0,
      c.feed_list.ensures.longer,
      c.feed_list-2.ensures.longer,
      c.feed_list-lists.ensures.longer,
    )

pub returns : goal.returns
unfolding circuit_string
returns c = c.digest.ensures _ (c.feed_list-lists.ensures.follows _ (c.feed_list-2.ensures.follows _ (c.feed_list.ensures.follows _ c.sizes.ensures.1)))
