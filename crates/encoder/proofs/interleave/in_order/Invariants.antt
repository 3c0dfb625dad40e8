-- `interleave::in_order` meets its contract. The invariant: the openings of the positions before position q are copied.
use Prim.Native.Nat.{◌*◌}
use Rattle.algebra.specs.Lists.{concat_to}
use Rattle.encoder.specs.Parts.{piece, Filled}
use Rattle.encoder.proofs.interleave.in_order.Given as goal

abbrev pub invariant-loop-q : goal.invariant-loop-q
invariant-loop-q l = Filled (l.count * l.size) (λ p. concat_to l.count (λ i. piece l.opened (l.t * l.size) l.size i p)) l.initial.openings l.q l.openings
