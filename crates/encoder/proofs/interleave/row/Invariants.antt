-- `interleave::row` meets its contract. The invariant: the openings of the parts before part i are copied.
use Rattle.encoder.specs.Parts.{piece, Filled}
use Rattle.encoder.proofs.interleave.row.Given as goal

abbrev pub invariant-loop-i : goal.invariant-loop-i
invariant-loop-i l = Filled l.size (λ j. piece l.opened l.width l.size j l.q) l.initial.out l.i l.out
