-- `scan::scan_lines` meets its contract. The invariant is `Passing`: the pass over the lines that are left ends as the whole one does.
use Prim.Native.Nat.{◌-◌}
use lib.ListN.{length}
use Rattle.scan.specs.Scan.{SameSlices}
use Rattle.scan.proofs.ScanLoop.{Passing}
use Rattle.scan.proofs.scan_lines.Given as goal

abbrev pub invariant-loop-st : goal.invariant-loop-st
invariant-loop-st l =
    Passing l.whole l.s l.initial.buffers.a.now l.initial.buffers.b.now l.initial.buffers.c.now l.initial.buffers.items.now l.initial.buffers.wits.now l.buffers.a.now l.buffers.b.now l.buffers.c.now l.buffers.items.now l.buffers.wits.now l.st
    × SameSlices l.initial.buffers l.buffers

abbrev pub decreases-loop-st : goal.decreases-loop-st
decreases-loop-st l = length l.s - l.st.at
