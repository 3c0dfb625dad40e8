-- `listing::put_claims` meets its contract. The invariant: the lines of the first i items are put, in at most 33 bytes each.
use mathlib.Core.Path.{◌≡◌}
use mathlib.Core.List.{◌++◌}
use Prim.Native.Nat.{◌+◌, ◌*◌, ◌≤◌}
use lib.ListN.{length}
use Rattle.listing.specs.Listing.{claim_lines}
use Rattle.listing.proofs.listing.put_claims.Given as goal

abbrev pub invariant-loop-i : goal.invariant-loop-i
invariant-loop-i l = (length l.text.bytes ≤ length l.initial.text.bytes + 33 * l.i) × (l.text.bytes ≡ l.initial.text.bytes ++ claim_lines l.r.sizes.m l.r.sizes.n l.r.sizes.k l.circuit.a.now l.circuit.b.now l.circuit.c.now l.items l.wits l.i)
