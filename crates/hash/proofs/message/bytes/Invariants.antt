-- `message::bytes` meets its contract. The invariant: the bytes of the first j words are in place.
-- Assumes nothing.
use Rattle.std.proofs.Common.{◌≡◌, ◌*◌, length, take}
use Rattle.hash.specs.Sha256.{bytes}
use Rattle.hash.proofs.message.bytes.Given as goal

abbrev pub invariant-loop-j : goal.invariant-loop-j
invariant-loop-j l = (length l.d ≡ 32) × (take (4 * l.j) l.d ≡ bytes l.h l.j)
