-- `message::block` meets its contract. The invariant: the first j words are in place.
-- Assumes nothing.
use Rattle.std.proofs.Common.{◌≡◌, ◌+◌, ◌*◌, length, take}
use Rattle.hash.specs.Sha256.{word, up_to}
use Rattle.hash.proofs.message.block.Given as goal

abbrev pub invariant-loop-j : goal.invariant-loop-j
invariant-loop-j l = (length l.m ≡ 16) × (take l.j l.m ≡ up_to l.j (λ k. word l.s (l.at + 4 * k)))
