-- What callers use of a digest: it has 32 entries, and each is a byte; and how many blocks a message of some length has.
-- Assumes nothing.
use Rattle.std.proofs.Common.{◌≡◌, ℕ, ◌+◌, ◌/◌, List, length, arith}
use Rattle.hash.specs.Sha256.{block_count, digest}
use Rattle.hash.proofs.Bytes.{length-bytes}
use Rattle.hash.proofs.Pad.{length-pad}

pub digest-length : (m : List ℕ) → length (digest m) ≡ 32
unfolding digest
digest-length m = length-bytes _ 8

pub block-count : (m : List ℕ) → block_count m ≡ (length m + 8) / 64 + 1
unfolding block_count
block-count m = omega (arith, length-pad m)
