-- The one-block example of NIST for SHA-256, by computation.
-- Assumes nothing.
use Rattle.std.proofs.Common.{◌≡◌, [], ◌∷◌, refl}
use Rattle.hash.specs.Word.{ROTR, Ch, Maj, Σ₀, Σ₁, σ₀, σ₁}
use Rattle.hash.specs.Sha256.{up_to, in_bytes, K, H₀, zeros, padding, pad, words, block_count, scheduled, schedule, round_with, rounds, sum, compress, hash, bytes, digest}

-- "abc"
pub abc : digest (0x61 ∷ 0x62 ∷ 0x63 ∷ [])
    ≡ 0xba ∷ 0x78 ∷ 0x16 ∷ 0xbf ∷ 0x8f ∷ 0x01 ∷ 0xcf ∷ 0xea ∷ 0x41 ∷ 0x41 ∷ 0x40 ∷ 0xde ∷ 0x5d ∷ 0xae ∷ 0x22 ∷ 0x23 ∷
    0xb0 ∷ 0x03 ∷ 0x61 ∷ 0xa3 ∷ 0x96 ∷ 0x17 ∷ 0x7a ∷ 0x9c ∷ 0xb4 ∷ 0x10 ∷ 0xff ∷ 0x61 ∷ 0xf2 ∷ 0x00 ∷ 0x15 ∷ 0xad ∷ []
unfolding ROTR Ch Maj Σ₀ Σ₁ σ₀ σ₁ up_to in_bytes K H₀ zeros padding pad words block_count scheduled schedule round_with rounds sum compress hash bytes digest
abc = refl
