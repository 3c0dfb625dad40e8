-- FIPS 180-4, SHA-256: constants (4.2.2), padding (5.1.1), parsing (5.2.1), initial value (5.3.3) and computation (6.2).
-- A message is a list of bytes, so its length in bits is a multiple of 8. A word is a number below 2 ^ 32, and a hash value
-- is the list of its eight words. `get_or xs i 0` is entry i of xs, counted from 0.
-- Assumes nothing.
use Rattle.std.specs.Prelude.{ℕ, zero, suc, ◌+◌, ◌-◌, ◌*◌, ◌/◌, ◌%◌, ◌^◌, List, [], ◌∷◌, ◌++◌, length, replicate, slice_index, slice_index_or}
use Rattle.hash.specs.Word.{◌⊞◌, SHR, Ch, Maj, Σ₀, Σ₁, σ₀, σ₁}

-- the list of f 0 to f (n - 1)
unfoldable pub up_to : ℕ → (ℕ → ℕ) → List ℕ
up_to zero f = []
up_to (suc n) f = up_to n f ++ (f n ∷ [])

-- byte n of a number, counted from the lowest
abbrev pub byte : ℕ → ℕ → ℕ
byte n x = SHR (8 * n) x % 256

-- a number in n bytes, highest first
unfoldable pub in_bytes : ℕ → ℕ → List ℕ
in_bytes n x = up_to n (λ j. byte (n - 1 - j) x)

-- ---- 4.2.2, 5.3.3: the sixty-four round constants and the initial hash value

unfoldable pub K : List ℕ
K =
    0x428a2f98 ∷ 0x71374491 ∷ 0xb5c0fbcf ∷ 0xe9b5dba5 ∷ 0x3956c25b ∷ 0x59f111f1 ∷ 0x923f82a4 ∷ 0xab1c5ed5 ∷
    0xd807aa98 ∷ 0x12835b01 ∷ 0x243185be ∷ 0x550c7dc3 ∷ 0x72be5d74 ∷ 0x80deb1fe ∷ 0x9bdc06a7 ∷ 0xc19bf174 ∷
    0xe49b69c1 ∷ 0xefbe4786 ∷ 0x0fc19dc6 ∷ 0x240ca1cc ∷ 0x2de92c6f ∷ 0x4a7484aa ∷ 0x5cb0a9dc ∷ 0x76f988da ∷
    0x983e5152 ∷ 0xa831c66d ∷ 0xb00327c8 ∷ 0xbf597fc7 ∷ 0xc6e00bf3 ∷ 0xd5a79147 ∷ 0x06ca6351 ∷ 0x14292967 ∷
    0x27b70a85 ∷ 0x2e1b2138 ∷ 0x4d2c6dfc ∷ 0x53380d13 ∷ 0x650a7354 ∷ 0x766a0abb ∷ 0x81c2c92e ∷ 0x92722c85 ∷
    0xa2bfe8a1 ∷ 0xa81a664b ∷ 0xc24b8b70 ∷ 0xc76c51a3 ∷ 0xd192e819 ∷ 0xd6990624 ∷ 0xf40e3585 ∷ 0x106aa070 ∷
    0x19a4c116 ∷ 0x1e376c08 ∷ 0x2748774c ∷ 0x34b0bcb5 ∷ 0x391c0cb3 ∷ 0x4ed8aa4a ∷ 0x5b9cca4f ∷ 0x682e6ff3 ∷
    0x748f82ee ∷ 0x78a5636f ∷ 0x84c87814 ∷ 0x8cc70208 ∷ 0x90befffa ∷ 0xa4506ceb ∷ 0xbef9a3f7 ∷ 0xc67178f2 ∷ []

unfoldable pub H₀ : List ℕ
H₀ =
    0x6a09e667 ∷ 0xbb67ae85 ∷ 0x3c6ef372 ∷ 0xa54ff53a ∷ 0x510e527f ∷ 0x9b05688c ∷ 0x1f83d9ab ∷ 0x5be0cd19 ∷ []

-- ---- 5.1.1: padding. The bit 1 and seven bits 0 are the byte 0x80.

-- the least number of bytes 0 after which 8 bytes are left to a multiple of 64: l + 1 + zeros l is 56 modulo 64
unfoldable pub zeros : ℕ → ℕ
zeros l = (119 - l % 64) % 64

-- what is appended to a message of l bytes
unfoldable pub padding : ℕ → List ℕ
padding l = 0x80 ∷ (replicate (zeros l) 0 ++ in_bytes 8 (8 * l))

-- the padded message
unfoldable pub pad : List ℕ → List ℕ
pad m = m ++ padding (length m)

-- the padded message, and behind it zeros up to n bytes in all
unfoldable pub padded_in : ℕ → List ℕ → List ℕ
padded_in n m = pad m ++ replicate (n - length (pad m)) 0

-- ---- 5.2.1: parsing into blocks of sixteen words, which are 64 bytes

-- the number of blocks that a message is processed in: those of the padded message
unfoldable pub block_count : List ℕ → ℕ
block_count m = length (pad m) / 64

-- the word in the four bytes from index i on, highest first
abbrev pub word : List ℕ → ℕ → ℕ
word p i = slice_index p i * 2 ^ 24 + slice_index p (i + 1) * 2 ^ 16 + slice_index p (i + 2) * 2 ^ 8 + slice_index p (i + 3)

-- the sixteen words from byte i on
unfoldable pub words : List ℕ → ℕ → List ℕ
words p i = up_to 16 (λ j. word p (i + 4 * j))

-- ---- 6.2.2, step 1: the message schedule of a block

-- word t of the schedule, from 16 on, by the words w before it
abbrev pub next_word : List ℕ → ℕ → ℕ
next_word w t = σ₁ (slice_index w (t - 2)) ⊞ slice_index_or w (t - 7) 0 ⊞ σ₀ (slice_index w (t - 15)) ⊞ slice_index_or w (t - 16) 0

-- the first 16 + n words of the schedule
unfoldable pub scheduled : List ℕ → ℕ → List ℕ
scheduled m zero = m
scheduled m (suc n) = let w = scheduled m n in w ++ (next_word w (16 + n) ∷ [])

unfoldable pub schedule : List ℕ → List ℕ
schedule m = scheduled m 48

-- ---- 6.2.2, steps 2 to 4: sixty-four rounds, and the sum with the hash value before

-- one round on the working variables s = a .. h, with its constant k and its word w of the schedule
unfoldable pub round_with : ℕ → ℕ → List ℕ → List ℕ
round_with k w s =
    let a = slice_index_or s 0 0 in
    let b = slice_index_or s 1 0 in
    let c = slice_index_or s 2 0 in
    let d = slice_index_or s 3 0 in
    let e = slice_index_or s 4 0 in
    let f = slice_index_or s 5 0 in
    let g = slice_index_or s 6 0 in
    let h = slice_index_or s 7 0 in
    let T₁ = h ⊞ Σ₁ e ⊞ Ch e f g ⊞ k ⊞ w in
    let T₂ = Σ₀ a ⊞ Maj a b c in
    (T₁ ⊞ T₂) ∷ a ∷ b ∷ c ∷ (d ⊞ T₁) ∷ e ∷ f ∷ g ∷ []

-- the working variables after t rounds, with the constants k and the words w
unfoldable pub rounds : List ℕ → List ℕ → List ℕ → ℕ → List ℕ
rounds k w s zero = s
rounds k w s (suc t) = round_with (slice_index k t) (slice_index w t) (rounds k w s t)

-- the sum of two hash values, word by word
unfoldable pub sum : List ℕ → List ℕ → List ℕ
sum x y = up_to 8 (λ i. slice_index_or x i 0 ⊞ slice_index_or y i 0)

-- the hash value after the block m, where it was h before it
unfoldable pub compress : List ℕ → List ℕ → List ℕ
compress h m = sum (rounds K (schedule m) h 64) h

-- ---- 6.2.2: the blocks in their order, and the digest

-- the hash value after the first i blocks of p, where it was h before them
unfoldable pub hash : List ℕ → List ℕ → ℕ → List ℕ
hash h p zero = h
hash h p (suc i) = compress (hash h p i) (words p (64 * i))

-- the bytes of the first n words of h, one word after the other
unfoldable pub bytes : List ℕ → ℕ → List ℕ
bytes h zero = []
bytes h (suc n) = bytes h n ++ in_bytes 4 (slice_index h n)

-- the message digest: the bytes of the hash value after all blocks of the padded message
unfoldable pub digest : List ℕ → List ℕ
digest m = bytes (hash H₀ (pad m) (block_count m)) 8
