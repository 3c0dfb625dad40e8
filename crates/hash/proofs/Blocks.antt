-- The hash value, block by block, and the digest.
-- Assumes nothing.
use Rattle.std.proofs.Common.{◌≡◌, ℕ, zero, suc, ◌+◌, ◌-◌, ◌*◌, ◌/◌, ◌%◌, ◌≤◌, List, ◌++◌, length, get_or, take, drop, replicate, sym, refl, ap, ◌∙◌, ap₂, add-zero, add-suc, add-one, arith, length-drop, get_or-drop, take_at}
use lib.ListN.{get_or-append}
use Rattle.hash.specs.Sha256.{H₀, padding, pad, padded_in, words, block_count, compress, hash, bytes, digest}
use Rattle.hash.proofs.Fill.{up_to-ext}
use Rattle.hash.proofs.Pad.{length-pad}

-- one more block b
pub one_block : (p h s b r : List ℕ) (i : ℕ) → s ≡ hash h p i → b ≡ words p (64 * i) → r ≡ compress s b → r ≡ hash h p (i + 1)
unfolding hash
one_block p h s b r i e-s e-b e-r = rw (add-one i) (e-r ∙ (λ k. compress (e-s k) (e-b k)))

-- a block within the first of two lists
pub words_append : (p q : List ℕ) (i : ℕ) → i + 64 ≤ length p → words (p ++ q) i ≡ words p i
unfolding words
words_append p q i h =
    up_to-ext 16 _ _
    (λ j k. rw (
      get_or-append p q 0 (i + 4 * j) (omega arith),
      get_or-append p q 0 (i + 4 * j + 1) (omega arith),
      get_or-append p q 0 (i + 4 * j + 2) (omega arith),
      get_or-append p q 0 (i + 4 * j + 3) (omega arith),
    ))

-- an entry of what is left past n
get_or-past : (p : List ℕ) (n i k : ℕ) → n + i ≡ k → get_or (drop n p) i 0 ≡ get_or p k 0
get_or-past p n i k e = get_or-drop n p i 0 ∙ ap (λ (a : ℕ). get_or p a 0) e

-- a block of what is left past n
pub words-drop : (p : List ℕ) (n i : ℕ) → words (drop n p) i ≡ words p (n + i)
unfolding words
words-drop p n i =
    up_to-ext 16 _ _
    (λ j k. rw (
      get_or-past p n (i + 4 * j) (n + i + 4 * j) (omega arith),
      get_or-past p n (i + 4 * j + 1) (n + i + 4 * j + 1) (omega arith),
      get_or-past p n (i + 4 * j + 2) (n + i + 4 * j + 2) (omega arith),
      get_or-past p n (i + 4 * j + 3) (n + i + 4 * j + 3) (omega arith),
    ))

-- the first i blocks stay where more bytes follow
pub hash-append : (h p q : List ℕ) (i : ℕ) → 64 * i ≤ length p → hash h (p ++ q) i ≡ hash h p i
unfolding hash
hash-append h p q zero le = refl
hash-append h p q (suc i) le = ap₂ compress (hash-append h p q i (omega arith)) (words_append p q (64 * i) (omega arith))

-- n blocks, and i blocks of what is left past them
pub hash-drop : (h p : List ℕ) (n i : ℕ) → hash (hash h p n) (drop (64 * n) p) i ≡ hash h p (n + i)
unfolding hash
hash-drop h p n zero = ap (hash h p) (sym (add-zero n))
hash-drop h p n (suc i) =
    let at : 64 * n + 64 * i ≡ 64 * (n + i) = omega arith in
    ap₂ compress (hash-drop h p n i) (words-drop p (64 * n) (64 * i) ∙ ap (words p) at) ∙ ap (hash h p) (sym (add-suc n i))

-- the whole blocks of m leave h; its last blocks, which stand at the front of t, leave g
pub all_blocks : (m h t z g r : List ℕ) (n : ℕ) → h ≡ hash H₀ m (length m / 64) → t ≡ drop (64 * (length m / 64)) (pad m) ++ z
    → n ≡ 64 * ((length m % 64 + 8) / 64 + 1) → g ≡ hash h (take n t) (length (take n t) / 64) → r ≡ bytes g 8 → r ≡ digest m
unfolding digest block_count pad
all_blocks m h t z g r n e-h e-t e-n e-g e-r =
    let q : ℕ = length m / 64 in
    let past : List ℕ = drop (64 * q) (pad m) in
    let l = length-pad m in
    let size : length past ≡ 64 * (length (pad m) / 64 - q) = length-drop (64 * q) (pad m) ∙ omega arith in
    let last : take n t ≡ past = ap (take n) e-t ∙ take_at past z n (omega arith) in
    let count : q + length past / 64 ≡ length (pad m) / 64 = omega arith in
    e-r
    ∙ ap (λ (x : List ℕ). bytes x 8)
    (e-g ∙ (λ i. hash (e-h i) (last i) (length (last i) / 64))
    ∙ ap (λ (x : List ℕ). hash x past (length past / 64)) (sym (hash-append H₀ m (padding (length m)) q (omega arith)))
    ∙ hash-drop H₀ (pad m) q (length past / 64)
    ∙ ap (hash H₀ (pad m)) count)

-- they are as many as the message has
pub all-counted : (m : List ℕ) {whole all size : ℕ} → whole ≡ 0 + length m / 64 → size ≡ 64 * ((length m % 64 + 8) / 64 + 1) → all ≡ whole + size / 64
    → all ≡ block_count m
unfolding block_count
all-counted m e-w e-s e-a = omega (arith, e-w, e-s, e-a, length-pad m)

-- the blocks of a padded message, also where zeros follow it
pub padded-digest : (m : List ℕ) (size : ℕ) {p : List ℕ} {n : ℕ} → p ≡ padded_in size m → block_count m ≡ n → bytes (hash H₀ p n) 8 ≡ digest m
unfolding padded_in digest block_count
padded-digest m size e-p e-n =
    ap (λ (x : List ℕ). bytes x 8) (ap₂ (hash H₀) e-p (sym e-n) ∙ hash-append H₀ (pad m) (replicate (size - length (pad m)) 0) (length (pad m) / 64) (omega arith))
