-- Numbers in bytes, and the bytes of a hash value.
-- Assumes nothing.
use Rattle.std.proofs.Common.{◌≡◌, ℕ, zero, suc, ◌+◌, ◌-◌, ◌*◌, ◌<◌, ◌≤◌, List, ◌++◌, length, get_or, take, sym, refl, ap, ◌∙◌, ap₂, le_of_eq, add-one, div-one, arith, length-append, take_all, get_or-append-add}
use Rattle.std.specs.Int.{w32, w64, to_be_bytes}
use Rattle.std.proofs.lemmas.Slice.{take-put_mid}
use borrow.Rule.Slice.PartMut.{put_mid}
use native.Mathlib.Decide.{dec_lt}
use lib.ListN.{get_or-append}
use Rattle.hash.specs.Sha256.{up_to, in_bytes, bytes}
use Rattle.hash.proofs.Fill.{length-up_to, get_or-up_to}

-- `to_be_bytes` gives them
pub in_bytes-4 : (x : ℕ) → to_be_bytes w32 x ≡ in_bytes 4 x
unfolding up_to in_bytes
in_bytes-4 x = cc (div-one x)

pub in_bytes-8 : (x : ℕ) → to_be_bytes w64 x ≡ in_bytes 8 x
unfolding up_to in_bytes
in_bytes-8 x = cc (div-one x)

pub length-in_bytes : (n x : ℕ) → length (in_bytes n x) ≡ n
unfolding in_bytes
length-in_bytes n x = length-up_to n _

pub length-bytes : (h : List ℕ) (n : ℕ) → length (bytes h n) ≡ 4 * n
unfolding bytes
length-bytes h zero = refl
length-bytes h (suc n) =
    let l = length-bytes h n in
    let k = length-in_bytes 4 (get_or h n 0) in
    length-append (bytes h n) (in_bytes 4 (get_or h n 0)) ∙ omega arith

-- each is a byte
pub bytes_below : (h : List ℕ) (n i : ℕ) → i < 4 * n → get_or (bytes h n) i 0 < 256
unfolding bytes in_bytes
bytes_below h zero i k = absurd (omega arith)
bytes_below h (suc n) i k = go (bytes_below h n i) (dec_lt i (4 * n))
  where
    go : (i < 4 * n → get_or (bytes h n) i 0 < 256) → Dec (i < 4 * n) → get_or (bytes h n ++ in_bytes 4 (get_or h n 0)) i 0 < 256
    go ih (yes before) = rw (get_or-append (bytes h n) (in_bytes 4 (get_or h n 0)) 0 i (rw (length-bytes h n) before)) (ih before)
    go ih (no past) =
        let l = length-bytes h n in
        let e : i ≡ length (bytes h n) + (i - 4 * n) = omega arith in
        rw (e, get_or-append-add (bytes h n) (in_bytes 4 (get_or h n 0)) (i - 4 * n) 0, get_or-up_to 4 _ (i - 4 * n) (omega arith)) (omega arith)

-- d holds the bytes of the first j words of h
module _ (h d : List ℕ) (j : ℕ) (so_far : take (4 * j) d ≡ bytes h j) where
  -- w is written behind them
  pub word_more : (w : List ℕ) (k : ℕ) → w ≡ in_bytes 4 (get_or h j 0) → 4 * j ≤ length d → take (4 * (j + 1)) (put_mid (4 * j) k d w) ≡ bytes h (j + 1)
  unfolding bytes
  word_more w k e-w room =
      let four : length w ≡ 4 = ap length e-w ∙ length-in_bytes 4 (get_or h j 0) in
      take-put_mid (4 * j) k d w (4 * (j + 1)) (omega arith) room ∙ rw (add-one j) (ap₂ (λ (x y : List ℕ). x ++ y) so_far e-w)

  pub words-all : j ≡ 8 → length d ≡ 32 → d ≡ bytes h 8
  words-all e l = sym (take_all 32 d (le_of_eq l)) ∙ ap (λ (i : ℕ). take (4 * i) d) (sym e) ∙ so_far ∙ ap (bytes h) e
