-- The padded message: its length, and its last blocks, which are written into a buffer of 128 zeros.
-- Assumes nothing.
use Rattle.std.proofs.Common.{◌≡◌, ℕ, suc, ◌+◌, ◌-◌, ◌*◌, ◌/◌, ◌%◌, ◌<◌, ◌≤◌, List, ◌∷◌, ◌++◌, length, take, drop, set, replicate, sym, ap, ◌∙◌, ap₂, append_assoc, le_of_eq, arith, length-append, length-drop, take-append-drop, length-take-le, take_all, take_at, drop_at}
use lib.ListN.{length-replicate, replicate-append-replicate}
use lib.Seq.{set_at, drop-append-add, drop-append-le}
use Rattle.hash.specs.Sha256.{in_bytes, zeros, padding, pad, padded_in}
use borrow.Rule.Slice.PartMut.{put_mid}
use Rattle.hash.proofs.Copy.{copied}
use Rattle.hash.proofs.Bytes.{length-in_bytes}

length-padding : (l : ℕ) → length (padding l) ≡ 9 + zeros l
unfolding padding
length-padding l =
    let a = length-append (replicate (zeros l) 0) (in_bytes 8 (8 * l)) in
    let r = length-replicate {A = ℕ} (zeros l) 0 in
    let b = length-in_bytes 8 (8 * l) in
    omega arith

-- it fills whole blocks
pub length-pad : (m : List ℕ) → length (pad m) ≡ 64 * ((length m + 8) / 64 + 1)
unfolding pad zeros
length-pad m = let p = length-padding (length m) in length-append m (padding (length m)) ∙ omega arith

-- the byte 0x80 and eight bytes s, written into a buffer that holds `rest` and then zeros
module _ (rest s : List ℕ) (z k : ℕ) where
  abbrev front : List ℕ
  front = rest ++ (0x80 ∷ replicate z 0)

  abbrev room : List ℕ
  room = replicate 8 0 ++ replicate k 0

  marked : (b : List ℕ) (r n : ℕ) → b ≡ rest ++ replicate n 0 → n ≡ suc (z + (8 + k)) → length rest ≡ r → set b r 0x80 ≡ front ++ room
  marked b r n e-b e-n l =
      ap (λ (t : List ℕ). set t r 0x80) (e-b ∙ ap (λ (i : ℕ). rest ++ replicate i 0) e-n)
      ∙ set_at rest 0 (replicate (z + (8 + k)) 0) 0x80 r l
      ∙ ap (λ (t : List ℕ). rest ++ (0x80 ∷ t)) (sym (replicate-append-replicate z (8 + k) 0) ∙ ap (λ (t : List ℕ). replicate z 0 ++ t) (sym (replicate-append-replicate 8 k 0)))
      ∙ sym (append_assoc rest (0x80 ∷ replicate z 0) room)

  written : (t : List ℕ) (e : ℕ) → t ≡ front ++ room → e ≡ length rest + 1 + z
      → take e t ++ s ++ drop (e + 8) t ≡ rest ++ (0x80 ∷ (replicate z 0 ++ s)) ++ replicate k 0
  written t e e-t e-e =
      let a = length-append rest (0x80 ∷ replicate z 0) in
      let b = length-replicate {A = ℕ} z 0 in
      let l : length front ≡ e = omega arith in
      ap₂ (λ (x y : List ℕ). x ++ s ++ y) (ap (take e) e-t ∙ take_at front room e l)
      (ap (drop (e + 8)) e-t ∙ ap (λ (n : ℕ). drop (n + 8) (front ++ room)) (sym l) ∙ drop-append-add front room 8)
      ∙ ap (λ (x : List ℕ). x ++ replicate k 0) (append_assoc rest (0x80 ∷ replicate z 0) s)

-- b with the byte 0x80 and the length r, where b holds the last bytes of a message of l bytes up to `at`, and zeros
pub closed : (b r : List ℕ) (at l : ℕ) → length b ≡ 128 → at < 120 → at % 64 ≡ l % 64 → drop at b ≡ replicate (128 - at) 0 → r ≡ in_bytes 8 (8 * l)
    → put_mid (at + 1 + (119 - at % 64) % 64) (at + 1 + (119 - at % 64) % 64 + 8 - (at + 1 + (119 - at % 64) % 64)) (set b at 0x80) r
    ≡ take at b ++ padding l ++ replicate (128 - at - length (padding l)) 0
unfolding zeros padding
closed b r at l l-b few same empty e-r =
    let rest : List ℕ = take at b in
    let s : List ℕ = in_bytes 8 (8 * l) in
    let end : ℕ = at + 1 + (119 - at % 64) % 64 in
    let k : ℕ = 128 - at - length (padding l) in
    let p = length-padding l in
    let size : length rest ≡ at = length-take-le at b (omega arith) in
    let count : 128 - at ≡ suc (zeros l + (8 + k)) = omega arith in
    let eight : length s ≡ 8 = length-in_bytes 8 (8 * l) in
    copied (set b at 0x80) s r end (end + 8 - end) e-r (omega arith)
    ∙ (λ i. take (at + 1 + (119 - same i) % 64) (set b at 0x80) ++ s ++ drop (at + 1 + (119 - same i) % 64 + eight i) (set b at 0x80))
    ∙ written rest s (zeros l) k (set b at 0x80) (at + 1 + zeros l)
    (marked rest s (zeros l) k b at (128 - at) (sym (take-append-drop at b) ∙ ap (λ (t : List ℕ). rest ++ t) empty) count size)
    (omega arith)

-- n bytes r, written at the front of 128 zeros
abbrev pub front_of : List ℕ → ℕ → List ℕ
front_of r n = r ++ drop n (replicate 128 0)

pub length_front : (r : List ℕ) (n : ℕ) → length r ≡ n → n ≤ 128 → length (front_of r n) ≡ 128
length_front r n l few = length-append r (drop n (replicate 128 0)) ∙ omega (arith, length-drop n (replicate {A = ℕ} 128 0))

-- what follows them
pub zeros-behind : (r : List ℕ) (n : ℕ) → length r ≡ n → n ≤ 128 → drop n (front_of r n) ≡ replicate (128 - n) 0
zeros-behind r n l few =
    let all : n + (128 - n) ≡ 128 = omega arith in
    drop_at r (drop n (replicate 128 0)) n l
    ∙ ap (drop n) (sym (replicate-append-replicate n (128 - n) 0 ∙ ap (λ (i : ℕ). replicate {A = ℕ} i 0) all))
    ∙ drop_at (replicate n 0) (replicate (128 - n) 0) n (length-replicate n 0)

-- a short message m, written at the front of 128 zeros, and its padding behind it
pub padded-is : (m r out : List ℕ) → r ≡ m
    → out ≡ take (length m) (front_of r (length m)) ++ padding (length m) ++ replicate (128 - length m - length (padding (length m))) 0
    → out ≡ padded_in 128 m
unfolding pad padded_in
padded-is m r out e-r e-out =
    let a = length-append m (padding (length m)) in
    let left : 128 - length m - length (padding (length m)) ≡ 128 - length (m ++ padding (length m)) = omega arith in
    e-out
    ∙ ap₂ (λ (x : List ℕ) (n : ℕ). x ++ padding (length m) ++ replicate n 0)
    (take_at r (drop (length m) (replicate 128 0)) (length m) (ap length e-r) ∙ e-r) left

-- the bytes of m past its whole blocks, as the code's slice has them
abbrev pub rest_of : List ℕ → List ℕ
rest_of m = take (length m - 64 * (length m / 64)) (drop (64 * (length m / 64)) m)

pub rest-is : (m : List ℕ) → rest_of m ≡ drop (64 * (length m / 64)) m
rest-is m = take_all (length m - 64 * (length m / 64)) (drop (64 * (length m / 64)) m) (le_of_eq (length-drop (64 * (length m / 64)) m))

-- r are these bytes
module _ (m r : List ℕ) (e-r : r ≡ rest_of m) where
  pub length_rest : length r ≡ length m % 64
  length_rest = ap length (e-r ∙ rest-is m) ∙ length-drop (64 * (length m / 64)) m ∙ omega arith

  -- at the front of 128 zeros, and with the padding, they are the last blocks
  pub last-is : (z out : List ℕ) → out ≡ take (length m % 64) (front_of r (length m % 64)) ++ padding (length m) ++ z
      → out ≡ drop (64 * (length m / 64)) (pad m) ++ z
  unfolding pad
  last-is z out e =
      e
      ∙ ap (λ (t : List ℕ). t ++ padding (length m) ++ z)
      (take_at r (drop (length m % 64) (replicate 128 0)) (length m % 64) length_rest ∙ e-r ∙ rest-is m)
      ∙ ap (λ (t : List ℕ). t ++ z) (sym (drop-append-le (64 * (length m / 64)) m (padding (length m)) (omega arith)))
