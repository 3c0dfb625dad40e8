-- Parts of byte buffers: their length, a part of a part, and the parts of buffers that lie one after the other.
use mathlib.Core.Path.{◌≡◌, ap, ◌∙◌}
use mathlib.Core.List.{List, ◌++◌}
use Prim.Native.Nat.{ℕ, zero, suc, ◌+◌, ◌-◌, ◌*◌, ◌≤◌, ◌<◌}
use native.Mathlib.Nat.{suc-mul, zero-mul, mul-le-mul_right}
use native.Mathlib.Omega.{arith}
use lib.ListN.{length, take, drop, length-take, length-drop}
use lib.Seq.{take-take, take_all, drop-drop, take-append-le, drop-append-le, drop-append-add}
use Rattle.algebra.specs.Lists.{concat_to}
use Rattle.tree.specs.Layout.{part}
use Rattle.tree.proofs.Blocks.{drop-take}

pub length_part : (s : List ℕ) (at n : ℕ) → at + n ≤ length s → length (part s at n) ≡ n
length_part s at n h = simp (length-take, length-drop) (omega arith)

-- A part as code cuts it out, from its start to its end.
pub part_cut : (s : List ℕ) (at n : ℕ) → part s at (at + n - at) ≡ part s at n
part_cut s at n = let size : at + n - at ≡ n = omega arith in ap (part s at) size

-- The whole buffer is a part of it.
pub part-whole : (s : List ℕ) (n : ℕ) → length s ≡ n → part s 0 n ≡ s
part-whole s n e = take_all n s (omega arith)

-- So is part 0 of one part.
pub first_part : (s : List ℕ) (n : ℕ) → length s ≡ n → part s (0 * n) n ≡ s
first_part s n e = ap (λ (at : ℕ). part s at n) (zero-mul n) ∙ part-whole s n e

pub part-part : (s : List ℕ) (at size b n : ℕ) → b + n ≤ size → part (part s at size) b n ≡ part s (at + b) n
part-part s at size b n h =
    ap (λ (k : ℕ). take n (drop b (take k (drop at s)))) grouped
    ∙ ap (take n) (drop-take b (size - b) (drop at s))
    ∙ take-take n (size - b) (drop b (drop at s)) (omega arith)
    ∙ ap (take n) (drop-drop b at s)
  where
    grouped : size ≡ b + (size - b)
    grouped = omega arith

-- ---- a buffer before another

pub part_left : (s rest : List ℕ) (at n : ℕ) → at + n ≤ length s → part (s ++ rest) at n ≡ part s at n
part_left s rest at n h =
    ap (take n) (drop-append-le at s rest (omega arith))
    ∙ take-append-le n (drop at s) rest (simp length-drop (omega arith))

pub part_right : (s rest : List ℕ) (start at n : ℕ) → start ≡ length s + at → part (s ++ rest) start n ≡ part rest at n
part_right s rest start at n e = ap (λ (k : ℕ). take n (drop k (s ++ rest))) e ∙ ap (take n) (drop-append-add s rest at)

-- ---- buffers of one width, one after the other

pub part-concat_to : (n width : ℕ) (f : ℕ → List ℕ) → ((q : ℕ) → q < n → length (f q) ≡ width)
    → (q at size : ℕ) → q < n → at + size ≤ width → part (concat_to n f) (q * width + at) size ≡ part (f q) at size
part-concat_to zero width f h q at size l k = absurd (omega arith)
part-concat_to (suc n) width f h zero at size l k =
    let start : 0 * width + at ≡ at = omega (arith, zero-mul width) in
    ap (λ (j : ℕ). part (f 0 ++ concat_to n (λ s. f (suc s))) j size) start
    ∙ part_left (f 0) (concat_to n (λ s. f (suc s))) at size (omega (arith, h 0 (omega arith)))
part-concat_to (suc n) width f h (suc q) at size l k =
    part_right (f 0) (concat_to n (λ s. f (suc s))) (suc q * width + at) (q * width + at) size (omega (arith, h 0 (omega arith), suc-mul q width))
    ∙ part-concat_to n width (λ s. f (suc s)) (λ s g. h (suc s) (omega arith)) q at size (omega arith) k

-- Buffer q is part q.
pub part_of : (n width : ℕ) (f : ℕ → List ℕ) → ((q : ℕ) → q < n → length (f q) ≡ width)
    → (q : ℕ) → q < n → part (concat_to n f) (q * width) width ≡ f q
part_of n width f h q l =
    let start : q * width ≡ q * width + 0 = omega arith in
    ap (λ (j : ℕ). part (concat_to n f) j width) start
    ∙ part-concat_to n width f h q 0 width l (omega arith)
    ∙ part-whole (f q) width (h q l)

-- Part i of l parts of one width lies within.
pub part-within : (l i width size : ℕ) → i < l → size ≡ l * width → i * width + width ≤ size
part-within l i width size h e = omega (arith, mul-le-mul_right width h, suc-mul i width)
