-- The messages of a leaf and of an inner node: what is copied behind a prefix byte, and how many blocks they have.
-- Assumes nothing.
use Rattle.std.proofs.Common.{◌≡◌, ℕ, ◌+◌, ◌-◌, ◌≤◌, List, ◌∷◌, ◌++◌, length, take, set, replicate, sym, ap, ◌∙◌, ap₂, append-nil, arith, length-append, drop_of_length-le, take_at}
use Rattle.std.proofs.lemmas.Slice.{take-put_mid}
use borrow.Rule.Slice.PartMut.{put_mid}
use lib.Seq.{drop-drop}
use Rattle.hash.specs.Sha256.{block_count}
use Rattle.hash.proofs.DigestLaws.{block-count}

-- four bytes p and a value v, written one after the other behind the byte 0x00: what stands there up to the value's end
pub leaf-message : (position value p v : List ℕ) → length position ≡ 4 → p ≡ position → v ≡ value
    → take (5 + length value) (put_mid 5 (5 + length value - 5) (put_mid 1 4 (set (replicate 21 0) 0 0) p) v) ≡ 0 ∷ (position ++ value)
leaf-message position value p v l e-p e-v =
    let four : length p ≡ 4 = ap length e-p ∙ l in
    take-put_mid 5 (5 + length value - 5) (0 ∷ p ++ replicate 16 0) v (5 + length value) (ap (λ (t : List ℕ). 5 + length t) (sym e-v)) (omega (arith, length-append p (replicate 16 0)))
    ∙ ap (λ (x : List ℕ). x ++ v) (take_at (0 ∷ p) (replicate 16 0) 5 (omega arith))
    ∙ ap₂ (λ (x y : List ℕ). 0 ∷ (x ++ y)) e-p e-v

pub leaf-message-blocks : (position value : List ℕ) → length position ≡ 4 → length value ≤ 16 → block_count (0 ∷ (position ++ value)) ≡ 1
leaf-message-blocks position value l h = omega (arith, block-count (0 ∷ (position ++ value)), length-append position value)

-- two digests l and r, written one after the other behind the byte 0x01
pub node-message : (left right l r : List ℕ) → length left ≡ 32 → length right ≡ 32 → l ≡ left → r ≡ right
    → put_mid 33 32 (put_mid 1 32 (set (replicate 65 0) 0 1) l) r ≡ 1 ∷ (left ++ right)
node-message left right l r s-l s-r e-l e-r =
    let size : length (1 ∷ l ++ replicate 32 0) ≡ 65 = ap (λ (x : List ℕ). length (1 ∷ x ++ replicate 32 0)) e-l ∙ omega (arith, length-append left (replicate 32 0)) in
    ap₂ (λ (x y : List ℕ). x ++ (r ++ y))
    (take_at (1 ∷ l) (replicate 32 0) 33 (omega (arith, ap length e-l)))
    (drop-drop 32 33 (1 ∷ l ++ replicate 32 0) ∙ drop_of_length-le (1 ∷ l ++ replicate 32 0) {i = 65} (omega arith))
    ∙ ap (λ (x : List ℕ). 1 ∷ (l ++ x)) (append-nil r)
    ∙ ap₂ (λ (x y : List ℕ). 1 ∷ (x ++ y)) e-l e-r

pub node-message-blocks : (left right : List ℕ) → length left ≡ 32 → length right ≡ 32 → block_count (1 ∷ (left ++ right)) ≡ 2
node-message-blocks left right l r = omega (arith, block-count (1 ∷ (left ++ right)), length-append left right)
