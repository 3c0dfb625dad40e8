-- The digests of a tree by level and place: a leaf's, and an inner node's from its two children.
use mathlib.Core.Path.{◌≡◌, ap, ap₂, ◌∙◌}
use mathlib.Core.List.{List, [], ◌∷◌}
use Prim.Native.Nat.{ℕ, zero, suc, ◌+◌, ◌*◌, ◌^◌}
use native.Mathlib.Nat.{two-pow-succ, mul_assoc, add-mul, mul-add, one-mul, zero-mul, suc-add, zero-add}
use native.Mathlib.Omega.{arith}
use lib.Dec.{lit<}
use lib.ListN.{length, get_or, take, drop}
use lib.Seq.{take-take, drop-drop, get_or-take, get_or-drop, take_all, take-nil}
use Rattle.tree.specs.Merkle.{leaf_string, node_string, block, root, subtree}

pub drop-take : {A : Type 0} (n m : ℕ) (l : List A) → drop n (take (n + m) l) ≡ take m (drop n l)
drop-take zero m l = rw zero-add
drop-take (suc n) m [] = rw (suc-add, take-nil)
drop-take (suc n) m (x ∷ l) = rw suc-add (drop-take n m l)

-- where the two halves of a block start
half-left : (p j : ℕ) → p * 2 ^ suc j ≡ 2 * p * 2 ^ j
half-left p j = rw (two-pow-succ, mul_assoc) (omega (arith, mul-add p (2 ^ j) (2 ^ j)))

half-right : (p j : ℕ) → p * 2 ^ suc j + 2 ^ j ≡ (2 * p + 1) * 2 ^ j
half-right p j = omega (arith, half-left p j, add-mul (2 * p) 1 (2 ^ j), one-mul (2 ^ j))

pub block-left : (es : List (List ℕ)) (j p : ℕ) → take (2 ^ j) (block es (suc j) p) ≡ block es j (2 * p)
block-left es j p =
    take-take (2 ^ j) (2 ^ suc j) (drop (p * 2 ^ suc j) es) (omega (arith, two-pow-succ j))
    ∙ ap (λ (n : ℕ). take (2 ^ j) (drop n es)) (half-left p j)

pub block-right : (es : List (List ℕ)) (j p : ℕ) → drop (2 ^ j) (block es (suc j) p) ≡ block es j (2 * p + 1)
block-right es j p =
    ap (λ (n : ℕ). drop (2 ^ j) (take n (drop (p * 2 ^ suc j) es))) (two-pow-succ j)
    ∙ drop-take (2 ^ j) (2 ^ j) (drop (p * 2 ^ suc j) es)
    ∙ ap (take (2 ^ j)) (drop-drop (2 ^ j) (p * 2 ^ suc j) es ∙ ap (λ (n : ℕ). drop n es) (half-right p j))

pub block-entry : (es : List (List ℕ)) (p : ℕ) → get_or (block es 0 p) 0 [] ≡ get_or es p []
block-entry es p =
    get_or-take 1 (drop (p * 1) es) 0 [] (lit< tt) ∙ get_or-drop (p * 1) es 0 [] ∙ ap (λ (n : ℕ). get_or es n []) (omega arith)

-- the whole list is the one block of its level
pub block-whole : (es : List (List ℕ)) (d : ℕ) → length es ≡ 2 ^ d → block es d 0 ≡ es
block-whole es d e = ap (λ (n : ℕ). take (2 ^ d) (drop n es)) (zero-mul (2 ^ d)) ∙ take_all (2 ^ d) es (omega arith)

module _ (digest : List ℕ → List ℕ) where
  pub subtree-leaf : (es : List (List ℕ)) (p : ℕ) → subtree digest es 0 p ≡ digest (leaf_string (get_or es p []))
  unfolding root
  subtree-leaf es p = ap (λ (e : List ℕ). digest (leaf_string e)) (block-entry es p)

  pub subtree-node : (es : List (List ℕ)) (j p : ℕ)
      → subtree digest es (suc j) p ≡ digest (node_string (subtree digest es j (2 * p)) (subtree digest es j (2 * p + 1)))
  unfolding root
  subtree-node es j p =
      ap₂ (λ (l r : List (List ℕ)). digest (node_string (root digest j l) (root digest j r))) (block-left es j p) (block-right es j p)

  pub subtree-whole : (es : List (List ℕ)) (d : ℕ) → length es ≡ 2 ^ d → subtree digest es d 0 ≡ root digest d es
  subtree-whole es d e = ap (root digest d) (block-whole es d e)

  -- a root is a digest
  pub root-length : ((s : List ℕ) → length (digest s) ≡ 32) → (d : ℕ) (es : List (List ℕ)) → length (root digest d es) ≡ 32
  unfolding root
  root-length digest-length zero es = digest-length _
  root-length digest-length (suc d) es = digest-length _
