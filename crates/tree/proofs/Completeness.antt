-- Completeness: the opening of a position leads to the root of the tree.
use mathlib.Core.Path.{◌≡◌, refl, sym, ap, ap₂, ◌∙◌}
use mathlib.Core.List.{List, []}
use Prim.Native.Nat.{ℕ, zero, suc, ◌+◌, ◌*◌, ◌/◌, ◌%◌, ◌^◌, ◌<◌}
use native.Mathlib.Nat.{two-pow-succ, suc-add, add-suc, zero-add, add-zero}
use native.Mathlib.Omega.{arith}
use lib.ListN.{length, get_or}
use Rattle.tree.specs.Merkle.{node_string, joined, sibling, root, subtree, path_from, path, climb, opening_root}
use Rattle.tree.proofs.Blocks.{subtree-leaf, subtree-node, subtree-whole}

module _ (digest : List ℕ → List ℕ) where
  -- of p and its sibling, the string hashed is that of the parent's two children
  pub joined-children : (es : List (List ℕ)) (j p : ℕ)
      → joined (p % 2) (subtree digest es j p) (subtree digest es j (sibling p))
      ≡ node_string (subtree digest es j (2 * (p / 2))) (subtree digest es j (2 * (p / 2) + 1))
  joined-children es j p = go (p % 2) refl
    where
      go : (b : ℕ) → p % 2 ≡ b
          → joined b (subtree digest es j p) (subtree digest es j (sibling p))
          ≡ node_string (subtree digest es j (2 * (p / 2))) (subtree digest es j (2 * (p / 2) + 1))
      go zero e = ap₂ (λ (a b : ℕ). node_string (subtree digest es j a) (subtree digest es j b)) (omega arith) (omega arith)
      go (suc b) e = ap₂ (λ (a b : ℕ). node_string (subtree digest es j a) (subtree digest es j b)) (omega arith) (omega arith)

  pub joined-parent : (es : List (List ℕ)) (j p : ℕ)
      → digest (joined (p % 2) (subtree digest es j p) (subtree digest es j (sibling p))) ≡ subtree digest es (suc j) (p / 2)
  joined-parent es j p = ap digest (joined-children es j p) ∙ sym (subtree-node digest es j (p / 2))

  climb-complete : (es : List (List ℕ)) (j n p : ℕ) → p < 2 ^ n
      → climb digest (subtree digest es j p) p (path_from digest es j n p) ≡ subtree digest es (j + n) 0
  unfolding climb path_from
  climb-complete es j zero p h = ap₂ (subtree digest es) (sym (add-zero j)) (omega arith)
  climb-complete es j (suc n) p h =
      ap (λ (own : List ℕ). climb digest own (p / 2) (path_from digest es (suc j) n (p / 2))) (joined-parent es j p)
      ∙ climb-complete es (suc j) n (p / 2) (omega (arith, two-pow-succ n))
      ∙ ap (λ (m : ℕ). subtree digest es m 0) (suc-add j n ∙ sym (add-suc j n))

  -- the path of a position leads from the entry there to the root
  pub completeness : (d : ℕ) (es : List (List ℕ)) (i : ℕ) → length es ≡ 2 ^ d → i < 2 ^ d
      → opening_root digest (get_or es i []) i (path digest d es i) ≡ root digest d es
  completeness d es i n h =
      ap (λ (own : List ℕ). climb digest own i (path digest d es i)) (sym (subtree-leaf digest es i))
      ∙ climb-complete es 0 d i h
      ∙ ap (λ (m : ℕ). subtree digest es m 0) (zero-add d)
      ∙ subtree-whole digest es d n

  pub path-length : (es : List (List ℕ)) (j n p : ℕ) → length (path_from digest es j n p) ≡ n
  unfolding path_from
  path-length es j zero p = refl
  path-length es j (suc n) p = ap suc (path-length es (suc j) n (p / 2))
