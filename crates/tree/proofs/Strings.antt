-- The strings hashed for a position's own opening are among those hashed in the tree.
use mathlib.Core.Path.{◌≡◌, refl, sym, ap, ap₂, subst, subst₂, ◌∙◌}
use mathlib.Core.List.Memᴰ
use mathlib.Core.List.{List, [], ◌∷◌, ◌++◌, Memᴰ}
use mathlib.Core.Logic.{⊎_elim}
use Prim.Native.Nat.{ℕ, zero, suc, ◌+◌, ◌*◌, ◌/◌, ◌%◌, ◌^◌, ◌<◌}
use native.Mathlib.Nat.{two-pow-succ, suc-add, add-suc, zero-add, add-zero}
use native.Mathlib.Omega.{arith}
use lib.ListN.{length, get_or, take, drop}
use Rattle.tree.specs.Merkle.{leaf_string, node_string, joined, block, sibling, root, tree_strings, subtree, path_from, path, climb_strings, opening_strings}
use Rattle.tree.specs.Collision.{Within}
use Rattle.tree.proofs.Blocks.{block-left, block-right, block-entry, block-whole, subtree-leaf}
use Rattle.tree.proofs.Completeness.{joined-children, joined-parent}

module _ (digest : List ℕ → List ℕ) where
  -- the strings of the tree under place p of level j
  abbrev under : List (List ℕ) → ℕ → ℕ → List (List ℕ)
  under es j p = tree_strings digest j (block es j p)

  -- they are among those of the parent's
  parent-strings : (es : List (List ℕ)) (j p : ℕ) → Within (under es j p) (under es (suc j) (p / 2))
  unfolding tree_strings
  parent-strings es j p a m = go (p % 2) refl
    where
      q : ℕ
      q = p / 2

      left : List (List ℕ)
      left = tree_strings digest j (take (2 ^ j) (block es (suc j) q))

      right : List (List ℕ)
      right = tree_strings digest j (drop (2 ^ j) (block es (suc j) q))

      go : (b : ℕ) → p % 2 ≡ b
          → Memᴰ a (node_string (root digest j (take (2 ^ j) (block es (suc j) q))) (root digest j (drop (2 ^ j) (block es (suc j) q))) ∷ (left ++ right))
      go zero e =
          let here : p ≡ 2 * (p / 2) = omega arith in
          Memᴰ.tail (Memᴰ.append_left right (subst (λ (l : List (List ℕ)). Memᴰ a (tree_strings digest j l)) (ap (block es j) here ∙ sym (block-left es j q)) m))
      go (suc b) e =
          let here : p ≡ 2 * (p / 2) + 1 = omega arith in
          Memᴰ.tail (Memᴰ.append_right left (subst (λ (l : List (List ℕ)). Memᴰ a (tree_strings digest j l)) (ap (block es j) here ∙ sym (block-right es j q)) m))

  -- the string of an inner node is among those of its own tree
  node-within : (es : List (List ℕ)) (j p : ℕ)
      → Memᴰ (joined (p % 2) (subtree digest es j p) (subtree digest es j (sibling p))) (under es (suc j) (p / 2))
  unfolding tree_strings
  node-within es j p =
      Memᴰ.head
      (joined-children digest es j p
      ∙ sym (ap₂ (λ (l r : List (List ℕ)). node_string (root digest j l) (root digest j r)) (block-left es j (p / 2)) (block-right es j (p / 2))))

  -- the strings under a place are among those of the tree whose root stands n levels above it
  strings-within : (es : List (List ℕ)) (j n p : ℕ) → p < 2 ^ n → Within (under es j p) (under es (j + n) 0)
  strings-within es j zero p h a m = subst₂ (λ (k q : ℕ). Memᴰ a (under es k q)) (sym (add-zero j)) (omega arith) m
  strings-within es j (suc n) p h a m =
      subst (λ (k : ℕ). Memᴰ a (under es k 0)) (suc-add j n ∙ sym (add-suc j n))
      (strings-within es (suc j) n (p / 2) (omega (arith, two-pow-succ n)) a (parent-strings es j p a m))

  -- so are the strings hashed on the way up from it
  climb-within : (es : List (List ℕ)) (j n p : ℕ) → p < 2 ^ n
      → Within (climb_strings digest (subtree digest es j p) p (path_from digest es j n p)) (under es (j + n) 0)
  unfolding climb_strings path_from
  climb-within es j zero p h a m = absurd (Memᴰ.not-nil m)
  climb-within es j (suc n) p h a m = ⊎_elim here (above (climb-within es (suc j) n (p / 2) below a)) (Memᴰ.cases_cons m)
    where
      to-top : Memᴰ a (under es (suc j + n) 0) → Memᴰ a (under es (j + suc n) 0)
      to-top = subst (λ (k : ℕ). Memᴰ a (under es k 0)) (suc-add j n ∙ sym (add-suc j n))

      below : p / 2 < 2 ^ n
      below = omega (arith, two-pow-succ n)

      here : a ≡ joined (p % 2) (subtree digest es j p) (subtree digest es j (sibling p)) → Memᴰ a (under es (j + suc n) 0)
      here e = to-top (strings-within es (suc j) n (p / 2) below a (Memᴰ.cast e (node-within es j p)))

      upper : List ℕ → List (List ℕ)
      upper own = climb_strings digest own (p / 2) (path_from digest es (suc j) n (p / 2))

      above : (Memᴰ a (upper (subtree digest es (suc j) (p / 2))) → Memᴰ a (under es (suc j + n) 0))
          → Memᴰ a (upper (digest (joined (p % 2) (subtree digest es j p) (subtree digest es j (sibling p)))))
          → Memᴰ a (under es (j + suc n) 0)
      above ih m' = to-top (ih (subst (λ (own : List ℕ). Memᴰ a (upper own)) (joined-parent digest es j p) m'))

  leaf-within : (es : List (List ℕ)) (i : ℕ) → Memᴰ (leaf_string (get_or es i [])) (under es 0 i)
  unfolding tree_strings
  leaf-within es i = Memᴰ.head (ap leaf_string (sym (block-entry es i)))

  pub path-within : (d : ℕ) (es : List (List ℕ)) (i : ℕ) → length es ≡ 2 ^ d → i < 2 ^ d
      → Within (opening_strings digest (get_or es i []) i (path digest d es i)) (tree_strings digest d es)
  path-within d es i n h a m = ⊎_elim here above (Memᴰ.cases_cons m)
    where
      to-list : Memᴰ a (under es (0 + d) 0) → Memᴰ a (tree_strings digest d es)
      to-list = subst₂ (λ (k : ℕ) (l : List (List ℕ)). Memᴰ a (tree_strings digest k l)) (zero-add d) (ap (λ (k : ℕ). block es k 0) (zero-add d) ∙ block-whole es d n)

      here : a ≡ leaf_string (get_or es i []) → Memᴰ a (tree_strings digest d es)
      here e = to-list (strings-within es 0 d i h a (Memᴰ.cast e (leaf-within es i)))

      above : Memᴰ a (climb_strings digest (digest (leaf_string (get_or es i []))) i (path digest d es i)) → Memᴰ a (tree_strings digest d es)
      above m' = to-list (climb-within es 0 d i h a (subst (λ (own : List ℕ). Memᴰ a (climb_strings digest own i (path digest d es i))) (sym (subtree-leaf digest es i)) m'))
