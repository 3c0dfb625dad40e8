-- All digests of a tree in one list: the root stands at 1, and the children of n at 2n and 2n + 1.
-- So h levels below the root, place p stands at 2 ^ h + p.
use Rattle.std.specs.Prelude.{◌≡◌, List, [], ◌∷◌, ℕ, zero, suc, ◌+◌, ◌/◌, ◌^◌, ◌<◌, get_or}
use Rattle.tree.specs.Merkle.{leaf_string, subtree, sibling}

-- the digests of the first i leaves stand from index `count` on
abbrev pub Leaves : (List ℕ → List ℕ) → List (List ℕ) → ℕ → ℕ → List (List ℕ) → Type 0
Leaves digest es count i nodes = (q : ℕ) → q < i → get_or nodes (count + q) [] ≡ digest (leaf_string (get_or es q []))

-- the list holds the digests of the tree over 2 ^ d entries: level j is h levels below the root.
-- What stands at 0 and after the leaves is left free: no path goes by it.
abbrev pub IsHeap : (List ℕ → List ℕ) → ℕ → List (List ℕ) → List (List ℕ) → Type 0
IsHeap digest d es nodes = (j h p : ℕ) → j + h ≡ d → p < 2 ^ h → get_or nodes (2 ^ h + p) [] ≡ subtree digest es j p

-- the siblings from place p upwards, n levels below the root, as the list has them
unfoldable pub heap_path : List (List ℕ) → ℕ → ℕ → List (List ℕ)
heap_path nodes zero p = []
heap_path nodes (suc n) p = get_or nodes (2 ^ suc n + sibling p) [] ∷ heap_path nodes n (p / 2)
