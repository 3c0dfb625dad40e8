-- RFC 6962, section 2.1: the Merkle hash tree over 2 ^ d entries d(0), d(1), .., which are byte strings; and openings, which lead
-- from an entry to a root by sibling digests. The hash function `digest` is a parameter; a digest is thirty-two bytes.
-- A level counts from the leaves, which are level 0; a place counts from the left within its level.
use Rattle.std.specs.Prelude.{◌≡◌, List, [], ◌∷◌, ◌++◌, ℕ, zero, suc, ◌+◌, ◌-◌, ◌*◌, ◌/◌, ◌%◌, ◌^◌, length, get_or, take, drop}

-- ---- the strings that are hashed

-- a leaf: 0x00 || d(i)
abbrev pub leaf_string : List ℕ → List ℕ
leaf_string d = 0x00 ∷ d

-- an inner node: 0x01 || left || right
abbrev pub node_string : List ℕ → List ℕ → List ℕ
node_string left right = 0x01 ∷ (left ++ right)

-- the inner node above an own digest and its sibling: the own one is the left child where the bit is 0
abbrev pub joined : ℕ → List ℕ → List ℕ → List ℕ
joined zero own s = node_string own s
joined (suc b) own s = node_string s own

-- how many blocks strings are hashed in, one after the other, where `blocks` says it of one
unfoldable pub blocks_of : (List ℕ → ℕ) → List (List ℕ) → ℕ
blocks_of blocks [] = 0
blocks_of blocks (s ∷ ss) = blocks s + blocks_of blocks ss

-- ---- levels and places

-- the entries under place p of level j: D[p * 2 ^ j : (p + 1) * 2 ^ j]
abbrev pub block : List (List ℕ) → ℕ → ℕ → List (List ℕ)
block es j p = take (2 ^ j) (drop (p * 2 ^ j) es)

-- the other child of p's parent: p + 1 where p is even, p - 1 where it is odd
abbrev pub sibling : ℕ → ℕ
sibling p = p + 1 - 2 * (p % 2)

-- every string of the list has thirty-two bytes, as a digest has
abbrev pub Long : List (List ℕ) → Type 0
Long [] = Unit {0}
Long (d ∷ ds) = (length d ≡ 32) × Long ds

module _ (digest : List ℕ → List ℕ) where
  -- ---- the Merkle tree hash MTH(D[2 ^ d])
  unfoldable pub root : ℕ → List (List ℕ) → List ℕ
  root zero es = digest (leaf_string (get_or es 0 []))
  root (suc d) es = digest (node_string (root d (take (2 ^ d) es)) (root d (drop (2 ^ d) es)))

  -- all strings that are hashed in it, leaves and inner nodes
  unfoldable pub tree_strings : ℕ → List (List ℕ) → List (List ℕ)
  tree_strings zero es = leaf_string (get_or es 0 []) ∷ []
  tree_strings (suc d) es =
      node_string (root d (take (2 ^ d) es)) (root d (drop (2 ^ d) es))
      ∷ (tree_strings d (take (2 ^ d) es) ++ tree_strings d (drop (2 ^ d) es))

  -- the digest at level j and place p
  abbrev pub subtree : List (List ℕ) → ℕ → ℕ → List ℕ
  subtree es j p = root j (block es j p)

  -- ---- the audit path: the sibling digests from the leaf upwards

  -- from level j and place p, over n levels
  unfoldable pub path_from : List (List ℕ) → ℕ → ℕ → ℕ → List (List ℕ)
  path_from es j zero p = []
  path_from es j (suc n) p = subtree es j (sibling p) ∷ path_from es (suc j) n (p / 2)

  -- of position i in the tree over 2 ^ d entries
  abbrev pub path : ℕ → List (List ℕ) → ℕ → List (List ℕ)
  path d es i = path_from es 0 d i

  -- ---- where an opening leads: bit j of the position says which child the own digest is at level j

  -- from the own digest at place p, by the siblings ss
  unfoldable pub climb : List ℕ → ℕ → List (List ℕ) → List ℕ
  climb own p [] = own
  climb own p (s ∷ ss) = climb (digest (joined (p % 2) own s)) (p / 2) ss

  -- the strings that are hashed on the way
  unfoldable pub climb_strings : List ℕ → ℕ → List (List ℕ) → List (List ℕ)
  climb_strings own p [] = []
  climb_strings own p (s ∷ ss) = joined (p % 2) own s ∷ climb_strings (digest (joined (p % 2) own s)) (p / 2) ss

  -- from the entry e at position i, by the siblings ss
  abbrev pub opening_root : List ℕ → ℕ → List (List ℕ) → List ℕ
  opening_root e i ss = climb (digest (leaf_string e)) i ss

  abbrev pub opening_strings : List ℕ → ℕ → List (List ℕ) → List (List ℕ)
  opening_strings e i ss = leaf_string e ∷ climb_strings (digest (leaf_string e)) i ss
