-- How an opening lies in a byte buffer: the value in four bytes, lowest first, then the sibling digests from the leaf upwards.
use Rattle.std.specs.Prelude.{List, [], ◌∷◌, ◌++◌, map, ℕ, zero, suc, ◌+◌, ◌*◌, get_or, take, drop}
use Rattle.numbers.specs.Numbers.{numbers, bytes4}
use Rattle.tree.specs.Merkle.{path, opening_root, opening_strings}
use Rattle.tree.specs.Entry.{entry, entries}

-- the bytes of an opening with `depth` siblings
abbrev pub opening_size : ℕ → ℕ
opening_size depth = 4 + 32 * depth

-- ---- what a buffer holds from a place on

-- n bytes
abbrev pub part : List ℕ → ℕ → ℕ → List ℕ
part s at n = take n (drop at s)

-- n digests
unfoldable pub digests : List ℕ → ℕ → ℕ → List (List ℕ)
digests s at zero = []
digests s at (suc n) = part s at 32 ∷ digests s (at + 32) n

-- an opening's value, and its siblings
abbrev pub opened_value : List ℕ → ℕ → ℕ
opened_value s at = get_or (numbers (part s at 4)) 0 0

abbrev pub opened_path : List ℕ → ℕ → ℕ → List (List ℕ)
opened_path s at depth = digests s (at + 4) depth

-- where the opening leads for position i, and the strings hashed for it
abbrev pub opened_root : (List ℕ → List ℕ) → List ℕ → ℕ → ℕ → ℕ → List ℕ
opened_root digest s at depth i = opening_root digest (entry i (bytes4 (opened_value s at))) i (opened_path s at depth)

abbrev pub opened_strings : (List ℕ → List ℕ) → List ℕ → ℕ → ℕ → ℕ → List (List ℕ)
opened_strings digest s at depth i = opening_strings digest (entry i (bytes4 (opened_value s at))) i (opened_path s at depth)

-- ---- the bytes of openings

-- byte strings one after the other
unfoldable pub flat : List (List ℕ) → List ℕ
flat [] = []
flat (d ∷ ds) = d ++ flat ds

-- of the opening with a value and siblings
abbrev pub opening_bytes : ℕ → List (List ℕ) → List ℕ
opening_bytes v ss = bytes4 v ++ flat ss

-- of a position's own opening, in the tree over 2 ^ depth values
abbrev pub own_opening : (List ℕ → List ℕ) → ℕ → List ℕ → ℕ → List ℕ
own_opening digest depth vs i = opening_bytes (get_or vs i 0) (path digest depth (entries vs) i)

-- of the own openings of positions, one after the other
abbrev pub own_openings : (List ℕ → List ℕ) → ℕ → List ℕ → List ℕ → List ℕ
own_openings digest depth vs is = flat (map (own_opening digest depth vs) is)
