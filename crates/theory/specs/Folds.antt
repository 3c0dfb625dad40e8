-- Folds (paper 01, "The words of demand 3"): openings and their order, what a fold opens and shows, and the strings hashed for it.
-- Over any field and hash.
use Rattle.std.specs.Prelude.{◌≡◌, ℕ, suc, ◌+◌, ◌*◌, ◌<◌, length, get_or}
use mathlib.Core.List.{List, [], ◌∷◌, ◌++◌, Memᴰ}
use Rattle.algebra.specs.Ring.{Field}
use Rattle.algebra.specs.Lists.{concat_to}
use Rattle.code.specs.Codeword.{codeword}
use Rattle.tree.specs.Merkle.{opening_root, opening_strings, tree_strings}
use Rattle.theory.specs.Items.{Hash, Code, Item, leaves}
use Rattle.theory.specs.Combination.{item_at}

-- An opening: the value, and the sibling digests from the leaf upwards.
pub record Opening (K : Type 0) : Type 0 where
  pub value : K
  pub siblings : List (List ℕ)

-- What the verifier is shown of a fold: openings position by position and, within one, item by item, the new item last.
pub record Shown (K : Type 0) : Type 0 where
  pub challenge : K
  pub positions : List ℕ
  pub item : Item K
  pub openings : List (Opening K)

-- A fold: what is shown, and a witness for the new item.
pub record Fold (K : Type 0) : Type 0 where
  pub shown : Shown K
  pub witness : List K

-- The number of positions, and the position with index q.
abbrev pub position_count : {K : Type 0} → Shown K → ℕ
position_count s = length s.positions

abbrev pub position_at : {K : Type 0} → Shown K → ℕ → ℕ
position_at s q = get_or s.positions q 0

-- A fold opens each position among its positions.
abbrev pub Opens : {K : Type 0} → Shown K → ℕ → Type 0
Opens s p = Memᴰ p s.positions

module _ (F : Field) where
  open F.ring use {carrier as K, zero as 𝟘}

  pub no_opening : Opening K
  no_opening = record { value = 𝟘; siblings = [] }

  module _ (items : List (Item K)) where
    -- The items, and the new item after them.
    unfoldable pub item_of : Shown K → ℕ → Item K
    item_of s i = item_at F (items ++ (s.item ∷ [])) i

    -- The opening of item i at the position with index q; the item after the last is the new one.
    unfoldable pub opening_at : Shown K → ℕ → ℕ → Opening K
    opening_at s q i = get_or s.openings (q * suc (length items) + i) no_opening

    abbrev pub value_at : Shown K → ℕ → ℕ → K
    value_at s q i = (opening_at s q i).value

    -- A fold shows at position p, for item i, the value in every opening of that item at that position, repeats too.
    pub record Shows (s : Shown K) (i p : ℕ) (v : K) : Type 0 where
      pub index : ℕ
      pub inside : index < position_count s
      pub position : position_at s index ≡ p
      pub value : value_at s index i ≡ v

    module _ (H : Hash K) where
      -- The data of the leaf that the opening of item i at the position with index q shows.
      abbrev pub leaf_at : Shown K → ℕ → ℕ → List ℕ
      leaf_at s q i = H.entry (position_at s q) (value_at s q i)

      -- Where that opening leads, and the strings hashed for it: the leaf and each inner node up to the root.
      abbrev pub leads_to : Shown K → ℕ → ℕ → List ℕ
      leads_to s q i = opening_root H.digest (leaf_at s q i) (position_at s q) (opening_at s q i).siblings

      abbrev pub opening_strings_of : Shown K → ℕ → ℕ → List (List ℕ)
      opening_strings_of s q i = opening_strings H.digest (leaf_at s q i) (position_at s q) (opening_at s q i).siblings

      module _ (C : Code K) where
        -- The byte strings hashed for a fold: those of each of its openings;
        -- and all leaves and inner nodes of the tree over its witness's codeword.
        abbrev pub hashed : Fold K → List (List ℕ)
        hashed f =
            concat_to (position_count f.shown) (λ q. concat_to (suc (length items)) (λ i. opening_strings_of f.shown q i))
            ++ tree_strings H.digest C.depth (leaves F H (codeword F.ring C.points f.witness))

        -- The byte strings hashed for the folds of a list.
        abbrev pub hashed_for : List (Fold K) → List (List ℕ)
        hashed_for [] = []
        hashed_for (f ∷ folds) = hashed f ++ hashed_for folds
