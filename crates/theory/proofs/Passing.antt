-- What a fold that passes the checks has, over any field, hash and code; and what the second statement concludes of such folds.
use mathlib.Core.Path.{◌≡◌}
use mathlib.Core.List.{List, Memᴰ}
use Prim.Native.Nat.{ℕ, suc, ◌*◌, ◌^◌, ◌<◌}
use lib.ListN.{length, get_or}
use Rattle.algebra.specs.Ring.{Field}
use Rattle.algebra.specs.Lists.{Distinct}
use Rattle.tree.specs.Merkle.{leaf_string, node_string}
use Rattle.code.specs.Codeword.{codeword}
use Rattle.theory.specs.R1cs.{Circuit}
use Rattle.theory.specs.Items.{Hash, Code, Item, Holds, Matches}
use Rattle.theory.specs.Combination.{item_at, mix, new_r, new_x, new_e, quotient_size}
use Rattle.theory.specs.Folds.{Fold, position_count, position_at, item_of, opening_at, value_at, Shows, leads_to}

-- What the theorems ask of a hash: digests of 32 bytes, and a leaf's data that tells its values apart.
pub record HashLaws (K : Type 0) (H : Hash K) : Type 0 where
  pub digest-length : (s : List ℕ) → length (H.digest s) ≡ 32
  pub entry_value : (i : ℕ) (v w : K) → H.entry i v ≡ H.entry i w → v ≡ w
  -- A leaf is hashed in one block, an inner node in two.
  pub leaf-blocks : (i : ℕ) (v : K) → H.blocks (leaf_string (H.entry i v)) ≡ 1
  pub node-blocks : (a b : List ℕ) → length a ≡ 32 → length b ≡ 32 → H.blocks (node_string a b) ≡ 2

-- What they ask of a code: 4k pairwise different points, and a tree of as many leaves.
pub record CodeLaws (K : Type 0) (C : Code K) : Type 0 where
  pub size : 2 ^ C.depth ≡ 4 * C.k
  pub count : length C.points ≡ 4 * C.k
  pub different : Distinct C.points

module _ (F : Field) where
  open F.ring use {carrier as K, zero as 𝟘}

  module _ (H : Hash K) (C : Code K) (M : Circuit K) (m n : ℕ) (items : List (Item K)) (quotient : List K) where
    -- A fold passes: the sizes, and the checks 6 to 11.
    pub record Passes (f : Fold K) : Type 0 where
      pub some_item : 0 < length items
      pub item-r : (i : ℕ) → i < length items → length (item_at F items i).r ≡ m
      pub item-x : (i : ℕ) → i < length items → length (item_at F items i).x ≡ n
      pub coefficients : length quotient ≡ quotient_size m (length items)
      pub siblings : (q : ℕ) → q < position_count f.shown → (i : ℕ) → i < suc (length items) → length (opening_at F items f.shown q i).siblings ≡ C.depth
      pub witness : length f.witness ≡ C.k
      pub inside : (q : ℕ) → q < position_count f.shown → position_at f.shown q < 4 * C.k
      pub new-r : f.shown.item.r ≡ new_r F m items f.shown.challenge
      pub new-x : f.shown.item.x ≡ new_x F n items f.shown.challenge
      pub new-e : f.shown.item.e ≡ new_e F items quotient f.shown.challenge
      pub leads : (q : ℕ) → q < position_count f.shown → (i : ℕ) → i < suc (length items) → leads_to F items H f.shown q i ≡ (item_of F items f.shown i).root
      pub combines : (q : ℕ) → q < position_count f.shown
          → value_at F items f.shown q (length items) ≡ mix F (length items) (λ i. value_at F items f.shown q i) f.shown.challenge
      pub matches : Matches F H C f.shown.item f.witness
      pub holds : Holds F M f.shown.item f.witness

  module _ (C : Code K) where
    -- A witness of k numbers whose codeword has the given values at the positions.
    pub record HasValues (ps : List ℕ) (values : ℕ → K) (w : List K) : Type 0 where
      pub size : length w ≡ C.k
      pub values-at : (p : ℕ) → Memᴰ p ps → get_or (codeword F.ring C.points w) p 𝟘 ≡ values p

    -- The folds show one value of each item at each of the positions; the codeword of exactly one witness has these values;
    -- and each item holds with it.
    pub record EachHolds (M : Circuit K) (items : List (Item K)) (ps : List ℕ) (folds : List (Fold K)) : Type 0 where
      pub values : ℕ → ℕ → K
      pub shows : (f : Fold K) → Memᴰ f folds → (i p : ℕ) → i < length items → Memᴰ p ps → Shows F items f.shown i p (values i p)
      pub shows-only : (f : Fold K) → Memᴰ f folds → (i p : ℕ) → i < length items → Memᴰ p ps → (v : K) → Shows F items f.shown i p v → v ≡ values i p
      pub witness : ℕ → List K
      pub witness-has : (i : ℕ) → i < length items → HasValues ps (values i) (witness i)
      pub witness-only : (i : ℕ) → i < length items → (w : List K) → HasValues ps (values i) w → w ≡ witness i
      pub holds : (i : ℕ) → i < length items → Holds F M (item_at F items i) (witness i)
