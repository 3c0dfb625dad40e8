-- Items (paper 01, "Claims and folds"): what an item is, when it holds and when it matches a witness.
-- Over any field, with two parameters: how an element is written in a hash, and the points of the code.
use Rattle.std.specs.Prelude.{◌≡◌, List, ℕ, length, get_or}
use Rattle.algebra.specs.Ring.{Field}
use Rattle.algebra.specs.Lists.{build}
use Rattle.code.specs.Codeword.{codeword}
use Rattle.tree.specs.Merkle.{root}
use Rattle.theory.specs.R1cs.{Circuit, value}

-- A digest of byte strings, how many blocks a string is hashed in, and the data of the leaf at a position with a value.
pub record Hash (K : Type 0) : Type 0 where
  pub digest : List ℕ → List ℕ
  pub blocks : List ℕ → ℕ
  pub entry : ℕ → K → List ℕ

-- A code: the number k of witness numbers, the 4k points, and the depth of the tree over 4k leaves.
pub record Code (K : Type 0) : Type 0 where
  pub k : ℕ
  pub depth : ℕ
  pub points : List K

-- An item: the claim that the value at r, x and a witness is e, and the root of the witness's codeword.
pub record Item (K : Type 0) : Type 0 where
  pub e : K
  pub r : List K
  pub x : List K
  pub root : List ℕ

module _ (F : Field) where
  open F use {ring as R}
  open R use {carrier as K, zero as 𝟘, one as 𝟙}

  -- The first of an item's public inputs x is 1.
  abbrev pub LeadingOne : List K → Type 0
  LeadingOne x = get_or x 0 𝟘 ≡ 𝟙

  -- An item holds with a witness when the value equals e.
  abbrev pub Holds : Circuit K → Item K → List K → Type 0
  Holds M item w = value R M item.r item.x w ≡ item.e

  -- The data of the leaves over the values of a codeword.
  abbrev pub leaves : Hash K → List K → List (List ℕ)
  leaves H vs = build (length vs) (λ i. H.entry i (get_or vs i 𝟘))

  -- The root of the tree over the witness's codeword.
  abbrev pub root_of : Hash K → Code K → List K → List ℕ
  root_of H C w = root H.digest C.depth (leaves H (codeword R C.points w))

  -- An item matches a witness when its root is that of the witness's codeword.
  abbrev pub Matches : Hash K → Code K → Item K → List K → Type 0
  Matches H C item w = item.root ≡ root_of H C w
