-- What the calls are defined over: a field, a format of its elements in bytes, a hash with the data of its leaves, and the built-in
-- points of the code; and the points that a call uses. `Fp` has the instance that the exported calls take.
use Rattle.std.specs.Prelude.{Bool, ℕ}
use mathlib.Core.List.{List, [], ◌∷◌, map, List-discrete}
use Rattle.algebra.specs.Ring.{Field}
use Rattle.numbers.specs.Numbers.{numbers}
use Rattle.numbers.specs.Equality.{decided}
use Rattle.code.specs.Points.{depth}
use Rattle.code.specs.Codeword.{codeword}
use Rattle.theory.specs.Items.{Hash, Code, root_of}

-- How elements lie in bytes, and how a call takes a challenge.
pub record Format (K : Type 0) : Type 1 where
  -- The bytes of n elements.
  pub size : ℕ → ℕ
  -- Element j of a buffer of elements, and whether each of its numbers is below p.
  pub at : List ℕ → ℕ → K
  pub below : List ℕ → ℕ → Bool
  -- The bytes of a list of elements.
  pub bytes_of : List K → List ℕ
  -- The element of a number, as circuits and lent points have it.
  pub of_number : ℕ → K
  -- A challenge as a call takes it; whether it has the length for it (check 2); whether it is permitted for l items (check 5); its element.
  pub Challenge : Type 0
  pub sized : Challenge → Bool
  pub permitted : ℕ → Challenge → Bool
  pub element : Challenge → K

pub record Instance : Type 1 where
  pub field : Field
  pub format : Format field.ring.carrier
  pub hash : Hash field.ring.carrier
  -- The 4k built-in points of the code for k witness numbers.
  pub built_in_points : ℕ → List field.ring.carrier

module _ (I : Instance) where
  open I use {field as F, format as E, hash as H}
  open F use {ring as R, eq?}
  open R use {carrier as K}

  -- Equality of elements and of lists of elements.
  abbrev pub same_element : K → K → Bool
  same_element a b = decided (eq? a b)

  abbrev pub same_elements : List K → List K → Bool
  same_elements a b = decided (List-discrete eq? a b)

  -- The points that a call uses: the built-in ones where the buffer lent for points is empty, and else its numbers, in their order.
  abbrev pub points_of : ℕ → List ℕ → List K
  points_of k [] = I.built_in_points k
  points_of k (byte ∷ points) = map E.of_number (numbers (byte ∷ points))

  abbrev pub code : ℕ → List ℕ → Code K
  code k points = record { k = k; depth = depth k; points = points_of k points }

  -- The codeword of a witness at these points, and the root of the tree over it.
  abbrev pub codeword_of : ℕ → List ℕ → List K → List K
  codeword_of k points w = codeword R (points_of k points) w

  abbrev pub witness_root : ℕ → List ℕ → List K → List ℕ
  witness_root k points w = root_of F H (code k points) w
