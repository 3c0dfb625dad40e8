-- The combination of l items at a challenge, and the quotient (paper 01, "Claims and folds").
-- Over any field.
use Rattle.std.specs.Prelude.{◌≡◌, List, [], map, ℕ, ◌+◌, ◌-◌, ◌*◌, ◌<◌, length, get_or}
use Rattle.algebra.specs.Ring.{Field, of_nat}
use Rattle.algebra.specs.Lists.{build}
use Rattle.algebra.specs.Sums.{sum_to}
use Rattle.algebra.specs.Polynomial.{eval_poly}
use Rattle.algebra.specs.Lagrange.{basis}
use Rattle.algebra.specs.Vanishing.{vanishing}
use Rattle.algebra.specs.Interpolation.{interpolate}
use Rattle.theory.specs.R1cs.{Circuit, value}
use Rattle.theory.specs.Items.{Item, Holds}

-- The number of the quotient's coefficients.
abbrev pub quotient_size : ℕ → ℕ → ℕ
quotient_size m l = (l - 1) * (m + 1)

module _ (F : Field) where
  open F use {ring as R, inv}
  open R use {carrier as K, zero as 𝟘, add as ◌⊕◌, mul as ◌⊗◌, neg as ⊝◌}

  infixl 60 ◌⊕◌
  infixl 70 ◌⊗◌
  infixl 80 ⊝◌
  -- Node i is the number i in the field.
  abbrev pub node : ℕ → K
  node = of_nat R

  -- L_i over the nodes 0 to l - 1, at a: of degree below l, 1 at node i and 0 at the others.
  abbrev pub L : ℕ → ℕ → K → K
  L l i a = basis F l node i a

  -- Z at a: the product of a - node i.
  abbrev pub Z : ℕ → K → K
  Z l a = vanishing R (build l node) a

  -- The sum of L_i(a) × v_i, and of L_i(a) times list i, for l lists of the given length.
  abbrev pub mix : ℕ → (ℕ → K) → K → K
  mix l v a = sum_to R l (λ i. L l i a ⊗ v i)

  abbrev pub mix_lists : ℕ → ℕ → (ℕ → List K) → K → List K
  mix_lists size l lists a = build size (λ b. mix l (λ i. get_or (lists i) b 𝟘) a)

  -- Item i of a list.
  pub blank : Item K
  blank = record { e = 𝟘; r = []; x = []; root = [] }

  unfoldable pub item_at : List (Item K) → ℕ → Item K
  item_at items i = get_or items i blank

  -- The new r, x and w at the challenge a.
  abbrev pub new_r : ℕ → List (Item K) → K → List K
  new_r m items a = mix_lists m (length items) (λ i. (item_at items i).r) a

  abbrev pub new_x : ℕ → List (Item K) → K → List K
  new_x n items a = mix_lists n (length items) (λ i. (item_at items i).x) a

  abbrev pub new_w : ℕ → ℕ → (ℕ → List K) → K → List K
  new_w k l witnesses a = mix_lists k l witnesses a

  -- The sum of L_i(a) × e_i, and the new e: that sum plus Z(a) × quotient(a).
  abbrev pub mix_e : List (Item K) → K → K
  mix_e items a = mix (length items) (λ i. (item_at items i).e) a

  abbrev pub new_e : List (Item K) → List K → K → K
  new_e items quotient a = mix_e items a ⊕ Z (length items) a ⊗ eval_poly R quotient a

  -- There is an item, and items and witnesses have the sizes.
  pub record Shaped (m n k : ℕ) (items : List (Item K)) (witnesses : ℕ → List K) : Type 0 where
    pub some_item : 0 < length items
    pub item-r : (i : ℕ) → i < length items → length (item_at items i).r ≡ m
    pub item-x : (i : ℕ) → i < length items → length (item_at items i).x ≡ n
    pub witness : (i : ℕ) → i < length items → length (witnesses i) ≡ k

  module _ (M : Circuit K) (m n k : ℕ) (items : List (Item K)) (witnesses : ℕ → List K) where
    -- The value at the combined r, x and w: a polynomial in a.
    abbrev pub combined_value : K → K
    combined_value a = value R M (new_r m items a) (new_x n items a) (new_w k (length items) witnesses a)

    -- A quotient: at every a the value is the sum of L_i × e_i, plus Z × quotient. Both sides have degrees far below the number of
    -- elements, so they agree at every a exactly if they are one polynomial.
    pub record IsQuotient (quotient : List K) : Type 0 where
      pub coefficients : length quotient ≡ quotient_size m (length items)
      pub identity : (a : K) → combined_value a ≡ new_e items quotient a

    abbrev pub AllHold : Type 0
    AllHold = (i : ℕ) → i < length items → Holds F M (item_at items i) (witnesses i)

    -- The points that the quotient is interpolated at: the first numbers outside the nodes, as many as it has coefficients.
    abbrev pub samples : List K
    samples = build (quotient_size m (length items)) (λ i. node (length items + i))

    -- The quotient that is written: the coefficients of the polynomial that takes the value (value - sum of L_i × e_i) / Z at each of them.
    unfoldable pub quotient_of : List K
    quotient_of = interpolate F samples (map (λ a. (combined_value a ⊕ ⊝ mix_e items a) ⊗ inv (Z (length items) a)) samples)
