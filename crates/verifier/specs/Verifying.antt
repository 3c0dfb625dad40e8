-- What the verifier tests, on the buffers of a fold as they lie (paper 01, "Checking order", 8 and 9), and what they are read as.
use Rattle.std.specs.Prelude.{◌≡◌, Bool, ◌&&◌, List, [], ◌∷◌, ◌++◌, ℕ, suc, ◌+◌, ◌*◌, eqb, get_or}
use Rattle.algebra.specs.Lists.{build}
use Rattle.numbers.specs.Equality.{same_bytes}
use Rattle.field.specs.BabyBear.{F, val}
use Rattle.hash.specs.Sha256.{digest}
use Rattle.tree.specs.Layout.{part, opening_size, opened_root, opened_strings}
use Rattle.code.specs.Points.{depth}
use Rattle.theory.specs.Items.{Item}
use Rattle.theory.specs.Combination.{quotient_size}
use Rattle.theory.specs.Folds.{Shown}
use Rattle.theory.specs.Checks.{Check, check, reached}
use Rattle.theory.specs.Buffers.{number_at}
use Rattle.theory.specs.Sizes.{elements_below, items_leading_one, positions_below}
use Rattle.theory.specs.Fp.{fp, elements, item_front, item_size, read_items, item_below, items_below, opened_below, challenge_fits, read_shown}
use Rattle.fold.specs.Weights.{weighted}
use Rattle.verifier.specs.declared.shown.Fold.{Fold}

-- What a fold is made of.
pub record IsFoldOf (m n k l t : ℕ) (items positions quotient item openings : List ℕ) (fold : Fold) : Type 0 where
  pub m_is : fold.sizes.m ≡ m
  pub n_is : fold.sizes.n ≡ n
  pub k_is : fold.sizes.k ≡ k
  pub l_is : fold.l ≡ l
  pub t_is : fold.t ≡ t
  pub items_is : fold.items.now ≡ items
  pub positions_is : fold.positions.now ≡ positions
  pub quotient_is : fold.quotient.now ≡ quotient
  pub item_is : fold.item.now ≡ item
  pub openings_is : fold.openings.now ≡ openings

-- Its items, the quotient's coefficients, and what is shown of it at a challenge.
abbrev pub batch : Fold → List (Item F)
batch f = read_items f.sizes.m f.sizes.n f.l f.items.now

abbrev pub coefficients : Fold → List F
coefficients f = elements (quotient_size f.sizes.m f.l) f.quotient.now

abbrev pub shown : Fold → ℕ → Shown F
shown f challenge = read_shown f.sizes.m f.sizes.n f.sizes.k f.l f.t challenge f.positions.now f.item.now f.openings.now

-- The checks of each number by itself, behind check 2.
abbrev pub number_checks : Fold → ℕ → List Check
number_checks f challenge =
    check 3 (items_below f.sizes.m f.sizes.n f.l f.items.now && elements_below f.quotient.now && item_below f.sizes.m f.sizes.n f.item.now && opened_below (depth f.sizes.k) (f.t * suc f.l) f.openings.now)
    ∷ check 13 (items_leading_one fp f.sizes.m f.sizes.n f.l f.items.now)
    ∷ check 5 (challenge_fits f.l challenge)
    ∷ check 6 (positions_below f.sizes.k f.positions.now)
    ∷ []

-- The root of item i; the item after the last is the new one.
abbrev pub root_at : Fold → ℕ → List ℕ
root_at f i =
    let front = item_front f.sizes.m f.sizes.n in
    get_or (build f.l (λ j. part f.items.now (j * item_size f.sizes.m f.sizes.n + front) 32) ++ (part f.item.now front 32 ∷ [])) i []

-- Where the opening of item i at the position with index q lies.
abbrev pub place : Fold → ℕ → ℕ → ℕ
place f q i = (q * suc f.l + i) * opening_size (depth f.sizes.k)

-- Check 8 for this opening.
abbrev pub leads : Fold → ℕ → ℕ → Bool
leads f q i = same_bytes (opened_root digest f.openings.now (place f q i) (depth f.sizes.k) (number_at f.positions.now q)) (root_at f i)

-- The strings hashed for it, and those of the openings that are reached.
abbrev pub strings_at : Fold → ℕ → ℕ → List (List ℕ)
strings_at f q i = opened_strings digest f.openings.now (place f q i) (depth f.sizes.k) (number_at f.positions.now q)

abbrev pub strings_reached : Fold → List (List ℕ)
strings_reached f = reached f.t (suc f.l) (leads f) (strings_at f)

-- The numbers of an opening.
abbrev pub stride : Fold → ℕ
stride f = 1 + 8 * depth f.sizes.k

-- Check 9 for the position with index q, with the weights of the items: its openings start at number q × (l + 1) × stride.
abbrev pub value_combines : List ℕ → Fold → ℕ → Bool
value_combines weights f q =
    eqb (number_at f.openings.now ((q * suc f.l + f.l) * stride f))
    (val (weighted weights f.openings.now (stride f) (q * suc f.l * stride f)))
