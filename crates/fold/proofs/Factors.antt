-- The factors of L_i, of Z and of its inverse, by differences of small numbers and their inverses.
use mathlib.Core.Path.{◌≡◌, refl, sym, ap, ap₂, ◌∙◌}
use mathlib.Core.Logic.{◌≢◌}
use mathlib.Core.Bool.{Bool, true, false}
use mathlib.Core.List.{[], ◌∷◌}
use Prim.Native.Nat.{ℕ, ◌-◌, ◌≤◌, ◌<◌}
use native.Mathlib.Nat.{sub-add_cancel}
use native.Mathlib.Omega.{arith}
use lib.Dec.{T, eqb, eqb→eq, eqb_refl}
use Rattle.algebra.specs.Sums.{prod_to}
use Rattle.algebra.specs.Lagrange.{factor}
use Rattle.algebra.proofs.Solver.{x₀, x₁, x₂, ◌:+◌, ◌:*◌, ◌:-◌, :-◌, num, ring-eq, ring-from}
use Rattle.algebra.proofs.FieldLaws.{inv_unique}
use Rattle.field.specs.BabyBear.{p, baby_bear, R, F, val, ofℕ, inv, 𝟘, ⊝◌, ◌⊖◌, ◌⊗◌}
use Rattle.field.proofs.Laws.{val-one, ofℕ-of, ofℕ-add, of_nat-ofℕ, ofℕ-nonzero}
use Rattle.theory.specs.Combination.{node, Z}
use Rattle.fold.proofs.Products.{prod-build, prod_to-inv}

-- The element of a difference.
pub difference : (i j : ℕ) → j ≤ i → ofℕ (i - j) ≡ ofℕ i ⊖ ofℕ j
difference i j h = ring-from R (ofℕ (i - j) ∷ ofℕ i ∷ ofℕ j ∷ []) x₀ (x₁ :- x₂) ((:- num 1, x₁, x₀ :+ x₂) ∷ [])
    (ap ofℕ (sym (sub-add_cancel h)) ∙ ofℕ-add (i - j) j, tt) tt

differ : (i j : ℕ) → j < i → i < p → ofℕ i ⊖ ofℕ j ≢ 𝟘
differ i j h k e = ofℕ-nonzero {n = i - j} (omega arith) (omega arith) (difference i j (omega arith) ∙ e)

-- The inverse of i - j is that of the difference of their elements.
pub inverse-difference : {y : ℕ} (i j : ℕ) → j ≤ i → y ≡ val (inv (ofℕ (i - j))) → ofℕ y ≡ inv (ofℕ i ⊖ ofℕ j)
inverse-difference i j h e = ofℕ-of (inv (ofℕ (i - j))) e ∙ ap inv (difference i j h)

-- ---- the factors of L_i
eqb-false : (i j : ℕ) → (i ≡ j → ⊥) → eqb i j ≡ false
eqb-false i j h = go (eqb i j) (eqb→eq i j)
  where
    go : (t : Bool) → (T t → i ≡ j) → t ≡ false
    go true k = absurd (h (k tt))
    go false k = refl

eqb-true : (i j : ℕ) → i ≡ j → eqb i j ≡ true
eqb-true i j h = go (eqb i j) (rw h (eqb_refl j))
  where
    go : (t : Bool) → T t → t ≡ true
    go true k = refl
    go false k = absurd k

-- The factor of node j in L_i at a.
abbrev pub factor_of : ℕ → ℕ → ℕ → F
factor_of i a j = factor baby_bear (eqb i j) (node baby_bear i) (node baby_bear j) (ofℕ a)

pub factor-same : (i j a : ℕ) → i ≡ j → 1 ≡ val (factor_of i a j)
factor-same i j a h = sym val-one ∙ ap (λ (t : Bool). val (factor baby_bear t (node baby_bear i) (node baby_bear j) (ofℕ a))) (sym (eqb-true i j h))

factor-other : (i j a : ℕ) → (i ≡ j → ⊥) → val ((ofℕ a ⊖ ofℕ j) ⊗ inv (ofℕ i ⊖ ofℕ j)) ≡ val (factor_of i a j)
factor-other i j a h = ap₂ (λ (x y : F). val ((ofℕ a ⊖ y) ⊗ inv (x ⊖ y))) (sym (of_nat-ofℕ i)) (sym (of_nat-ofℕ j))
    ∙ ap (λ (t : Bool). val (factor baby_bear t (node baby_bear i) (node baby_bear j) (ofℕ a))) (sym (eqb-false i j h))

-- (j - a) / (j - i) is (a - j) / (i - j).
opposites : (i j a : F) → j ⊖ i ≢ 𝟘 → (j ⊖ a) ⊗ inv (j ⊖ i) ≡ (a ⊖ j) ⊗ inv (i ⊖ j)
opposites i j a h = ring-eq R (a ∷ j ∷ inv (j ⊖ i) ∷ []) ((x₁ :- x₀) :* x₂) ((x₀ :- x₁) :* (:- x₂)) tt ∙ ap (λ (y : F). (a ⊖ j) ⊗ y) (sym inverse)
  where
    inverse : inv (i ⊖ j) ≡ ⊝ inv (j ⊖ i)
    inverse = inv_unique baby_bear (i ⊖ j) (⊝ inv (j ⊖ i))
        (ring-from R (i ∷ j ∷ inv (j ⊖ i) ∷ []) ((x₀ :- x₁) :* (:- x₂)) (num 1) ((num 1, (x₁ :- x₀) :* x₂, num 1) ∷ []) (baby_bear.mul-inv (j ⊖ i) h, tt) tt)

module _ (i j a : ℕ) {s y r : ℕ} where
  pub factor-below : j < i → s ≡ val (ofℕ a ⊖ ofℕ j) → y ≡ val (inv (ofℕ (i - j))) → r ≡ val (ofℕ s ⊗ ofℕ y) → r ≡ val (factor_of i a j)
  factor-below h d ey e = e ∙ ap₂ (λ (x y : F). val (x ⊗ y)) (ofℕ-of (ofℕ a ⊖ ofℕ j) d) (inverse-difference i j (omega arith) ey) ∙ factor-other i j a (λ q. omega arith)

  pub factor-above : i < j → j < p → s ≡ val (ofℕ j ⊖ ofℕ a) → y ≡ val (inv (ofℕ (j - i))) → r ≡ val (ofℕ s ⊗ ofℕ y) → r ≡ val (factor_of i a j)
  factor-above h k d ey e = e ∙ ap₂ (λ (x y : F). val (x ⊗ y)) (ofℕ-of (ofℕ j ⊖ ofℕ a) d) (inverse-difference j i (omega arith) ey)
      ∙ ap val (opposites (ofℕ i) (ofℕ j) (ofℕ a) (differ j i h k)) ∙ factor-other i j a (λ q. omega arith)

-- ---- the factors of Z and of its inverse
pub vanishing-factor : (a j s : ℕ) → s ≡ val (ofℕ a ⊖ ofℕ j) → s ≡ val (ofℕ a ⊖ node baby_bear j)
vanishing-factor a j s e = e ∙ ap (λ (x : F). val (ofℕ a ⊖ x)) (sym (of_nat-ofℕ j))

pub vanishing-product : (l : ℕ) (x : F) → prod_to R l (λ j. x ⊖ node baby_bear j) ≡ Z baby_bear l x
vanishing-product l x = sym (prod-build R (λ a. x ⊖ a) l (node baby_bear))

module _ (n : ℕ) where
  pub inverse-factor : {y : ℕ} (j : ℕ) → j ≤ n → y ≡ val (inv (ofℕ (n - j))) → y ≡ val (inv (ofℕ n ⊖ node baby_bear j))
  inverse-factor j h e = e ∙ ap (λ (x : F). val (inv x)) (difference n j h ∙ ap (λ (x : F). ofℕ n ⊖ x) (sym (of_nat-ofℕ j)))

  pub inverse-product : (l : ℕ) → l ≤ n → n < p → prod_to R l (λ j. inv (ofℕ n ⊖ node baby_bear j)) ≡ inv (Z baby_bear l (ofℕ n))
  inverse-product l h few = sym (prod_to-inv baby_bear l (λ j. ofℕ n ⊖ node baby_bear j)
      (λ j k e. differ n j (omega arith) (omega arith) (ap (λ (x : F). ofℕ n ⊖ x) (sym (of_nat-ofℕ j)) ∙ e)))
      ∙ ap inv (vanishing-product l (ofℕ n))
