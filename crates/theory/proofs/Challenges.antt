-- Permitted challenges (paper 01, check 5, and "Near misses"): a permitted challenge is none of the nodes, so that each item has a part
-- in the fold; at a node the fold would be that node's item alone.
use mathlib.Core.Path.{◌≡◌, refl, sym, ◌∙◌, ap}
use mathlib.Core.Logic.{◌≢◌}
use mathlib.Core.Bool.{Bool, true, false, false≢true}
use Prim.Native.Nat.{ℕ, zero, suc, ◌≤◌, ◌<◌}
use native.Mathlib.Omega.{arith}
use borrow.Author.Tests.{eq-eqb, leb-true, ltb-true}
use lib.Dec.{eqb, leb, ltb}
use Rattle.algebra.specs.Ring.{Field}
use Rattle.algebra.specs.Sums.{prod_to}
use Rattle.algebra.specs.Lagrange.{factor}
use Rattle.algebra.proofs.RingLaws.{eq-of-sub, mul-zero}
use Rattle.algebra.proofs.FieldLaws.{cancel-factor}
use Rattle.numbers.proofs.Tests.{and_left, and_right}
use Rattle.field.specs.BabyBear.{p, baby_bear, F, ofℕ, 𝟘}
use Rattle.field.proofs.Laws.{ofℕ-inj, of_nat-ofℕ, of_nat-differ}
use Rattle.theory.specs.Combination.{node, L, mix}
use Rattle.theory.specs.Fp.{challenge_fits}
use Rattle.theory.proofs.CombinationLaws.{mix-at}

-- ---- outside the nodes no L_i is 0
module _ (F : Field) where
  open F use {ring as R, inv, mul-inv, one≢zero}
  open R use {carrier as K, zero as 𝟘, one as 𝟙, add as ◌⊕◌, mul as ◌⊗◌, neg as ⊝◌}

  infixl 60 ◌⊕◌
  infixl 70 ◌⊗◌
  infixl 80 ⊝◌
  prod_to-nonzero : (n : ℕ) (f : ℕ → K) → ((j : ℕ) → j < n → f j ≢ 𝟘) → prod_to R n f ≢ 𝟘
  prod_to-nonzero zero f h e = one≢zero e
  prod_to-nonzero (suc n) f h e = h n (omega arith) (cancel-factor F (prod_to R n f) (f n) (prod_to-nonzero n f (λ j q. h j (omega arith))) e)

  inv-nonzero : (a : K) → a ≢ 𝟘 → inv a ≢ 𝟘
  inv-nonzero a h e = one≢zero (sym (mul-inv a h) ∙ ap (λ (y : K). a ⊗ y) e ∙ mul-zero R a)

  module _ (l : ℕ) (different : (i j : ℕ) → i < l → j < l → i ≢ j → node F i ≢ node F j) where
    L-nonzero : (i : ℕ) (x : K) → i < l → ((j : ℕ) → j < l → x ≢ node F j) → L F l i x ≢ 𝟘
    L-nonzero i x h outside = prod_to-nonzero l (λ j. factor F (eqb i j) (node F i) (node F j) x) (λ j q. go j q (eqb i j) (λ e d. false≢true (sym e ∙ eq-eqb i j d)))
      where
        go : (j : ℕ) → j < l → (b : Bool) → (b ≡ false → i ≢ j) → factor F b (node F i) (node F j) x ≢ 𝟘
        go j q true e z = one≢zero z
        go j q false e z = inv-nonzero (node F i ⊕ ⊝ node F j)
            (λ y. different i j h q (e refl) (eq-of-sub R (node F i) (node F j) y))
            (cancel-factor F (x ⊕ ⊝ node F j) (inv (node F i ⊕ ⊝ node F j)) (λ y. outside j q (eq-of-sub R x (node F j) y)) z)

-- ---- at the field of p elements

pub permitted-from : (l a : ℕ) → challenge_fits l a ≡ true → l ≤ a
permitted-from l a h = leb-true l a (and_left (leb l a) (ltb a p) h)

pub permitted-below : (l a : ℕ) → challenge_fits l a ≡ true → a < p
permitted-below l a h = ltb-true a p (and_right (leb l a) (ltb a p) h)

module _ (l a : ℕ) (permitted : challenge_fits l a ≡ true) where
  from-l : l ≤ a
  from-l = permitted-from l a permitted

  below-p : a < p
  below-p = permitted-below l a permitted

  -- A permitted challenge is none of the nodes 0 to l - 1.
  pub permitted-is-no-node : (i : ℕ) → i < l → ofℕ a ≢ node baby_bear i
  permitted-is-no-node i h e = omega (arith, from-l, same)
    where
      same : a ≡ i
      same = ofℕ-inj below-p (omega (arith, below-p, from-l)) (e ∙ of_nat-ofℕ i)

  -- So each item has a part in the fold: no L_i is 0 there.
  pub each-item-counts : (i : ℕ) → i < l → L baby_bear l i (ofℕ a) ≢ 𝟘
  each-item-counts i h = L-nonzero baby_bear l apart i (ofℕ a) h permitted-is-no-node
    where
      apart : (i j : ℕ) → i < l → j < l → i ≢ j → node baby_bear i ≢ node baby_bear j
      apart i j hi hj n e = n (ofℕ-inj (omega (arith, from-l, below-p)) (omega (arith, from-l, below-p)) (sym (of_nat-ofℕ i) ∙ e ∙ of_nat-ofℕ j))

-- At node i the fold is item i alone, whatever the others are.
pub fold-at-node : (l i : ℕ) (v : ℕ → F) → l ≤ p → i < l → mix baby_bear l v (node baby_bear i) ≡ v i
fold-at-node l i v few h = mix-at baby_bear l (of_nat-differ l few) v i h
