-- The laws of an element's number and a number's element.
-- Assumes nothing.
use mathlib.Core.Path.{◌≡◌, refl, sym, ap, ◌∙◌}
use mathlib.Core.Logic.{◌≢◌}
use Prim.Native.Nat.{ℕ, zero, suc, ◌+◌, ◌*◌, ◌-◌, ◌%◌, ◌≤◌, ◌<◌}
use native.Mathlib.Nat.{mod-eq_of_lt, zero-mod, mod_self, add-sub_of_le}
use native.Mathlib.Numerals.{add-one}
use native.Mathlib.Omega.{arith}
use lib.Dec.{lit<}
use Rattle.algebra.specs.Ring.{of_nat}
use Rattle.algebra.specs.Lists.{Differ}
use Rattle.algebra.proofs.RingLaws.{neg_unique, of_nat-suc}
use Rattle.field.specs.Modular.{residue-eq, residue-add, residue-mul, inv_residue-zero}
use Rattle.field.specs.BabyBear.{p, p-prime, baby_bear, R, F, val, ofℕ, 𝟘, 𝟙, ◌⊕◌, ⊝◌, ◌⊖◌, ◌⊗◌, inv}

-- ---- an element's number

pub val-lt : (a : F) → val a < p
unfolding val baby_bear
val-lt a = a.1

pub val_inj : (a b : F) → val a ≡ val b → a ≡ b
unfolding val baby_bear
val_inj a b e = residue-eq p (lit< tt) e

pub val-ofℕ : (n : ℕ) → val (ofℕ n) ≡ n % p
unfolding val ofℕ
val-ofℕ n = refl

pub val-small : {n : ℕ} → n < p → val (ofℕ n) ≡ n
val-small {n} h = val-ofℕ n ∙ mod-eq_of_lt h

-- ---- a number's element

pub ofℕ-val : (a : F) → ofℕ (val a) ≡ a
ofℕ-val a = val_inj _ _ (val-ofℕ (val a) ∙ mod-eq_of_lt (val-lt a))

-- What a call's promise `n ≡ val a` says of its result n.
pub below-p : {n : ℕ} (a : F) → n ≡ val a → n < p
below-p a e = rw e (val-lt a)

pub ofℕ-of : {n : ℕ} (a : F) → n ≡ val a → ofℕ n ≡ a
ofℕ-of a e = ap ofℕ e ∙ ofℕ-val a

-- Numbers with the same remainder are the same element.
pub ofℕ-eq : (m n : ℕ) → m % p ≡ n % p → ofℕ m ≡ ofℕ n
ofℕ-eq m n e = val_inj _ _ (val-ofℕ m ∙ e ∙ sym (val-ofℕ n))

-- Different numbers below p are different elements.
pub ofℕ-inj : {m n : ℕ} → m < p → n < p → ofℕ m ≡ ofℕ n → m ≡ n
ofℕ-inj h l e = sym (val-small h) ∙ ap val e ∙ val-small l

-- ---- sums and products

pub ofℕ-zero : ofℕ 0 ≡ 𝟘
unfolding baby_bear ofℕ
ofℕ-zero = refl

pub ofℕ-one : ofℕ 1 ≡ 𝟙
unfolding baby_bear ofℕ
ofℕ-one = refl

pub ofℕ-add : (a b : ℕ) → ofℕ (a + b) ≡ ofℕ a ⊕ ofℕ b
unfolding baby_bear ofℕ
ofℕ-add a b = residue-add p (lit< tt) a b

pub ofℕ-mul : (a b : ℕ) → ofℕ (a * b) ≡ ofℕ a ⊗ ofℕ b
unfolding baby_bear ofℕ
ofℕ-mul a b = residue-mul p (lit< tt) a b

pub ofℕ-suc : (n : ℕ) → ofℕ (suc n) ≡ ofℕ n ⊕ 𝟙
ofℕ-suc n = ap ofℕ (sym (add-one n)) ∙ ofℕ-add n 1 ∙ ap (λ (x : F). ofℕ n ⊕ x) ofℕ-one

pub ofℕ-p : ofℕ p ≡ 𝟘
ofℕ-p = ofℕ-eq p 0 (mod_self p ∙ sym (zero-mod p)) ∙ ofℕ-zero

-- p - a is the opposite of a.
pub ofℕ-neg : (a : ℕ) → a ≤ p → ofℕ (p - a) ≡ ⊝ ofℕ a
ofℕ-neg a h = neg_unique R (ofℕ a) (ofℕ (p - a)) (sym (ofℕ-add a (p - a)) ∙ ap ofℕ (add-sub_of_le h) ∙ ofℕ-p)

pub ofℕ-add-neg : (a b : ℕ) → b ≤ p → ofℕ (a + (p - b)) ≡ ofℕ a ⊖ ofℕ b
ofℕ-add-neg a b h = ofℕ-add a (p - b) ∙ ap (λ (x : F). ofℕ a ⊕ x) (ofℕ-neg b h)

pub val-mul : (a b : ℕ) → val (ofℕ a ⊗ ofℕ b) ≡ a * b % p
val-mul a b = ap val (sym (ofℕ-mul a b)) ∙ val-ofℕ (a * b)

-- The sum of n ones, as the ring knows a number.
pub of_nat-ofℕ : (n : ℕ) → of_nat R n ≡ ofℕ n
of_nat-ofℕ zero = sym ofℕ-zero
of_nat-ofℕ (suc n) = of_nat-suc R n ∙ ap (λ (x : F). x ⊕ 𝟙) (of_nat-ofℕ n) ∙ sym (ofℕ-suc n)

-- The nodes 0 to l - 1 are different elements.
pub of_nat-differ : (l : ℕ) → l ≤ p → Differ l (of_nat R)
of_nat-differ l h i j a b e =
    let same : i ≡ j = ofℕ-inj (omega arith) (omega arith) (sym (of_nat-ofℕ i) ∙ e ∙ of_nat-ofℕ j) in
    omega arith

-- ---- zero and one

pub val-zero : val 𝟘 ≡ 0
val-zero = ap val (sym ofℕ-zero) ∙ val-small (lit< tt)

pub val-one : val 𝟙 ≡ 1
val-one = ap val (sym ofℕ-one) ∙ val-small (lit< tt)

pub ofℕ-nonzero : {n : ℕ} → 0 < n → n < p → ofℕ n ≢ 𝟘
ofℕ-nonzero {n} pos h e =
    let z : n ≡ 0 = ofℕ-inj h (lit< tt) (e ∙ sym ofℕ-zero) in
    omega arith

pub inv-zero : inv 𝟘 ≡ 𝟘
unfolding baby_bear
inv-zero = inv_residue-zero p (lit< tt) p-prime
