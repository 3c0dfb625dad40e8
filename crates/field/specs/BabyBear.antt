-- Paper 01, "Field, code and tree": p is the prime 2013265921 = 15 × 2^27 + 1, and an element is a number below p.
-- The field's operations, `val` and `ofℕ` are shut: everything goes by the laws of `proofs/Laws`.
-- Assumes nothing.
use Rattle.std.specs.Prelude.{ℕ}
use Rattle.std.proofs.Common.{lit<}
use Rattle.algebra.specs.Ring.{CommRing, Field}
use Rattle.algebra.specs.Prime.{Prime}
use Rattle.algebra.proofs.TrialDivision.{prime-by-trial}
use Rattle.field.specs.Modular.{residue, prime_field}

abbrev pub p : ℕ
p = 2013265921

-- No number from 2 to 44,869 divides p, and p is below 44,870 × 44,870.
pub p-prime : Prime p
p-prime = prime-by-trial p 44868 (lit< tt) tt (lit< tt)

unfoldable pub baby_bear : Field
baby_bear = prime_field p (lit< tt) p-prime

-- Its ring, for the definitions that speak of any ring.
abbrev pub R : CommRing
R = baby_bear.ring

-- The elements, the number of an element, and the element of a number: that of its remainder modulo p.
abbrev pub F : Type 0
F = R.carrier

unfoldable pub val : F → ℕ
unfolding baby_bear
val a = a.0

unfoldable pub ofℕ : ℕ → F
unfolding baby_bear
ofℕ n = residue p (lit< tt) n

-- The field's zero, one, sum, difference, opposite, product and inverse.
infixl 60 ◌⊕◌
infixl 60 ◌⊖◌
infixl 70 ◌⊗◌
infixl 80 ⊝◌
abbrev pub 𝟘 : F
𝟘 = R.zero

abbrev pub 𝟙 : F
𝟙 = R.one

abbrev pub ◌⊕◌ : F → F → F
a ⊕ b = R.add a b

abbrev pub ⊝◌ : F → F
⊝ a = R.neg a

abbrev pub ◌⊖◌ : F → F → F
a ⊖ b = a ⊕ ⊝ b

abbrev pub ◌⊗◌ : F → F → F
a ⊗ b = R.mul a b

abbrev pub inv : F → F
inv a = baby_bear.inv a
