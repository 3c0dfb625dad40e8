-- The quotient's values outside the nodes, and its coefficients.
use mathlib.Core.Path.{◌≡◌, sym, ap, ap₂, ◌∙◌}
use mathlib.Core.List.{List, map}
use Prim.Native.Nat.{ℕ, ◌+◌, ◌-◌, ◌≤◌, ◌<◌}
use native.Mathlib.Nat.{mul-le-mul}
use native.Mathlib.Omega.{arith}
use lib.ListN.{length, get_or}
use Rattle.algebra.specs.Lists.{build}
use Rattle.algebra.specs.Polynomial.{eval_poly}
use Rattle.algebra.specs.Interpolation.{interpolate}
use Rattle.algebra.proofs.ListLaws.{get_or-build, build-cong, map-build}
use Rattle.field.specs.BabyBear.{p, baby_bear, R, F, val, ofℕ, inv, ◌⊕◌, ◌⊖◌, ◌⊗◌}
use Rattle.field.specs.Numbers.{Below}
use Rattle.field.proofs.Laws.{ofℕ-val, below-p, of_nat-ofℕ}
use Rattle.field.proofs.Chains.{sum_of, difference-of, product-of}
use Rattle.code.specs.Codeword.{value_at}
use Rattle.code.proofs.Evaluation.{value_at-eval_poly}
use Rattle.theory.specs.Combination.{node, Z, mix_e, new_e, combined_value, quotient_size, quotient_of}
use Rattle.theory.specs.Fp.{circuit, read_items, read_witness}
use Rattle.r1cs.specs.declared.list.List.{List as Listed}
use Rattle.fold.specs.Fits.{quotient_at}
use Rattle.fold.proofs.Reading.{length-items}

pub quotient_size-most : (m l : ℕ) → m ≤ 6 → l ≤ 8 → quotient_size m l ≤ 49
quotient_size-most m l h g = mul-le-mul {n₁ = l - 1} {m₁ = m + 1} {n₂ = 7} {m₂ = 7} (omega arith) (omega arith)

-- The quotient of a list at a point, and its numbers at l, l + 1, ..
abbrev at : Listed → F → F
at s = quotient_at s.sizes.m s.sizes.n s.sizes.k s.l s.circuit.a.now s.circuit.b.now s.circuit.c.now s.items.now s.wits.now

abbrev pub value : Listed → ℕ → ℕ
value s i = val (at s (ofℕ (s.l + i)))

module _ (s : Listed) {values : List ℕ} (size : length values ≡ quotient_size s.sizes.m s.l) (filled : values ≡ build (length values) (value s)) where
  -- What interpolating the values asks for.
  pub values-fit : (length values < 64) × (s.l + length values ≤ p) × Below values
  values-fit =
      let few : length values ≤ 49 = omega (arith, size, quotient_size-most s.sizes.m s.l s.sizes.m_most s.l_most) in (
        omega (arith, few),
        omega (arith, few),
        λ i h. below-p (at s (ofℕ (s.l + i))) (ap (λ (vs : List ℕ). get_or vs i 0) filled ∙ get_or-build (length values) (value s) i 0 h),
      )

  pub quotient_is : map val (interpolate baby_bear (build (length values) (λ i. ofℕ (s.l + i))) (map ofℕ values))
      ≡ map val (quotient_of baby_bear (circuit s.circuit.a.now s.circuit.b.now s.circuit.c.now) s.sizes.m s.sizes.n s.sizes.k (read_items s.sizes.m s.sizes.n s.l s.items.now) (read_witness s.sizes.k s.wits.now))
  unfolding quotient_of
  quotient_is =
      ap (map val) (ap₂ (interpolate baby_bear)
      (ap (λ (t : ℕ). build t (λ i. ofℕ (s.l + i))) size ∙ points)
      (ap (map ofℕ) (filled ∙ ap (λ (t : ℕ). build t (value s)) size)
      ∙ map-build ofℕ count (value s) ∙ build-cong count (λ i. ofℕ (value s i)) (λ i. at s (node baby_bear (s.l + i))) (λ i h. ofℕ-val (at s (ofℕ (s.l + i))) ∙ ap (at s) (sym (of_nat-ofℕ (s.l + i))))
      ∙ sym (map-build (at s) count (λ i. node baby_bear (s.l + i))))
      ∙ ap (λ (t : ℕ). interpolate baby_bear (build (quotient_size s.sizes.m t) (λ i. node baby_bear (t + i))) (map (over t) (build (quotient_size s.sizes.m t) (λ i. node baby_bear (t + i))))) (sym (length-items s.sizes.m s.sizes.n s.l s.items.now)))
    where
      count : ℕ
      count = quotient_size s.sizes.m s.l

      -- The same with Z over t nodes.
      over : ℕ → F → F
      over t x =
          (combined_value baby_bear (circuit s.circuit.a.now s.circuit.b.now s.circuit.c.now) s.sizes.m s.sizes.n s.sizes.k (read_items s.sizes.m s.sizes.n s.l s.items.now) (read_witness s.sizes.k s.wits.now) x ⊖ mix_e baby_bear (read_items s.sizes.m s.sizes.n s.l s.items.now) x) ⊗ inv (Z baby_bear t x)

      points : build count (λ i. ofℕ (s.l + i)) ≡ build count (λ i. node baby_bear (s.l + i))
      points = build-cong count (λ i. ofℕ (s.l + i)) (λ i. node baby_bear (s.l + i)) (λ i h. sym (of_nat-ofℕ (s.l + i)))

-- ---- one value

pub quotient-value-is : (m n k l : ℕ) (a b c items wits : List ℕ) (i : ℕ) {s at value mixed difference inverse result : ℕ} → s ≡ l → at ≡ l + i
    → value ≡ val (combined_value baby_bear (circuit a b c) m n k (read_items m n l items) (read_witness k wits) (ofℕ at))
    → mixed ≡ val (mix_e baby_bear (read_items m n s items) (ofℕ at)) → difference ≡ val (ofℕ value ⊖ ofℕ mixed)
    → inverse ≡ val (inv (Z baby_bear l (ofℕ (l + i)))) → result ≡ val (ofℕ difference ⊗ ofℕ inverse)
    → result ≡ val (quotient_at m n k l a b c items wits (ofℕ (l + i)))
quotient-value-is m n k l a b c items wits i es ea ev em ed ei er =
    product-of (combined (l + i) ⊖ mixes l (l + i)) (inv (Z baby_bear l (ofℕ (l + i))))
    (difference-of (combined (l + i)) (mixes l (l + i)) (ev ∙ ap (λ (x : ℕ). val (combined x)) ea) (em ∙ ap₂ (λ (t x : ℕ). val (mixes t x)) es ea) ed) ei er
  where
    combined : ℕ → F
    combined x = combined_value baby_bear (circuit a b c) m n k (read_items m n l items) (read_witness k wits) (ofℕ x)

    mixes : ℕ → ℕ → F
    mixes t x = mix_e baby_bear (read_items m n t items) (ofℕ x)

-- ---- the new e

pub new-e-is : (m n l at : ℕ) (items quotient : List ℕ) {mixed vanishing value product result : ℕ}
    → mixed ≡ val (mix_e baby_bear (read_items m n l items) (ofℕ at)) → vanishing ≡ val (Z baby_bear l (ofℕ at)) → value ≡ val (value_at R (map ofℕ quotient) (ofℕ at))
    → product ≡ val (ofℕ vanishing ⊗ ofℕ value) → result ≡ val (ofℕ mixed ⊕ ofℕ product)
    → result ≡ val (new_e baby_bear (read_items m n l items) (map ofℕ quotient) (ofℕ at))
new-e-is m n l at items quotient em ez ev ep er =
    sum_of mixes (Z baby_bear l (ofℕ at) ⊗ here) em
    (product-of (Z baby_bear l (ofℕ at)) here ez (ev ∙ ap val (value_at-eval_poly R (map ofℕ quotient) (ofℕ at))) ep) er
    ∙ ap (λ (s : ℕ). val (mixes ⊕ Z baby_bear s (ofℕ at) ⊗ here)) (sym (length-items m n l items))
  where
    mixes : F
    mixes = mix_e baby_bear (read_items m n l items) (ofℕ at)

    here : F
    here = eval_poly R (map ofℕ quotient) (ofℕ at)
