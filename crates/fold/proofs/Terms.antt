-- The terms of a sum of numbers of a buffer with given weights.
use mathlib.Core.Path.{◌≡◌, refl, ap, ◌∙◌}
use mathlib.Core.List.{List}
use Prim.Native.Nat.{ℕ, ◌+◌, ◌*◌}
use lib.ListN.{length, get_or}
use Rattle.algebra.specs.Sums.{sum_to}
use Rattle.field.specs.BabyBear.{R, F, val, ofℕ, ◌⊗◌}
use Rattle.theory.specs.Buffers.{number_at}
use Rattle.theory.specs.Fp.{element_at}
use Rattle.fold.specs.Weights.{weighted}

module _ (weights buffer : List ℕ) (stride at : ℕ) where
  -- Weight i times number i × stride + at.
  abbrev pub term : ℕ → F
  term i = ofℕ (get_or weights i 0) ⊗ element_at buffer (i * stride + at)

  pub term_is : (i number product : ℕ) → number ≡ number_at buffer (i * stride + at) → product ≡ val (ofℕ (get_or weights i 0) ⊗ ofℕ number) → product ≡ val (term i)
  term_is i number product h e = e ∙ ap (λ (n : ℕ). val (ofℕ (get_or weights i 0) ⊗ ofℕ n)) h

  pub weighted-sum : sum_to R (length weights) term ≡ weighted weights buffer stride at
  unfolding weighted
  weighted-sum = refl
