-- The numbers that folding works with: the values of L_i at a challenge, and sums of numbers of a buffer with given weights.
use Rattle.std.specs.Prelude.{List, ℕ, ◌+◌, ◌*◌, length, get_or}
use Rattle.algebra.specs.Lists.{build}
use Rattle.algebra.specs.Sums.{sum_to}
use Rattle.field.specs.BabyBear.{baby_bear, R, F, val, ofℕ, ◌⊗◌}
use Rattle.theory.specs.Combination.{L}
use Rattle.theory.specs.Fp.{element_at}

-- L_0 to L_(l - 1) at the challenge a.
unfoldable pub lagrange_at : ℕ → ℕ → List ℕ
lagrange_at l a = build l (λ i. val (L baby_bear l i (ofℕ a)))

-- The sum of weight i times number i × stride + at of the buffer.
unfoldable pub weighted : List ℕ → List ℕ → ℕ → ℕ → F
weighted weights buffer stride at = sum_to R (length weights) (λ i. ofℕ (get_or weights i 0) ⊗ element_at buffer (i * stride + at))

-- n such sums, for the numbers from `at` on.
unfoldable pub weighted_from : List ℕ → List ℕ → ℕ → ℕ → ℕ → List ℕ
weighted_from weights buffer stride at n = build n (λ b. val (weighted weights buffer stride (at + b)))
