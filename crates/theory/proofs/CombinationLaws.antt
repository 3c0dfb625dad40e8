-- The combination at a challenge (paper 01, "Claims and folds"): that the L_i sum to 1, what it is at the nodes, its degree in the challenge, and
-- that the codeword of combined lists is the combination of theirs.
use mathlib.Core.Path.{◌≡◌, ◌∙◌, ap}
use mathlib.Core.List.{List}
use Prim.Native.Nat.{ℕ, suc, ◌≤◌, ◌<◌}
use lib.ListN.{length, get_or}
use Rattle.algebra.specs.Ring.{Field}
use Rattle.algebra.specs.Lists.{Differ}
use Rattle.algebra.specs.Sums.{sum_to}
use Rattle.algebra.specs.Polynomial.{PolyFn}
use Rattle.algebra.proofs.ListLaws.{length-build, get_or-build, build-cong, build-get_or}
use Rattle.algebra.proofs.SumLaws.{sum_to-cong}
use Rattle.algebra.proofs.LagrangeLaws.{combine-at, PolyFn-combine, basis-sum}
use Rattle.code.specs.Codeword.{codeword}
use Rattle.code.proofs.Evaluation.{codeword-linear}
use Rattle.theory.specs.Combination.{node, L, mix, mix_lists}

module _ (F : Field) where
  open F use {ring as R}
  open R use {carrier as K, zero as 𝟘, one as 𝟙, mul as ◌⊗◌, mul-one}

  infixl 70 ◌⊗◌
  pub mix-cong : (l : ℕ) (u v : ℕ → K) (a : K) → ((i : ℕ) → i < l → u i ≡ v i) → mix F l u a ≡ mix F l v a
  mix-cong l u v a h = sum_to-cong R l (λ i. L F l i a ⊗ u i) (λ i. L F l i a ⊗ v i) (λ i p. ap (λ (y : K). L F l i a ⊗ y) (h i p))

  pub length-mix_lists : (size l : ℕ) (lists : ℕ → List K) (a : K) → length (mix_lists F size l lists a) ≡ size
  length-mix_lists size l lists a = length-build size (λ b. mix F l (λ i. get_or (lists i) b 𝟘) a)

  pub get_or-mix_lists : (size l : ℕ) (lists : ℕ → List K) (a : K) (b : ℕ) → b < size
      → get_or (mix_lists F size l lists a) b 𝟘 ≡ mix F l (λ i. get_or (lists i) b 𝟘) a
  get_or-mix_lists size l lists a b h = get_or-build size (λ b. mix F l (λ i. get_or (lists i) b 𝟘) a) b 𝟘 h

  module _ (size l : ℕ) (lists : ℕ → List K) (sized : (i : ℕ) → i < l → length (lists i) ≡ size) where
    -- The codeword of the combined lists is the combination of their codewords, at each position.
    pub codeword-mix_lists : (a : K) (points : List K) (q : ℕ) → q < length points
        → get_or (codeword R points (mix_lists F size l lists a)) q 𝟘 ≡ mix F l (λ i. get_or (codeword R points (lists i)) q 𝟘) a
    codeword-mix_lists a points q h = codeword-linear R size l (λ i. L F l i a) lists sized points q h

  module _ (l : ℕ) (different : Differ l (node F)) where
    -- The L_i sum to 1, so the combination of ones is 1.
    pub L-sum : 0 < l → (a : K) → sum_to R l (λ i. L F l i a) ≡ 𝟙
    L-sum some a = basis-sum F l (node F) different some a

    pub mix-ones : 0 < l → (v : ℕ → K) → ((i : ℕ) → i < l → v i ≡ 𝟙) → (a : K) → mix F l v a ≡ 𝟙
    mix-ones some v h a =
        sum_to-cong R l (λ i. L F l i a ⊗ v i) (λ i. L F l i a) (λ i p. ap (λ (y : K). L F l i a ⊗ y) (h i p) ∙ mul-one (L F l i a)) ∙ L-sum some a

    -- At node j the combination is value j, or list j.
    pub mix-at : (v : ℕ → K) (j : ℕ) → j < l → mix F l v (node F j) ≡ v j
    mix-at v j h = combine-at F l (node F) different v j h

    pub mix_lists-at : (size : ℕ) (lists : ℕ → List K) (j : ℕ) → j < l → length (lists j) ≡ size → mix_lists F size l lists (node F j) ≡ lists j
    mix_lists-at size lists j h e = build-cong size (λ b. mix F l (λ i. get_or (lists i) b 𝟘) (node F j)) (λ b. get_or (lists j) b 𝟘)
        (λ b p. mix-at (λ i. get_or (lists i) b 𝟘) j h) ∙ build-get_or (lists j) size 𝟘 e

    -- Its degree in the challenge is below l.
    pub PolyFn-mix : (d : ℕ) → l ≤ suc d → (v : ℕ → K) → PolyFn R d (mix F l v)
    PolyFn-mix d enough v = PolyFn-combine F l (node F) different d v enough
