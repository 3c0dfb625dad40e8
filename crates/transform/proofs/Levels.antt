-- The levels of the transform: the codeword of one number, and the codeword of the whole from those of the even and the odd part.
-- Assumes nothing.
use mathlib.Core.Path.{◌≡◌, refl, sym, ◌∙◌, ap, ap₂}
use mathlib.Core.List.{List, [], ◌∷◌, ◌++◌, map}
use Prim.Native.Nat.{ℕ, suc, ◌+◌, ◌*◌, ◌<◌}
use native.Mathlib.Nat.{zero-mul, suc-mul, add-mul, mul_assoc, mul_left_comm, two-mul}
use native.Mathlib.Omega.{arith}
use lib.ListN.{length, get_or, drop, replicate, get_or-append}
use lib.Seq.{get_or-drop, get_or-append-add}
use Rattle.algebra.specs.Lists.{build}
use Rattle.algebra.specs.Polynomial.{eval_poly, pow}
use Rattle.algebra.specs.Halving.{even_part, odd_part, joined}
use Rattle.algebra.proofs.ListLaws.{length-build, get_or-build, build-cong, map-build}
use Rattle.algebra.proofs.Solver.{x₀, x₁, num, ◌:+◌, ◌:*◌, ring-eq}
use Rattle.algebra.proofs.HalvingLaws.{even_part-build, odd_part-build, joined-cong, halving}
use Rattle.field.specs.BabyBear.{R, F, val, ofℕ, ◌⊗◌}
use Rattle.field.specs.Numbers.{Below}
use Rattle.field.proofs.Laws.{val-small, ofℕ-of}
use Rattle.code.specs.Codeword.{value_at, codeword}
use Rattle.code.specs.Points.{points}
use Rattle.code.proofs.Evaluation.{value_at-eval_poly}
use Rattle.code.proofs.Loops.{codeword-build}
use Rattle.code.proofs.Taken.{taken}
use Rattle.transform.proofs.Roots.{root, root-square, root-turn, power_at}

-- ---- one number

value-one : (c x : F) → value_at R (c ∷ []) x ≡ c
value-one c x = value_at-eval_poly R (c ∷ []) x ∙ ring-eq R (c ∷ x ∷ []) (x₀ :+ x₁ :* num 0) x₀ tt

codeword-one : (points : List F) (c : F) → map val (codeword R points (c ∷ [])) ≡ replicate (length points) (val c)
unfolding codeword
codeword-one [] c = refl
codeword-one (x ∷ points) c = ap₂ {C = List ℕ} ◌∷◌ (ap val (value-one c x)) (codeword-one points c)

pub first-number : (w table : List ℕ) (step skip : ℕ) → 0 < length w → Below w → replicate 4 (get_or w 0 0) ≡ map val (codeword R (taken table skip 4) (taken w step 1))
first-number w table step skip h below = sym (codeword-one (taken table skip 4) (ofℕ (get_or w (0 * step) 0))
    ∙ ap (replicate 4) (ap (λ (i : ℕ). val (ofℕ (get_or w i 0))) (zero-mul step) ∙ val-small (below 0 h)))

-- ---- the parts of every step-th number

module _ (w : List ℕ) (step n : ℕ) where
  twice : (i : ℕ) → (i + i) * step ≡ i * (2 * step)
  twice i = add-mul i i step ∙ sym (mul_left_comm i 2 step ∙ two-mul (i * step))

  taken-even : even_part (taken w step (n + n)) ≡ taken w (2 * step) n
  taken-even = even_part-build n (λ i. ofℕ (get_or w (i * step) 0))
      ∙ build-cong n (λ i. ofℕ (get_or w ((i + i) * step) 0)) (λ i. ofℕ (get_or w (i * (2 * step)) 0)) (λ i h. ap (λ (j : ℕ). ofℕ (get_or w j 0)) (twice i))

  taken-odd : odd_part (taken w step (n + n)) ≡ taken (drop step w) (2 * step) n
  taken-odd = odd_part-build n (λ i. ofℕ (get_or w (i * step) 0))
      ∙ build-cong n (λ i. ofℕ (get_or w (suc (i + i) * step) 0)) (λ i. ofℕ (get_or (drop step w) (i * (2 * step)) 0))
      (λ i h. ap ofℕ (ap (λ (j : ℕ). get_or w j 0) (omega (arith, suc-mul (i + i) step, twice i)) ∙ sym (get_or-drop step w (i * (2 * step)) 0)))

-- ---- one level

module _ (table w : List ℕ) (step skip count : ℕ) (whole : table ≡ map val (points 64)) (steps : count * skip ≡ 32) where
  abbrev half : ℕ
  half = 4 * count

  whole-size : (half + half) * skip ≡ 256
  whole-size = omega (arith, steps, add-mul half half skip, mul_assoc 4 count skip)

  half-size : half * (2 * skip) ≡ 256
  half-size = omega (arith, steps, mul_assoc 4 count (2 * skip), mul_left_comm count 2 skip)

  -- The codeword of a part.
  abbrev part : List F → List ℕ
  part v = map val (codeword R (taken table (2 * skip) half) v)

  part_length : (v : List F) → length (part v) ≡ half
  part_length v = ap length (sym (codeword-build half (λ i. ofℕ (get_or table (i * (2 * skip)) 0)) v)) ∙ length-build half (λ i. val (value_at R v (ofℕ (get_or table (i * (2 * skip)) 0))))

  part_at : (v : List F) (i : ℕ) → i < half → get_or (part v) i 0 ≡ val (eval_poly R v (pow R (root skip ⊗ root skip) i))
  part_at v i h = ap (λ (l : List ℕ). get_or l i 0) (sym (codeword-build half (λ i. ofℕ (get_or table (i * (2 * skip)) 0)) v))
      ∙ get_or-build half (λ i. val (value_at R v (ofℕ (get_or table (i * (2 * skip)) 0)))) i 0 h
      ∙ ap val (value_at-eval_poly R v (ofℕ (get_or table (i * (2 * skip)) 0)) ∙ ap (eval_poly R v) (power_at table whole (2 * skip) half half-size i h ∙ ap (λ (g : F). pow R g i) (root-square skip)))

  abbrev even : List F
  even = taken w (2 * step) count

  abbrev odd : List F
  odd = taken (drop step w) (2 * step) count

  -- The values of the whole at the powers of the root.
  values-joined : joined R half (pow R (root skip)) (λ i. eval_poly R even (pow R (root skip ⊗ root skip) i)) (λ i. eval_poly R odd (pow R (root skip ⊗ root skip) i))
      ≡ build (half + half) (λ i. eval_poly R (taken w step (count + count)) (pow R (root skip) i))
  values-joined = ap₂ (λ (e o : List F). joined R half (pow R (root skip)) (λ i. eval_poly R e (pow R (root skip ⊗ root skip) i)) (λ i. eval_poly R o (pow R (root skip ⊗ root skip) i)))
      (sym (taken-even w step count)) (sym (taken-odd w step count))
      ∙ sym (halving R (root skip) half (root-turn skip half (omega (arith, steps, mul_assoc 4 count skip))) (taken w step (count + count)))

  pub level-joined : map val (joined R half (λ i. ofℕ (get_or table (i * skip) 0)) (λ i. ofℕ (get_or (part even ++ part odd) i 0)) (λ i. ofℕ (get_or (part even ++ part odd) (half + i) 0)))
      ≡ map val (codeword R (taken table skip (half + half)) (taken w step (count + count)))
  level-joined = ap (map val) (joined-cong R half {y = pow R (root skip)} at_x at-even at-odd ∙ values-joined)
      ∙ map-build val (half + half) (λ i. eval_poly R (taken w step (count + count)) (pow R (root skip) i))
      ∙ build-cong (half + half) (λ i. val (eval_poly R (taken w step (count + count)) (pow R (root skip) i))) (λ i. val (value_at R (taken w step (count + count)) (ofℕ (get_or table (i * skip) 0))))
      (λ i h. ap val (ap (eval_poly R (taken w step (count + count))) (sym (power_at table whole skip (half + half) whole-size i h)) ∙ sym (value_at-eval_poly R (taken w step (count + count)) (ofℕ (get_or table (i * skip) 0)))))
      ∙ codeword-build (half + half) (λ i. ofℕ (get_or table (i * skip) 0)) (taken w step (count + count))
    where
      at_x : (i : ℕ) → i < half → ofℕ (get_or table (i * skip) 0) ≡ pow R (root skip) i
      at_x i h = power_at table whole skip (half + half) whole-size i (omega arith)

      at-even : (i : ℕ) → i < half → ofℕ (get_or (part even ++ part odd) i 0) ≡ eval_poly R even (pow R (root skip ⊗ root skip) i)
      at-even i h = ofℕ-of (eval_poly R even (pow R (root skip ⊗ root skip) i))
          (get_or-append (part even) (part odd) 0 i (omega (arith, part_length even)) ∙ part_at even i h)

      at-odd : (i : ℕ) → i < half → ofℕ (get_or (part even ++ part odd) (half + i) 0) ≡ eval_poly R odd (pow R (root skip ⊗ root skip) i)
      at-odd i h = ofℕ-of (eval_poly R odd (pow R (root skip ⊗ root skip) i))
          (ap (λ (n : ℕ). get_or (part even ++ part odd) (n + i) 0) (sym (part_length even)) ∙ get_or-append-add (part even) (part odd) i 0 ∙ part_at odd i h)
