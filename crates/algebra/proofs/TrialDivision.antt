-- A number is a prime if no number up to its square root divides it: trial division, which the checker computes.
use mathlib.Core.Path.{◌≡◌, sym, ◌∙◌, ap, subst}
use mathlib.Core.Bool.{Bool, true, false}
use Prim.Native.Nat.{ℕ, zero, suc, ◌+◌, ◌*◌, ◌/◌, ◌%◌, ◌≤◌, ◌<◌}
use native.Mathlib.Nat.{div-add-mod, mul-mod_left, mul-le-mul, mul-zero, mul-one, add-zero}
use native.Mathlib.Decide.{ℕ_discrete, dec_lt}
use native.Mathlib.Omega.{arith}
use lib.Dec.{T, eqb, eqb_refl}
use Rattle.algebra.specs.Prime.{Prime}

-- None of the numbers from 2 to k + 1 divides p.
abbrev pub clear : ℕ → ℕ → Bool
clear p zero = true
clear p (suc k) = elim (eqb (p % suc (suc k)) 0) [ true ↦ false | false ↦ clear p k ]

clear-sound : (p k : ℕ) → T (clear p k) → (d : ℕ) → 1 < d → d ≤ suc k → 0 < p % d
clear-sound p zero h d a b = absurd (omega arith)
clear-sound p (suc k) h d a b = go (eqb (p % suc (suc k)) 0) (λ e. subst (λ (x : ℕ). T (eqb x 0)) (sym e) (eqb_refl 0)) h (clear-sound p k) (ℕ_discrete d (suc (suc k)))
  where
    go : (t : Bool) → (p % suc (suc k) ≡ 0 → T t) → T (elim t [ true ↦ false | false ↦ clear p k ])
        → (T (clear p k) → (d : ℕ) → 1 < d → d ≤ suc k → 0 < p % d) → Dec (d ≡ suc (suc k)) → 0 < p % d
    go true z g ih e = absurd g
    go false z g ih (yes e) = rw e (pos (p % suc (suc k)) z)
      where
        pos : (x : ℕ) → (x ≡ 0 → ⊥) → 0 < x
        pos x f = omega (arith, f)
    go false z g ih (no e) = ih g d a (omega arith)

-- No divisor up to k + 1, and p below the square of k + 2: then p is a prime, since of two factors one is at most k + 1.
pub prime-by-trial : (p k : ℕ) → 1 < p → T (clear p k) → p < suc (suc k) * suc (suc k) → Prime p
prime-by-trial p k big h sq d a b = go (dec_lt d (suc (suc k))) (ℕ_discrete (p % d) 0)
  where
    other : (e : ℕ) → d * e ≡ p → suc (suc k) ≤ d → ⊥
    other e m l = small (ℕ_discrete e 0) (ℕ_discrete e 1) (dec_lt e (suc (suc k)))
      where
        small : Dec (e ≡ 0) → Dec (e ≡ 1) → Dec (e < suc (suc k)) → ⊥
        small (yes z) o s = let t : p ≡ 0 = sym m ∙ ap (λ (x : ℕ). d * x) z ∙ mul-zero d in omega arith
        small (no z) (yes o) s = let t : p ≡ d = sym m ∙ ap (λ (x : ℕ). d * x) o ∙ mul-one d in omega arith
        small (no z) (no o) (yes s) =
            let c : 0 < p % e = clear-sound p k h e (omega arith) (omega arith) in
            let t : p % e ≡ 0 = ap (λ (x : ℕ). x % e) (sym m) ∙ mul-mod_left d e in
            omega arith
        small (no z) (no o) (no s) =
            let c : suc (suc k) * suc (suc k) ≤ d * e = mul-le-mul l (omega arith) in
            omega arith

    go : Dec (d < suc (suc k)) → Dec (p % d ≡ 0) → 0 < p % d
    go (yes l) z = clear-sound p k h d a (omega arith)
    go (no l) (no z) = omega arith
    go (no l) (yes z) = absurd (other (p / d) (sym (add-zero (d * (p / d))) ∙ ap (λ (x : ℕ). d * (p / d) + x) (sym z) ∙ div-add-mod p d) (omega arith))
