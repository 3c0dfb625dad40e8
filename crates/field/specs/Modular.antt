-- The ring of the numbers below n, and the field of the numbers below a prime.
-- A ring and a field are records that hold their laws, so the laws' proofs stand here with the definitions.
-- Assumes nothing.
use Rattle.std.specs.Prelude.{◌≡◌, ◌≢◌, [], ◌∷◌, ℕ, zero, suc, ◌+◌, ◌*◌, ◌-◌, ◌/◌, ◌%◌, ◌≤◌, ◌<◌}
use Rattle.std.proofs.Math.Path.{refl, fst_path}
use Rattle.std.proofs.Common.{sym, ◌∙◌, ap, mod-lt, mod-eq_of_lt, add_assoc, add_comm, add-zero, mul_assoc, mul_comm, mul-one, mul-add, add-mul, add-sub_of_le, le_of_lt, arith}
use mathlib.Core.HLevel.{Σ_prop_path, Σ_set, Σ_prop_discrete, prop→set}
use Rattle.std.proofs.Math.Nat.{ℕ_set, mod-add-mod, add-mod-mod, mul-add-mod_self_left, div-add-mod, mod_self, zero-mod}
use Rattle.std.proofs.Math.Bridge.{le_prop}
use Rattle.std.proofs.Math.Decide.{ℕ_discrete}
use Rattle.algebra.specs.Ring.{CommRing, Field}
use Rattle.algebra.specs.Prime.{Prime}
use Rattle.algebra.proofs.Solver.{x₀, x₁, x₂, x₃, ◌:+◌, ◌:*◌, ◌:-◌, :-◌, num, ring-eq, ring-from}

pub mod-mul-mod : (a b m : ℕ) → (a % m * b) % m ≡ (a * b) % m
mod-mul-mod a b m = sym (mul-add-mod_self_left m (a / m * b) (a % m * b))
    ∙ ap (λ (x : ℕ). x % m) (ap (λ (x : ℕ). x + a % m * b) (sym (mul_assoc m (a / m) b)) ∙ sym (add-mul (m * (a / m)) (a % m) b) ∙ ap (λ (x : ℕ). x * b) (div-add-mod a m))

pub mul-mod-mod : (a b m : ℕ) → (a * (b % m)) % m ≡ (a * b) % m
mul-mod-mod a b m = ap (λ (x : ℕ). x % m) (mul_comm a (b % m)) ∙ mod-mul-mod b a m ∙ ap (λ (x : ℕ). x % m) (mul_comm b a)

module _ (n : ℕ) (big : 1 < n) where
  -- A number below n, with the proof that it is.
  abbrev pub Residue : Type 0
  Residue = (x : ℕ) × (x < n)

  -- The remainder of a number.
  abbrev pub residue : ℕ → Residue
  residue x = (x % n, mod-lt x (below big))
    where
      below : {n : ℕ} → 1 < n → 0 < n
      below h = omega arith

  pub residue-eq : {u v : Residue} → u.0 ≡ v.0 → u ≡ v
  residue-eq e = Σ_prop_path (λ x. le_prop) e

  -- Sums, products and opposites modulo n.
  abbrev pub modular : CommRing
  modular = record {
    carrier = Residue;
    is_set = Σ_set ℕ_set (λ x. prop→set le_prop);
    zero = residue 0;
    one = residue 1;
    add = λ u v. residue (u.0 + v.0);
    mul = λ u v. residue (u.0 * v.0);
    neg = λ u. residue (n - u.0);
    add_assoc = λ u v w. residue-eq (mod-add-mod (u.0 + v.0) n w.0 ∙ ap (λ (x : ℕ). x % n) (add_assoc u.0 v.0 w.0) ∙ sym (add-mod-mod u.0 (v.0 + w.0) n));
    add_comm = λ u v. residue-eq (ap (λ (x : ℕ). x % n) (add_comm u.0 v.0));
    add-zero = λ u. residue-eq (add-mod-mod u.0 0 n ∙ ap (λ (x : ℕ). x % n) (add-zero u.0) ∙ mod-eq_of_lt u.1);
    add-neg = λ u. residue-eq (add-mod-mod u.0 (n - u.0) n ∙ ap (λ (x : ℕ). x % n) (add-sub_of_le (le_of_lt u.1)) ∙ mod_self n ∙ sym (zero-mod n));
    mul_assoc = λ u v w. residue-eq (mod-mul-mod (u.0 * v.0) w.0 n ∙ ap (λ (x : ℕ). x % n) (mul_assoc u.0 v.0 w.0) ∙ sym (mul-mod-mod u.0 (v.0 * w.0) n));
    mul_comm = λ u v. residue-eq (ap (λ (x : ℕ). x % n) (mul_comm u.0 v.0));
    mul-one = λ u. residue-eq (mul-mod-mod u.0 1 n ∙ ap (λ (x : ℕ). x % n) (mul-one u.0) ∙ mod-eq_of_lt u.1);
    mul-add = λ u v w. residue-eq (mul-mod-mod u.0 (v.0 + w.0) n ∙ ap (λ (x : ℕ). x % n) (mul-add u.0 v.0 w.0) ∙ sym (mod-add-mod (u.0 * v.0) n (u.0 * w.0 % n) ∙ add-mod-mod (u.0 * v.0) (u.0 * w.0) n));
  }

  -- The remainder respects sums and products.
  pub residue-add : (a b : ℕ) → residue (a + b) ≡ modular.add (residue a) (residue b)
  residue-add a b = residue-eq (sym (mod-add-mod a n (b % n) ∙ add-mod-mod a b n))

  pub residue-mul : (a b : ℕ) → residue (a * b) ≡ modular.mul (residue a) (residue b)
  residue-mul a b = residue-eq (sym (mod-mul-mod a (b % n) n ∙ mul-mod-mod a b n))

  pub residue-self : (u : Residue) → residue u.0 ≡ u
  residue-self u = residue-eq (mod-eq_of_lt u.1)

module _ (p : ℕ) (big : 1 < p) (prime : Prime p) where
  open modular p big use {carrier as K, zero as 𝟘, one as 𝟙, add as ◌⊕◌, mul as ◌⊗◌, neg as ⊝◌}

  infixl 60 ◌⊕◌
  infixl 70 ◌⊗◌
  infixl 80 ⊝◌
  abbrev cl : ℕ → K
  cl = residue p big

  -- p = a (p / a) + p % a, and p is 0.
  euclid-step : (a : ℕ) → cl a ⊗ cl (p / a) ⊕ cl (p % a) ≡ 𝟘
  euclid-step a = ap (λ (x : K). x ⊕ cl (p % a)) (sym (residue-mul p big a (p / a))) ∙ sym (residue-add p big (a * (p / a)) (p % a))
      ∙ ap cl (div-add-mod p a) ∙ residue-eq p big (mod_self p ∙ sym (zero-mod p))

  -- Each number from 1 to k below p has an inverse: that of p % a, times the opposite of p / a.
  inverse : (k a : ℕ) → 0 < a → a ≤ k → a < p → (x : K) × (cl a ⊗ x ≡ 𝟙)
  inverse zero a h hk hp = absurd (omega arith)
  inverse (suc k) a h hk hp = go (ℕ_discrete a 1) (inverse k (p % a))
    where
      go : Dec (a ≡ 1) → (0 < p % a → p % a ≤ k → p % a < p → (x : K) × (cl (p % a) ⊗ x ≡ 𝟙)) → (x : K) × (cl a ⊗ x ≡ 𝟙)
      go (yes e) ih = (𝟙, ap (λ (b : ℕ). cl b ⊗ 𝟙) e ∙ ring-eq (modular p big) [] (num 1 :* num 1) (num 1) tt)
      go (no e) ih =
          let r : p % a < a = mod-lt p h in
          let w : (x : K) × (cl (p % a) ⊗ x ≡ 𝟙) = ih (prime a (omega arith) hp) (omega arith) (omega arith) in (
            ⊝ (cl (p / a)) ⊗ w.0,
            ring-from (modular p big) (cl a ∷ cl (p / a) ∷ cl (p % a) ∷ w.0 ∷ []) (x₀ :* ((:- x₁) :* x₃)) (num 1)
                ((:- x₃, x₀ :* x₁ :+ x₂, num 0) ∷ (num 1, x₂ :* x₃, num 1) ∷ []) (euclid-step a, (w.1, tt)) tt,
          )

  -- The inverse of u, which is 0 for 0.
  with_inverse : (u : K) → Dec (u.0 ≡ 0) → (x : K) × (u ≢ 𝟘 → u ⊗ x ≡ 𝟙)
  with_inverse u (yes e) = (𝟘, λ h. absurd (h (residue-eq p big (e ∙ sym (zero-mod p)))))
  with_inverse u (no e) =
      let w : (x : K) × (cl u.0 ⊗ x ≡ 𝟙) = inverse u.0 u.0 (omega arith) (omega arith) u.1 in
      (w.0, λ h. ap (λ (v : K). v ⊗ w.0) (sym (residue-self p big u)) ∙ w.1)

  pub inv_residue : K → K
  inv_residue u = (with_inverse u (ℕ_discrete u.0 0)).0

  pub inv_residue-zero : inv_residue 𝟘 ≡ 𝟘
  unfolding inv_residue with_inverse
  inv_residue-zero = go (ℕ_discrete 𝟘.0 0)
    where
      go : (d : Dec (𝟘.0 ≡ 0)) → (with_inverse 𝟘 d).0 ≡ 𝟘
      go (yes e) = refl
      go (no e) = absurd (e (zero-mod p))

  pub mul-inv_residue : (u : K) → u ≢ 𝟘 → u ⊗ inv_residue u ≡ 𝟙
  unfolding inv_residue
  mul-inv_residue u = (with_inverse u (ℕ_discrete u.0 0)).1

  pub residue-discrete : Discrete K
  residue-discrete = Σ_prop_discrete (λ x. le_prop) ℕ_discrete

  pub one≢zero : 𝟙 ≢ 𝟘
  one≢zero e = zero_one (sym (mod-eq_of_lt big) ∙ fst_path e ∙ zero-mod p)
    where
      zero_one : ◌≡◌ {A = ℕ} 1 0 → ⊥
      zero_one z = omega arith

  -- The field of the numbers below p.
  abbrev pub prime_field : Field
  prime_field = record { ring = modular p big; eq? = residue-discrete; one≢zero = one≢zero; inv = inv_residue; mul-inv = mul-inv_residue }
