-- The laws of tests: tests that are joined, decisions, equality of byte strings.
-- (Tests of numbers: eqb-true, eq-eqb, leb-true, le-leb, ltb-true and lt-ltb of borrow.Author.Tests.)
use mathlib.Core.Path.{◌≡◌, refl, sym, ap₂}
use mathlib.Core.Bool.{Bool, true, false, ◌&&◌, false≢true}
use mathlib.Core.List.{List, [], ◌∷◌, List-discrete}
use Prim.Native.Nat.{ℕ}
use native.Mathlib.Decide.{ℕ_discrete}
use Rattle.algebra.specs.Lists.{All}
use Rattle.numbers.specs.Equality.{decided, same_bytes}

-- ---- two tests
pub and_left : (a b : Bool) → (a && b) ≡ true → a ≡ true
and_left true b e = refl
and_left false b e = e

pub and_right : (a b : Bool) → (a && b) ≡ true → b ≡ true
and_right true b e = e
and_right false b e = absurd (false≢true e)

infixl 40 ◌&◌
pub ◌&◌ : {a b : Bool} → a ≡ true → b ≡ true → (a && b) ≡ true
e & h = ap₂ ◌&&◌ e h

-- Two tests that pass together are the same.
pub same_test : (a b : Bool) → (a ≡ true → b ≡ true) → (b ≡ true → a ≡ true) → a ≡ b
same_test true b f g = sym (f refl)
same_test false true f g = absurd (false≢true (g refl))
same_test false false f g = refl

-- ---- tests that are joined by &&: each passes
abbrev pub joined : Bool → List Bool → Bool
joined a [] = a
joined a (b ∷ bs) = joined (a && b) bs

pub each-true : (a : Bool) (bs : List Bool) → joined a bs ≡ true → All (λ b. b ≡ true) (a ∷ bs)
each-true a [] h = (h, tt)
each-true a (b ∷ bs) h = let t = each-true (a && b) bs h in (and_left a b t.0, (and_right a b t.0, t.1))

-- ---- decisions
pub decided-true : {P : Type 0} (d : Dec P) → decided d ≡ true → P
decided-true (yes p) e = p
decided-true (no h) e = absurd (false≢true e)

pub true-decided : {P : Type 0} (d : Dec P) → P → decided d ≡ true
true-decided (yes p) q = refl
true-decided (no h) q = absurd (h q)

-- ---- byte strings
pub same_bytes_lem : {a b : List ℕ} → a ≡ b → same_bytes a b ≡ true
same_bytes_lem {a} {b} e = true-decided (List-discrete ℕ_discrete a b) e

pub equal-bytes : (a b : List ℕ) → same_bytes a b ≡ true → a ≡ b
equal-bytes a b = decided-true (List-discrete ℕ_discrete a b)

-- A test that passes exactly for equal byte strings.
pub bytes-test : (r : Bool) (a b : List ℕ) → (r ≡ true → a ≡ b) × (a ≡ b → r ≡ true) → r ≡ same_bytes a b
bytes-test r a b h = same_test r (same_bytes a b) (λ e. same_bytes_lem (h.0 e)) (λ e. h.1 (equal-bytes a b e))
