-- The first answer of a list that is not 0.
use mathlib.Core.Path.{◌≡◌, refl, sym, ap, ap₂, ◌∙◌}
use mathlib.Core.List.{List, [], ◌∷◌, ◌++◌}
use Prim.Native.Nat.{ℕ, zero, suc, ◌+◌}
use native.Mathlib.Numerals.{add-one}
use Rattle.std.specs.Prelude.{Result, Ok, Err}
use Rattle.std.specs.Result.{result_and}
use Rattle.algebra.specs.Lists.{All, build}
use Rattle.checks.specs.declared.refusal.Refusal.{Refusal}
use Rattle.checks.specs.declared.refusal.Refusal.TheVariants.{Lines, Sizes, Numbers, Entries, Challenge, Positions, NewItem, Openings, Values, Roots, Claims, Points, LeadingOne}
use Rattle.checks.specs.Refusals.{number_of, answer_of}
use Rattle.checks.proofs.Calls.{some-number}
use Rattle.chain.specs.Answers.{first_of, first_refusal}

first_of-assoc : (a b c : ℕ) → first_of a (first_of b c) ≡ first_of (first_of a b) c
first_of-assoc zero b c = refl
first_of-assoc (suc a) b c = refl

pub first_of-zero : (a : ℕ) → first_of a 0 ≡ a
first_of-zero zero = refl
first_of-zero (suc a) = refl

pub refusal-append : (xs ys : List ℕ) → first_refusal (xs ++ ys) ≡ first_of (first_refusal xs) (first_refusal ys)
refusal-append [] ys = refl
refusal-append (x ∷ xs) ys = ap (first_of x) (refusal-append xs ys) ∙ first_of-assoc x (first_refusal xs) (first_refusal ys)

build-snoc : {A : Type 0} (n : ℕ) (f : ℕ → A) → build (suc n) f ≡ build n f ++ (f n ∷ [])
build-snoc zero f = refl
build-snoc (suc n) f = ap (λ (l : List _). f 0 ∷ l) (build-snoc n (λ i. f (suc i)))

pub refusal-more : (n : ℕ) (f : ℕ → ℕ) → first_refusal (build (suc n) f) ≡ first_of (first_refusal (build n f)) (f n)
refusal-more n f =
    ap first_refusal (build-snoc n f)
    ∙ refusal-append (build n f) (f n ∷ [])
    ∙ ap (first_of (first_refusal (build n f))) (first_of-zero (f n))

-- Where every answer is 0, so is the first refusal.
pub refusal-none : (xs : List ℕ) → All (λ r. r ≡ 0) xs → first_refusal xs ≡ 0
refusal-none [] h = refl
refusal-none (x ∷ xs) h = ap₂ first_of h.0 (refusal-none xs h.1)

-- The first of two answers is not 0, or it is.
pub first-refuses : (a b : ℕ) {x : ℕ} → a ≡ x → (a ≡ 0 → ⊥) → a ≡ first_of x b
first-refuses a b e h = given a h ∙ ap (λ (y : ℕ). first_of y b) e
  where
    given : (a : ℕ) → (a ≡ 0 → ⊥) → a ≡ first_of a b
    given zero h = absurd (h refl)
    given (suc a) h = refl

pub first_passes : {a b x y : ℕ} → a ≡ x → a ≡ 0 → b ≡ y → b ≡ first_of x y
first_passes {y = y} e z h = h ∙ ap (λ (v : ℕ). first_of v y) (sym z ∙ e)

-- One answer more, a after the answers so far and b of the next call.
pub refusal-next : (n : ℕ) (f : ℕ → ℕ) (a b r : ℕ) → a ≡ first_refusal (build n f) → b ≡ f n → r ≡ first_of a b → r ≡ first_refusal (build (n + 1) f)
refusal-next n f a b r e h g = g ∙ ap₂ first_of e h ∙ sym (refusal-more n f) ∙ ap (λ (j : ℕ). first_refusal (build j f)) (sym (add-one n))

-- ---- verdicts

first-number : (e : Refusal) (b : ℕ) → number_of e ≡ first_of (number_of e) b
first-number e b = elim e as (λ r. number_of r ≡ first_of (number_of r) b) [
  | Lines ↦ refl
  | Sizes ↦ refl
  | Numbers ↦ refl
  | Entries ↦ refl
  | Challenge ↦ refl
  | Positions ↦ refl
  | NewItem ↦ refl
  | Openings ↦ refl
  | Values ↦ refl
  | Roots ↦ refl
  | Claims ↦ refl
  | Points ↦ refl
  | LeadingOne ↦ refl
]

-- The first of two verdicts that refuses.
pub and-first : (a b : Result (Unit {0}) Refusal) → answer_of (result_and a b) ≡ first_of (answer_of a) (answer_of b)
and-first (Ok u) b = refl
and-first (Err e) b = first-number e (answer_of b)

-- The answer 0 is an acceptance.
pub accepted-is : (r : Result (Unit {0}) Refusal) → answer_of r ≡ 0 → r ≡ Ok tt
accepted-is (Ok u) h = refl
accepted-is (Err e) h = absurd (some-number e h)
