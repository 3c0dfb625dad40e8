-- Lists whose numbers are pairwise different: the test `all_different` and what it says of them.
use mathlib.Core.Path.{◌≡◌, refl, sym, ap, ◌∙◌}
use mathlib.Core.Logic.{◌≢◌}
use mathlib.Core.Bool.{Bool, true, false, not, ◌||◌, false≢true}
use mathlib.Core.List.{List, [], ◌∷◌}
use Prim.Native.Nat.{ℕ, suc, ◌+◌, ◌≤◌, ◌<◌}
use native.Mathlib.Numerals.{add-one}
use borrow.Author.Tests.{eqb-true, eq-eqb, not-true}
use lib.Dec.{eqb}
use lib.ListN.{length, get_or, drop, drop_of_length-le}
use lib.Seq.{drop-cons}
use Rattle.algebra.specs.Lists.{All, Distinct}
use Rattle.numbers.specs.Equality.{among}
use Rattle.numbers.specs.Numbers.{all_different}
use Rattle.numbers.proofs.Tests.{and_left, and_right}

eqb_same : (n : ℕ) → eqb n n ≡ true
eqb_same n = eq-eqb n n refl

or_assoc : (a b c : Bool) → ((a || b) || c) ≡ (a || (b || c))
or_assoc true b c = refl
or_assoc false b c = refl

or-none : (a : Bool) → (a || false) ≡ a
or-none true = refl
or-none false = refl

-- By a test of equality, what is not in a list differs from all its members.
module _ {A : Type 0} (same : A → A → Bool) (reflects : (a : A) → same a a ≡ true) where
  pub absent : (a : A) (l : List A) → among same a l ≡ false → All (λ b. b ≢ a) l
  absent a [] h = tt
  absent a (b ∷ l) h = go (same a b) refl (absent a l) h
    where
      go : (t : Bool) → same a b ≡ t → (among same a l ≡ false → All (λ b. b ≢ a) l) → t || among same a l ≡ false → (b ≢ a) × All (λ b. b ≢ a) l
      go true e ih s = absurd (false≢true (sym s))
      go false e ih s = ((λ q. false≢true (sym e ∙ ap (same a) q ∙ reflects a)), ih s)

-- A list that passes the test has pairwise different numbers.
pub different : (xs : List ℕ) → all_different xs ≡ true → Distinct xs
unfolding all_different
different [] e = tt
different (x ∷ xs) e =
    (absent eqb eqb_same x xs (not-true (among eqb x xs) (and_left (not (among eqb x xs)) (all_different xs) e)), different xs (and_right (not (among eqb x xs)) (all_different xs) e))

-- and passes it only then
not-among : (x : ℕ) (xs : List ℕ) → All (λ b. b ≢ x) xs → among eqb x xs ≡ false
not-among x [] h = refl
not-among x (b ∷ xs) h = go (eqb x b) refl (not-among x xs h.1)
  where
    go : (t : Bool) → eqb x b ≡ t → among eqb x xs ≡ false → (t || among eqb x xs) ≡ false
    go true e ih = absurd (h.0 (sym (eqb-true x b e)))
    go false e ih = ih

pub different-passes : (xs : List ℕ) → Distinct xs → all_different xs ≡ true
unfolding all_different
different-passes [] d = refl
different-passes (x ∷ xs) d = rw (not-among x xs d.0) (different-passes xs d.1)

-- The search for x in a list, after its first i numbers were looked at: x was found, or is among the rest.
module _ (x : ℕ) (xs : List ℕ) where
  abbrev pub Searched : Bool → ℕ → Type 0
  Searched found i = (found || among eqb x (drop i xs)) ≡ among eqb x xs

  pub searched-more : (found : Bool) (i : ℕ) → i < length xs → Searched found i → Searched (found || eqb x (get_or xs i 0)) (i + 1)
  searched-more found i l s = rw (add-one i) (or_assoc found (eqb x (get_or xs i 0)) _ ∙ ap (λ (t : List ℕ). found || among eqb x t) (sym (drop-cons xs i 0 l)) ∙ s)

  pub searched-all : (found : Bool) (i : ℕ) → length xs ≤ i → Searched found i → found ≡ among eqb x xs
  searched-all found i l s = sym (or-none found) ∙ ap (λ (t : List ℕ). found || among eqb x t) (sym (drop_of_length-le xs {i = i} l)) ∙ s

-- The test of a list after its first i numbers were found to repeat no later one: it is the test of the rest.
module _ (xs : List ℕ) where
  abbrev pub RestDiffers : ℕ → Type 0
  RestDiffers i = all_different xs ≡ all_different (drop i xs)

  later : {t : Bool} (i : ℕ) → among eqb (get_or xs i 0) (drop (i + 1) xs) ≡ t → among eqb (get_or xs i 0) (drop (suc i) xs) ≡ t
  later i h = ap (λ (n : ℕ). among eqb (get_or xs i 0) (drop n xs)) (sym (add-one i)) ∙ h

  pub repeat-found : (i : ℕ) → i < length xs → RestDiffers i → among eqb (get_or xs i 0) (drop (i + 1) xs) ≡ true → false ≡ all_different xs
  unfolding all_different
  repeat-found i l r h = rw (r, drop-cons xs i 0 l, later i h)

  pub differs_more : (i : ℕ) → i < length xs → RestDiffers i → among eqb (get_or xs i 0) (drop (i + 1) xs) ≡ false → RestDiffers (i + 1)
  unfolding all_different
  differs_more i l r h = rw (add-one i, r, drop-cons xs i 0 l, later i h)

  pub all-differ : (i : ℕ) → length xs ≤ i → RestDiffers i → true ≡ all_different xs
  unfolding all_different
  all-differ i l r = rw (r, drop_of_length-le xs {i = i} l)
