-- Arrays that a loop fills from the front with f 0, f 1, ..
-- Assumes nothing.
use Rattle.std.proofs.Common.{◌≡◌, ℕ, zero, suc, ◌+◌, ◌<◌, List, [], ◌∷◌, ◌++◌, length, get_or, take, set, sym, refl, ap, ◌∙◌, le_of_eq, not-suc-le-zero, add-one, arith, length-append, take_all, take-suc-set}
use native.Mathlib.Decide.{dec_lt}
use lib.ListN.{get_or-append}
use lib.Seq.{get_or_at}
use Rattle.hash.specs.Sha256.{up_to}

-- one more entry
pub fill : (f : ℕ → ℕ) (a : List ℕ) (i v : ℕ) → i < length a → take i a ≡ up_to i f → v ≡ f i
    → take (i + 1) (set a i v) ≡ up_to (i + 1) f
unfolding up_to
fill f a i v h e p = rw (add-one i, take-suc-set a i v h, e, p) refl

-- the loop has passed every entry
pub filled : (f : ℕ → ℕ) (a : List ℕ) (i n : ℕ) → i ≡ n → length a ≡ n → take i a ≡ up_to i f → a ≡ up_to n f
filled f a i n e l p = sym (take_all n a (le_of_eq l)) ∙ ap (λ (k : ℕ). take k a) (sym e) ∙ p ∙ ap (λ (k : ℕ). up_to k f) e

pub length-up_to : (n : ℕ) (f : ℕ → ℕ) → length (up_to n f) ≡ n
unfolding up_to
length-up_to zero f = refl
length-up_to (suc n) f = let e = length-up_to n f in length-append (up_to n f) (f n ∷ []) ∙ omega arith

pub up_to-ext : (n : ℕ) (f g : ℕ → ℕ) → ((i : ℕ) → i < n → f i ≡ g i) → up_to n f ≡ up_to n g
unfolding up_to
up_to-ext zero f g h = refl
up_to-ext (suc n) f g h = λ j. up_to-ext n f g (λ i k. h i (omega arith)) j ++ (h n (omega arith) j ∷ [])

pub get_or-up_to : (n : ℕ) (f : ℕ → ℕ) (i : ℕ) → i < n → get_or (up_to n f) i 0 ≡ f i
unfolding up_to
get_or-up_to zero f i h = absurd (not-suc-le-zero h)
get_or-up_to (suc n) f i h = go (get_or-up_to n f i) (dec_lt i n)
  where
    go : (i < n → get_or (up_to n f) i 0 ≡ f i) → Dec (i < n) → get_or (up_to n f ++ (f n ∷ [])) i 0 ≡ f i
    go ih (yes k) = get_or-append (up_to n f) (f n ∷ []) 0 i (rw (length-up_to n f) k) ∙ ih k
    go ih (no k) =
        let e : n ≡ i = omega arith in
        get_or_at (up_to n f) (f n) [] 0 i (length-up_to n f ∙ e) ∙ ap f e
