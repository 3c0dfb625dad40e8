-- Lists: a property of every member, members that are pairwise different, and lists that are made from a function of the index.
-- Assumes nothing.
use Rattle.std.specs.Prelude.{◌≢◌, List, [], ◌∷◌, ◌++◌, ℕ, zero, suc, ◌<◌}

-- Every member of the list has the property.
abbrev pub All : {A : Type 0} → (A → Type 0) → List A → Type 0
All P [] = Unit {0}
All P (a ∷ l) = P a × All P l

-- The members are pairwise different.
abbrev pub Distinct : {A : Type 0} → List A → Type 0
Distinct [] = Unit {0}
Distinct (a ∷ l) = All (λ b. b ≢ a) l × Distinct l

-- The values f 0 to f (n - 1) are pairwise different.
abbrev pub Differ : {A : Type 0} → ℕ → (ℕ → A) → Type 0
Differ n f = (i j : ℕ) → i < j → j < n → f i ≢ f j

-- The list of f 0 to f (n - 1).
abbrev pub build : {A : Type 0} → ℕ → (ℕ → A) → List A
build zero f = []
build (suc n) f = f 0 ∷ build n (λ i. f (suc i))

-- The lists f 0 to f (n - 1), one after the other.
abbrev pub concat_to : {A : Type 0} → ℕ → (ℕ → List A) → List A
concat_to zero f = []
concat_to (suc n) f = f 0 ++ concat_to n (λ i. f (suc i))
