-- A list of strings has a collision, or it has none: by a search over all pairs.
use mathlib.Core.Path.{◌≡◌, refl, sym, subst}
use mathlib.Core.Logic.{◌≢◌, ◌⊎◌, inl, inr, ⊎_elim}
use mathlib.Core.List.Memᴰ
use mathlib.Core.List.{List, [], ◌∷◌, List-discrete, Memᴰ}
use Prim.Native.Nat.{ℕ}
use native.Mathlib.Decide.{ℕ_discrete}
use Rattle.tree.specs.Collision.{Collision, NoCollision}

-- Where each element has one of two properties: some member of the list has the one, or every member has the other.
some-or-every : {A : Type 0} {P Q : A → Type 0} → ((a : A) → P a ⊎ Q a) → (l : List A)
    → ((a : A) × Memᴰ a l × P a) ⊎ ((a : A) → Memᴰ a l → Q a)
some-or-every d [] = inr (λ a m. absurd (Memᴰ.not-nil m))
some-or-every {A} {P} {Q} d (b ∷ l) = go (d b) (some-or-every d l)
  where
    go : P b ⊎ Q b → ((a : A) × Memᴰ a l × P a) ⊎ ((a : A) → Memᴰ a l → Q a)
        → ((a : A) × Memᴰ a (b ∷ l) × P a) ⊎ ((a : A) → Memᴰ a (b ∷ l) → Q a)
    go (inl p) r = inl (b, Memᴰ.head refl, p)
    go (inr q) (inl t) = inl (t.0, Memᴰ.tail t.1, t.2)
    go (inr q) (inr every) = inr (λ a m. ⊎_elim (λ (e : a ≡ b). subst Q (sym e) q) (every a) (Memᴰ.cases_cons m))

-- The strings of a list have a collision or have none: by a search over all pairs.
pub collision-or-none : (digest : List ℕ → List ℕ) (strings : List (List ℕ)) → Collision digest strings strings ⊎ NoCollision digest strings
collision-or-none digest strings =
    ⊎_elim
    (λ t. inl (record { first = t.0; second = t.2.0; in-first = t.1; in-second = t.2.1; differ = t.2.2.0; same = t.2.2.1 }))
    (λ every. inr (λ a b ma mb. every a ma b mb))
    (some-or-every (λ a. some-or-every (collide a) strings) strings)
  where
    -- A pair collides, or has one digest only if it is one string.
    collide : (a b : List ℕ) → ((a ≢ b) × (digest a ≡ digest b)) ⊎ (digest a ≡ digest b → a ≡ b)
    collide a b = go (List-discrete ℕ_discrete a b) (List-discrete ℕ_discrete (digest a) (digest b))
      where
        go : Dec (a ≡ b) → Dec (digest a ≡ digest b) → ((a ≢ b) × (digest a ≡ digest b)) ⊎ (digest a ≡ digest b → a ≡ b)
        go (yes e) d = inr (λ same. e)
        go (no h) (yes same) = inl (h, same)
        go (no h) (no apart) = inr (λ same. absurd (apart same))
