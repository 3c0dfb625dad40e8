-- The place of a number in a list.
use mathlib.Core.Path.{◌≡◌, sym}
use mathlib.Core.Logic.{⊎_elim}
use mathlib.Core.List.Memᴰ
use mathlib.Core.List.{List, [], ◌∷◌, Memᴰ}
use Prim.Native.Nat.{ℕ, suc, ◌<◌}
use native.Mathlib.Omega.{arith}
use native.Mathlib.Decide.{ℕ_discrete}
use lib.ListN.{length, get_or}

-- The first index of a number in a list.
abbrev pub index_of : ℕ → List ℕ → ℕ
index_of a [] = 0
index_of a (b ∷ l) = elim (ℕ_discrete a b) [ yes e ↦ 0 | no h ↦ suc (index_of a l) ]

pub index_of-member : (a : ℕ) (l : List ℕ) (d : ℕ) → Memᴰ a l → (index_of a l < length l) × (get_or l (index_of a l) d ≡ a)
index_of-member a [] d m = absurd (Memᴰ.not-nil m)
index_of-member a (b ∷ l) d m = go (ℕ_discrete a b) (index_of-member a l d)
  where
    At : ℕ → Type 0
    At i = (i < length (b ∷ l)) × (get_or (b ∷ l) i d ≡ a)

    go : (t : Dec (a ≡ b)) → (Memᴰ a l → (index_of a l < length l) × (get_or l (index_of a l) d ≡ a)) → At (elim t [ yes e ↦ 0 | no h ↦ suc (index_of a l) ])
    go (yes e) ih = (omega arith, sym e)
    go (no h) ih =
        let t : (index_of a l < length l) × (get_or l (index_of a l) d ≡ a) = ih (⊎_elim (λ (e : a ≡ b). absurd (h e)) (λ k. k) (Memᴰ.cases_cons m)) in
        (omega arith, t.1)
