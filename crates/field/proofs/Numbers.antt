-- Lists of numbers below p and lists of elements.
-- Assumes nothing.
use mathlib.Core.Path.{◌≡◌, refl, sym, ap₂, subst}
use mathlib.Core.List.{List, [], ◌∷◌, map}
use Prim.Native.Nat.{ℕ, suc, ◌<◌}
use native.Mathlib.Omega.{arith}
use lib.ListN.{length-map, get_or}
use Rattle.algebra.proofs.ListLaws.{get_or-map}
use Rattle.field.specs.BabyBear.{p, F, val, ofℕ, 𝟘}
use Rattle.field.specs.Numbers.{Below}
use Rattle.field.proofs.Laws.{val-lt, val-small, ofℕ-val}

pub below-elements : (es : List F) → Below (map val es)
below-elements es i h = subst (λ (x : ℕ). x < p) (sym (get_or-map val es i 𝟘 0 (omega (arith, length-map es val)))) (val-lt (get_or es i 𝟘))

pub elements-of-numbers : (es : List F) → map ofℕ (map val es) ≡ es
elements-of-numbers [] = refl
elements-of-numbers (e ∷ es) = ap₂ {C = List F} ◌∷◌ (ofℕ-val e) (elements-of-numbers es)

pub numbers-of-elements : (xs : List ℕ) → Below xs → map val (map ofℕ xs) ≡ xs
numbers-of-elements [] h = refl
numbers-of-elements (x ∷ xs) h = ap₂ {C = List ℕ} ◌∷◌ (val-small (h 0 (omega arith))) (numbers-of-elements xs (λ i l. h (suc i) (omega arith)))
