-- Any k values at k different positions are the codeword values of exactly one witness of k numbers,
-- over any field and at any pairwise different points.
-- Assumes nothing.
use mathlib.Core.Path.{◌≡◌, refl, sym, ◌∙◌, ap₂}
use mathlib.Core.List.{List, [], ◌∷◌, map}
use Prim.Native.Nat.{ℕ, ◌<◌}
use lib.ListN.{length, get_or, length-map}
use Rattle.algebra.specs.Ring.{Field}
use Rattle.algebra.specs.Lists.{All, Distinct}
use Rattle.algebra.specs.Polynomial.{eval_poly}
use Rattle.algebra.specs.Interpolation.{Interpolates}
use Rattle.algebra.proofs.ListLaws.{distinct-map, distinct-get_or}
use Rattle.algebra.proofs.InterpolationLaws.{interpolation}
use Rattle.code.specs.Codeword.{codeword, Takes}
use Rattle.code.proofs.Evaluation.{value_at-eval_poly, codeword-at}

module _ (F : Field) (points : List F.ring.carrier) where
  open F use {ring as R}
  open R use {carrier as K, zero as 𝟘}

  -- The points at the positions.
  abbrev at : List ℕ → List K
  at qs = map (λ q. get_or points q 𝟘) qs

  -- The codeword's values at the positions are the polynomial's values at the points there.
  values-at : (qs : List ℕ) (w : List K) → All (λ q. q < length points) qs → map (λ q. get_or (codeword R points w) q 𝟘) qs ≡ map (eval_poly R w) (at qs)
  values-at [] w h = refl
  values-at (q ∷ qs) w h = ap₂ {C = List K} ◌∷◌ (codeword-at R points w q h.0 ∙ value_at-eval_poly R w (get_or points q 𝟘)) (values-at qs w h.1)

  pub unique-witness : Distinct points → (qs : List ℕ) (vs : List K) → Distinct qs → All (λ q. q < length points) qs → length vs ≡ length qs
      → (w : List K) × Takes R points qs vs w × ((v : List K) → Takes R points qs vs v → v ≡ w)
  unique-witness different qs vs d inside l = (
    found.0,
    record { count = found.1.count ∙ count; values = values-at qs found.0 inside ∙ found.1.values },
    λ v t. found.2 v (record { count = t.count ∙ sym count; values = sym (values-at qs v inside) ∙ t.values }),
  )
    where
      count : length (at qs) ≡ length qs
      count = length-map qs (λ q. get_or points q 𝟘)

      found : (cs : List K) × Interpolates F (at qs) vs cs × ((ds : List K) → Interpolates F (at qs) vs ds → ds ≡ cs)
      found = interpolation F (at qs) vs
          (distinct-map (λ q. get_or points q 𝟘) (λ a b p q e. distinct-get_or points a b 𝟘 different p q e) qs inside d)
          (l ∙ sym count)
