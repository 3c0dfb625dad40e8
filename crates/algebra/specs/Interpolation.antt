-- Interpolation over a field, by Newton's rule: the polynomial with given values at given points.
-- Assumes nothing.
use Rattle.std.specs.Prelude.{◌≡◌, List, [], ◌∷◌, map, length}
use Rattle.algebra.specs.Ring.{Field}
use Rattle.algebra.specs.Polynomial.{eval_poly, add_poly, scale_poly}

module _ (F : Field) where
  open F use {ring as R, inv}
  open R use {carrier as K, add as ◌⊕◌, mul as ◌⊗◌, neg as ⊝◌}

  infixl 60 ◌⊕◌
  infixl 70 ◌⊗◌
  infixl 80 ⊝◌
  -- v + (X - a) q.
  abbrev pub step : K → K → List K → List K
  step a v q = add_poly R (v ∷ q) (scale_poly R (⊝ a) q)

  -- The slopes (w - v) / (b - a), from the point a with the value v to each point b of ps with its value w.
  abbrev pub slopes : K → K → List K → List K → List K
  slopes a v [] vs = []
  slopes a v (b ∷ ps) [] = []
  slopes a v (b ∷ ps) (w ∷ vs) = ((w ⊕ ⊝ v) ⊗ inv (b ⊕ ⊝ a)) ∷ slopes a v ps vs

  -- The coefficients of the polynomial with the values vs at the points ps.
  abbrev pub interpolate : List K → List K → List K
  interpolate [] vs = []
  interpolate (a ∷ ps) [] = []
  interpolate (a ∷ ps) (v ∷ vs) = step a v (interpolate ps (slopes a v ps vs))

  -- cs has as many coefficients as there are points, and its values at the points ps are vs.
  pub record Interpolates (ps vs cs : List K) : Type 0 where
    pub count : length cs ≡ length ps
    pub values : map (eval_poly R cs) ps ≡ vs
