-- The two steps of Newton's rule at consecutive numbers, on a list of values in place.
use Rattle.std.specs.Prelude.{List, ◌++◌, map, ℕ, ◌+◌, length, get_or, take, drop}
use Rattle.algebra.specs.Lists.{build}
use Rattle.algebra.specs.Interpolation.{slopes, step}
use Rattle.field.specs.BabyBear.{baby_bear, val, ofℕ}

-- With value j standing at the number j, what lies behind index i becomes the slopes from value i to the values there.
unfoldable pub slopes_from : ℕ → List ℕ → List ℕ
slopes_from i values =
    take (i + 1) values
    ++ map val (slopes baby_bear (ofℕ i) (ofℕ (get_or values i 0)) (drop (i + 1) (build (length values) ofℕ)) (map ofℕ (drop (i + 1) values)))

-- What lies from index i on becomes v + (X - a) q, with v at index i and the coefficients of q behind it.
unfoldable pub expand_from : ℕ → ℕ → List ℕ → List ℕ
expand_from i a values = take i values ++ map val (step baby_bear (ofℕ a) (ofℕ (get_or values i 0)) (map ofℕ (drop (i + 1) values)))
