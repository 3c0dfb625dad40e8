-- Lists of numbers below p: joined, cut and stored to.
use mathlib.Core.Path.{◌≡◌, refl, ap, ◌∙◌}
use mathlib.Core.List.{List, ◌++◌, map}
use Prim.Native.Nat.{ℕ, ◌+◌, ◌-◌, ◌≤◌, ◌<◌}
use native.Mathlib.Decide.{ℕ_discrete, dec_lt}
use native.Mathlib.Omega.{arith}
use lib.ListN.{length, get_or, take, set, length-set, length-append, get_or-append}
use lib.Seq.{length-take-le, get_or-take, get_or-append-add, get_or-set_same, get_or-set_other}
use Rattle.algebra.specs.Lists.{build}
use Rattle.algebra.proofs.Filling.{Filled, filled-all}
use Rattle.field.specs.BabyBear.{p, F, val}
use Rattle.field.specs.Numbers.{Below}
use Rattle.field.proofs.Numbers.{below-elements}

below-append : (xs ys : List ℕ) → Below xs → Below ys → Below (xs ++ ys)
below-append xs ys b c k h = go (dec_lt k (length xs))
  where
    go : Dec (k < length xs) → get_or (xs ++ ys) k 0 < p
    go (yes l) = rw (get_or-append xs ys 0 k l) (b k l)
    go (no l) = rw (ap (λ (n : ℕ). get_or (xs ++ ys) n 0) (split (omega arith)) ∙ get_or-append-add xs ys (k - length xs) 0) (c (k - length xs) (omega (arith, h, length-append xs ys)))
      where
        split : length xs ≤ k → k ≡ length xs + (k - length xs)
        split q = omega arith

below-take : (n : ℕ) (xs : List ℕ) → n ≤ length xs → Below xs → Below (take n xs)
below-take n xs l b k h = rw (get_or-take n xs k 0 (omega (arith, h, length-take-le n xs l))) (b k (omega (arith, h, length-take-le n xs l)))

-- A list whose entries from n on are written anew.
pub below-written : (n : ℕ) (xs ys : List ℕ) (es : List F) → n ≤ length xs → Below xs → ys ≡ take n xs ++ map val es → Below ys
below-written n xs ys es h b e = rw e (below-append (take n xs) (map val es) (below-take n xs h b) (below-elements es))

-- A store of a number below p.
pub below_set : (xs : List ℕ) (j v : ℕ) → v < p → Below xs → Below (set xs j v)
below_set xs j v h b k l = go (ℕ_discrete k j)
  where
    inside : k < length xs
    inside = omega (arith, l, length-set xs j v)

    go : Dec (k ≡ j) → get_or (set xs j v) k 0 < p
    go (yes e) = rw (e, get_or-set_same xs j v 0 (omega (arith, inside))) h
    go (no e) = rw (get_or-set_other xs j k v 0 e) (b k inside)

-- The front of a list that a loop filled.
pub filled-front : (f : ℕ → ℕ) (i n : ℕ) (xs : List ℕ) → i ≡ n → n ≤ length xs → Filled f i xs → take n xs ≡ build n f
filled-front f i n xs e l r =
    filled-all f n n (take n xs) refl (length-take-le n xs l) (λ k h. get_or-take n xs k 0 h ∙ r k (omega arith))
