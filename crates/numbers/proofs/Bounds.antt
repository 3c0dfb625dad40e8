-- Lists whose numbers are all below a bound: the test `all_below` and what it says of each entry.
use mathlib.Core.Path.{◌≡◌, refl, sym, ap, ap₂, ◌∙◌}
use native.Mathlib.Nat.{add-zero}
use Rattle.std.specs.List.{list_all, range_with_len}
use mathlib.Core.Bool.{Bool, true, false, ◌&&◌, false≢true}
use mathlib.Core.List.{List, [], ◌∷◌}
use Prim.Native.Nat.{ℕ, zero, suc, ◌+◌, ◌≤◌, ◌<◌}
use native.Mathlib.Numerals.{add-one}
use native.Mathlib.Omega.{arith}
use borrow.Author.Tests.{lt-ltb, le-ltb, ltb-true}
use lib.Dec.{ltb}
use lib.ListN.{length, get_or, drop, drop_of_length-le}
use lib.Seq.{drop-cons}
use Rattle.algebra.specs.Lists.{All}
use Rattle.numbers.specs.Numbers.{all_below}

-- each entry is below m
abbrev pub Below : ℕ → List ℕ → Type 0
Below m xs = (i : ℕ) → i < length xs → get_or xs i 0 < m

both : (a b : Bool) → (a && b) ≡ true → (a ≡ true) × (b ≡ true)
both true b e = (refl, e)
both false b e = absurd (false≢true e)

-- a list that passes the test has every entry below m
pub below : (m : ℕ) (xs : List ℕ) → all_below m xs ≡ true → Below m xs
unfolding all_below
below m [] e i l = absurd (omega arith)
below m (x ∷ xs) e zero l = ltb-true x m (both (ltb x m) (all_below m xs) e).0
below m (x ∷ xs) e (suc i) l = below m xs (both (ltb x m) (all_below m xs) e).1 i (omega arith)

pub each_below : (m : ℕ) (xs : List ℕ) → all_below m xs ≡ true → All (λ x. x < m) xs
unfolding all_below
each_below m [] e = tt
each_below m (x ∷ xs) e = let t = both (ltb x m) (all_below m xs) e in (ltb-true x m t.0, each_below m xs t.1)

-- and passes it only then
pub all-below : (m : ℕ) (xs : List ℕ) → Below m xs → all_below m xs ≡ true
unfolding all_below
all-below m [] h = refl
all-below m (x ∷ xs) h = simp (lt-ltb x m (h 0 (omega arith))) (all-below m xs (λ i l. h (suc i) (omega arith)))

-- The test by index.
from-index : (m : ℕ) (xs : List ℕ) (a : ℕ) (test : ℕ → Bool) → ((i : ℕ) → i < length xs → test (a + i) ≡ ltb (get_or xs i 0) m)
    → list_all test (range_with_len a (length xs)) ≡ all_below m xs
unfolding all_below
from-index m [] a test h = refl
from-index m (x ∷ xs) a test h = ap₂ ◌&&◌ (ap test (sym (add-zero a)) ∙ h 0 (omega arith)) (from-index m xs (a + 1) test (λ i l. ap test (omega arith) ∙ h (suc i) (omega arith)))

pub by-index : (m : ℕ) (xs : List ℕ) → list_all (λ i. ltb (get_or xs i 0) m) (range_with_len 0 (length xs)) ≡ all_below m xs
by-index m xs = from-index m xs 0 (λ i. ltb (get_or xs i 0) m) (λ i l. ap (λ (j : ℕ). ltb (get_or xs j 0) m) (omega arith))

-- The test of a list after its first i entries passed: it is the test of the rest.
module _ (m : ℕ) (xs : List ℕ) where
  abbrev pub Rest : ℕ → Type 0
  Rest i = all_below m xs ≡ all_below m (drop i xs)

  pub rest-fails : (i : ℕ) → i < length xs → Rest i → m ≤ get_or xs i 0 → false ≡ all_below m xs
  unfolding all_below
  rest-fails i l r h = rw (r, drop-cons xs i 0 l) (simp (le-ltb _ _ h))

  pub rest_more : (i : ℕ) → i < length xs → Rest i → get_or xs i 0 < m → Rest (i + 1)
  unfolding all_below
  rest_more i l r h = rw (add-one, r, drop-cons xs i 0 l) (simp (lt-ltb _ _ h))

  pub rest-none : (i : ℕ) → length xs ≤ i → Rest i → true ≡ all_below m xs
  unfolding all_below
  rest-none i l r = rw (r, drop_of_length-le xs {i = i} l)
