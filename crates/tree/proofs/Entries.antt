-- The laws of an entry: it fixes its value, and its position. Nothing else is known of it elsewhere.
use mathlib.Core.Path.{◌≡◌, refl, sym, ap, ap₂, ◌∙◌}
use mathlib.Core.List.{List, [], ◌∷◌, ◌++◌}
use Prim.Native.Nat.{ℕ, zero, suc, ◌+◌, ◌^◌, ◌<◌}
use native.Mathlib.Nat.{add-zero, zero-add, add-suc, suc-add}
use native.Mathlib.Omega.{arith}
use lib.ListN.{length, get_or, take, drop}
use Rattle.numbers.specs.Numbers.{bytes4}
use Rattle.numbers.proofs.Bytes.{bytes4-injective}
use Rattle.tree.specs.Merkle.{leaf_string}
use Rattle.tree.specs.Entry.{entry, entries_from, entries}

pub entry_value : (i j : ℕ) (v w : List ℕ) → entry i v ≡ entry j w → v ≡ w
unfolding entry
entry_value i j v w e = ap (drop 4) e

pub entry-position : (i j : ℕ) (v w : List ℕ) → i < 2 ^ 32 → j < 2 ^ 32 → entry i v ≡ entry j w → i ≡ j
unfolding entry
entry-position i j v w hi hj e = bytes4-injective i j hi hj (ap (take 4) e)

-- ---- the entries of a list of numbers
pub length_from : (k : ℕ) (vs : List ℕ) → length (entries_from k vs) ≡ length vs
unfolding entries_from
length_from k [] = refl
length_from k (v ∷ vs) = ap suc (length_from (suc k) vs)

pub length-entries : (vs : List ℕ) → length (entries vs) ≡ length vs
length-entries vs = length_from 0 vs

pub from_at : (k : ℕ) (vs : List ℕ) (i : ℕ) → i < length vs → get_or (entries_from k vs) i [] ≡ entry (k + i) (bytes4 (get_or vs i 0))
unfolding entries_from
from_at k [] i h = absurd (omega arith)
from_at k (v ∷ vs) zero h = rw add-zero
from_at k (v ∷ vs) (suc i) h = from_at (suc k) vs i (omega arith) ∙ ap (λ (n : ℕ). entry n (bytes4 (get_or vs i 0))) (omega arith)

pub entry_at : (vs : List ℕ) (i : ℕ) → i < length vs → get_or (entries vs) i [] ≡ entry i (bytes4 (get_or vs i 0))
entry_at vs i h = from_at 0 vs i h ∙ ap (λ (n : ℕ). entry n (bytes4 (get_or vs i 0))) (zero-add i)

-- what is hashed for number i, of the bytes of its position m and its own
pub leaf-from : (k : ℕ) (vs : List ℕ) (i m : ℕ) (position value : List ℕ) → i < length vs → m ≡ k + i → position ≡ bytes4 m
    → value ≡ bytes4 (get_or vs i 0) → leaf_string (position ++ value) ≡ leaf_string (get_or (entries_from k vs) i [])
unfolding entry
leaf-from k vs i m position value h e p v = ap leaf_string (ap₂ ◌++◌ (p ∙ ap bytes4 e) v ∙ sym (from_at k vs i h))

-- a part of the numbers has that part of the entries
pub take-from : (n k : ℕ) (vs : List ℕ) → take n (entries_from k vs) ≡ entries_from k (take n vs)
unfolding entries_from
take-from zero k vs = refl
take-from (suc n) k [] = refl
take-from (suc n) k (v ∷ vs) = ap (λ (es : List (List ℕ)). entry k (bytes4 v) ∷ es) (take-from n (suc k) vs)

pub drop-from : (n k : ℕ) (vs : List ℕ) → drop n (entries_from k vs) ≡ entries_from (k + n) (drop n vs)
unfolding entries_from
drop-from zero k vs = rw add-zero
drop-from (suc n) k [] = refl
drop-from (suc n) k (v ∷ vs) = drop-from n (suc k) vs ∙ ap (λ (m : ℕ). entries_from m (drop n vs)) (suc-add k n ∙ sym (add-suc k n))
