-- The arithmetic of levels and places as the code has it: the level below j is `j - 1`, and half of 2 ^ n is 2 ^ (n - 1).
use mathlib.Core.Path.{◌≡◌, refl, sym, ap, ap₂, ◌∙◌}
use mathlib.Core.List.{List}
use mathlib.Core.Logic.{◌⊎◌, ⊎_elim}
use Prim.Native.Nat.{ℕ, zero, suc, ◌+◌, ◌-◌, ◌*◌, ◌/◌, ◌^◌, ◌≤◌, ◌<◌}
use native.Mathlib.Nat.{two-pow-succ}
use native.Mathlib.Omega.{arith}
use lib.ListN.{length, take, drop, length-drop}
use lib.Seq.{take_all, length-take-le}
use lib.Pow.{pow_mono}
use Rattle.tree.specs.Merkle.{node_string, root, sibling}
use Rattle.tree.specs.Entry.{entries_from}
use Rattle.tree.proofs.Entries.{take-from, drop-from}

down : (k : ℕ) → suc k - 1 ≡ k
down k = omega arith

double : (n : ℕ) → 0 < n → 2 ^ n ≡ 2 ^ (n - 1) + 2 ^ (n - 1)
double zero h = absurd (omega arith)
double (suc k) h = rw (down k) (two-pow-succ k)

-- a place and its sibling n levels below the root
pub sibling-below : (n p : ℕ) → 0 < n → p < 2 ^ n → sibling p < 2 ^ n
sibling-below n p h l = omega (arith, double n h)

-- at most 256 leaves
pub few : (d : ℕ) → d ≤ 8 → 2 ^ d ≤ 256
few d h = pow_mono {i = d} {j = 8} h

-- 2 ^ d numbers are four times as many as a fourth of them, where there are four or more
pub fours-end : (d n : ℕ) → 4 * (2 ^ d / 4) ≤ n → (4 ≤ n) ⊎ (2 ^ d ≤ n) → 2 ^ d ≤ n
fours-end zero n h far = ⊎_elim (λ f. omega arith) (λ f. f) far
fours-end (suc zero) n h far = ⊎_elim (λ f. omega arith) (λ f. f) far
fours-end (suc (suc k)) n h far = omega (arith, two-pow-succ (suc k), two-pow-succ k)

-- ---- the two halves of 2 ^ d values, where there is more than one
positive : (d : ℕ) → 1 < 2 ^ d → 0 < d
positive zero h = absurd (omega arith)
positive (suc k) h = omega arith

-- a root from those over the two halves of the entries
root-step : (digest : List ℕ → List ℕ) (d : ℕ) (es : List (List ℕ)) → 0 < d
    → root digest d es ≡ digest (node_string (root digest (d - 1) (take (2 ^ (d - 1)) es)) (root digest (d - 1) (drop (2 ^ (d - 1)) es)))
unfolding root
root-step digest zero es h = absurd (omega arith)
root-step digest (suc k) es h = rw (down k) refl

module _ (d : ℕ) (vs : List ℕ) (e : length vs ≡ 2 ^ d) (more : 1 < length vs) where
  pub depth-positive : 0 < d
  depth-positive = positive d (omega arith)

  half : length vs / 2 ≡ 2 ^ (d - 1)
  half = omega (arith, double d depth-positive)

  pub left-length : length (take (length vs / 2) vs) ≡ 2 ^ (d - 1)
  left-length = length-take-le (length vs / 2) vs (omega arith) ∙ half

  -- the rest of the values, as many as are left
  rest : take (length vs - length vs / 2) (drop (length vs / 2) vs) ≡ drop (length vs / 2) vs
  rest = take_all (length vs - length vs / 2) (drop (length vs / 2) vs) (omega (arith, length-drop (length vs / 2) vs))

  pub right-length : length (take (length vs - length vs / 2) (drop (length vs / 2) vs)) ≡ 2 ^ (d - 1)
  right-length = ap length rest ∙ length-drop (length vs / 2) vs ∙ omega (arith, half, double d depth-positive)

  -- the root over them is that of the two roots
  pub root-halves : (digest : List ℕ → List ℕ) (first : ℕ)
      → root digest d (entries_from first vs)
      ≡ digest
      (node_string (root digest (d - 1) (entries_from first (take (length vs / 2) vs)))
      (root digest (d - 1) (entries_from (first + length vs / 2) (take (length vs - length vs / 2) (drop (length vs / 2) vs)))))
  root-halves digest first =
      root-step digest d (entries_from first vs) depth-positive
      ∙ ap₂ (λ (l r : List (List ℕ)). digest (node_string (root digest (d - 1) l) (root digest (d - 1) r)))
      (ap (λ (n : ℕ). take n (entries_from first vs)) (sym half) ∙ take-from (length vs / 2) first vs)
      (ap (λ (n : ℕ). drop n (entries_from first vs)) (sym half) ∙ drop-from (length vs / 2) first vs ∙ ap (entries_from (first + length vs / 2)) (sym rest))
