-- What is drawn is in range, whatever was hashed.
use mathlib.Core.Path.{◌≡◌, ap, ◌∙◌}
use mathlib.Core.Bool.{true}
use mathlib.Core.List.{List}
use Prim.Native.Nat.{ℕ, ◌-◌, ◌*◌, ◌^◌, ◌≤◌, ◌<◌}
use native.Mathlib.Nat.{mod-lt}
use native.Mathlib.Omega.{arith}
use borrow.Author.Tests.{le-leb, lt-ltb}
use lib.ListN.{length}
use Rattle.algebra.specs.Lists.{build}
use Rattle.algebra.proofs.ListLaws.{length-build, get_or-build}
use Rattle.numbers.specs.Numbers.{numbers, bytes4, bytes, all_below}
use Rattle.numbers.proofs.Bounds.{Below, all-below}
use Rattle.numbers.proofs.Bytes.{length-bytes, number4-bytes4, numbers-bytes}
use Rattle.numbers.proofs.Tests.{◌&◌}
use Rattle.field.specs.BabyBear.{p}
use Rattle.hash.specs.Sha256.{digest}
use Rattle.theory.specs.Buffers.{number_at}
use Rattle.theory.specs.Fp.{challenge_fits}
use Rattle.draw.specs.Draw.{challenge_message, position_message, r_message, four, eight, challenge_of, position_of, r_of}

-- ---- a challenge

module _ (l : ℕ) (seed : List ℕ) (few : l ≤ 8) where
  challenge-below : challenge_of l seed < p
  unfolding challenge_of
  challenge-below = omega (arith, mod-lt (eight (digest (challenge_message seed))) {m = p - l} (omega arith))

  challenge-from : l ≤ challenge_of l seed
  unfolding challenge_of
  challenge-from = omega arith

  pub challenge-permitted : challenge_fits l (challenge_of l seed) ≡ true
  challenge-permitted = le-leb l (challenge_of l seed) challenge-from & lt-ltb (challenge_of l seed) p challenge-below

  -- It is read back from its four bytes.
  pub challenge-read : number_at (bytes4 (challenge_of l seed)) 0 ≡ challenge_of l seed
  unfolding numbers
  challenge-read = number4-bytes4 (challenge_of l seed) (omega (arith, challenge-below))

-- ---- positions, and r

pub position-below : (k : ℕ) (seed : List ℕ) (challenge : ℕ) (root : List ℕ) → 1 ≤ k → (j : ℕ) → position_of k seed challenge root j < 4 * k
unfolding position_of
position-below k seed challenge root some j = mod-lt (four (digest (position_message seed challenge root j))) {m = 4 * k} (omega arith)

pub r-below : (root x : List ℕ) (j : ℕ) → r_of root x j < p
unfolding r_of
r-below root x j = mod-lt (eight (digest (r_message root x j))) {m = p} (omega arith)

-- A list of numbers below q, as bytes.
module _ (n q : ℕ) (f : ℕ → ℕ) (word : q ≤ 2 ^ 32) (small : (j : ℕ) → f j < q) where
  built-below : Below q (build n f)
  built-below i h = rw (get_or-build n f i 0 (omega (arith, length-build n f))) (small i)

  pub drawn-below : all_below q (numbers (bytes (build n f))) ≡ true
  drawn-below = ap (all_below q) (numbers-bytes (build n f) (λ i h. omega (arith, built-below i h))) ∙ all-below q (build n f) built-below

  pub drawn-length : length (bytes (build n f)) ≡ 4 * n
  drawn-length = length-bytes (build n f) ∙ ap (λ (m : ℕ). 4 * m) (length-build n f)
