-- The laws of a loop that tests f at 0, 1, .. and stops at the first number that fails (`every i f ≡ true` where i is next), or goes on.
use mathlib.Core.Path.{◌≡◌, refl, sym}
use mathlib.Core.Bool.{Bool, true}
use Prim.Native.Nat.{ℕ, ◌+◌, ◌≤◌}
use native.Mathlib.Numerals.{add-one}
use native.Mathlib.Omega.{arith}
use Rattle.numbers.proofs.Tests.{◌&◌}
use Rattle.theory.specs.Checks.{every}

-- ---- a test of each number below n

-- Before the first turn.
pub every-none : (f : ℕ → Bool) → every 0 f ≡ true
unfolding every
every-none f = refl

-- After a turn that passes.
pub every_more : (f : ℕ → Bool) (i : ℕ) → every i f ≡ true → f i ≡ true → every (i + 1) f ≡ true
unfolding every
every_more f i e h = rw add-one (e & h)

-- After the last turn.
pub every-all : (n : ℕ) (f : ℕ → Bool) (i : ℕ) → i ≤ n → n ≤ i → every i f ≡ true → true ≡ every n f
every-all n f i l g e = let q : n ≡ i = omega arith in rw q (sym e)
