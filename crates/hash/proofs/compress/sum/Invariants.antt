-- `compress::sum` meets its contract. The invariant: the first i words are in place.
-- Assumes nothing.
use Rattle.std.proofs.Common.{◌≡◌, ℕ, List, get_or, take}
use Rattle.hash.specs.Word.{◌⊞◌}
use Rattle.hash.specs.Sha256.{up_to}
use Rattle.hash.proofs.compress.sum.Given as goal

-- word i of the sum
abbrev pub at-word : List ℕ → List ℕ → ℕ → ℕ
at-word x y i = get_or x i 0 ⊞ get_or y i 0

abbrev pub invariant-loop-i : goal.invariant-loop-i
invariant-loop-i l = take l.i l.z ≡ up_to l.i (at-word l.x l.y)
