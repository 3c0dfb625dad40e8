-- Words of n messages side by side: word j of message i stands at n * j + i, so that a word's n lanes lie next to each other.
-- `get_or xs i 0` is entry i of xs, counted from 0.
-- Assumes nothing.
use Rattle.std.specs.Prelude.{List, ℕ, zero, suc, ◌+◌, ◌*◌, get_or, set}
use Rattle.hash.specs.Sha256.{up_to}

-- the first c words of lane i
unfoldable pub lane : ℕ → ℕ → ℕ → List ℕ → List ℕ
lane n i c s = up_to c (λ j. get_or s (n * j + i) 0)

-- s with the first c words of v as those of lane i
unfoldable pub set_lane : ℕ → ℕ → List ℕ → ℕ → List ℕ → List ℕ
set_lane n i v zero s = s
set_lane n i v (suc c) s = set (set_lane n i v c s) (n * c + i) (get_or v c 0)
