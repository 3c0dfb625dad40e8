-- How many blocks the openings of a fold are hashed in, for what is proved of verifying's count (theory/proofs/BlockCount).
use Rattle.std.specs.Prelude.{◌≡◌, Bool, true, false, ℕ, suc, ◌+◌, ◌*◌, ◌<◌}
use Rattle.code.specs.Points.{depth}
use Rattle.theory.specs.Checks.{reaches}

-- One opening: a block for its leaf, and two for each inner node. `depth k` is log2(4k).
abbrev pub opening_blocks : ℕ → ℕ
opening_blocks k = 1 + 2 * depth k

-- All t × (l + 1) openings.
abbrev pub fold_blocks : ℕ → ℕ → ℕ → ℕ
fold_blocks k l t = t * suc l * opening_blocks k

-- The first opening that does not lead to its root is that of item i at the position with index q, and the blocks are those of the openings
-- up to and with it.
pub record StopsAt (leads : ℕ → ℕ → Bool) (k l t blocks : ℕ) : Type 0 where
  pub q : ℕ
  pub i : ℕ
  pub q-inside : q < t
  pub i-inside : i < suc l
  pub before : reaches (suc l) leads q i ≡ true
  pub fails : leads q i ≡ false
  pub counted : blocks ≡ suc (q * suc l + i) * opening_blocks k
