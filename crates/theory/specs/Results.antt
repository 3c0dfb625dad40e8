-- What each call that writes leaves: its answer, and each output buffer. Verifying leaves a verdict and a count of blocks, and deciding
-- an answer alone.
use Rattle.std.specs.Prelude.{List, ℕ, ◌+◌, ◌*◌}

pub record Encoded : Type 0 where
  pub answer : ℕ
  pub code : List ℕ
  pub root : List ℕ

pub record Cast : Type 0 where
  pub answer : ℕ
  pub item : List ℕ

pub record Quotient : Type 0 where
  pub answer : ℕ
  pub quotient : List ℕ

pub record Folded : Type 0 where
  pub answer : ℕ
  pub quotient : List ℕ
  pub item : List ℕ
  pub wit : List ℕ

pub record Opened : Type 0 where
  pub answer : ℕ
  pub openings : List ℕ

pub record Interleaved : Type 0 where
  pub answer : ℕ
  pub openings : List ℕ

-- The number of the first check that fails, or 0, and how many blocks were hashed up to it.
pub record Verified : Type 0 where
  pub verdict : ℕ
  pub blocks : ℕ

-- As one number, which the exported call returns.
abbrev pub packed : Verified → ℕ
packed v = 64 * v.blocks + v.verdict
