-- The counts of a reading, and buffers for the greatest ones.
use Rattle.std.specs.Prelude.{◌≡◌, List, ℕ, length}
use Rattle.validation.specs.declared.reading.Reading.{Reading}

-- Sizes m, n and k, the entries of each list, and the pairs.
pub record IsReading (m n k a b c pairs : ℕ) (r : Reading) : Type 0 where
  pub m-is : r.sizes.m ≡ m
  pub n-is : r.sizes.n ≡ n
  pub k-is : r.sizes.k ≡ k
  pub a-is : r.a ≡ a
  pub b-is : r.b ≡ b
  pub c-is : r.c ≡ c
  pub pairs-is : r.pairs ≡ pairs

-- Buffers with room for any contents.
pub record EntryLengths (a b c : List ℕ) : Type 0 where
  pub a-length : length a ≡ 12288
  pub b-length : length b ≡ 12288
  pub c-length : length c ≡ 12288

pub record PairLengths (items wits : List ℕ) : Type 0 where
  pub items-length : length items ≡ 20224
  pub wits-length : length wits ≡ 16384
