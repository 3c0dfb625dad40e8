-- A byte buffer that is filled part by part, all parts of one size.
use Rattle.std.specs.Prelude.{◌≡◌, List, ◌++◌, ℕ, ◌+◌, ◌*◌, ◌<◌, length, take, drop}
use Rattle.tree.specs.Layout.{part}

-- The buffer s with d in the place of its n bytes from byte `at` on.
abbrev pub replaced : List ℕ → ℕ → ℕ → List ℕ → List ℕ
replaced s at n d = take at s ++ d ++ drop (at + n) s

-- Piece q, of `size` bytes, of part i, of `width` bytes.
abbrev pub piece : List ℕ → ℕ → ℕ → ℕ → ℕ → List ℕ
piece s width size i q = part (part s (i * width) width) (q * size) size

-- The buffer s has f 0 to f (i - 1) as its first parts, and behind them what the buffer `entry` has there.
pub record Filled (size : ℕ) (f : ℕ → List ℕ) (entry : List ℕ) (i : ℕ) (s : List ℕ) : Type 0 where
  pub parts : (j : ℕ) → j < i → part s (j * size) size ≡ f j
  pub rest : drop (i * size) s ≡ drop (i * size) entry
  pub same : length s ≡ length entry
