-- How the transform cuts a codeword in the making into blocks, and which number of the witness each begins with.
-- Assumes nothing.
use Rattle.std.specs.Prelude.{◌≡◌, List, map, ℕ, zero, suc, ◌+◌, ◌*◌, ◌/◌, ◌%◌, ◌^◌, ◌<◌, get_or, take, drop}
use Rattle.algebra.specs.Halving.{joined}
use Rattle.field.specs.BabyBear.{R, val, ofℕ}

-- Block b of a list that is cut into blocks of one size.
abbrev pub block : {A : Type 0} → ℕ → ℕ → List A → List A
block size b l = take size (drop (b * size) l)

-- Each of the first n blocks of l is what f says.
abbrev pub Blocks : {A : Type 0} → ℕ → ℕ → (ℕ → List A) → List A → Type 0
Blocks n size f l = (b : ℕ) → b < n → block size b l ≡ f b

-- A block whose halves are the values of the even and the odd part, joined. The points are every step-th number of the table.
abbrev pub joint : List ℕ → ℕ → ℕ → List ℕ → List ℕ
joint table step half l = map val (joined R half (λ i. ofℕ (get_or table (i * step) 0)) (λ i. ofℕ (get_or l i 0)) (λ i. ofℕ (get_or l (half + i) 0)))

-- The place of block b among 2^e: its e bits reversed.
abbrev pub place : ℕ → ℕ → ℕ
place zero b = 0
place (suc e) b = place e (b / 2) + b % 2 * 2 ^ e
