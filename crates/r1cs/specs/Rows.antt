-- Matrices in byte buffers: where their entries may lie, and their rows' sums.
use Rattle.std.specs.Prelude.{List, map, ℕ, ◌<◌}
use Rattle.algebra.specs.Lists.{build}
use Rattle.field.specs.BabyBear.{R, val, ofℕ}
use Rattle.theory.specs.R1cs.{row_sum}
use Rattle.theory.specs.Buffers.{entry_count, row_at, column_at}
use Rattle.theory.specs.Fp.{matrix}

-- Every entry has a row below `rows` and a column below `columns`.
abbrev pub EntriesInside : ℕ → ℕ → List ℕ → Type 0
EntriesInside rows columns entries = (i : ℕ) → i < entry_count entries → (row_at entries i < rows) × (column_at entries i < columns)

-- The sums of the rows below 64 of the matrix times z.
unfoldable pub row_sums : List ℕ → List ℕ → List ℕ
row_sums entries z = build 64 (λ j. val (row_sum R (matrix entries) (map ofℕ z) j))
