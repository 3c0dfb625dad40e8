-- Prime numbers.
use Rattle.std.specs.Prelude.{ℕ, ◌%◌, ◌<◌}

-- p has no divisor between 1 and itself.
abbrev pub Prime : ℕ → Type 0
Prime p = (d : ℕ) → 1 < d → d < p → 0 < p % d
