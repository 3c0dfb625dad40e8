-- Lists of numbers that are elements' numbers.
use Rattle.std.specs.Prelude.{List, ℕ, ◌<◌, length, get_or}
use Rattle.field.specs.BabyBear.{p}

-- Every number of the list is below p.
abbrev pub Below : List ℕ → Type 0
Below xs = (i : ℕ) → i < length xs → get_or xs i 0 < p
