-- Where the entries of a list's circuit lie, and the quotient's values.
use Rattle.std.specs.Prelude.{List, ℕ, ◌+◌}
use Rattle.r1cs.specs.Rows.{EntriesInside}
use Rattle.field.specs.BabyBear.{baby_bear, F, inv, ◌⊖◌, ◌⊗◌}
use Rattle.theory.specs.Combination.{Z, mix_e, combined_value}
use Rattle.theory.specs.Fp.{circuit, read_items, read_witness}

-- The entries of the matrices a, b and c are inside 64 rows and n + k columns.
pub record Fits (n k : ℕ) (a b c : List ℕ) : Type 0 where
  pub inside-a : EntriesInside 64 (n + k) a
  pub inside-b : EntriesInside 64 (n + k) b
  pub inside-c : EntriesInside 64 (n + k) c

-- The value of the quotient at a point outside the nodes: (value - sum of L_i × e_i) / Z.
abbrev pub quotient_at : ℕ → ℕ → ℕ → ℕ → List ℕ → List ℕ → List ℕ → List ℕ → List ℕ → F → F
quotient_at m n k l a b c items wits x =
    (combined_value baby_bear (circuit a b c) m n k (read_items m n l items) (read_witness k wits) x ⊖ mix_e baby_bear (read_items m n l items) x) ⊗ inv (Z baby_bear l x)
