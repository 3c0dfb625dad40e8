-- What a permitted input has.
use mathlib.Core.Path.{◌≡◌, refl, sym, ap}
use mathlib.Core.Bool.{Bool, true, ◌&&◌}
use mathlib.Core.List.{List, [], ◌∷◌}
use Prim.Native.Nat.{ℕ, ◌*◌, ◌/◌, ◌%◌}
use native.Mathlib.Omega.{arith}
use borrow.Author.Tests.{eqb-true}
use lib.Dec.{eqb, ltb}
use lib.ListN.{length}
use Rattle.std.specs.List.{list_all}
use Rattle.numbers.specs.Numbers.{all_below}
use Rattle.numbers.proofs.Bounds.{Below, below}
use Rattle.field.specs.BabyBear.{p}
use Rattle.code.specs.Points.{is_witness_count}
use Rattle.harness.specs.Permitted.{codeword_sizes, codeword_permitted, codeword_at_permitted}
use Rattle.harness.proofs.Answers.{both}

-- ---- codewords

-- The library's test of all members, where it asks for numbers below m.
pub list_all-below : (m : ℕ) (xs : List ℕ) → list_all (λ x. ltb x m) xs ≡ all_below m xs
unfolding all_below
list_all-below m [] = refl
list_all-below m (x ∷ xs) = ap (λ (b : Bool). ltb x m && b) (list_all-below m xs)

pub codeword-inputs : (w : List ℕ) (out : ℕ) → codeword_permitted w out ≡ true
    → (is_witness_count (length w) ≡ true) × (out ≡ 4 * length w) × Below p w
codeword-inputs w out e =
    let k = length w in
    let all = both (codeword_sizes k out) (all_below p w) e in
    let sizes = both (is_witness_count k && eqb (out % 4) 0) (eqb (out / 4) k) all.0 in
    let count = both (is_witness_count k) (eqb (out % 4) 0) sizes.0 in
    let whole = eqb-true (out % 4) 0 count.1 in
    let quarter = eqb-true (out / 4) k sizes.1 in
    (count.0, omega arith, below p w all.1)

pub codeword-at-inputs : (w : List ℕ) (points out : ℕ) → codeword_at_permitted w points out ≡ true → (out ≡ points) × Below p w
codeword-at-inputs w points out e =
    let all = both (eqb points out) (all_below p w) e in
    (sym (eqb-true points out all.0), below p w all.1)
