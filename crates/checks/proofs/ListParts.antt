-- A list is the parts that it was made of; its items and witnesses one by one; a list of one item.
use mathlib.Core.Path.{◌≡◌, sym, ap, ap₂, ◌∙◌}
use mathlib.Core.Bool.{Bool, ◌&&◌}
use mathlib.Core.List.{List}
use Prim.Native.Nat.{ℕ, ◌*◌}
use native.Mathlib.Nat.{one-mul}
use Rattle.std.proofs.Math.Bool.{and-true}
use Rattle.field.specs.BabyBear.{baby_bear, F}
use Rattle.theory.specs.Items.{Item}
use Rattle.theory.specs.Checks.{every}
use Rattle.theory.specs.Combination.{item_at}
use Rattle.theory.specs.Sizes.{sizes, points_fit, circuit_fits, has_length}
use Rattle.theory.specs.Fp.{fp, item_size, item_part, read_item, read_items, read_witness, list_fits, decide_fits}
use Rattle.theory.proofs.CheckLaws.{every-cong}
use Rattle.theory.proofs.Reading.{item_at-read_items}
use Rattle.r1cs.specs.declared.list.List.{List as Listed}
use Rattle.checks.specs.Parts.{IsListOf}

-- What is said of the parts is said of the list's.
pub of-parts : {A : Type 0} (f : ℕ → ℕ → ℕ → ℕ → List ℕ → List ℕ → List ℕ → List ℕ → List ℕ → A)
    {m n k l : ℕ} {a b c items wits : List ℕ} {list : Listed} → IsListOf m n k l a b c items wits list
    → f list.sizes.m list.sizes.n list.sizes.k list.l list.circuit.a.now list.circuit.b.now list.circuit.c.now list.items.now list.wits.now ≡ f m n k l a b c items wits
of-parts f is = let i = is in cc

pub one-fits : (m n k : ℕ) (points a b c item wit : List ℕ) → list_fits m n k 1 points a b c item wit ≡ decide_fits m n k points a b c item wit
one-fits m n k points a b c item wit =
    ap (λ (t : Bool). t && points_fit k points && circuit_fits a b c && has_length item (1 * item_size m n) && has_length wit (1 * (4 * k))) (and-true (sizes m n k))
    ∙ ap₂ (λ (i w : ℕ). sizes m n k && points_fit k points && circuit_fits a b c && has_length item i && has_length wit w) (one-mul (item_size m n)) (one-mul (4 * k))

-- A test of each item of a list and its witness, as they are read.
pub every-read : (test : Item F → List F → Bool) (m n k l : ℕ) (items wits : List ℕ)
    → every l (λ i. test (read_item m n (item_part m n items i)) (read_witness k wits i)) ≡ every l (λ i. test (item_at baby_bear (read_items m n l items) i) (read_witness k wits i))
every-read test m n k l items wits =
    every-cong l _ _ (λ i h. ap (λ (t : Item F). test t (read_witness k wits i)) (sym (item_at-read_items fp m n l items i h)))
