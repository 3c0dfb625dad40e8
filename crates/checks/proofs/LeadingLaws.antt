-- Check 13 as the code has it: the number of a first input is 1.
use mathlib.Core.Path.{◌≡◌, sym, ap, ◌∙◌}
use mathlib.Core.Bool.{true}
use mathlib.Core.List.{List}
use Prim.Native.Nat.{ℕ, ◌+◌, ◌*◌, ◌≤◌, ◌<◌}
use native.Mathlib.Omega.{arith}
use borrow.Author.Tests.{ltb-true}
use lib.Dec.{eqb, ltb, lit<}
use lib.ListN.{length}
use Rattle.algebra.proofs.ListLaws.{get_or-build}
use Rattle.numbers.specs.Numbers.{numbers}
use Rattle.numbers.proofs.Bytes.{length-numbers}
use Rattle.numbers.proofs.Bounds.{below}
use Rattle.field.specs.BabyBear.{p, F, ofℕ, 𝟘, 𝟙}
use Rattle.field.proofs.Laws.{val-small, ofℕ-one}
use Rattle.tree.specs.Layout.{part}
use Rattle.theory.specs.Checks.{every}
use Rattle.theory.specs.Buffers.{number_at}
use Rattle.theory.specs.Sizes.{elements_below, leading_one, items_leading_one}
use Rattle.theory.specs.Fp.{fp, element_at, elements, item_size, read_item, item_below, items_below, same_element}
use Rattle.theory.proofs.CheckLaws.{every_true, every-cong}
use Rattle.checks.proofs.ItemTests.{element-test}

-- A number below p is 1 exactly if its element is.
one-test : (v : ℕ) → v < p → eqb v 1 ≡ same_element (ofℕ v) 𝟙
one-test v h = ap (λ (t : ℕ). eqb t 1) (sym (val-small h)) ∙ element-test (ofℕ v) 1 (lit< tt) ∙ ap (same_element (ofℕ v)) ofℕ-one

-- Of n inputs.
pub input-test : (n : ℕ) (x : List ℕ) → 1 ≤ n → length x ≡ 4 * n → elements_below x ≡ true → eqb (number_at x 0) 1 ≡ leading_one fp (elements n x)
input-test n x some size small =
    one-test (number_at x 0) (below p (numbers x) small 0 (omega (arith, length-numbers n x size)))
    ∙ ap (λ (e : F). same_element e 𝟙) (sym (get_or-build n (element_at x) 0 𝟘 some))

-- Of an item, and of l items.
item-test : (m n : ℕ) (b : List ℕ) → 1 ≤ n → item_below m n b ≡ true → eqb (number_at b (1 + m)) 1 ≡ leading_one fp (read_item m n b).x
item-test m n b some small =
    let first : 1 + m ≡ 1 + m + 0 = omega arith in
    one-test (number_at b (1 + m)) (ltb-true (number_at b (1 + m)) p (every_true (1 + m + n) (λ j. ltb (number_at b j) p) small (1 + m) (omega arith)))
    ∙ ap (λ (j : ℕ). same_element (element_at b j) 𝟙) first
    ∙ ap (λ (e : F). same_element e 𝟙) (sym (get_or-build n (λ j. element_at b (1 + m + j)) 0 𝟘 some))

pub items-test : (m n l : ℕ) (items : List ℕ) → 1 ≤ n → items_below m n l items ≡ true
    → every l (λ i. eqb (number_at (part items (i * item_size m n) (item_size m n)) (1 + m)) 1) ≡ items_leading_one fp m n l items
items-test m n l items some small =
    every-cong l _ _ (λ i h. item-test m n (part items (i * item_size m n) (item_size m n)) some (every_true l _ small i h))
