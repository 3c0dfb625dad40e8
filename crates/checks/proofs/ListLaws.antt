-- The checks of a list as the code has them: an item's size, its front and the count of its elements are numbers that were worked out before.
use mathlib.Core.Path.{◌≡◌, sym, ap, ap₂, ◌∙◌}
use mathlib.Core.List.{List, ◌++◌}
use Prim.Native.Nat.{ℕ, ◌+◌, ◌*◌}
use native.Mathlib.Omega.{arith}
use lib.Dec.{ltb}
use Rattle.numbers.specs.Equality.{same_bytes}
use Rattle.field.specs.BabyBear.{p}
use Rattle.tree.specs.Layout.{part}
use Rattle.theory.specs.Checks.{Check, answer, every}
use Rattle.theory.specs.Buffers.{number_at}
use Rattle.theory.specs.Fp.{fp, witness_root, circuit, item_front, item_size, read_item, read_witness, items_below, matches, holds, list_checks, all_match, all_hold}
use Rattle.theory.proofs.CheckLaws.{group-refused, group-passed, every-cong}
use Rattle.theory.proofs.Parts.{part-part}
use Rattle.theory.proofs.Passed.{list-passes, passed-list}
use Rattle.checks.proofs.ListParts.{every-read}

-- The answer r of checks 3, 12, 4 and 13 before others: a refusal is the answer of them all, and else the others decide.
module _ (m n k l : ℕ) (points a b c items wits : List ℕ) {r : ℕ} (rest : List Check) (e : r ≡ answer (list_checks m n k l points a b c items wits)) where
  pub list-refuses : (r ≡ 0 → ⊥) → r ≡ answer (list_checks m n k l points a b c items wits ++ rest)
  list-refuses h = e ∙ sym (group-refused (list_checks m n k l points a b c items wits) rest (λ z. h (e ∙ z)))

  pub list-accepts : {x : ℕ} → r ≡ 0 → x ≡ answer rest → x ≡ answer (list_checks m n k l points a b c items wits ++ rest)
  list-accepts h q =
      q ∙ sym (group-passed (list_checks m n k l points a b c items wits) rest (passed-list fp m n k l points a b c items wits (list-passes fp m n k l points a b c items wits (sym e ∙ h))))

-- Check 3 of the items.
pub items-below-read : (m n l : ℕ) (items : List ℕ) {count size : ℕ} → count ≡ 1 + m + n → size ≡ item_size m n
    → every l (λ i. every count (λ j. ltb (number_at (part items (i * size) size) j) p)) ≡ items_below m n l items
items-below-read m n l items h e = ap₂ (λ (t s : ℕ). every l (λ i. every t (λ j. ltb (number_at (part items (i * s) s) j) p))) h e

-- Checks 10 and 11.
module _ (m n k l : ℕ) (items wits : List ℕ) {size : ℕ} (e : size ≡ item_size m n) where
  pub all-match-read : (points : List ℕ) {front : ℕ} → front ≡ item_front m n
      → every l (λ i. same_bytes (part items (i * size + front) 32) (witness_root k points (read_witness k wits i))) ≡ all_match m n k l points items wits
  all-match-read points h =
      ap₂ (λ (f s : ℕ). every l (λ i. same_bytes (part items (i * s + f) 32) (witness_root k points (read_witness k wits i)))) h e
      ∙ every-cong l _ _ (λ i _. ap (λ (root : List ℕ). same_bytes root (witness_root k points (read_witness k wits i))) (sym (part-part items (i * item_size m n) (item_size m n) (item_front m n) 32 (omega arith))))
      ∙ every-read (matches k points) m n k l items wits

  pub all-hold-read : (a b c : List ℕ) → every l (λ i. holds (circuit a b c) (read_item m n (part items (i * size) size)) (read_witness k wits i)) ≡ all_hold m n k l a b c items wits
  all-hold-read a b c =
      ap (λ (s : ℕ). every l (λ i. holds (circuit a b c) (read_item m n (part items (i * s) s)) (read_witness k wits i))) e
      ∙ every-read (holds (circuit a b c)) m n k l items wits
