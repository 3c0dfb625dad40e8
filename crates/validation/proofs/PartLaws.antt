-- The checks of a sheet in the parts that the code runs: the first that refuses gives the answer.
use mathlib.Core.Path.{◌≡◌, refl, ap, ◌∙◌}
use mathlib.Core.Logic.{◌≢◌}
use mathlib.Core.Bool.{Bool, true, false, ◌&&◌}
use mathlib.Core.List.{List, [], ◌∷◌, ◌++◌}
use Prim.Native.Nat.{ℕ}
use native.Mathlib.Omega.{arith}
use Rattle.numbers.specs.Numbers.{numbers, all_below, all_different}
use Rattle.theory.specs.Checks.{check, answer_if, answer, every}
use Rattle.theory.specs.Sizes.{elements_below, circuit_below, circuit_in_order, items_leading_one}
use Rattle.theory.specs.Fp.{fp, items_below, list_checks}
use Rattle.theory.proofs.CheckLaws.{answer-passed, group-refused, group-passed}
use Rattle.lines.specs.declared.keyword.Keyword.TheVariants.{EntryA, EntryB, EntryC, Item, Wit}
use Rattle.lines.specs.Lines.{Line}
use Rattle.scan.specs.Sheet.{sheet_lines, m, n, k, pairs, bytes_of}
use Rattle.validation.specs.SheetChecks.{keeps_rules, counts_fit, sheet_checks}
use Rattle.validation.specs.CheckParts.{first_checks, entry_checks, leading_checks}

-- Check 3 of the circuit's values behind that of the items and witnesses.
values_last : (values items wits : Bool) (next : ℕ) → answer_if (values && items && wits) 3 next ≡ answer_if (items && wits) 3 (answer_if values 3 next)
values_last true true true next = refl
values_last true true false next = refl
values_last true false wits next = refl
values_last false true true next = refl
values_last false true false next = refl
values_last false false wits next = refl

list-parts : (m n k l : ℕ) (a b c items wits : List ℕ) → answer (list_checks m n k l [] a b c items wits)
    ≡ answer (
    check 3 (items_below m n l items && elements_below wits)
    ∷ check 3 (circuit_below a b c)
    ∷ check 4 (circuit_in_order m n k a b c)
    ∷ check 13 (items_leading_one fp m n l items)
    ∷ [])
unfolding numbers all_below all_different
list-parts m n k l a b c items wits = values_last (circuit_below a b c) (items_below m n l items) (elements_below wits) _

-- The checks of a list without items are those of its circuit.
pub circuit-alone : (m n k : ℕ) (a b c : List ℕ) → answer (list_checks m n k 0 [] a b c [] [])
    ≡ answer (check 3 (circuit_below a b c) ∷ check 4 (circuit_in_order m n k a b c) ∷ [])
unfolding every numbers all_below all_different
circuit-alone m n k a b c = values_last (circuit_below a b c) true true _

-- What the answer says of a list without a circuit: whether its numbers are below p, and whether its first inputs are 1.
module _ (m n k l : ℕ) (items wits : List ℕ) where
  pub all-pass : 0 ≡ answer (list_checks m n k l [] [] [] [] items wits) → ((items_below m n l items && elements_below wits) ≡ true) × (true ≡ items_leading_one fp m n l items)
  unfolding every numbers all_below all_different
  all-pass = go (items_below m n l items && elements_below wits) (items_leading_one fp m n l items)
    where
      go : (below leading : Bool) → 0 ≡ answer_if below 3 (answer_if leading 13 0) → (below ≡ true) × (true ≡ leading)
      go true true e = (refl, refl)
      go true false e = absurd (omega (arith, e))
      go false leading e = absurd (omega (arith, e))

  pub leading-fails : 13 ≡ answer (list_checks m n k l [] [] [] [] items wits) → ((items_below m n l items && elements_below wits) ≡ true) × (false ≡ items_leading_one fp m n l items)
  unfolding every numbers all_below all_different
  leading-fails = go (items_below m n l items && elements_below wits) (items_leading_one fp m n l items)
    where
      go : (below leading : Bool) → 13 ≡ answer_if below 3 (answer_if leading 13 0) → (below ≡ true) × (false ≡ leading)
      go true true e = absurd (omega (arith, e))
      go true false e = (refl, refl)
      go false leading e = absurd (omega (arith, e))

  pub numbers-fail : {x : ℕ} → x ≢ 0 → x ≢ 13 → x ≡ answer (list_checks m n k l [] [] [] [] items wits) → x ≡ answer_if (items_below m n l items && elements_below wits) 3 0
  unfolding every numbers all_below all_different
  numbers-fail {x} h g = go (items_below m n l items && elements_below wits) (items_leading_one fp m n l items)
    where
      go : (below leading : Bool) → x ≡ answer_if below 3 (answer_if leading 13 0) → x ≡ answer_if below 3 0
      go true true e = absurd (h e)
      go true false e = absurd (g e)
      go false leading e = e

module _ (s : List ℕ) (lengths : Bool) where
  abbrev ls : List Line
  ls = sheet_lines s

  sheet-parts : answer (sheet_checks s lengths) ≡ answer (first_checks s lengths ++ (entry_checks (sheet_lines s) ++ leading_checks (sheet_lines s)))
  sheet-parts =
      ap (λ (rest : ℕ). answer_if (keeps_rules s) 1 (answer_if (counts_fit ls && lengths) 2 rest))
      (list-parts (m ls) (n ls) (k ls) (pairs ls) (bytes_of EntryA ls) (bytes_of EntryB ls) (bytes_of EntryC ls) (bytes_of Item ls) (bytes_of Wit ls))

  pub pairs-refuse : answer (first_checks s lengths) ≢ 0 → answer (sheet_checks s lengths) ≡ answer (first_checks s lengths)
  pairs-refuse h = sheet-parts ∙ group-refused (first_checks s lengths) (entry_checks ls ++ leading_checks ls) h

  module _ (first : answer (first_checks s lengths) ≡ 0) where
    behind-pairs : answer (sheet_checks s lengths) ≡ answer (entry_checks (sheet_lines s) ++ leading_checks (sheet_lines s))
    behind-pairs = sheet-parts ∙ group-passed (first_checks s lengths) (entry_checks ls ++ leading_checks ls) (answer-passed (first_checks s lengths) (omega arith, (omega arith, (omega arith, tt))) first)

    pub circuit-refuses : answer (entry_checks (sheet_lines s)) ≢ 0 → answer (sheet_checks s lengths) ≡ answer (entry_checks (sheet_lines s))
    circuit-refuses h = behind-pairs ∙ group-refused (entry_checks ls) (leading_checks ls) h

    pub leading-decides : answer (entry_checks (sheet_lines s)) ≡ 0 → answer (sheet_checks s lengths) ≡ answer (leading_checks (sheet_lines s))
    leading-decides h = behind-pairs ∙ group-passed (entry_checks ls) (leading_checks ls) (answer-passed (entry_checks ls) (omega arith, (omega arith, tt)) h)
