-- The checks of a sheet in three parts, as the code runs them: first those of its pairs but for 13, then those of its circuit, and then 13.
use Rattle.std.specs.Prelude.{◌≡◌, true, Bool, ◌&&◌, List, [], ◌∷◌, ℕ}
use Rattle.theory.specs.Checks.{Check, check, answer}
use Rattle.theory.specs.Sizes.{elements_below, circuit_below, circuit_in_order, items_leading_one}
use Rattle.theory.specs.Fp.{fp, items_below}
use Rattle.lines.specs.declared.keyword.Keyword.TheVariants.{EntryA, EntryB, EntryC, Item, Wit}
use Rattle.lines.specs.Lines.{Line}
use Rattle.scan.specs.Sheet.{sheet_lines, count_of, m, n, k, pairs, bytes_of}
use Rattle.validation.specs.declared.Pairs.{Pairs}
use Rattle.validation.specs.declared.reading.Reading.{Reading}
use Rattle.validation.specs.Counts.{IsReading}
use Rattle.validation.specs.SheetChecks.{keeps_rules, counts_fit}

-- Checks 1 and 2, and check 3 of the items and the witnesses.
abbrev pub first_checks : List ℕ → Bool → List Check
first_checks s lengths =
    let ls = sheet_lines s in
    check 1 (keeps_rules s)
    ∷ check 2 (counts_fit ls && lengths)
    ∷ check 3 (items_below (m ls) (n ls) (pairs ls) (bytes_of Item ls) && elements_below (bytes_of Wit ls))
    ∷ []

-- Checks 3 and 4 of the circuit.
abbrev pub entry_checks : List Line → List Check
entry_checks ls =
    check 3 (circuit_below (bytes_of EntryA ls) (bytes_of EntryB ls) (bytes_of EntryC ls))
    ∷ check 4 (circuit_in_order (m ls) (n ls) (k ls) (bytes_of EntryA ls) (bytes_of EntryB ls) (bytes_of EntryC ls))
    ∷ []

-- Check 13.
abbrev pub leading_checks : List Line → List Check
leading_checks ls = check 13 (items_leading_one fp (m ls) (n ls) (pairs ls) (bytes_of Item ls)) ∷ []

-- A reading of a sheet that passes checks 1 and 2.
pub record IsReadingOf (s : List ℕ) (r : Reading) : Type 0 where
  pub in-order : keeps_rules s ≡ true
  pub fits : counts_fit (sheet_lines s) ≡ true
  pub counts :
      let ls = sheet_lines s in
      IsReading (m ls) (n ls) (k ls) (count_of EntryA ls) (count_of EntryB ls) (count_of EntryC ls) (pairs ls) r

-- What the first part leaves where it passes.
pub record IsPairs (s : List ℕ) (lengths : Bool) (p : Pairs) : Type 0 where
  pub passed : answer (first_checks s lengths) ≡ 0
  pub reading : IsReadingOf s p.reading
  pub leading : (let ls = sheet_lines s in p.leading_one ≡ items_leading_one fp (m ls) (n ls) (pairs ls) (bytes_of Item ls))
