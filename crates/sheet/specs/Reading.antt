-- The sheet reader: its result, and what each buffer then holds.
use Rattle.std.specs.Prelude.{List, [], ◌∷◌, ℕ}
use Rattle.theory.specs.Checks.{answer, written}
use Rattle.lines.specs.declared.keyword.Keyword.TheVariants.{EntryA, EntryB, EntryC, Item, Wit}
use Rattle.scan.specs.Sheet.{sheet_lines, bytes_of, filled}
use Rattle.validation.specs.SheetChecks.{Outcome, buffers_fit, sheet_checks, result_of}

-- The sizes and counts as a list of numbers.
abbrev pub sizes_of : Outcome → List ℕ
sizes_of r = r.m ∷ r.n ∷ r.k ∷ r.a ∷ r.b ∷ r.c ∷ r.pairs ∷ []

pub record ReadSheet : Type 0 where
  pub result : Outcome
  pub a : List ℕ
  pub b : List ℕ
  pub c : List ℕ
  pub items : List ℕ
  pub wits : List ℕ

unfoldable pub read_sheet : List ℕ → List ℕ → List ℕ → List ℕ → List ℕ → List ℕ → ReadSheet
read_sheet s a b c items wits =
    let r = answer (sheet_checks s (buffers_fit a b c items wits)) in
    let ls = sheet_lines s in
    record {
      result = result_of r ls;
      a = written r (filled (bytes_of EntryA ls) a) a;
      b = written r (filled (bytes_of EntryB ls) b) b;
      c = written r (filled (bytes_of EntryC ls) c) c;
      items = written r (filled (bytes_of Item ls) items) items;
      wits = written r (filled (bytes_of Wit ls) wits) wits;
    }
