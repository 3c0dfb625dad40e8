-- The checks of a sheet (paper 01, "Checking order"), and the result of reading it.
use Rattle.std.specs.Prelude.{Bool, ◌&&◌, List, [], ◌∷◌, ℕ, zero, suc, length, eqb, leb, Result, Ok, Err}
use Rattle.theory.specs.Checks.{Check, check}
use Rattle.theory.specs.Sizes.{sizes, has_length}
use Rattle.theory.specs.Fp.{list_checks}
use Rattle.lines.specs.declared.keyword.Keyword.TheVariants.{EntryA, EntryB, EntryC, Item, Wit, End}
use Rattle.lines.specs.Lines.{Line}
use Rattle.scan.specs.declared.state.State.{State}
use Rattle.scan.specs.Sheet.{sheet_lines, ordered, count_of, number_of, m, n, k, pairs, bytes_of, pairs_fit}
use Rattle.checks.specs.declared.refusal.Refusal.{Refusal}
use Rattle.checks.specs.Refusals as refusals
use Rattle.validation.specs.declared.reading.Reading.{Reading}

-- Check 1: at most 60,000 bytes, and lines that keep the rules.
abbrev pub keeps_rules : List ℕ → Bool
keeps_rules s = leb (length s) 60000 && ordered (sheet_lines s)

-- Check 2: the sizes, at most 1,024 entries a list, 1 to 64 pairs that fit, and the `end` count.
abbrev pub counts_fit : List Line → Bool
counts_fit ls =
    sizes (m ls) (n ls) (k ls)
    && leb (count_of EntryA ls) 1024 && leb (count_of EntryB ls) 1024 && leb (count_of EntryC ls) 1024
    && leb 1 (pairs ls) && leb (pairs ls) 64
    && pairs_fit ls
    && eqb (number_of End 0 ls) (pairs ls)

-- The same by the state behind the last line.
abbrev pub state_fits : State → Bool
state_fits st =
    sizes st.sizes.m st.sizes.n st.sizes.k
    && leb st.entries.a 1024 && leb st.entries.b 1024 && leb st.entries.c 1024
    && leb 1 st.pairs.count && leb st.pairs.count 64
    && st.fit
    && eqb st.end st.pairs.count

-- The greatest lengths: 1,024 entries, 64 items of the largest size, 64 witnesses.
abbrev pub buffers_fit : List ℕ → List ℕ → List ℕ → List ℕ → List ℕ → Bool
buffers_fit a b c items wits = has_length a 12288 && has_length b 12288 && has_length c 12288 && has_length items 20224 && has_length wits 16384

-- The checks of a sheet; `lengths` is what check 2 says of the buffers. Behind check 2 its pairs are tested as any list of items for which
-- no points are lent.
abbrev pub sheet_checks : List ℕ → Bool → List Check
sheet_checks s lengths =
    let ls = sheet_lines s in
    check 1 (keeps_rules s)
    ∷ check 2 (counts_fit ls && lengths)
    ∷ list_checks (m ls) (n ls) (k ls) (pairs ls) [] (bytes_of EntryA ls) (bytes_of EntryB ls) (bytes_of EntryC ls) (bytes_of Item ls) (bytes_of Wit ls)

-- What reading a sheet gives: the answer, and where it is 0 the sizes, the entries of each list and the count of pairs; zeros where it is not.
pub record Outcome : Type 0 where
  pub answer : ℕ
  pub m : ℕ
  pub n : ℕ
  pub k : ℕ
  pub a : ℕ
  pub b : ℕ
  pub c : ℕ
  pub pairs : ℕ

-- The result: the answer, and the sizes and counts where it is 0.
abbrev pub result_of : ℕ → List Line → Outcome
result_of zero ls = record { answer = 0; m = m ls; n = n ls; k = k ls; a = count_of EntryA ls; b = count_of EntryB ls; c = count_of EntryC ls; pairs = pairs ls }
result_of (suc r) ls = record { answer = suc r; m = 0; n = 0; k = 0; a = 0; b = 0; c = 0; pairs = 0 }

-- A result of the code.
abbrev pub outcome : Result Reading Refusal → Outcome
outcome (Ok r) = record { answer = 0; m = r.sizes.m; n = r.sizes.n; k = r.sizes.k; a = r.a; b = r.b; c = r.c; pairs = r.pairs }
outcome (Err refusal) = record { answer = refusals.number_of refusal; m = 0; n = 0; k = 0; a = 0; b = 0; c = 0; pairs = 0 }
