-- Writing a sheet in the paper's form, and what of it can be read back.
use Rattle.std.specs.Prelude.{◌≡◌, ◌&&◌, List, [], ◌∷◌, ◌++◌, map, ℕ, ◌+◌, ◌≤◌, ◌<◌, length, leb, eqb}
use Rattle.algebra.specs.Lists.{All}
use Rattle.numbers.specs.Numbers.{bytes}
use Rattle.theory.specs.R1cs.{Entry}
use Rattle.theory.specs.Checks.{Check, check}
use Rattle.theory.specs.Sizes.{sizes}
use Rattle.lines.specs.Text.{all_pass}
use Rattle.lines.specs.Lines.{size_word, a_word, b_word, c_word, item_word, wit_word, end_word}
use Rattle.lines.specs.LineWriting.{write_number, write_hex, write_line}
use Rattle.theory.specs.Fp.{list_checks}
use Rattle.scan.specs.Sheet.{filled}
use Rattle.sheet.specs.Reading.{ReadSheet}

-- A pair: the item's numbers e, r and x, its root, and the witness.
pub record Pair : Type 0 where
  pub numbers : List ℕ
  pub root : List ℕ
  pub witness : List ℕ

-- What a sheet carries.
pub record Document : Type 0 where
  pub m : ℕ
  pub n : ℕ
  pub k : ℕ
  pub a : List (Entry ℕ)
  pub b : List (Entry ℕ)
  pub c : List (Entry ℕ)
  pub pairs : List Pair

-- ---- its lines

abbrev pub number_fields : List ℕ → List (List ℕ)
number_fields xs = map write_number xs

abbrev pub entry_numbers : Entry ℕ → List ℕ
entry_numbers e = e.row ∷ e.column ∷ e.value ∷ []

unfoldable pub write_entries : List ℕ → List (Entry ℕ) → List ℕ
write_entries word [] = []
write_entries word (e ∷ es) = write_line word (number_fields (entry_numbers e)) ++ write_entries word es

unfoldable pub write_pairs : List Pair → List ℕ
write_pairs [] = []
write_pairs (q ∷ qs) =
    write_line item_word (number_fields q.numbers ++ (write_hex q.root ∷ []))
    ++ (write_line wit_word (number_fields q.witness)
    ++ write_pairs qs)

unfoldable pub write_sheet : Document → List ℕ
write_sheet d =
    write_line size_word (number_fields (d.m ∷ d.n ∷ d.k ∷ []))
    ++ (write_entries a_word d.a
    ++ (write_entries b_word d.b
    ++ (write_entries c_word d.c
    ++ (write_pairs d.pairs
    ++ write_line end_word (number_fields (length d.pairs ∷ []))))))

-- ---- what can be written: numbers of 32 bits, at least one number a line, roots of 32 bytes

abbrev pub Numbers32 : List ℕ → Type 0
Numbers32 xs = All (λ x. x ≤ 4294967295) xs

abbrev pub WritablePair : Pair → Type 0
WritablePair q =
    (1 ≤ length q.numbers) × Numbers32 q.numbers × (1 ≤ length q.witness) × Numbers32 q.witness
    × (length q.root ≡ 32) × All (λ x. x < 256) q.root

abbrev pub WritableEntries : List (Entry ℕ) → Type 0
WritableEntries es = All (λ e. Numbers32 (entry_numbers e)) es

abbrev pub Writable : Document → Type 0
Writable d =
    Numbers32 (d.m ∷ d.n ∷ d.k ∷ []) × WritableEntries d.a × WritableEntries d.b × WritableEntries d.c
    × All WritablePair d.pairs × (length d.pairs ≤ 4294967295)

-- ---- what the buffers then hold

unfoldable pub entry_bytes : List (Entry ℕ) → List ℕ
entry_bytes [] = []
entry_bytes (e ∷ es) = bytes (entry_numbers e) ++ entry_bytes es

unfoldable pub items_bytes : List Pair → List ℕ
items_bytes [] = []
items_bytes (q ∷ qs) = (bytes q.numbers ++ q.root) ++ items_bytes qs

unfoldable pub witness_bytes : List Pair → List ℕ
witness_bytes [] = []
witness_bytes (q ∷ qs) = bytes q.witness ++ witness_bytes qs

-- Checks 2 to 4 and 13 of what is written.
abbrev pub document_checks : Document → List Check
document_checks d =
    check 2
    (sizes d.m d.n d.k
    && leb (length d.a) 1024 && leb (length d.b) 1024 && leb (length d.c) 1024
    && leb 1 (length d.pairs) && leb (length d.pairs) 64
    && all_pass (λ q. eqb (length q.numbers) (1 + d.m + d.n)) d.pairs
    && all_pass (λ q. eqb (length q.witness) d.k) d.pairs)
    ∷ list_checks d.m d.n d.k (length d.pairs) [] (entry_bytes d.a) (entry_bytes d.b) (entry_bytes d.c) (items_bytes d.pairs) (witness_bytes d.pairs)

-- What the reader gives back.
abbrev pub read_back : Document → List ℕ → List ℕ → List ℕ → List ℕ → List ℕ → ReadSheet
read_back d a b c items wits = record {
  result = record { answer = 0; m = d.m; n = d.n; k = d.k; a = length d.a; b = length d.b; c = length d.c; pairs = length d.pairs };
  a = filled (entry_bytes d.a) a;
  b = filled (entry_bytes d.b) b;
  c = filled (entry_bytes d.c) c;
  items = filled (items_bytes d.pairs) items;
  wits = filled (witness_bytes d.pairs) wits;
}
