-- What is read back from a sheet written in the paper's form is what was written, with or without the sheet's last byte.
use mathlib.Core.Path.{◌≡◌, refl, sym, ap, ◌∙◌}
use mathlib.Core.Bool.{true}
use mathlib.Core.List.{List, [], ◌∷◌, ◌++◌, map, append_cancel_right, append_assoc}
use Prim.Native.Nat.{ℕ, ◌+◌, ◌≤◌}
use native.Mathlib.Omega.{arith}
use borrow.Author.Tests.{le-leb, eq-eqb}
use lib.Dec.{eqb, leb}
use lib.ListN.{length, get_or, length-map}
use Rattle.algebra.specs.Lists.{All}
use Rattle.numbers.proofs.Tests.{◌&◌, each-true}
use Rattle.theory.specs.Checks.{answer, written}
use Rattle.theory.specs.Sizes.{sizes}
use Rattle.theory.specs.R1cs.{Entry}
use Rattle.theory.proofs.CheckLaws.{Passed, answer-passed, passed-answer}
use Rattle.lines.specs.declared.keyword.Keyword.{Keyword}
use Rattle.lines.specs.declared.keyword.Keyword.TheVariants.{EntryA, EntryB, EntryC, Item, Wit, End}
use Rattle.lines.specs.Text.{all_pass}
use Rattle.lines.specs.Lines.{Line}
use Rattle.scan.specs.Sheet.{sheet_lines, ordered, having, count_of, number_of, m, n, k, pairs, bytes_of, all_have, filled}
use Rattle.validation.specs.SheetChecks.{counts_fit, buffers_fit, sheet_checks, result_of}
use Rattle.sheet.specs.Reading.{ReadSheet, read_sheet}
use Rattle.roundtrip.specs.Writing.{Pair, Document, Writable, write_sheet, entry_bytes, items_bytes, witness_bytes, document_checks, read_back}
use Rattle.roundtrip.proofs.WrittenText.{text_of, ended-line, last_line}
use Rattle.scan.proofs.SheetLaws.{all_pass-map}
use Rattle.roundtrip.proofs.WrittenLines.{front_texts, end_text, sheet-text, end-one-line, sheet-said}
use Rattle.roundtrip.proofs.DocumentLines.{entry_line, item_line_of, wit_line_of, document_lines, document-ordered, size-lines, a-lines, b-lines, c-lines, item-lines, wit-lines, end-lines, entries-bytes, items-bytes, witnesses-bytes}

-- Lines say what a document does.
record Says (d : Document) (ls : List Line) : Type 0 where
  in-order : ordered ls ≡ true
  m-is : m ls ≡ d.m
  n-is : n ls ≡ d.n
  k-is : k ls ≡ d.k
  a-count : count_of EntryA ls ≡ length d.a
  b-count : count_of EntryB ls ≡ length d.b
  c-count : count_of EntryC ls ≡ length d.c
  pair-count : pairs ls ≡ length d.pairs
  end-count : number_of End 0 ls ≡ length d.pairs
  items-have : (count : ℕ) → all_have count (having Item ls) ≡ all_pass (λ q. eqb (length q.numbers) count) d.pairs
  wits-have : (count : ℕ) → all_have count (having Wit ls) ≡ all_pass (λ q. eqb (length q.witness) count) d.pairs
  a-bytes : bytes_of EntryA ls ≡ entry_bytes d.a
  b-bytes : bytes_of EntryB ls ≡ entry_bytes d.b
  c-bytes : bytes_of EntryC ls ≡ entry_bytes d.c
  item-bytes : bytes_of Item ls ≡ items_bytes d.pairs
  wit-bytes : bytes_of Wit ls ≡ witness_bytes d.pairs

-- The lines that are written do.
document-says : (d : Document) → Says d (document_lines d)
document-says d = record {
  in-order = document-ordered d;
  m-is = rw (size-lines d);
  n-is = rw (size-lines d);
  k-is = rw (size-lines d);
  a-count = rw (a-lines d) (length-map d.a (entry_line EntryA));
  b-count = rw (b-lines d) (length-map d.b (entry_line EntryB));
  c-count = rw (c-lines d) (length-map d.c (entry_line EntryC));
  pair-count = rw (item-lines d) (length-map d.pairs item_line_of);
  end-count = rw (end-lines d);
  items-have = λ count. rw (item-lines d) (all_pass-map (λ l. eqb (length l.numbers) count) item_line_of d.pairs);
  wits-have = λ count. rw (wit-lines d) (all_pass-map (λ l. eqb (length l.numbers) count) wit_line_of d.pairs);
  a-bytes = rw (a-lines d) (entries-bytes EntryA d.a);
  b-bytes = rw (b-lines d) (entries-bytes EntryB d.b);
  c-bytes = rw (c-lines d) (entries-bytes EntryC d.c);
  item-bytes = rw (item-lines d) (items-bytes d.pairs);
  wit-bytes = rw (wit-lines d) (witnesses-bytes d.pairs);
}

module _ (d : Document) (a b c items wits : List ℕ) (passes : answer (document_checks d) ≡ 0) (fit : buffers_fit a b c items wits ≡ true) where
  passed : All Passed (document_checks d)
  passed = answer-passed (document_checks d) (omega arith) passes

  counts-fit : (ls : List Line) → Says d ls → counts_fit ls ≡ true
  counts-fit ls h =
      let t = each-true
      (sizes d.m d.n d.k)
      (leb (length d.a) 1024
      ∷ leb (length d.b) 1024
      ∷ leb (length d.c) 1024
      ∷ leb 1 (length d.pairs)
      ∷ leb (length d.pairs) 64
      ∷ all_pass (λ q. eqb (length q.numbers) (1 + d.m + d.n)) d.pairs
      ∷ all_pass (λ q. eqb (length q.witness) d.k) d.pairs
      ∷ [])
      passed.0 in
      rw
      (h.m-is, h.n-is, h.k-is, h.a-count, h.b-count, h.c-count, h.pair-count, h.end-count, h.items-have (1 + d.m + d.n), h.wits-have d.k)
      (t.0 & t.1.0 & t.1.1.0 & t.1.1.1.0 & t.1.1.1.1.0 & t.1.1.1.1.1.0 & (t.1.1.1.1.1.1.0 & t.1.1.1.1.1.1.1.0)
      & eq-eqb (length d.pairs) (length d.pairs) refl)

  sheet-passes : (s : List ℕ) → Says d (sheet_lines s) → length s ≤ 60000 → answer (sheet_checks s (buffers_fit a b c items wits)) ≡ 0
  sheet-passes s h l =
      passed-answer (sheet_checks s (buffers_fit a b c items wits)) (
        le-leb (length s) 60000 l & h.in-order,
        (
          counts-fit (sheet_lines s) h & fit,
          (
            rw (h.m-is, h.n-is, h.pair-count, h.a-bytes, h.b-bytes, h.c-bytes, h.item-bytes, h.wit-bytes) passed.1.0,
            (
              passed.1.1.0,
              (
                rw (h.m-is, h.n-is, h.k-is, h.a-bytes, h.b-bytes, h.c-bytes) passed.1.1.1.0,
                (rw (h.m-is, h.n-is, h.pair-count, h.item-bytes) passed.1.1.1.1.0, tt),
              ),
            ),
          ),
        ),
      )

  -- The result and the buffers of lines that pass.
  read-says : (ls : List Line) → Says d ls → (r : ℕ) → r ≡ 0
      → ◌≡◌ {A = ReadSheet}
      (record {
        result = result_of r ls;
        a = written r (filled (bytes_of EntryA ls) a) a;
        b = written r (filled (bytes_of EntryB ls) b) b;
        c = written r (filled (bytes_of EntryC ls) c) c;
        items = written r (filled (bytes_of Item ls) items) items;
        wits = written r (filled (bytes_of Wit ls) wits) wits;
      })
      (read_back d a b c items wits)
  read-says ls h r e =
      rw
      (e, h.m-is, h.n-is, h.k-is, h.a-count, h.b-count, h.c-count, h.pair-count, h.a-bytes, h.b-bytes, h.c-bytes, h.item-bytes, h.wit-bytes)

  -- A sheet whose lines are the document's.
  read-lines : (s : List ℕ) → sheet_lines s ≡ document_lines d → length s ≤ 60000 → read_sheet s a b c items wits ≡ read_back d a b c items wits
  unfolding read_sheet
  read-lines s e l =
      let says : Says d (sheet_lines s) = rw e (document-says d) in
      read-says (sheet_lines s) says (answer (sheet_checks s (buffers_fit a b c items wits))) (sheet-passes s says l)

-- The lines of a written sheet are the document's, also where its last byte is missing.
written-lines : (d : Document) → Writable d → sheet_lines (write_sheet d) ≡ document_lines d
written-lines d w = ap sheet_lines (sheet-text d) ∙ sheet-said d w (end_text d ++ (10 ∷ [])) (ended-line (end_text d) (end-one-line d w))

unended-lines : (d : Document) → Writable d → (s : List ℕ) → write_sheet d ≡ s ++ (10 ∷ []) → sheet_lines s ≡ document_lines d
unended-lines d w s e =
    let front : text_of (front_texts d) ++ end_text d ≡ s =
    append_cancel_right (text_of (front_texts d) ++ end_text d) s (10 ∷ []) (append_assoc (text_of (front_texts d)) (end_text d) (10 ∷ []) ∙ sym (sheet-text d) ∙ e) in
    ap sheet_lines (sym front) ∙ sheet-said d w (end_text d) (last_line (end_text d) (omega arith) (end-one-line d w))

-- ---- the theorems

pub read-written : (d : Document) (a b c items wits : List ℕ) → Writable d → length (write_sheet d) ≤ 60000 → answer (document_checks d) ≡ 0
    → buffers_fit a b c items wits ≡ true → read_sheet (write_sheet d) a b c items wits ≡ read_back d a b c items wits
read-written d a b c items wits w l passes fit = read-lines d a b c items wits passes fit (write_sheet d) (written-lines d w) l

pub read-unended : (d : Document) (a b c items wits : List ℕ) (s : List ℕ) → write_sheet d ≡ s ++ (10 ∷ []) → Writable d → length s ≤ 60000
    → answer (document_checks d) ≡ 0 → buffers_fit a b c items wits ≡ true → read_sheet s a b c items wits ≡ read_back d a b c items wits
read-unended d a b c items wits s e w l passes fit = read-lines d a b c items wits passes fit s (unended-lines d w s e) l

-- ---- one document a sheet

-- The document that lines say.
entry_of : Line → Entry ℕ
entry_of l = record { row = get_or l.numbers 0 0; column = get_or l.numbers 1 0; value = get_or l.numbers 2 0 }

pairs_of : List Line → List Line → List Pair
pairs_of [] vs = []
pairs_of (l ∷ ls) [] = []
pairs_of (l ∷ ls) (v ∷ vs) = record { numbers = l.numbers; root = l.root; witness = v.numbers } ∷ pairs_of ls vs

document_of : List Line → Document
document_of ls = record {
  m = m ls;
  n = n ls;
  k = k ls;
  a = map entry_of (having EntryA ls);
  b = map entry_of (having EntryB ls);
  c = map entry_of (having EntryC ls);
  pairs = pairs_of (having Item ls) (having Wit ls);
}

entries-of : (w : Keyword) (es : List (Entry ℕ)) → map entry_of (map (entry_line w) es) ≡ es
unfolding entry_of
entries-of w [] = refl
entries-of w (e ∷ es) = ap (λ (t : List (Entry ℕ)). e ∷ t) (entries-of w es)

pairs_of_lem : (qs : List Pair) → pairs_of (map item_line_of qs) (map wit_line_of qs) ≡ qs
unfolding pairs_of
pairs_of_lem [] = refl
pairs_of_lem (q ∷ qs) = ap (λ (t : List Pair). q ∷ t) (pairs_of_lem qs)

document-of : (d : Document) → document_of (document_lines d) ≡ d
unfolding document_of
document-of d =
    rw
    (size-lines d, a-lines d, b-lines d, c-lines d, item-lines d, wit-lines d, entries-of EntryA d.a, entries-of EntryB d.b, entries-of EntryC d.c, pairs_of_lem d.pairs)

-- Documents that are written alike are the same.
pub written_apart : (d e : Document) → Writable d → Writable e → write_sheet d ≡ write_sheet e → d ≡ e
written_apart d e w v h =
    sym (ap document_of (written-lines d w) ∙ document-of d) ∙ ap (λ (s : List ℕ). document_of (sheet_lines s)) h ∙ (ap document_of (written-lines e v) ∙ document-of e)
