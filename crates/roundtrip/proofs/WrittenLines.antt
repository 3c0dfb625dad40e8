-- The lines of a written sheet: their texts, and what they say.
use mathlib.Core.Path.{◌≡◌, refl, sym, ap, ap₂, ◌∙◌}
use mathlib.Core.Bool.{true}
use mathlib.Core.List.{List, [], ◌∷◌, ◌++◌, map, map-append, append_assoc}
use Prim.Native.Nat.{ℕ}
use native.Mathlib.Omega.{arith}
use borrow.Author.Tests.{le-leb}
use lib.ListN.{length}
use Rattle.std.specs.Prelude.{Some}
use Rattle.algebra.specs.Lists.{All}
use Rattle.algebra.proofs.ListLaws.{All-append}
use Rattle.theory.specs.R1cs.{Entry}
use Rattle.lines.specs.declared.keyword.Keyword.{Keyword}
use Rattle.lines.specs.declared.keyword.Keyword.TheVariants.{Size, EntryA, EntryB, EntryC, Wit, End}
use Rattle.lines.specs.Text.{lines}
use Rattle.lines.specs.Lines.{Line, keyword_of, count_fits, numbers_line, line_with, line_of, size_word, a_word, b_word, c_word, item_word, wit_word, end_word}
use Rattle.lines.specs.LineWriting.{write_line}
use Rattle.scan.specs.Sheet.{sheet_lines}
use Rattle.roundtrip.specs.Writing.{Pair, Document, number_fields, entry_numbers, write_entries, write_pairs, write_sheet, WritablePair, WritableEntries, Writable}
use Rattle.roundtrip.proofs.WrittenNumbers.{Plain}
use Rattle.roundtrip.proofs.WrittenText.{line_text, OneLine, one_line, line-more, line-ended, text_of, text_of-append, lines-front}
use Rattle.roundtrip.proofs.LineMeaning.{keyword-size, keyword-a, keyword-b, keyword-c, keyword-wit, keyword-end, plain-numbers, line-said, item_fields, item-plain, item-line-said}
use Rattle.roundtrip.proofs.DocumentLines.{entry_line, pair_lines, size_line, end_line, document_lines}

-- ---- texts, each without its last byte

abbrev size_text : Document → List ℕ
size_text d = line_text size_word (number_fields (d.m ∷ d.n ∷ d.k ∷ []))

pub entry_texts : List ℕ → List (Entry ℕ) → List (List ℕ)
entry_texts word [] = []
entry_texts word (e ∷ es) = line_text word (number_fields (entry_numbers e)) ∷ entry_texts word es

pub pair_texts : List Pair → List (List ℕ)
pair_texts [] = []
pair_texts (q ∷ qs) =
    line_text item_word (item_fields q.numbers q.root)
    ∷ line_text wit_word (number_fields q.witness)
    ∷ pair_texts qs

-- The lines between the first and the last, those before the last, and the last.
abbrev middle_texts : Document → List (List ℕ)
middle_texts d = entry_texts a_word d.a ++ (entry_texts b_word d.b ++ (entry_texts c_word d.c ++ pair_texts d.pairs))

abbrev pub front_texts : Document → List (List ℕ)
front_texts d = size_text d ∷ middle_texts d

abbrev pub end_text : Document → List ℕ
end_text d = line_text end_word (number_fields (length d.pairs ∷ []))

-- What is written is these texts, byte 10 behind each.
entries-text : (word : List ℕ) (es : List (Entry ℕ)) → write_entries word es ≡ text_of (entry_texts word es)
unfolding write_entries entry_texts text_of
entries-text word [] = refl
entries-text word (e ∷ es) = rw (entries-text word es) (line-more word (number_fields (entry_numbers e)) (text_of (entry_texts word es)))

pairs-text : (qs : List Pair) → write_pairs qs ≡ text_of (pair_texts qs)
unfolding write_pairs pair_texts text_of
pairs-text [] = refl
pairs-text (q ∷ qs) =
    rw (pairs-text qs, line-more wit_word (number_fields q.witness) (text_of (pair_texts qs)))
    (line-more item_word (item_fields q.numbers q.root)
    (line_text wit_word (number_fields q.witness) ++ (10 ∷ text_of (pair_texts qs))))

module _ (d : Document) where
  -- What is written behind the first line.
  abbrev written : List ℕ
  written =
      write_entries a_word d.a
      ++ (write_entries b_word d.b
      ++ (write_entries c_word d.c
      ++ (write_pairs d.pairs
      ++ write_line end_word (number_fields (length d.pairs ∷ [])))))

  middle-text : written ≡ text_of (middle_texts d) ++ (end_text d ++ (10 ∷ []))
  middle-text =
      rw (
        entries-text a_word d.a,
        entries-text b_word d.b,
        entries-text c_word d.c,
        pairs-text d.pairs,
        line-ended end_word (number_fields (length d.pairs ∷ [])),
      )
      (sym (simp (text_of-append, append_assoc)))

  pub sheet-text : write_sheet d ≡ text_of (front_texts d) ++ (end_text d ++ (10 ∷ []))
  unfolding write_sheet text_of
  sheet-text =
      line-more size_word (number_fields (d.m ∷ d.n ∷ d.k ∷ [])) written
      ∙ ap (λ (t : List ℕ). size_text d ++ (10 ∷ t)) middle-text
      ∙ sym (append_assoc (size_text d) (10 ∷ text_of (middle_texts d)) (end_text d ++ (10 ∷ [])))

-- ---- what they say

-- Lines of entries: the keyword, and three numbers.
module _ (w : Keyword) (word : List ℕ) (plain : Plain word) (keyword : keyword_of word ≡ Some w)
    (numbers : (fs : List (List ℕ)) → line_with (Some w) fs ≡ numbers_line w fs) (three : count_fits w 3 ≡ true) where
  entries-said : (es : List (Entry ℕ)) → WritableEntries es → map line_of (entry_texts word es) ≡ map (entry_line w) es
  unfolding entry_texts
  entries-said [] h = refl
  entries-said (e ∷ es) h = ap₂ {C = List Line} ◌∷◌ (line-said w word (entry_numbers e) plain keyword numbers h.0 three) (entries-said es h.1)

entries-lines : (word : List ℕ) → Plain word → (es : List (Entry ℕ)) → WritableEntries es → All OneLine (entry_texts word es)
unfolding entry_texts
entries-lines word p [] h = tt
entries-lines word p (e ∷ es) h = (one_line word (number_fields (entry_numbers e)) p (plain-numbers (entry_numbers e) h.0), entries-lines word p es h.1)

pairs-said : (qs : List Pair) → All WritablePair qs → map line_of (pair_texts qs) ≡ pair_lines qs
unfolding pair_texts pair_lines
pairs-said [] h = refl
pairs-said (q ∷ qs) h =
    let (some, small, one, fits, size, below) = h.0 in
    ap₂ {C = List Line} ◌∷◌
    (item-line-said q.numbers q.root some small size below)
    (ap₂ {C = List Line} ◌∷◌
    (line-said Wit wit_word q.witness (omega arith) keyword-wit (λ fs. refl) fits (le-leb 1 (length q.witness) one))
    (pairs-said qs h.1))

pairs-lines : (qs : List Pair) → All WritablePair qs → All OneLine (pair_texts qs)
unfolding pair_texts
pairs-lines [] h = tt
pairs-lines (q ∷ qs) h =
    let (some, small, one, fits, size, below) = h.0 in (
      one_line item_word (item_fields q.numbers q.root) (omega arith)
          (item-plain q.numbers q.root some small size below),
      (one_line wit_word (number_fields q.witness) (omega arith) (plain-numbers q.witness fits), pairs-lines qs h.1),
    )

module _ (d : Document) (writable : Writable d) where
  front-lines : All OneLine (front_texts d)
  front-lines = (
    one_line size_word (number_fields (d.m ∷ d.n ∷ d.k ∷ [])) (omega arith) (plain-numbers (d.m ∷ d.n ∷ d.k ∷ []) writable.0),
    All-append OneLine (entry_texts a_word d.a) _ (entries-lines a_word (omega arith) d.a writable.1)
        (All-append OneLine (entry_texts b_word d.b) _ (entries-lines b_word (omega arith) d.b writable.2)
        (All-append OneLine (entry_texts c_word d.c) _ (entries-lines c_word (omega arith) d.c writable.3) (pairs-lines d.pairs writable.4))),
  )

  pub end-one-line : OneLine (end_text d)
  end-one-line = one_line end_word (number_fields (length d.pairs ∷ [])) (omega arith) (plain-numbers (length d.pairs ∷ []) (writable.5, tt))

  end-said : line_of (end_text d) ≡ end_line d
  end-said = line-said End end_word (length d.pairs ∷ []) (omega arith) keyword-end (λ fs. refl) (writable.5, tt) refl

  size-said : line_of (size_text d) ≡ size_line d
  size-said = line-said Size size_word (d.m ∷ d.n ∷ d.k ∷ []) (omega arith) keyword-size (λ fs. refl) writable.0 refl

  texts-said : map line_of (front_texts d ++ (end_text d ∷ [])) ≡ document_lines d
  texts-said =
      simp
      (append_assoc, map-append)
      (ap₂ {C = List Line} ◌∷◌ size-said
      (ap₂ {C = List Line} ◌++◌ (entries-said EntryA a_word (omega arith) keyword-a (λ fs. refl) refl d.a writable.1)
      (ap₂ {C = List Line} ◌++◌ (entries-said EntryB b_word (omega arith) keyword-b (λ fs. refl) refl d.b writable.2)
      (ap₂ {C = List Line} ◌++◌ (entries-said EntryC c_word (omega arith) keyword-c (λ fs. refl) refl d.c writable.3)
      (ap₂ {C = List Line} ◌++◌ (pairs-said d.pairs writable.4) (ap (λ (l : Line). l ∷ []) end-said))))))

  -- The front of the sheet, and behind it a text whose one line is the last.
  pub sheet-said : (rest : List ℕ) → lines rest ≡ end_text d ∷ [] → sheet_lines (text_of (front_texts d) ++ rest) ≡ document_lines d
  unfolding sheet_lines
  sheet-said rest e = rw (lines-front (front_texts d) rest front-lines, e) texts-said
