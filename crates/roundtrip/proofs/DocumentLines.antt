-- The lines that a document says: their order, those with each keyword, and their bytes.
use mathlib.Core.Path.{◌≡◌, refl, ap, ◌∙◌}
use mathlib.Core.Bool.{true, false}
use mathlib.Core.List.{List, [], ◌∷◌, ◌++◌, map, append-nil}
use Prim.Native.Nat.{ℕ}
use borrow.Author.Tests.{eq-eqb}
use lib.ListN.{length}
use Rattle.std.specs.Prelude.{Option, Some}
use Rattle.numbers.specs.Numbers.{bytes}
use Rattle.numbers.proofs.Tests.{◌&◌}
use Rattle.theory.specs.R1cs.{Entry}
use Rattle.lines.specs.declared.keyword.Keyword.{Keyword}
use Rattle.lines.specs.declared.keyword.Keyword.TheVariants.{Size, EntryA, EntryB, EntryC, Item, Wit, End}
use Rattle.lines.specs.Lines.{Line}
use Rattle.scan.specs.Sheet.{number, same_keyword, follows, ordered_after, ordered, having, line_bytes}
use Rattle.roundtrip.specs.Writing.{Pair, Document, entry_numbers, entry_bytes, items_bytes, witness_bytes}
use Rattle.scan.proofs.SheetLaws.{having-append}
use Rattle.roundtrip.proofs.LineMeaning.{said, item_said}

-- ---- the lines

abbrev pub entry_line : Keyword → Entry ℕ → Line
entry_line w e = said w (entry_numbers e)

abbrev pub item_line_of : Pair → Line
item_line_of q = item_said q.numbers q.root

abbrev pub wit_line_of : Pair → Line
wit_line_of q = said Wit q.witness

unfoldable pub pair_lines : List Pair → List Line
pair_lines [] = []
pair_lines (q ∷ qs) = item_line_of q ∷ wit_line_of q ∷ pair_lines qs

abbrev pub size_line : Document → Line
size_line d = said Size (d.m ∷ d.n ∷ d.k ∷ [])

abbrev pub end_line : Document → Line
end_line d = said End (length d.pairs ∷ [])

abbrev pub document_lines : Document → List Line
document_lines d =
    size_line d ∷ (map (entry_line EntryA) d.a ++ (map (entry_line EntryB) d.b ++ (map (entry_line EntryC) d.c ++ (pair_lines d.pairs ++ (end_line d ∷ [])))))

-- ---- their order

-- Any entries of one matrix, before lines that are in order with and without them.
ordered-entries : (v : Option Keyword) (w : Keyword) (es : List (Entry ℕ)) (rest : List Line) → follows v (Some w) ≡ true → follows (Some w) (Some w) ≡ true
    → ordered_after v rest ≡ true → ordered_after (Some w) rest ≡ true → ordered_after v (map (entry_line w) es ++ rest) ≡ true
unfolding ordered_after
ordered-entries v w [] rest h g none some = none
ordered-entries v w (e ∷ es) rest h g none some = h & ordered-entries (Some w) w es rest g g some some

ordered-pairs : (v : Option Keyword) (qs : List Pair) (e : List ℕ) → follows v (Some Item) ≡ true → follows v (Some End) ≡ true → ordered_after v (pair_lines qs ++ (said End e ∷ [])) ≡ true
unfolding ordered_after pair_lines
ordered-pairs v [] e h g = g & refl
ordered-pairs v (q ∷ qs) e h g = h & ordered-pairs (Some Wit) qs e refl refl

module _ (d : Document) where
  -- The lines from the pairs on, from the entries of C on, and from those of B on.
  abbrev from_pairs : List Line
  from_pairs = pair_lines d.pairs ++ (end_line d ∷ [])

  abbrev from_c : List Line
  from_c = map (entry_line EntryC) d.c ++ from_pairs

  abbrev from_b : List Line
  from_b = map (entry_line EntryB) d.b ++ from_c

  from-pairs : (v : Option Keyword) → follows v (Some Item) ≡ true → follows v (Some End) ≡ true → ordered_after v from_pairs ≡ true
  from-pairs v = ordered-pairs v d.pairs (length d.pairs ∷ [])

  from-c : (v : Option Keyword) → follows v (Some EntryC) ≡ true → follows v (Some Item) ≡ true → follows v (Some End) ≡ true → ordered_after v from_c ≡ true
  from-c v h g f = ordered-entries v EntryC d.c from_pairs h refl (from-pairs v g f) (from-pairs (Some EntryC) refl refl)

  from-b : (v : Option Keyword) → follows v (Some EntryB) ≡ true → follows v (Some EntryC) ≡ true → follows v (Some Item) ≡ true → follows v (Some End) ≡ true → ordered_after v from_b ≡ true
  from-b v l h g f = ordered-entries v EntryB d.b from_c l refl (from-c v h g f) (from-c (Some EntryB) refl refl refl)

  pub document-ordered : ordered (document_lines d) ≡ true
  unfolding ordered_after
  document-ordered = ordered-entries (Some Size) EntryA d.a from_b refl refl (from-b (Some Size) refl refl refl refl) (from-b (Some EntryA) refl refl refl refl)

-- ---- the lines with a keyword

having-own : (w : Keyword) (es : List (Entry ℕ)) → having w (map (entry_line w) es) ≡ map (entry_line w) es
unfolding having
having-own w [] = refl
having-own w (e ∷ es) = rw (eq-eqb (number (Some w)) (number (Some w)) refl, having-own w es)

having-other : (w v : Keyword) (es : List (Entry ℕ)) → same_keyword (Some w) (Some v) ≡ false → having w (map (entry_line v) es) ≡ []
unfolding having
having-other w v [] h = refl
having-other w v (e ∷ es) h = rw h (having-other w v es h)

having-item : (qs : List Pair) → having Item (pair_lines qs) ≡ map item_line_of qs
unfolding having pair_lines
having-item [] = refl
having-item (q ∷ qs) = ap (λ (t : List Line). item_line_of q ∷ t) (having-item qs)

having-wit : (qs : List Pair) → having Wit (pair_lines qs) ≡ map wit_line_of qs
unfolding having pair_lines
having-wit [] = refl
having-wit (q ∷ qs) = ap (λ (t : List Line). wit_line_of q ∷ t) (having-wit qs)

having-no-pair : (w : Keyword) (qs : List Pair) → same_keyword (Some w) (Some Item) ≡ false → same_keyword (Some w) (Some Wit) ≡ false → having w (pair_lines qs) ≡ []
unfolding having pair_lines
having-no-pair w [] h g = refl
having-no-pair w (q ∷ qs) h g = rw (h, g) (having-no-pair w qs h g)

module _ (d : Document) where
  -- They are found part by part.
  having-parts : (w : Keyword) →
      having w (document_lines d)
      ≡ having w (size_line d ∷ [])
      ++ (having w (map (entry_line EntryA) d.a)
      ++ (having w (map (entry_line EntryB) d.b)
      ++ (having w (map (entry_line EntryC) d.c)
      ++ (having w (pair_lines d.pairs)
      ++ having w (end_line d ∷ [])))))
  having-parts w = having-append w (size_line d ∷ []) _ ∙ simp having-append

  pub size-lines : having Size (document_lines d) ≡ size_line d ∷ []
  unfolding having
  size-lines =
      having-parts Size
      ∙ rw (having-other Size EntryA d.a refl, having-other Size EntryB d.b refl, having-other Size EntryC d.c refl, having-no-pair Size d.pairs refl refl)

  pub a-lines : having EntryA (document_lines d) ≡ map (entry_line EntryA) d.a
  unfolding having
  a-lines =
      having-parts EntryA
      ∙ rw (having-own EntryA d.a, having-other EntryA EntryB d.b refl, having-other EntryA EntryC d.c refl, having-no-pair EntryA d.pairs refl refl)
      (append-nil (map (entry_line EntryA) d.a))

  pub b-lines : having EntryB (document_lines d) ≡ map (entry_line EntryB) d.b
  unfolding having
  b-lines =
      having-parts EntryB
      ∙ rw (having-other EntryB EntryA d.a refl, having-own EntryB d.b, having-other EntryB EntryC d.c refl, having-no-pair EntryB d.pairs refl refl)
      (append-nil (map (entry_line EntryB) d.b))

  pub c-lines : having EntryC (document_lines d) ≡ map (entry_line EntryC) d.c
  unfolding having
  c-lines =
      having-parts EntryC
      ∙ rw (having-other EntryC EntryA d.a refl, having-other EntryC EntryB d.b refl, having-own EntryC d.c, having-no-pair EntryC d.pairs refl refl)
      (append-nil (map (entry_line EntryC) d.c))

  pub item-lines : having Item (document_lines d) ≡ map item_line_of d.pairs
  unfolding having
  item-lines =
      having-parts Item
      ∙ rw (having-other Item EntryA d.a refl, having-other Item EntryB d.b refl, having-other Item EntryC d.c refl, having-item d.pairs)
      (append-nil (map item_line_of d.pairs))

  pub wit-lines : having Wit (document_lines d) ≡ map wit_line_of d.pairs
  unfolding having
  wit-lines =
      having-parts Wit
      ∙ rw (having-other Wit EntryA d.a refl, having-other Wit EntryB d.b refl, having-other Wit EntryC d.c refl, having-wit d.pairs)
      (append-nil (map wit_line_of d.pairs))

  pub end-lines : having End (document_lines d) ≡ end_line d ∷ []
  unfolding having
  end-lines =
      having-parts End
      ∙ rw (having-other End EntryA d.a refl, having-other End EntryB d.b refl, having-other End EntryC d.c refl, having-no-pair End d.pairs refl refl)

-- ---- their bytes

pub entries-bytes : (w : Keyword) (es : List (Entry ℕ)) → line_bytes (map (entry_line w) es) ≡ entry_bytes es
unfolding line_bytes entry_bytes
entries-bytes w [] = refl
entries-bytes w (e ∷ es) = rw (entries-bytes w es, append-nil (bytes (entry_numbers e)))

pub items-bytes : (qs : List Pair) → line_bytes (map item_line_of qs) ≡ items_bytes qs
unfolding line_bytes items_bytes
items-bytes [] = refl
items-bytes (q ∷ qs) = rw (items-bytes qs)

pub witnesses-bytes : (qs : List Pair) → line_bytes (map wit_line_of qs) ≡ witness_bytes qs
unfolding line_bytes witness_bytes
witnesses-bytes [] = refl
witnesses-bytes (q ∷ qs) = rw (witnesses-bytes qs, append-nil (bytes q.witness))
