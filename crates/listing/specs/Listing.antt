-- What `claims` prints (paper 01, "The sheet and its claims listing").
use Rattle.std.specs.Prelude.{Bool, true, cond, List, [], ◌∷◌, ◌++◌, ℕ, zero, suc, ◌*◌, take, eqb}
use Rattle.algebra.specs.Lists.{concat_to}
use Rattle.field.specs.BabyBear.{R, val}
use Rattle.theory.specs.R1cs.{value}
use Rattle.theory.specs.Checks.{answer}
use Rattle.theory.specs.Buffers.{number_at}
use Rattle.theory.specs.Fp.{circuit, item_size, item_part, read_item, read_witness}
use Rattle.lines.specs.declared.keyword.Keyword.TheVariants.{EntryA, EntryB, EntryC, Item, Wit}
use Rattle.lines.specs.Lines.{Line}
use Rattle.lines.specs.LineWriting.{write_number, write_line}
use Rattle.scan.specs.Sheet.{sheet_lines, m, n, k, pairs, bytes_of}
use Rattle.validation.specs.declared.reading.Reading.{Reading}
use Rattle.validation.specs.SheetChecks.{sheet_checks}

-- ---- an item's line, from the bytes of the circuit, the items and the witnesses

module _ (m n k : ℕ) (a b c items wits : List ℕ) where
  -- The e of item i, and its value with witness i.
  abbrev pub claim_e : ℕ → ℕ
  claim_e i = number_at (item_part m n items i) 0

  unfoldable pub claim_value : ℕ → ℕ
  claim_value i =
      let item = read_item m n (item_part m n items i) in
      val (value R (circuit a b c) item.r item.x (read_witness k wits i))

abbrev pub verdict_word : Bool → List ℕ
verdict_word holds = cond holds (104 ∷ 111 ∷ 108 ∷ 100 ∷ 115 ∷ []) (100 ∷ 105 ∷ 102 ∷ 102 ∷ 101 ∷ 114 ∷ 115 ∷ [])  -- holds, differs

-- Index, value, e, and `holds` or `differs`.
abbrev pub claim_line : ℕ → ℕ → ℕ → List ℕ
claim_line i v e = write_line (write_number i) (write_number v ∷ write_number e ∷ verdict_word (eqb v e) ∷ [])

-- The lines of the first `count` items.
abbrev pub claim_lines : ℕ → ℕ → ℕ → List ℕ → List ℕ → List ℕ → List ℕ → List ℕ → ℕ → List ℕ
claim_lines m n k a b c items wits count = concat_to count (λ i. claim_line i (claim_value m n k a b c items wits i) (claim_e m n k a b c items wits i))

-- ---- the listing

abbrev pub claims_head : ℕ → List ℕ
claims_head count = write_line (99 ∷ 108 ∷ 97 ∷ 105 ∷ 109 ∷ 115 ∷ []) (write_number count ∷ [])  -- claims

abbrev pub refusal : ℕ → List ℕ
refusal r = write_line (114 ∷ 101 ∷ 102 ∷ 117 ∷ 115 ∷ 101 ∷ 100 ∷ []) (write_number r ∷ [])  -- refused

-- `claims` and the item count, and then the items.
abbrev pub claims : ℕ → ℕ → ℕ → ℕ → List ℕ → List ℕ → List ℕ → List ℕ → List ℕ → List ℕ
claims m n k pairs a b c items wits = claims_head pairs ++ claim_lines m n k a b c items wits pairs

-- The same of a reading and the buffers that it wrote from the front.
abbrev pub claims_read : Reading → List ℕ → List ℕ → List ℕ → List ℕ → List ℕ → List ℕ
claims_read r a b c items wits =
    claims r.sizes.m r.sizes.n r.sizes.k r.pairs
    (take (12 * r.a) a) (take (12 * r.b) b) (take (12 * r.c) c) (take (r.pairs * item_size r.sizes.m r.sizes.n) items) (take (r.pairs * (4 * r.sizes.k)) wits)

-- `claims` and the items; or only `refused` and the number.
abbrev pub listing_of : ℕ → List Line → List ℕ
listing_of zero ls = claims (m ls) (n ls) (k ls) (pairs ls) (bytes_of EntryA ls) (bytes_of EntryB ls) (bytes_of EntryC ls) (bytes_of Item ls) (bytes_of Wit ls)
listing_of (suc r) ls = refusal (suc r)

unfoldable pub listing : List ℕ → List ℕ
listing s = listing_of (answer (sheet_checks s true)) (sheet_lines s)
