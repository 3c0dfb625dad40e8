-- The listing of a sheet: what the reader's result and the buffers that it wrote have to do with it, and what of it is written.
use mathlib.Core.Path.{◌≡◌, refl, sym, ap, ap₂, ◌∙◌}
use mathlib.Core.Bool.{Bool, true, ◌&&◌}
use mathlib.Core.List.{List}
use Prim.Native.Nat.{ℕ, zero, suc, ◌*◌, ◌≤◌}
use native.Mathlib.Nat.{mul_left_comm}
use native.Mathlib.Omega.{arith}
use borrow.Author.Tests.{eq-eqb}
use Rattle.std.specs.Prelude.{replicate, Result, Ok, Err}
use Rattle.checks.specs.declared.refusal.Refusal.{Refusal}
use Rattle.checks.specs.Refusals.{number_of}
use Rattle.checks.proofs.Calls.{some-number}
use Rattle.std.proofs.lemmas.List.{length-replicate}
use lib.Dec.{eqb}
use lib.ListN.{length, take, drop, length-append}
use lib.Seq.{take_at}
use Rattle.numbers.proofs.Tests.{and_left, and_right, ◌&◌}
use Rattle.theory.specs.Checks.{answer, written}
use Rattle.theory.specs.Sizes.{elements_below, circuit_below, circuit_in_order}
use Rattle.theory.specs.Fp.{item_size, items_below}
use Rattle.theory.proofs.CheckLaws.{written-accepted}
use Rattle.lines.specs.declared.keyword.Keyword.TheVariants.{EntryA, EntryB, EntryC, Item, Wit}
use Rattle.lines.specs.Lines.{Line}
use Rattle.validation.specs.declared.reading.Reading.{Reading}
use Rattle.scan.specs.Sheet.{sheet_lines, m, n, k, pairs, bytes_of, filled}
use Rattle.validation.specs.SheetChecks.{buffers_fit, sheet_checks, outcome}
use Rattle.sheet.specs.Reading.{read_sheet}
use Rattle.sheet.proofs.SheetCall.{Called, the-answer, zero-answer, all-passed, counts, a-long, b-long, c-long, items-long, wits-long}
use Rattle.listing.specs.Listing.{refusal, claims, claims_read, listing_of, listing}

-- The scratch buffers have the lengths that the reader asks for.
pub scratch-fit : buffers_fit (replicate 12288 0) (replicate 12288 0) (replicate 12288 0) (replicate 20224 0) (replicate 16384 0) ≡ true
scratch-fit = long 12288 & long 12288 & long 12288 & long 20224 & long 16384
  where
    long : (size : ℕ) → eqb (length {A = ℕ} (replicate size 0)) size ≡ true
    long size = eq-eqb _ _ (length-replicate size 0)

listing-refused : (r : ℕ) (ls : List Line) → (r ≡ 0 → ⊥) → listing_of r ls ≡ refusal r
listing-refused zero ls h = absurd (h refl)
listing-refused (suc r) ls h = refl

same-claims : (m n k pairs : ℕ) {a a' b b' c c' items items' wits wits' : List ℕ} → a ≡ a' → b ≡ b' → c ≡ c' → items ≡ items' → wits ≡ wits'
    → claims m n k pairs a b c items wits ≡ claims m n k pairs a' b' c' items' wits'
same-claims m n k pairs {a} {a'} {b} {b'} {c} {c'} {items} {items'} {wits} {wits'} ea eb ec ei ew =
    ap₂ (λ (x y : List ℕ). claims m n k pairs x y c items wits) ea eb
    ∙ ap₂ (λ (x y : List ℕ). claims m n k pairs a' b' x y wits) ec ei
    ∙ ap (claims m n k pairs a' b' c' items') ew

same-order : (m n k : ℕ) {a a' b b' c c' : List ℕ} → a ≡ a' → b ≡ b' → c ≡ c' → circuit_in_order m n k a b c ≡ circuit_in_order m n k a' b' c'
same-order m n k {a} {a'} {b} {b'} {c} {c'} ea eb ec = ap₂ (λ (x y : List ℕ). circuit_in_order m n k x y c) ea eb ∙ ap (circuit_in_order m n k a' b') ec

-- A buffer starts with xs, `size` bytes.
abbrev Front : ℕ → List ℕ → List ℕ → Type 0
Front size buffer xs = (take size buffer ≡ xs) × (size ≤ length buffer)

-- So does one that was filled with them.
filled-front : {r size : ℕ} {buffer : List ℕ} (xs held : List ℕ) → r ≡ 0 → buffer ≡ written r (filled xs held) held → length xs ≡ size → Front size buffer xs
filled-front {r} {size} {buffer} xs held z e long =
    let all : buffer ≡ filled xs held = e ∙ written-accepted (filled xs held) held z in
    (ap (take size) all ∙ take_at xs (drop (length xs) held) size long, omega (arith, ap length all, length-append xs (drop (length xs) held)))

-- ---- what the reader answered and wrote
module _ (s a b c items wits : List ℕ) (fit : buffers_fit a b c items wits ≡ true) where
  abbrev ls : List Line
  ls = sheet_lines s

  sheet-answer : {result : Result Reading Refusal} → Called s a b c items wits result → (outcome result).answer ≡ answer (sheet_checks s true)
  sheet-answer called = the-answer called ∙ ap (λ (t : Bool). answer (sheet_checks s t)) fit

  called : (result : Result Reading Refusal) → outcome result ≡ (read_sheet s a b c items wits).result → Called s a b c items wits result
  unfolding read_sheet
  called result read = record { answered = read }

  -- The listing of a sheet that fails a check.
  pub refused : (e : Refusal) → outcome (Err e) ≡ (read_sheet s a b c items wits).result → refusal (number_of e) ≡ listing s
  unfolding listing
  refused e read =
      let told : number_of e ≡ answer (sheet_checks s true) = sheet-answer (called (Err e) read) in
      ap refusal told ∙ sym (listing-refused (answer (sheet_checks s true)) ls (λ z. some-number e (told ∙ z)))

  module _ (r : Reading) (read : outcome (Ok r) ≡ (read_sheet s a b c items wits).result) {a' b' c' items' wits' : List ℕ}
      (read_a : a' ≡ (read_sheet s a b c items wits).a) (read-b : b' ≡ (read_sheet s a b c items wits).b) (read-c : c' ≡ (read_sheet s a b c items wits).c)
      (read-items : items' ≡ (read_sheet s a b c items wits).items) (read-wits : wits' ≡ (read_sheet s a b c items wits).wits) where
    accepted : Called s a b c items wits (Ok r)
    accepted = called (Ok r) read

    pub front-a : Front (12 * r.a) a' (bytes_of EntryA (sheet_lines s))
    unfolding read_sheet
    front-a = filled-front (bytes_of EntryA ls) a (zero-answer accepted) read_a (a-long accepted)

    pub front-b : Front (12 * r.b) b' (bytes_of EntryB (sheet_lines s))
    unfolding read_sheet
    front-b = filled-front (bytes_of EntryB ls) b (zero-answer accepted) read-b (b-long accepted)

    pub front-c : Front (12 * r.c) c' (bytes_of EntryC (sheet_lines s))
    unfolding read_sheet
    front-c = filled-front (bytes_of EntryC ls) c (zero-answer accepted) read-c (c-long accepted)

    pub front_items : Front (r.pairs * item_size r.sizes.m r.sizes.n) items' (bytes_of Item (sheet_lines s))
    unfolding read_sheet
    front_items = filled-front (bytes_of Item ls) items (zero-answer accepted) read-items (items-long accepted)

    pub front-wits : Front (r.pairs * (4 * r.sizes.k)) wits' (bytes_of Wit (sheet_lines s))
    unfolding read_sheet
    front-wits = filled-front (bytes_of Wit ls) wits (zero-answer accepted) read-wits (wits-long accepted ∙ mul_left_comm 4 r.pairs r.sizes.k)

    -- Checks 3 and 4 of what lies at the fronts, between which the sheet passes 12; 13 stands behind them.
    pub items-below : items_below r.sizes.m r.sizes.n r.pairs (take (r.pairs * item_size r.sizes.m r.sizes.n) items') ≡ true
    items-below =
        let circuit-below = circuit_below (bytes_of EntryA ls) (bytes_of EntryB ls) (bytes_of EntryC ls) in
        let below = items_below (m ls) (n ls) (pairs ls) (bytes_of Item ls) in
        let of-lines : below ≡ true = and_right circuit-below below (and_left (circuit-below && below) (elements_below (bytes_of Wit ls)) (all-passed accepted).1.1.0) in
        ap (items_below r.sizes.m r.sizes.n r.pairs) front_items.0 ∙ rw ((counts accepted).m-is, (counts accepted).n-is, (counts accepted).pairs-is) of-lines

    pub in-order : circuit_in_order r.sizes.m r.sizes.n r.sizes.k (take (12 * r.a) a') (take (12 * r.b) b') (take (12 * r.c) c') ≡ true
    in-order =
        same-order r.sizes.m r.sizes.n r.sizes.k front-a.0 front-b.0 front-c.0
        ∙ rw ((counts accepted).m-is, (counts accepted).n-is, (counts accepted).k-is) (all-passed accepted).1.1.1.1.0

    -- The listing.
    pub listed : claims_read r a' b' c' items' wits' ≡ listing s
    unfolding listing
    listed =
        same-claims r.sizes.m r.sizes.n r.sizes.k r.pairs front-a.0 front-b.0 front-c.0 front_items.0 front-wits.0
        ∙ rw ((counts accepted).m-is, (counts accepted).n-is, (counts accepted).k-is, (counts accepted).pairs-is)
        (ap (λ (x : ℕ). listing_of x ls) (sheet-answer accepted))
