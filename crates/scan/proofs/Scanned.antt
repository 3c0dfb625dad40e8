-- What a scan ends with, by the lines of the sheet: the last keyword tells whether the sheet is in order, and if it is, the state is the one behind the
-- last line, and each buffer is filled if there is room. Where not the whole sheet is asked for, this holds of the sizes and the entries.
use mathlib.Core.Path.{◌≡◌, refl, sym, ap, ◌∙◌}
use mathlib.Core.Bool.{Bool, true, false, true≢false}
use mathlib.Core.Logic.{inl, inr}
use mathlib.Core.List.{List, [], append-nil, nil≢cons}
use Prim.Native.Nat.{ℕ, ◌≤◌}
use native.Mathlib.Nat.{zero-add}
use native.Mathlib.Omega.{arith}
use borrow.Author.Tests.{leb-true, leb-false}
use lib.Dec.{leb}
use lib.ListN.{length}
use Rattle.std.specs.Prelude.{Some, None}
use Rattle.lines.specs.declared.keyword.Keyword.{Keyword}
use Rattle.lines.specs.declared.keyword.Keyword.TheVariants.{Size, EntryA, EntryB, EntryC, Wit, End}
use Rattle.scan.specs.declared.state.State.{State}
use Rattle.scan.specs.Sheet.{same_keyword, ordered_after, ordered, sheet_lines, having, bytes_of, filled}
use Rattle.scan.specs.Scan.{scanned, scanned_into}
use Rattle.lines.proofs.LineLengths.{first-of-lines}
use Rattle.lines.proofs.AppendLaws.{Appended}
use Rattle.scan.proofs.StateAfter.{state_after}
use Rattle.scan.proofs.SheetLaws.{same-keyword}
use Rattle.scan.proofs.ScanLaws.{prefix-order}
use Rattle.scan.proofs.ReadLines.{ReadLines, has_buffer, Ended, scan-ends}
use Rattle.scan.proofs.EntryLines.{behind_items, all-before}

-- A buffer was filled from the front with xs, if xs fits.
abbrev pub Filled : List ℕ → List ℕ → List ℕ → Type 0
Filled xs held now = (length xs ≤ length held → now ≡ filled xs held)

put-filled : (xs held now : List ℕ) → Appended 0 xs held now → Filled xs held now
put-filled xs held now put room = rw (zero-add (length xs)) at (put.1 (omega arith))

-- A state has the sizes and the entries of another.
abbrev pub SameEntries : State → State → Type 0
SameEntries r st = (r.sizes ≡ st.sizes) × (r.entries ≡ st.entries)

-- ---- no line is left

module _ {s : List ℕ} {w : Keyword} {held₀ held : List ℕ} {st : State} (read : ReadLines s w held₀ [] st held) where
  all_lines : sheet_lines s ≡ read.ls
  all_lines = read.split ∙ append-nil read.ls

  end-ordered : same_keyword st.last (Some End) ≡ ordered (sheet_lines s)
  unfolding ordered_after
  end-ordered = ap (λ x. same_keyword x.last (Some End)) read.state ∙ sym (ap ordered read.split ∙ prefix-order read.ls read.in-order [])

  end-at : st.at ≡ length s
  end-at = go (leb (length s) st.at) refl
    where
      go : (b : Bool) → leb (length s) st.at ≡ b → st.at ≡ length s
      go true e = omega (arith, leb-true (length s) st.at e, read.within)
      go false e = absurd (nil≢cons (read.left ∙ first-of-lines s st.at (leb-false (length s) st.at e)))

  end-state : st ≡ state_after (sheet_lines s) (length s)
  end-state = read.state ∙ rw (all_lines, end-at)

-- ---- the whole sheet. What it says of the state is read off the pass with any one buffer, here an empty one for `wit`.

module _ (s : List ℕ) where
  ordered-by : {w : Keyword} {held₀ held : List ℕ} {st : State} → Ended true s w held₀ st held → same_keyword st.last (Some End) ≡ ordered (sheet_lines s)
  ordered-by {st = st} (inl e) = ap (λ v. same_keyword v (Some End)) (same-keyword st.last None e.0) ∙ sym e.1
  ordered-by (inr (texts, (read, inl none))) = end-ordered (rw none at read)
  ordered-by (inr (texts, (read, inr part))) = absurd (true≢false part.0)

  pub scanned-ordered : {st : State} → st ≡ scanned true s → same_keyword st.last (Some End) ≡ ordered (sheet_lines s)
  scanned-ordered e = ap (λ x. same_keyword x.last (Some End)) e ∙ ordered-by (scan-ends true s Wit refl [])

  module _ (o : ordered (sheet_lines s) ≡ true) where
    -- In order, all lines are read.
    all_read : {w : Keyword} {held₀ held : List ℕ} {st : State} → Ended true s w held₀ st held → ReadLines s w held₀ [] st held
    all_read (inl e) = absurd (true≢false (sym o ∙ e.1))
    all_read (inr (texts, (read, inl none))) = rw none at read
    all_read (inr (texts, (read, inr part))) = absurd (true≢false part.0)

    pub scanned-state : {st : State} → st ≡ scanned true s → st ≡ state_after (sheet_lines s) (length s)
    scanned-state e = e ∙ end-state (all_read (scan-ends true s Wit refl []))

    pub scanned-filled : (w : Keyword) → has_buffer w ≡ true → (held : List ℕ) {now : List ℕ} → now ≡ scanned_into w true s held → Filled (bytes_of w (sheet_lines s)) held now
    scanned-filled w has held {now} e =
        let read = all_read (scan-ends true s w has held) in
        put-filled (bytes_of w (sheet_lines s)) held now (rw (e, all_lines read) read.put)

    -- ---- the sizes and the entries

    -- In order, those before the first item are read.
    before-item : {w : Keyword} {held₀ held : List ℕ} {st : State} → Ended false s w held₀ st held
        → (texts : List (List ℕ)) × (read : ReadLines s w held₀ texts st held) × ((u : Keyword) → behind_items (Some u) ≡ false → having u (sheet_lines s) ≡ having u read.ls)
    before-item (inl e) = absurd (true≢false (sym o ∙ e.1))
    before-item (inr (texts, (read, inl none))) = let all = rw none at read in ([], all, λ u n. ap (having u) (all_lines all))
    before-item (inr (texts, (read, inr part))) = (texts, read, all-before read o part.1)

    pub entries-state : {st : State} → st ≡ scanned false s → SameEntries st (state_after (sheet_lines s) (length s))
    entries-state e =
        let p = before-item (scan-ends false s Wit refl []) in
        let all = p.2 in
        let state = p.1.state in
        (rw (all Size refl) (ap (λ x. x.sizes) (e ∙ state)), rw (all EntryA refl, all EntryB refl, all EntryC refl) (ap (λ x. x.entries) (e ∙ state)))

    pub entries-filled : (w : Keyword) → has_buffer w ≡ true → behind_items (Some w) ≡ false → (held : List ℕ) {now : List ℕ} → now ≡ scanned_into w false s held
        → Filled (bytes_of w (sheet_lines s)) held now
    entries-filled w has before held {now} e =
        let p = before-item (scan-ends false s w has held) in
        put-filled (bytes_of w (sheet_lines s)) held now (rw (e, p.2 w before) p.1.put)
