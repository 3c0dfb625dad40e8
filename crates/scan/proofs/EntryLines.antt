-- The entries of a sheet in order stand before its first item: a pass that has read that far has read them all.
use mathlib.Core.Path.{◌≡◌, refl, sym, ap, ◌∙◌}
use mathlib.Core.Bool.{Bool, true, false, false≢true}
use mathlib.Core.List.{List, [], ◌∷◌, ◌++◌, map, append-nil}
use Prim.Native.Nat.{ℕ}
use Rattle.std.specs.Prelude.{Option, Some, None}
use Rattle.numbers.proofs.Tests.{and_left, and_right}
use Rattle.lines.specs.declared.keyword.Keyword.{Keyword}
use Rattle.lines.specs.declared.keyword.Keyword.TheVariants.{Size, EntryA, EntryB, EntryC, Item, Wit, End}
use Rattle.scan.specs.declared.state.State.{State}
use Rattle.lines.specs.Lines.{Line, line_of}
use Rattle.scan.specs.Sheet.{same_keyword, one_of, follows, ordered_after, ordered, sheet_lines, having}
use Rattle.scan.proofs.StateAfter.{last_keyword}
use Rattle.scan.proofs.SheetLaws.{same-keyword, having-append}
use Rattle.scan.proofs.ScanLaws.{prefix-order}
use Rattle.scan.proofs.ReadLines.{ReadLines}

-- ---- behind an item

abbrev pub behind_items : Option Keyword → Bool
behind_items v = one_of (Item ∷ Wit ∷ End ∷ []) v

stays-behind : (v w : Option Keyword) → behind_items v ≡ true → follows v w ≡ true → behind_items w ≡ true
stays-behind (Some Size) w p f = absurd (false≢true p)
stays-behind (Some EntryA) w p f = absurd (false≢true p)
stays-behind (Some EntryB) w p f = absurd (false≢true p)
stays-behind (Some EntryC) w p f = absurd (false≢true p)
stays-behind None w p f = absurd (false≢true p)
stays-behind (Some End) w p f = absurd (false≢true f)
stays-behind (Some Item) (Some Size) p f = absurd (false≢true f)
stays-behind (Some Item) (Some EntryA) p f = absurd (false≢true f)
stays-behind (Some Item) (Some EntryB) p f = absurd (false≢true f)
stays-behind (Some Item) (Some EntryC) p f = absurd (false≢true f)
stays-behind (Some Item) (Some Item) p f = refl
stays-behind (Some Item) (Some Wit) p f = refl
stays-behind (Some Item) (Some End) p f = refl
stays-behind (Some Item) None p f = absurd (false≢true f)
stays-behind (Some Wit) (Some Size) p f = absurd (false≢true f)
stays-behind (Some Wit) (Some EntryA) p f = absurd (false≢true f)
stays-behind (Some Wit) (Some EntryB) p f = absurd (false≢true f)
stays-behind (Some Wit) (Some EntryC) p f = absurd (false≢true f)
stays-behind (Some Wit) (Some Item) p f = refl
stays-behind (Some Wit) (Some Wit) p f = refl
stays-behind (Some Wit) (Some End) p f = refl
stays-behind (Some Wit) None p f = absurd (false≢true f)

none-behind : (u : Keyword) → behind_items (Some u) ≡ false → (v : Option Keyword) → behind_items v ≡ true → (ls : List Line) → ordered_after v ls ≡ true → having u ls ≡ []
unfolding ordered_after having
none-behind u n v p [] o = refl
none-behind u n v p (l ∷ ls) o =
    rw other (none-behind u n l.keyword stays ls (and_right (follows v l.keyword) _ o))
  where
    stays : behind_items l.keyword ≡ true
    stays = stays-behind v l.keyword p (and_left (follows v l.keyword) _ o)

    other : same_keyword (Some u) l.keyword ≡ false
    other = go (same_keyword (Some u) l.keyword) refl
      where
        go : (t : Bool) → same_keyword (Some u) l.keyword ≡ t → t ≡ false
        go true e = absurd (false≢true (sym n ∙ ap behind_items (same-keyword (Some u) l.keyword e) ∙ stays))
        go false e = refl

-- ---- the lines with a keyword

-- Where the last line read is an item, and the sheet is in order, all lines with a keyword that stands before the items are read.
module _ {s : List ℕ} {w : Keyword} {held₀ held : List ℕ} {texts : List (List ℕ)} {st : State} (read : ReadLines s w held₀ texts st held) (o : ordered (sheet_lines s) ≡ true) where
  abbrev ls : List Line
  ls = read.ls

  goes_on : ordered_after (last_keyword ls) (map line_of texts) ≡ true
  goes_on = sym (prefix-order ls read.in-order (map line_of texts)) ∙ ap ordered (sym read.split) ∙ o

  pub all-before : same_keyword st.last (Some Item) ≡ true → (u : Keyword) → behind_items (Some u) ≡ false → having u (sheet_lines s) ≡ having u ls
  all-before h u n =
      let at_item : behind_items (last_keyword ls) ≡ true = ap behind_items (sym (ap (λ x. x.last) read.state) ∙ same-keyword st.last (Some Item) h) in
      ap (having u) read.split ∙ having-append u ls (map line_of texts) ∙ ap (λ hs. having u ls ++ hs) (none-behind u n (last_keyword ls) at_item (map line_of texts) goes_on) ∙ append-nil (having u ls)
