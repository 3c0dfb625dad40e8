-- What a line that may stand puts into its buffer: the bytes of what it says, if there is room.
use mathlib.Core.Path.{◌≡◌, refl, sym, ap, subst, ◌∙◌}
use mathlib.Core.Bool.{Bool, true, false, cond, ◌&&◌, false≢true}
use mathlib.Core.Logic.{⊎_elim}
use mathlib.Core.List.{List, [], ◌∷◌, ◌++◌, map, append-nil}
use Prim.Native.Nat.{ℕ}
use borrow.Author.Tests.{eq-eqb}
use lib.ListN.{length}
use Rattle.std.specs.Prelude.{Option, Some, None}
use Rattle.numbers.specs.Numbers.{bytes}
use Rattle.numbers.proofs.Tests.{and_left}
use Rattle.lines.specs.declared.keyword.Keyword.{Keyword}
use Rattle.lines.specs.declared.keyword.Keyword.TheVariants.{Size, EntryA, EntryB, EntryC, Item, Wit, End}
use Rattle.scan.specs.declared.state.State.{State}
use Rattle.lines.specs.Text.{all_pass, decimal, is_number, hex_bytes, fields}
use Rattle.lines.specs.Lines.{broken, keyword_of, count_fits, front, last, numbers_line, item_line, line_with, line_of_fields, line_of}
use Rattle.lines.specs.Cursor.{is_item, appended_numbers, appended_item}
use Rattle.scan.specs.Sheet.{number, same_keyword, follows, having, line_bytes, bytes_of}
use Rattle.scan.specs.Scan.{count_in, fields_into, line_into}
use Rattle.lines.proofs.AppendLaws.{Appended, appended-none, numbers-appended, item-appended}
use Rattle.scan.proofs.SheetLaws.{same-keyword}
use Rattle.scan.proofs.ScanLaws.{follows-none}
use Rattle.scan.proofs.KeywordLines.{keyword-or-none}

-- The bytes of one line with the keyword.
bytes-of-line : (w : Keyword) (xs root : List ℕ) → bytes_of w (record { keyword = Some w; numbers = xs; root = root } ∷ []) ≡ bytes xs ++ root
unfolding having line_bytes
bytes-of-line w xs root = rw (eq-eqb (number (Some w)) (number (Some w)) refl) (append-nil (bytes xs ++ root))

none-some : {A : Type 0} {w : Keyword} → None ≡ Some w → A
none-some e = cc

same-word : {v w : Keyword} → Some v ≡ Some w → v ≡ w
same-word e = cc

-- ---- a line of the keyword

module _ (count : ℕ) (fs : List (List ℕ)) (held : List ℕ) where
  numbers-put : (w : Keyword) → (numbers_line w fs).keyword ≡ Some w → Appended count (bytes_of w (numbers_line w fs ∷ [])) held (appended_numbers count fs held)
  numbers-put w = go (all_pass is_number fs && count_fits w (length fs)) refl
    where
      go : (t : Bool) → (all_pass is_number fs && count_fits w (length fs)) ≡ t → (let l = cond t (record { keyword = Some w; numbers = map decimal fs; root = [] }) broken in l.keyword ≡ Some w → Appended count (bytes_of w (l ∷ [])) held (appended_numbers count fs held))
      go true e k = rw (bytes-of-line w (map decimal fs) [], append-nil) (numbers-appended count fs held refl (and_left (all_pass is_number fs) _ e))
      go false e k = none-some k

  item-put : (item_line fs).keyword ≡ Some Item → Appended count (bytes_of Item (item_line fs ∷ [])) held (appended_item count fs held)
  item-put = go (is_item fs) refl
    where
      go : (t : Bool) → is_item fs ≡ t
          → (let l = cond t (record { keyword = Some Item; numbers = map decimal (front fs); root = hex_bytes (last fs) }) broken in l.keyword ≡ Some Item → Appended count (bytes_of Item (l ∷ [])) held (appended_item count fs held))
      go true e k = rw (bytes-of-line Item (map decimal (front fs)) (hex_bytes (last fs))) (item-appended count fs held refl e)
      go false e k = none-some k

  line-put : (w : Keyword) → (line_with (Some w) fs).keyword ≡ Some w → Appended count (bytes_of w (line_with (Some w) fs ∷ [])) held (fields_into w count fs held)
  line-put Size k = numbers-put Size k
  line-put EntryA k = numbers-put EntryA k
  line-put EntryB k = numbers-put EntryB k
  line-put EntryC k = numbers-put EntryC k
  line-put Item k = item-put k
  line-put Wit k = numbers-put Wit k
  line-put End k = numbers-put End k

-- ---- any line

module _ (w : Keyword) (st : State) (fs : List (List ℕ)) (held : List ℕ) where
  word-put : (v : Option Keyword) → (line_with v fs).keyword ≡ v → follows st.last v ≡ true
      → Appended (count_in w st) (bytes_of w (line_with v fs ∷ [])) held (cond (follows st.last v && same_keyword (Some w) v) (fields_into w (count_in w st) fs held) held)
  unfolding having line_bytes
  word-put None k may = absurd (false≢true (sym (follows-none st.last) ∙ may))
  word-put (Some v) k may = rw may (go (same_keyword (Some w) (Some v)) refl)
    where
      go : (t : Bool) → same_keyword (Some w) (Some v) ≡ t → Appended (count_in w st) (bytes_of w (line_with (Some v) fs ∷ [])) held (cond t (fields_into w (count_in w st) fs held) held)
      go true e =
          let q : w ≡ v = same-word (same-keyword (Some w) (Some v) e) in
          subst (λ (u : Keyword). Appended (count_in w st) (bytes_of u (line_with (Some v) fs ∷ [])) held (fields_into u (count_in w st) fs held)) (sym q) (line-put (count_in w st) fs held v k)
      go false e = rw (k, e) (appended-none (count_in w st) held)

pub text-put : (w : Keyword) (st : State) (t held : List ℕ) → follows st.last (line_of t).keyword ≡ true
    → Appended (count_in w st) (bytes_of w (line_of t ∷ [])) held (line_into w st (fields t) held)
unfolding line_of line_into
text-put w st t held = go (fields t)
  where
    never : {A : Type 0} {v : Option Keyword} → v ≡ None → follows st.last v ≡ true → A
    never e f = absurd (false≢true (sym (follows-none st.last) ∙ ap (follows st.last) (sym e) ∙ f))

    go : (fs : List (List ℕ)) → follows st.last (line_of_fields fs).keyword ≡ true → Appended (count_in w st) (bytes_of w (line_of_fields fs ∷ [])) held (line_into w st fs held)
    go [] f = never refl f
    go (x ∷ fs) f =
        let v = keyword_of x in
        let k : (line_with v fs).keyword ≡ v = ⊎_elim (λ h. h) (λ h. never h f) (keyword-or-none v fs) in
        word-put w st fs held v k (ap (follows st.last) (sym k) ∙ f)
