-- Reading a line field by field: what is left to read from a place on is the whole of what was to be read.
use mathlib.Core.Path.{◌≡◌, refl, sym, ap, ◌∙◌}
use mathlib.Core.Bool.{Bool, true, false, cond, ◌&&◌, and-false}
use mathlib.Core.List.{List, ◌∷◌}
use Prim.Native.Nat.{ℕ, suc, ◌+◌, ◌-◌, ◌≤◌, min}
use native.Mathlib.Decide.{ℕ_discrete}
use native.Mathlib.Omega.{arith}
use borrow.Author.Tests.{le-leb}
use lib.Dec.{leb}
use lib.ListN.{length, get_or}
use Rattle.numbers.specs.Numbers.{bytes4}
use Rattle.std.specs.Prelude.{Option, None}
use Rattle.lines.specs.declared.number.Number.{Number}
use Rattle.lines.specs.declared.row.Row.{Row}
use Rattle.lines.specs.Text.{all_pass, decimal, is_number, is_root, hex_bytes}
use Rattle.lines.specs.Lines.{front, last}
use Rattle.lines.specs.Cursor.{field_at, field_end, fields_at, next_line, numbers_at, item_row_at, appended, appended_numbers, appended_item}
use Rattle.lines.proofs.FieldEnds.{first_field, end-within, is-tab, tab-fields, tab-next, last-fields, last-next}
use Rattle.lines.proofs.LineLengths.{number-length, root-length}
use Rattle.lines.proofs.FieldReads.{IsNumber}
use Rattle.lines.proofs.ReadLaws.{read_row}

-- The buffer behind a number that was read.
number_put : (s : List ℕ) (place n : ℕ) (buffer : List ℕ) (x : Number) → IsNumber s place x → (now : List ℕ) → now ≡ appended n (bytes4 x.value) buffer
    → appended n (bytes4 (decimal (field_at s place))) buffer ≡ now
number_put s place n buffer x read now put = sym (put ∙ ap (λ (y : ℕ). appended n (bytes4 y) buffer) read.1)

-- ---- numbers

-- The numbers from `place` on, behind n, are those from `at` on, behind `count`, and they leave the same buffer.
abbrev pub NumbersLeft : List ℕ → ℕ → ℕ → List ℕ → ℕ → ℕ → List ℕ → Type 0
NumbersLeft s at count held place n buffer =
    (numbers_at s at count ≡ numbers_at s place n)
    × (appended_numbers count (fields_at s at) held ≡ appended_numbers n (fields_at s place) buffer)

module _ (s : List ℕ) (at count : ℕ) (held : List ℕ) (place n : ℕ) (buffer : List ℕ) (left : NumbersLeft s at count held place n buffer) where
  -- What the line promises of a result and of the buffer then.
  abbrev NumbersRead : Option Row → List ℕ → Type 0
  NumbersRead r now = record { row : r ≡ numbers_at s at count; buffer : now ≡ appended_numbers count (fields_at s at) held }

  -- a field that is no number
  pub numbers-bad : is_number (field_at s place) ≡ false → NumbersRead None buffer
  unfolding numbers_at all_pass appended_numbers
  numbers-bad h =
      let e = (first_field s place).1 in
      record { row = sym (left.0 ∙ rw (e, h)); buffer = sym (left.1 ∙ rw (e, h)) }

  module _ (x : Number) (inside : place ≤ length s) (read : IsNumber s place x) (now : List ℕ) (put : now ≡ appended n (bytes4 x.value) buffer) where
    -- the last number of the line
    pub numbers-last : (get_or s x.end 0 ≡ 9 → ⊥) → NumbersRead (read_row (n + 1) (min (x.end + 1) (length s))) now
    unfolding numbers_at all_pass appended_numbers
    numbers-last h =
        let e = last-fields s place x.end inside read.2 h in
        record {
          row = sym (left.0 ∙ rw (e, read.0, last-next s place x.end inside read.2 h));
          buffer = sym (left.1 ∙ rw (e, read.0) (number_put s place n buffer x read now put));
        }

    -- another follows
    pub numbers_more : (x.end ≡ length s → ⊥) → (get_or s x.end 0 ≡ 10 → ⊥) → NumbersLeft s at count held (x.end + 1) (n + 1) now
    unfolding numbers_at all_pass appended_numbers
    numbers_more not_end not-newline =
        let b = is-tab s place x.end inside read.2 not_end not-newline in
        let e = tab-fields s place x.end inside read.2 b in
        let more : n + suc (length (fields_at s (x.end + 1))) ≡ n + 1 + length (fields_at s (x.end + 1)) = omega arith in (
          left.0 ∙ rw (e, read.0, more, tab-next s place x.end inside read.2 b),
          left.1 ∙ rw (e, read.0, number_put s place n buffer x read now put),
        )

-- ---- an item: numbers and a root

-- a root is no number
root-no-number : (f : List ℕ) → is_root f ≡ true → is_number f ≡ false
root-no-number f r = go (is_number f) refl
  where
    go : (t : Bool) → is_number f ≡ t → is_number f ≡ false
    go true e = absurd (omega (arith, number-length f e, root-length f r))
    go false e = e

pub root-within : (s : List ℕ) (place : ℕ) → place ≤ length s → is_root (field_at s place) ≡ true → place + 64 ≤ length s
root-within s place inside r = omega (arith, root-length (field_at s place) r, end-within s place (field_end s place) inside refl)

module _ (s : List ℕ) (place : ℕ) where
  -- a field before others
  front-more : (f : List ℕ) → front (f ∷ fields_at s place) ≡ f ∷ front (fields_at s place)
  unfolding front
  front-more f = rw (first_field s place).1

  last_more : (f : List ℕ) → last (f ∷ fields_at s place) ≡ last (fields_at s place)
  unfolding last
  last_more f = rw (first_field s place).1

-- Whether fields are an item behind `before` numbers of it.
abbrev rest_of_item : ℕ → List (List ℕ) → Bool
rest_of_item before fs = all_pass is_number (front fs) && leb 1 (before + length (front fs)) && is_root (last fs)

-- The row and the buffer, by whether the fields from `place` on are good.
abbrev row_if : Bool → List ℕ → ℕ → ℕ → Option Row
row_if good s place n = cond good (read_row (n + length (front (fields_at s place)) + 8) (next_line s place)) None

abbrev buffer_if : Bool → ℕ → List (List ℕ) → List ℕ → List ℕ
buffer_if good n fs buffer = cond good (appended (n + length (front fs)) (hex_bytes (last fs)) (appended_numbers n (front fs) buffer)) (appended_numbers n (front fs) buffer)

-- The rest of an item from `place` on, behind n, is the item from `at` on, behind `count`, and leaves the same buffer.
abbrev pub ItemLeft : List ℕ → ℕ → ℕ → List ℕ → ℕ → ℕ → List ℕ → Type 0
ItemLeft s at count held place n buffer =
    (item_row_at s at count ≡ row_if (rest_of_item (n - count) (fields_at s place)) s place n)
    × (appended_item count (fields_at s at) held ≡ buffer_if (rest_of_item (n - count) (fields_at s place)) n (fields_at s place) buffer)

pub item-start : (s : List ℕ) (at count : ℕ) (held : List ℕ) → ItemLeft s at count held at count held
unfolding item_row_at appended_item
item-start s at count held =
    let none : count - count + length (front (fields_at s at)) ≡ length (front (fields_at s at)) = omega arith in
    (sym (rw none), sym (rw none))

module _ (s : List ℕ) (at count : ℕ) (held : List ℕ) (place n : ℕ) (buffer : List ℕ) (left : ItemLeft s at count held place n buffer) (inside : place ≤ length s) where
  abbrev ItemRead : Option Row → List ℕ → Type 0
  ItemRead r now = record { row : r ≡ item_row_at s at count; buffer : now ≡ appended_item count (fields_at s at) held }

  -- another number
  pub item-more : count ≤ n → (x : Number) → IsNumber s place x → get_or s x.end 0 ≡ 9 → (now : List ℕ) → now ≡ appended n (bytes4 x.value) buffer
      → ItemLeft s at count held (x.end + 1) (n + 1) now
  unfolding all_pass appended_numbers
  item-more h x read b now put =
      let e = tab-fields s place x.end inside read.2 b in
      let f = front-more s (x.end + 1) (field_at s place) in
      let l = last_more s (x.end + 1) (field_at s place) in
      let m = length (front (fields_at s (x.end + 1))) in
      let before : n - count + suc m ≡ n + 1 - count + m = omega arith in
      let more : n + suc m ≡ n + 1 + m = omega arith in (
        left.0 ∙ rw (e, f, l, read.0, before, more, tab-next s place x.end inside read.2 b),
        left.1 ∙ rw (e, f, l, read.0, before, more, number_put s place n buffer x read now put),
      )

  -- no number with a tab behind it
  module _ (number : get_or s (field_end s place) 0 ≡ 9 → is_number (field_at s place) ≡ false) where
    -- so no number is appended
    numbers-stop : Dec (get_or s (field_end s place) 0 ≡ 9) → appended_numbers n (front (fields_at s place)) buffer ≡ buffer
    unfolding appended_numbers front
    numbers-stop (yes b) = rw (tab-fields s place (field_end s place) inside refl b, front-more s (field_end s place + 1) (field_at s place), number b)
    numbers-stop (no b) = rw (last-fields s place (field_end s place) inside refl b)

    -- and with a tab behind it, it is no item
    no_item : get_or s (field_end s place) 0 ≡ 9 → rest_of_item (n - count) (fields_at s place) ≡ false
    unfolding all_pass
    no_item b = rw (tab-fields s place (field_end s place) inside refl b, front-more s (field_end s place + 1) (field_at s place), number b)

    refused : rest_of_item (n - count) (fields_at s place) ≡ false → ItemRead None buffer
    refused h = record { row = sym (left.0 ∙ rw h); buffer = sym (left.1 ∙ rw h (numbers-stop (ℕ_discrete (get_or s (field_end s place) 0) 9))) }

    -- no number at all
    pub item-no-number : n ≡ count → ItemRead None buffer
    unfolding all_pass front
    item-no-number h = refused (go (ℕ_discrete (get_or s (field_end s place) 0) 9))
      where
        go : Dec (get_or s (field_end s place) 0 ≡ 9) → rest_of_item (n - count) (fields_at s place) ≡ false
        go (yes b) = no_item b
        go (no b) =
            let none : n - count + 0 ≡ 0 = omega arith in
            rw (last-fields s place (field_end s place) inside refl b, none)

    -- no root
    pub item-no-root : is_root (field_at s place) ≡ false → ItemRead None buffer
    unfolding all_pass front last
    item-no-root h = refused (go (ℕ_discrete (get_or s (field_end s place) 0) 9))
      where
        go : Dec (get_or s (field_end s place) 0 ≡ 9) → rest_of_item (n - count) (fields_at s place) ≡ false
        go (yes b) = no_item b
        go (no b) = rw (last-fields s place (field_end s place) inside refl b, h, and-false)

  -- a root: it is no number, so no field may follow
  module _ (root : is_root (field_at s place) ≡ true) (end : ℕ) (is-end : end ≡ place + 64) where
    pub root-end : end ≡ field_end s place
    root-end = omega (arith, root-length (field_at s place) root)

    pub item-more-fields : get_or s end 0 ≡ 9 → ItemRead None buffer
    item-more-fields b =
        let number : get_or s (field_end s place) 0 ≡ 9 → is_number (field_at s place) ≡ false = λ t. root-no-number (field_at s place) root in
        refused number (no_item number (rw root-end at b))

    module _ (h : count ≤ n) (some : n ≡ count → ⊥) (digest now : List ℕ) (is : digest ≡ hex_bytes (field_at s place)) (put : now ≡ appended n digest buffer) where
      pub item-last : (get_or s end 0 ≡ 9 → ⊥) → ItemRead (read_row (n + 8) (min (end + 1) (length s))) now
      unfolding all_pass front last appended_numbers
      item-last t =
          let e = last-fields s place end inside root-end t in
          let one : leb 1 (n - count + 0) ≡ true = le-leb 1 (n - count + 0) (omega arith) in
          let here : n + 0 ≡ n = omega arith in
          record {
            row = sym (left.0 ∙ rw (e, root, one, here, last-next s place end inside root-end t));
            buffer = put ∙ sym (left.1 ∙ rw (e, root, one, here, is));
          }
