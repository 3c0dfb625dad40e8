-- Fields of a text, byte by byte: what the byte at an index tells of the field that starts there.
use mathlib.Core.Path.{◌≡◌, refl, sym, ap, ◌∙◌}
use mathlib.Core.Bool.{Bool, true, false, ◌||◌}
use mathlib.Core.List.{List, [], ◌∷◌}
use Prim.Native.Nat.{ℕ, ◌+◌, ◌-◌, ◌≤◌, ◌<◌}
use native.Mathlib.Nat.{add-zero}
use native.Mathlib.Numerals.{add-one}
use native.Mathlib.Omega.{arith}
use borrow.Author.Tests.{ne_eqb}
use lib.Dec.{eqb}
use lib.ListN.{length, get_or, take, drop, length-take, length-drop, drop_of_length-le}
use lib.Seq.{drop-cons, get_or-drop}
use Rattle.lines.specs.Cursor.{field, field_at, field_end}

-- A tab or byte 10, which end a field.
abbrev pub ends_field : ℕ → Bool
ends_field x = eqb x 9 || eqb x 10

module _ (s : List ℕ) (i : ℕ) where
  -- Any other byte belongs to the field.
  pub field-more : i < length s → ends_field (get_or s i 0) ≡ false → field_at s i ≡ get_or s i 0 ∷ field_at s (i + 1)
  unfolding field
  field-more h e = rw (add-one, drop-cons s i 0, e)

  pub end_more : i < length s → ends_field (get_or s i 0) ≡ false → field_end s i ≡ field_end s (i + 1)
  end_more h e = rw (field-more h e) (omega arith)

  -- The field ends at i.
  pub field-stops : i < length s → ends_field (get_or s i 0) ≡ true → field_at s i ≡ []
  unfolding field
  field-stops h e = rw (drop-cons s i 0, e)

  pub field-over : length s ≤ i → field_at s i ≡ []
  unfolding field
  field-over h = rw drop_of_length-le

  pub end-here : field_at s i ≡ [] → field_end s i ≡ i
  end-here e = rw (e, add-zero)

-- No byte of a field stands at i exactly if the field there is empty.
pub none_here : (s : List ℕ) (i : ℕ) → i < length s → ends_field (get_or s i 0) ≡ eqb (length (field_at s i)) 0
none_here s i h = go (ends_field (get_or s i 0)) refl
  where
    go : (t : Bool) → ends_field (get_or s i 0) ≡ t → ends_field (get_or s i 0) ≡ eqb (length (field_at s i)) 0
    go true e = rw (field-stops s i h e) e
    go false e = rw (field-more s i h e) (e ∙ sym (ne_eqb (length (get_or s i 0 ∷ field_at s (i + 1))) 0 (λ z. omega arith)))

-- A field is the front of the text.
field-front : (x : ℕ) (xs : List ℕ) (t : Bool) → ends_field x ≡ t → take (length (field xs)) xs ≡ field xs → take (length (field (x ∷ xs))) (x ∷ xs) ≡ field (x ∷ xs)
unfolding field
field-front x xs true e h = rw e
field-front x xs false e h = rw (e, h)

take-field : (xs : List ℕ) → take (length (field xs)) xs ≡ field xs
unfolding field
take-field [] = refl
take-field (x ∷ xs) = field-front x xs (ends_field x) refl (take-field xs)

module _ (s : List ℕ) (at : ℕ) where
  pub field-inside : at ≤ length s → field_end s at ≤ length s
  field-inside h = omega (arith, ap length (take-field (drop at s)), length-take (length (field_at s at)) (drop at s), length-drop at s)

  -- The bytes up to the field's end.
  pub field-part : (end : ℕ) → end ≡ field_end s at → take (end - at) (drop at s) ≡ field_at s at
  field-part end e =
      let n : end - at ≡ length (field_at s at) = omega arith in
      rw n (take-field (drop at s))

first_of : (x : ℕ) (xs : List ℕ) (t : Bool) → ends_field x ≡ t → 0 < length (field (x ∷ xs)) → get_or (field (x ∷ xs)) 0 0 ≡ x
unfolding field
first_of x xs true e h =
    let none : 0 < length {A = ℕ} [] = rw e at h in
    absurd (omega arith)
first_of x xs false e h = rw e

first_byte : (xs : List ℕ) → 0 < length (field xs) → get_or (field xs) 0 0 ≡ get_or xs 0 0
unfolding field
first_byte [] h = refl
first_byte (x ∷ xs) h = first_of x xs (ends_field x) refl h

-- The first byte of a field is the text's byte there.
pub field-first : (s : List ℕ) (at : ℕ) → 0 < length (field_at s at) → get_or (field_at s at) 0 0 ≡ get_or s at 0
field-first s at h = first_byte (drop at s) h ∙ rw (get_or-drop, add-zero)
