-- What a line says as it is written: its keyword, its numbers and, on an item's line, its root.
use mathlib.Core.Path.{◌≡◌, refl, ap, ap₂}
use mathlib.Core.Bool.{true, ◌&&◌}
use mathlib.Core.List.{List, [], ◌∷◌, ◌++◌, map}
use Prim.Native.Nat.{ℕ, ◌≤◌, ◌<◌}
use native.Mathlib.Omega.{arith}
use borrow.Author.Tests.{le-leb, eq-eqb, eqb-true}
use lib.Dec.{eqb}
use lib.ListN.{length, length-map}
use Rattle.std.specs.Prelude.{Some}
use Rattle.algebra.specs.Lists.{All}
use Rattle.algebra.proofs.ListLaws.{All-append}
use Rattle.numbers.specs.Equality.{same_bytes}
use Rattle.numbers.proofs.Tests.{◌&◌, and_left, and_right, same_test, same_bytes_lem, equal-bytes}
use Rattle.lines.specs.declared.keyword.Keyword.{Keyword}
use Rattle.lines.specs.declared.keyword.Keyword.TheVariants.{Size, EntryA, EntryB, EntryC, Item, Wit, End}
use Rattle.lines.specs.Text.{all_pass, decimal, is_number}
use Rattle.lines.specs.Lines.{keyword_of, count_fits, Line, numbers_line, front, last, item_line, line_with, line_of, size_word, a_word, b_word, c_word, item_word, wit_word, end_word}
use Rattle.lines.specs.LineWriting.{write_number, write_hex}
use Rattle.roundtrip.specs.Writing.{number_fields, Numbers32}
use Rattle.roundtrip.proofs.WrittenNumbers.{Plain, number-written, decimal-written, plain-number, root-written, bytes-written, plain-root}
use Rattle.roundtrip.proofs.WrittenText.{line_text, fields-written}

-- ---- keywords

-- Byte strings are compared byte by byte.
same_next : (x y : ℕ) (xs ys : List ℕ) → same_bytes (x ∷ xs) (y ∷ ys) ≡ (eqb x y && same_bytes xs ys)
same_next x y xs ys =
    same_test
    (same_bytes (x ∷ xs) (y ∷ ys))
    (eqb x y && same_bytes xs ys)
    (λ h. let e = equal-bytes (x ∷ xs) (y ∷ ys) h in eq-eqb x y (cc) & same_bytes_lem (cc))
    (λ h. same_bytes_lem (ap₂ ◌∷◌ (eqb-true x y (and_left (eqb x y) (same_bytes xs ys) h)) (equal-bytes xs ys (and_right (eqb x y) (same_bytes xs ys) h))))

same_end : same_bytes [] [] ≡ true
same_end = same_bytes_lem refl

pub keyword-size : keyword_of size_word ≡ Some Size
keyword-size = simp (same_next, same_end)

pub keyword-a : keyword_of a_word ≡ Some EntryA
keyword-a = simp (same_next, same_end)

pub keyword-b : keyword_of b_word ≡ Some EntryB
keyword-b = simp (same_next, same_end)

pub keyword-c : keyword_of c_word ≡ Some EntryC
keyword-c = simp (same_next, same_end)

keyword-item : keyword_of item_word ≡ Some Item
keyword-item = simp (same_next, same_end)

pub keyword-wit : keyword_of wit_word ≡ Some Wit
keyword-wit = simp (same_next, same_end)

pub keyword-end : keyword_of end_word ≡ Some End
keyword-end = simp (same_next, same_end)

-- ---- what a line says

-- A line of numbers.
abbrev pub said : Keyword → List ℕ → Line
said w xs = record { keyword = Some w; numbers = xs; root = [] }

numbers-written : (xs : List ℕ) → Numbers32 xs → all_pass is_number (number_fields xs) ≡ true
unfolding all_pass
numbers-written [] h = refl
numbers-written (x ∷ xs) h = number-written x h.0 & numbers-written xs h.1

decimals-written : (xs : List ℕ) → Numbers32 xs → map decimal (number_fields xs) ≡ xs
decimals-written [] h = refl
decimals-written (x ∷ xs) h = ap₂ ◌∷◌ (decimal-written x h.0) (decimals-written xs h.1)

pub plain-numbers : (xs : List ℕ) → Numbers32 xs → All Plain (number_fields xs)
plain-numbers [] h = tt
plain-numbers (x ∷ xs) h = (plain-number x h.0, plain-numbers xs h.1)

front-written : (fs : List (List ℕ)) (g : List ℕ) → front (fs ++ (g ∷ [])) ≡ fs
unfolding front
front-written [] g = refl
front-written (e ∷ []) g = refl
front-written (e ∷ f ∷ fs) g = ap (λ (t : List (List ℕ)). e ∷ t) (front-written (f ∷ fs) g)

last_written : (fs : List (List ℕ)) (g : List ℕ) → last (fs ++ (g ∷ [])) ≡ g
unfolding last
last_written [] g = refl
last_written (e ∷ []) g = refl
last_written (e ∷ f ∷ fs) g = last_written (f ∷ fs) g

numbers-said : (w : Keyword) (xs : List ℕ) → Numbers32 xs → count_fits w (length xs) ≡ true → numbers_line w (number_fields xs) ≡ said w xs
numbers-said w xs h g = rw (numbers-written xs h, length-map xs write_number, g, decimals-written xs h)

pub line-said : (w : Keyword) (word xs : List ℕ) → Plain word → keyword_of word ≡ Some w → ((fs : List (List ℕ)) → line_with (Some w) fs ≡ numbers_line w fs)
    → Numbers32 xs → count_fits w (length xs) ≡ true → line_of (line_text word (number_fields xs)) ≡ said w xs
unfolding line_of
line-said w word xs p e n h g = rw (fields-written word (number_fields xs) p (plain-numbers xs h), e, n (number_fields xs)) (numbers-said w xs h g)

-- An item's line.
abbrev pub item_said : List ℕ → List ℕ → Line
item_said xs r = record { keyword = Some Item; numbers = xs; root = r }

abbrev pub item_fields : List ℕ → List ℕ → List (List ℕ)
item_fields xs r = number_fields xs ++ (write_hex r ∷ [])

module _ (xs r : List ℕ) (some : 1 ≤ length xs) (small : Numbers32 xs) (size : length r ≡ 32) (below : All (λ x. x < 256) r) where
  pub item-plain : All Plain (item_fields xs r)
  item-plain = All-append Plain (number_fields xs) (write_hex r ∷ []) (plain-numbers xs small) (plain-root r below, tt)

  item-said : item_line (item_fields xs r) ≡ item_said xs r
  item-said =
      rw (
        front-written (number_fields xs) (write_hex r),
        last_written (number_fields xs) (write_hex r),
        numbers-written xs small,
        length-map xs write_number,
        le-leb 1 (length xs) some,
        root-written r size below,
        decimals-written xs small,
        bytes-written r below,
      )

  pub item-line-said : line_of (line_text item_word (item_fields xs r)) ≡ item_said xs r
  unfolding line_of
  item-line-said = rw (fields-written item_word (item_fields xs r) (omega arith) item-plain, keyword-item) item-said
