-- The line that starts at an index: it is the first of the rest of the text, the next one starts behind it, and it is at least as long as its numbers are many.
use mathlib.Core.Path.{◌≡◌, refl, ◌∙◌}
use mathlib.Core.Bool.{Bool, true, false, cond, not, false≢true}
use mathlib.Core.List.{List, [], ◌∷◌}
use Prim.Native.Nat.{ℕ, zero, suc, ◌+◌, ◌*◌, ◌≤◌, ◌<◌, min}
use native.Mathlib.Omega.{arith}
use borrow.Author.Tests.{leb-true, eqb-true}
use lib.Dec.{eqb, leb}
use lib.ListN.{length, get_or, drop, length-drop}
use lib.Seq.{drop-drop, drop-cons, drop-nil}
use Rattle.numbers.proofs.Tests.{and_left, and_right, each-true}
use Rattle.lines.specs.Text.{all_pass, is_digit, decimal, needless_zero, is_number, is_root, grow, pieces, fields, lines}
use Rattle.lines.specs.Lines.{front, last}
use Rattle.lines.specs.Cursor.{line, line_at, fields_at, next_line, is_item}

-- ---- the first line of a text

line-within : (l : List ℕ) → length (line l) ≤ length l
unfolding line
line-within [] = omega arith
line-within (x ∷ xs) = go (eqb x 10) (line-within xs)
  where
    go : (t : Bool) → length (line xs) ≤ length xs → length (cond t [] (x ∷ line xs)) ≤ suc (length xs)
    go true h = omega arith
    go false h = omega arith

first-line-more : (x : ℕ) (xs : List ℕ) (t : Bool) → eqb x 10 ≡ t → grow x (lines xs) ≡ (x ∷ line xs) ∷ lines (drop (suc (length (line xs))) xs)
    → lines (x ∷ xs) ≡ line (x ∷ xs) ∷ lines (drop (suc (length (line (x ∷ xs)))) (x ∷ xs))
unfolding line pieces
first-line-more x xs true e h = rw e
first-line-more x xs false e h = rw e h

first-line : (x : ℕ) (xs : List ℕ) → lines (x ∷ xs) ≡ line (x ∷ xs) ∷ lines (drop (suc (length (line (x ∷ xs)))) (x ∷ xs))
unfolding line pieces
first-line x [] = first-line-more x [] (eqb x 10) refl refl
first-line x (y ∷ ys) = first-line-more x (y ∷ ys) (eqb x 10) refl (rw (first-line y ys))

first-line-at : (l : List ℕ) (x : ℕ) (xs : List ℕ) → l ≡ x ∷ xs → lines l ≡ line l ∷ lines (drop (suc (length (line l))) l)
first-line-at l x xs e = rw e (first-line x xs)

drop_min : (k : ℕ) (s : List ℕ) → drop (min k (length s)) s ≡ drop k s
drop_min zero s = let e : min 0 (length s) ≡ 0 = omega arith in rw e
drop_min (suc k) [] = drop-nil (min (suc k) 0)
drop_min (suc k) (x ∷ xs) =
    let e : min (suc k) (suc (length xs)) ≡ suc (min k (length xs)) = omega arith in
    rw e (drop_min k xs)

module _ (s : List ℕ) (at : ℕ) where
  line-inside : at ≤ length s → at + length (line_at s at) ≤ length s
  line-inside h = omega (arith, line-within (drop at s), length-drop at s)

  pub next-within : next_line s at ≤ length s
  next-within = omega arith

  module _ (h : at < length s) where
    pub next-after : at < next_line s at
    next-after = omega (arith, line-inside (omega arith))

    -- The rest of a text is a line and the rest from the next line on.
    pub first-of-lines : lines (drop at s) ≡ line_at s at ∷ lines (drop (next_line s at) s)
    first-of-lines =
        let c = drop-cons s at 0 h in
        let e : at + suc (length (line_at s at)) ≡ at + length (line_at s at) + 1 = omega arith in
        first-line-at (drop at s) (get_or s at 0) (drop (suc at) s) c
        ∙ rw (drop-drop (suc (length (line_at s at))) at s, e, ← drop_min (at + length (line_at s at) + 1) s)

-- ---- how many fields a line can have

-- The bytes of fields, each with the tab or line's end behind it.
size : List (List ℕ) → ℕ
size [] = 0
size (f ∷ fs) = length f + 1 + size fs

size-grow : (x n : ℕ) (fs : List (List ℕ)) → size fs ≡ suc n → size (grow x fs) ≡ suc (suc n)
unfolding size
size-grow x n [] h = absurd (omega arith)
size-grow x n (f ∷ fs) h = omega arith

size-fields : (l : List ℕ) → size (fields l) ≡ suc (length l)
unfolding size pieces
size-fields [] = refl
size-fields (x ∷ xs) = go (eqb x 9) (size-fields xs)
  where
    go : (t : Bool) → size (fields xs) ≡ suc (length xs) → size (cond t ([] ∷ fields xs) (grow x (fields xs))) ≡ suc (suc (length xs))
    go true h = omega arith
    go false h = size-grow x (length xs) (fields xs) h

-- What the test of an item's fields says.
pub item-parts : (fs : List (List ℕ)) → is_item fs ≡ true → (all_pass is_number (front fs) ≡ true) × (1 ≤ length (front fs)) × (is_root (last fs) ≡ true)
item-parts fs e =
    let h = each-true (all_pass is_number (front fs)) (leb 1 (length (front fs)) ∷ is_root (last fs) ∷ []) e in
    (h.0, leb-true 1 (length (front fs)) h.1.0, h.1.1.0)

-- A number has one to ten bytes, a root 64.
pub number-length : (f : List ℕ) → is_number f ≡ true → (1 ≤ length f) × (length f ≤ 10)
number-length f e =
    let h = each-true (leb 1 (length f)) (leb (length f) 10 ∷ not (needless_zero f) ∷ all_pass is_digit f ∷ leb (decimal f) 4294967295 ∷ []) e in
    (leb-true 1 (length f) h.0, leb-true (length f) 10 h.1.0)

pub root-length : (f : List ℕ) → is_root f ≡ true → length f ≡ 64
root-length f e = eqb-true (length f) 64 (and_left _ _ e)

numbers-size : (fs : List (List ℕ)) → all_pass is_number fs ≡ true → 2 * length fs ≤ size fs
unfolding all_pass size
numbers-size [] e = omega arith
numbers-size (f ∷ fs) e =
    omega (arith, number-length f (and_left (is_number f) _ e), numbers-size fs (and_right (is_number f) _ e))

item-size : (fs : List (List ℕ)) → all_pass is_number (front fs) ≡ true → is_root (last fs) ≡ true → 2 * length (front fs) + 65 ≤ size fs
unfolding all_pass size front last
item-size [] e r = absurd (false≢true r)
item-size (f ∷ []) e r = omega (arith, root-length f r)
item-size (f ∷ g ∷ fs) e r =
    omega (arith, number-length f (and_left (is_number f) _ e), item-size (g ∷ fs) (and_right (is_number f) _ e) r)

module _ (s : List ℕ) (at : ℕ) (inside : at ≤ length s) where
  pub numbers_fit : all_pass is_number (fields_at s at) ≡ true → at + length (fields_at s at) ≤ next_line s at
  numbers_fit e = omega (arith, line-inside s at inside, numbers-size (fields_at s at) e, size-fields (line_at s at))

  pub item-fits : is_item (fields_at s at) ≡ true → at + length (front (fields_at s at)) + 8 ≤ next_line s at
  item-fits e =
      let h = item-parts (fields_at s at) e in
      omega (arith, line-inside s at inside, item-size (fields_at s at) h.0 h.2, size-fields (line_at s at))
