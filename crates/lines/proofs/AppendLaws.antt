-- Byte strings that are put into a buffer: in their place, and as numbers and roots behind the first `count` numbers.
use mathlib.Core.Path.{◌≡◌, refl, sym, ap, ap₂, ◌∙◌}
use mathlib.Core.Bool.{Bool, true, false}
use mathlib.Core.List.{List, [], ◌∷◌, ◌++◌, map, append_assoc}
use Prim.Native.Nat.{ℕ, zero, suc, ◌+◌, ◌*◌, ◌≤◌, ◌<◌}
use native.Mathlib.Nat.{add-zero}
use native.Mathlib.Omega.{arith}
use borrow.Author.Tests.{leb-true, leb-false, le-leb, lt-leb}
use lib.Dec.{leb}
use lib.ListN.{length, take, drop, length-append, length-take, length-drop, length-map, take-append-drop}
use lib.Seq.{length-take-le, take_at, drop_at, drop-drop}
use Rattle.numbers.specs.Numbers.{bytes4, bytes}
use Rattle.numbers.proofs.Bytes.{length-bytes}
use Rattle.numbers.proofs.Tests.{and_left, and_right}
use Rattle.lines.specs.Text.{all_pass, decimal, is_number, hex_bytes}
use Rattle.lines.specs.Lines.{front, last}
use Rattle.lines.specs.Cursor.{is_item, number_bytes, item_bytes, placed, appended, appended_numbers, appended_item}
use Rattle.lines.proofs.LineLengths.{item-parts, root-length}

-- For a whole line: the buffer keeps its length and, if there is room for all of xs, has xs behind its first `count` numbers.
abbrev pub Appended : ℕ → List ℕ → List ℕ → List ℕ → Type 0
Appended count xs held now = (length now ≡ length held) × (4 * count + length xs ≤ length held → now ≡ placed (4 * count) xs held)

-- ---- how long numbers and roots are
pub length-number_bytes : (fs : List (List ℕ)) → length (number_bytes fs) ≡ 4 * length fs
length-number_bytes fs = omega (arith, length-bytes (map decimal fs), length-map fs decimal)

pub length-hex_bytes : (n : ℕ) (f : List ℕ) → length f ≡ 2 * n → length (hex_bytes f) ≡ n
unfolding hex_bytes
length-hex_bytes zero [] e = refl
length-hex_bytes (suc n) [] e = absurd (omega arith)
length-hex_bytes zero (h ∷ []) e = absurd (omega arith)
length-hex_bytes (suc n) (h ∷ []) e = absurd (omega arith)
length-hex_bytes zero (h ∷ l ∷ f) e = absurd (omega arith)
length-hex_bytes (suc n) (h ∷ l ∷ f) e = ap suc (length-hex_bytes n f (omega arith))

pub length-item_bytes : (fs : List (List ℕ)) → is_item fs ≡ true → length (item_bytes fs) ≡ 4 * (length (front fs) + 8)
length-item_bytes fs e =
    let root : length (last fs) ≡ 2 * 32 = root-length (last fs) (item-parts fs e).2 in
    omega (arith, length-append (number_bytes (front fs)) (hex_bytes (last fs)), length-number_bytes (front fs), length-hex_bytes 32 (last fs) root)

-- ---- a byte string in its place

pub placed-none : (at : ℕ) (s : List ℕ) → placed at [] s ≡ s
placed-none at s = ap (λ (n : ℕ). take at s ++ drop n s) (add-zero at) ∙ take-append-drop at s

-- The front and xs, where xs fits.
module _ (at : ℕ) (xs s : List ℕ) (fits : at + length xs ≤ length s) where
  pub placed-length : length (placed at xs s) ≡ length s
  placed-length = simp (length-append, length-take, length-drop) (omega arith)

  front_length : length (take at s ++ xs) ≡ at + length xs
  front_length = omega (arith, length-append (take at s) xs, length-take-le at s (omega arith))

  grouped : placed at xs s ≡ (take at s ++ xs) ++ drop (at + length xs) s
  grouped = sym (append_assoc (take at s) xs (drop (at + length xs) s))

  placed-take : take (at + length xs) (placed at xs s) ≡ take at s ++ xs
  placed-take = ap (take (at + length xs)) grouped ∙ take_at (take at s ++ xs) _ _ front_length

  placed-drop : drop (at + length xs) (placed at xs s) ≡ drop (at + length xs) s
  placed-drop = ap (drop (at + length xs)) grouped ∙ drop_at (take at s ++ xs) _ _ front_length

  -- Another right behind it.
  pub placed-more : (ys : List ℕ) → placed (at + length xs) ys (placed at xs s) ≡ placed at (xs ++ ys) s
  placed-more ys =
      let total : at + length xs + length ys ≡ at + length (xs ++ ys) = omega (arith, length-append xs ys) in
      let behind : drop (at + length xs + length ys) (placed at xs s) ≡ drop (at + length (xs ++ ys)) s =
      sym (drop-drop (length ys) (at + length xs) (placed at xs s)) ∙ ap (drop (length ys)) placed-drop ∙ drop-drop (length ys) (at + length xs) s ∙ rw total in
      ap₂ (λ (front rest : List ℕ). front ++ (ys ++ rest)) placed-take behind ∙ simp append_assoc

-- ---- what is appended
module _ (count : ℕ) (xs held : List ℕ) where
  -- Where xs fits, it stands in its place.
  pub appended-put : {now : List ℕ} → 4 * count + length xs ≤ length held
      → now ≡ take (4 * count) held ++ xs ++ drop (4 * count + length xs) held → now ≡ appended count xs held
  unfolding appended
  appended-put h e = e ∙ append_assoc (take (4 * count) held) xs (drop (4 * count + length xs) held) ∙ sym (rw (le-leb (4 * count + length xs) (length held) h))

  -- Where it does not, the buffer stays as it is.
  pub appended-full : length held < 4 * count + length xs → held ≡ appended count xs held
  unfolding appended
  appended-full h = sym (rw (lt-leb (4 * count + length xs) (length held) h))

  appended-holds : Appended count xs held (appended count xs held)
  unfolding appended
  appended-holds = go (leb (4 * count + length xs) (length held)) refl
    where
      go : (t : Bool) → leb (4 * count + length xs) (length held) ≡ t → Appended count xs held (appended count xs held)
      go true e = rw e (placed-length (4 * count) xs held (leb-true _ _ e), λ l. refl)
      go false e = rw e (refl, λ l. absurd (omega (arith, leb-false (4 * count + length xs) (length held) e)))

pub appended-none : (count : ℕ) (s : List ℕ) → Appended count [] s s
appended-none count s = (refl, λ h. sym (placed-none (4 * count) s))

-- xs, then ys behind it.
pub appended-more : (count n : ℕ) (xs ys held now later : List ℕ) → length xs ≡ 4 * n
    → Appended count xs held now → Appended (count + n) ys now later → Appended count (xs ++ ys) held later
appended-more count n xs ys held now later size a b = (b.0 ∙ a.0, both)
  where
    both : 4 * count + length (xs ++ ys) ≤ length held → later ≡ placed (4 * count) (xs ++ ys) held
    both h =
        let fits : 4 * count + length xs ≤ length held = omega (arith, length-append xs ys) in
        let place : 4 * (count + n) ≡ 4 * count + length xs = omega arith in
        let written : later ≡ placed (4 * count + length xs) ys now = rw place at (b.1 (omega (arith, length-append xs ys, a.0))) in
        written ∙ ap (placed (4 * count + length xs) ys) (a.1 fits) ∙ placed-more (4 * count) xs held fits ys

-- Numbers that are appended one by one are all appended, and so is an item.
numbers-hold : (count : ℕ) (fs : List (List ℕ)) (held : List ℕ) → all_pass is_number fs ≡ true → Appended count (number_bytes fs) held (appended_numbers count fs held)
unfolding appended_numbers all_pass bytes
numbers-hold count [] held e = appended-none count held
numbers-hold count (f ∷ fs) held e =
    let x = bytes4 (decimal f) in
    rw (and_left (is_number f) _ e)
    (appended-more count 1 x (number_bytes fs) held (appended count x held) _ refl (appended-holds count x held)
    (numbers-hold (count + 1) fs (appended count x held) (and_right (is_number f) _ e)))

pub numbers-appended : (count : ℕ) (fs : List (List ℕ)) (held : List ℕ) {now : List ℕ} → now ≡ appended_numbers count fs held
    → all_pass is_number fs ≡ true → Appended count (number_bytes fs) held now
numbers-appended count fs held is e = rw is (numbers-hold count fs held e)

pub item-appended : (count : ℕ) (fs : List (List ℕ)) (held : List ℕ) {now : List ℕ} → now ≡ appended_item count fs held
    → is_item fs ≡ true → Appended count (item_bytes fs) held now
unfolding appended_item
item-appended count fs held is e =
    let n = length (front fs) in
    let before = appended_numbers count (front fs) held in
    rw (is, e)
    (appended-more count n (number_bytes (front fs)) (hex_bytes (last fs)) held before _ (length-number_bytes (front fs))
    (numbers-hold count (front fs) held (item-parts fs e).0)
    (appended-holds (count + n) (hex_bytes (last fs)) before))
