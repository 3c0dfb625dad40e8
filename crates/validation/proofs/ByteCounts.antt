-- How many bytes and numbers the lines of a sheet say, by the counts of lines and the sizes.
use mathlib.Core.Path.{◌≡◌, refl, sym, ap, ◌∙◌}
use mathlib.Core.Bool.{Bool, true, false, cond, or-false, false≢true}
use mathlib.Core.List.{List, [], ◌∷◌}
use Prim.Native.Nat.{ℕ, ◌+◌, ◌*◌}
use native.Mathlib.Omega.{arith}
use borrow.Author.Tests.{eqb-true}
use lib.Dec.{eqb}
use lib.ListN.{length}
use Rattle.algebra.specs.Lists.{All}
use Rattle.theory.specs.Fp.{item_size}
use Rattle.numbers.proofs.Tests.{and_left, and_right}
use Rattle.std.specs.Prelude.{Option, Some, None}
use Rattle.lines.specs.declared.keyword.Keyword.{Keyword}
use Rattle.lines.specs.declared.keyword.Keyword.TheVariants.{Size, EntryA, EntryB, EntryC, Item, Wit, End}
use Rattle.lines.specs.Text.{all_pass, lines}
use Rattle.lines.specs.Lines.{Line}
use Rattle.scan.specs.Sheet.{same_keyword, follows, ordered_after, ordered, sheet_lines, having, count_of, m, n, k, pairs, bytes_of, all_have, pairs_fit}
use Rattle.scan.proofs.StateAfter.{number_count}
use Rattle.scan.proofs.SheetLaws.{same-keyword, Sound, all_sound, a-length, b-length, c-length, items-length, wits-length}

-- ---- lines with as many numbers each

all-numbers : (count : ℕ) (hs : List Line) → all_have count hs ≡ true → number_count hs ≡ length hs * count
unfolding all_pass number_count
all-numbers count [] h = omega arith
all-numbers count (l ∷ hs) h =
    let t = eqb (length l.numbers) count in
    omega (arith, eqb-true (length l.numbers) count (and_left t _ h), all-numbers count hs (and_right t _ h))

-- ---- a line `wit` behind each line `item`

-- Only `wit` follows `item`, and it follows nothing else.
not-wit : (v : Option Keyword) → follows v (Some Wit) ≡ false → (w : Option Keyword) → follows v w ≡ true → same_keyword (Some Wit) w ≡ false
not-wit v none w f = go (same_keyword (Some Wit) w) refl
  where
    go : (t : Bool) → same_keyword (Some Wit) w ≡ t → t ≡ false
    go true e = absurd (false≢true (sym none ∙ ap (follows v) (same-keyword (Some Wit) w e) ∙ f))
    go false e = refl

follows-wit : (v w : Option Keyword) → follows v w ≡ true → same_keyword (Some Wit) w ≡ same_keyword (Some Item) v
follows-wit (Some Size) w f = not-wit (Some Size) refl w f
follows-wit (Some EntryA) w f = not-wit (Some EntryA) refl w f
follows-wit (Some EntryB) w f = not-wit (Some EntryB) refl w f
follows-wit (Some EntryC) w f = not-wit (Some EntryC) refl w f
follows-wit (Some Item) w f = sym (or-false (same_keyword (Some Wit) w)) ∙ f
follows-wit (Some Wit) w f = not-wit (Some Wit) refl w f
follows-wit (Some End) w f = not-wit (Some End) refl w f
follows-wit None w f = not-wit None refl w f

-- 1 where a test passes.
abbrev bit : Bool → ℕ
bit t = cond t 1 0

count-cons : (w : Keyword) (l : Line) (ls : List Line) → count_of w (l ∷ ls) ≡ bit (same_keyword (Some w) l.keyword) + count_of w ls
unfolding having
count-cons w l ls = go (same_keyword (Some w) l.keyword)
  where
    go : (t : Bool) → length (cond t (l ∷ having w ls) (having w ls)) ≡ bit t + length (having w ls)
    go true = omega arith
    go false = omega arith

-- Behind `item` one more.
as-many-after : (v : Option Keyword) (ls : List Line) → ordered_after v ls ≡ true → count_of Wit ls ≡ count_of Item ls + bit (same_keyword (Some Item) v)
unfolding ordered_after having
as-many-after v [] h = omega (arith, ap (λ w. bit (same_keyword (Some Item) w)) (same-keyword v (Some End) h))
as-many-after v (l ∷ ls) h =
    let w = l.keyword in
    omega (
      arith,
      count-cons Wit l ls,
      count-cons Item l ls,
      ap bit (follows-wit v w (and_left (follows v w) _ h)),
      as-many-after w ls (and_right (follows v w) _ h),
    )

pub as_many : (ls : List Line) → ordered ls ≡ true → count_of Wit ls ≡ pairs ls
as_many ls h = omega (arith, as-many-after None ls h)

-- ---- the lines of a sheet

module _ (s : List ℕ) (is-ordered : ordered (sheet_lines s) ≡ true) where
  abbrev ls : List Line
  ls = sheet_lines s

  sound-lines : All Sound ls
  unfolding sheet_lines
  sound-lines = all_sound (lines s)

  pub a-size : length (bytes_of EntryA (sheet_lines s)) ≡ 12 * count_of EntryA (sheet_lines s)
  a-size = omega (arith, a-length ls sound-lines)

  pub b-size : length (bytes_of EntryB (sheet_lines s)) ≡ 12 * count_of EntryB (sheet_lines s)
  b-size = omega (arith, b-length ls sound-lines)

  pub c-size : length (bytes_of EntryC (sheet_lines s)) ≡ 12 * count_of EntryC (sheet_lines s)
  c-size = omega (arith, c-length ls sound-lines)

  -- four bytes a number, and a root as eight numbers
  pub items-counted : 4 * (number_count (having Item (sheet_lines s)) + 8 * pairs (sheet_lines s)) ≡ length (bytes_of Item (sheet_lines s))
  items-counted = sym (items-length ls sound-lines)

  pub wits-counted : 4 * number_count (having Wit (sheet_lines s)) ≡ length (bytes_of Wit (sheet_lines s))
  wits-counted = sym (wits-length ls sound-lines)

  pub items-size : pairs_fit (sheet_lines s) ≡ true → length (bytes_of Item (sheet_lines s)) ≡ pairs (sheet_lines s) * item_size (m (sheet_lines s)) (n (sheet_lines s))
  items-size fit = omega (arith, items-counted, all-numbers (1 + m ls + n ls) (having Item ls) (and_left _ (all_have (k ls) (having Wit ls)) fit))

  pub wits-size : pairs_fit (sheet_lines s) ≡ true → length (bytes_of Wit (sheet_lines s)) ≡ 4 * (pairs (sheet_lines s) * k (sheet_lines s))
  wits-size fit =
      omega (
        arith,
        wits-counted,
        all-numbers (k ls) (having Wit ls) (and_right (all_have (1 + m ls + n ls) (having Item ls)) _ fit),
        ap (λ x. x * k ls) (as_many ls is-ordered),
      )
