-- The lines with a keyword: those of a list and one line more, and how many numbers and bytes they have.
use mathlib.Core.Path.{◌≡◌, refl, sym, ap, ◌∙◌}
use mathlib.Core.Bool.{Bool, true, false, cond, not, ◌&&◌, and_assoc}
use mathlib.Core.List.{List, [], ◌∷◌, ◌++◌, map, append_assoc, append-nil}
use Prim.Native.Nat.{ℕ, ◌+◌, ◌*◌}
use native.Mathlib.Omega.{arith}
use borrow.Author.Tests.{eqb-true}
use lib.Dec.{eqb}
use lib.ListN.{length, length-append, length-map}
use Rattle.std.specs.Prelude.{Option, Some, None}
use Rattle.std.specs.Option.{is_some, option_eq}
use Rattle.algebra.specs.Lists.{All}
use Rattle.numbers.specs.Numbers.{bytes}
use Rattle.numbers.proofs.Bytes.{length-bytes}
use Rattle.numbers.proofs.Tests.{and_left, and_right}
use Rattle.lines.specs.declared.keyword.Keyword.{Keyword}
use Rattle.lines.specs.declared.keyword.Keyword.TheVariants.{Size, EntryA, EntryB, EntryC, Item, Wit, End}
use Rattle.lines.specs.contracts.keyword.KeywordPartialEq.TheImpl.{eq-value}
use Rattle.lines.specs.Text.{all_pass, decimal, is_number, is_root, hex_bytes, fields}
use Rattle.lines.specs.Lines.{Line, broken, keyword_of, count_fits, front, last, numbers_line, item_line, line_with, line_of_fields, line_of}
use Rattle.scan.specs.Sheet.{number, same_keyword, having, count_of, line_bytes, bytes_of}
use Rattle.lines.proofs.LineLengths.{root-length}
use Rattle.lines.proofs.AppendLaws.{length-hex_bytes}
use Rattle.scan.proofs.StateAfter.{number_count}

-- ---- keywords

-- The keyword with a number.
abbrev keyword_at : ℕ → Option Keyword
keyword_at x =
    cond (eqb x 0) (Some Size) (cond (eqb x 1) (Some EntryA) (cond (eqb x 2) (Some EntryB) (cond (eqb x 3) (Some EntryC) (cond (eqb x 4) (Some Item) (cond (eqb x 5) (Some Wit) (cond (eqb x 6) (Some End) None))))))

keyword-back : (w : Option Keyword) → keyword_at (number w) ≡ w
keyword-back (Some Size) = refl
keyword-back (Some EntryA) = refl
keyword-back (Some EntryB) = refl
keyword-back (Some EntryC) = refl
keyword-back (Some Item) = refl
keyword-back (Some Wit) = refl
keyword-back (Some End) = refl
keyword-back None = refl

pub same-keyword : (v w : Option Keyword) → same_keyword v w ≡ true → v ≡ w
same-keyword v w e = sym (keyword-back v) ∙ ap keyword_at (eqb-true (number v) (number w) e) ∙ keyword-back w

-- The program's tests of a keyword.
pub none-test : (v : Option Keyword) → not (is_some v) ≡ same_keyword v None
none-test (Some Size) = refl
none-test (Some EntryA) = refl
none-test (Some EntryB) = refl
none-test (Some EntryC) = refl
none-test (Some Item) = refl
none-test (Some Wit) = refl
none-test (Some End) = refl
none-test None = refl

pub item-test : (v : Option Keyword) → option_eq eq-value.it v (Some Item) ≡ same_keyword v (Some Item)
item-test (Some Size) = refl
item-test (Some EntryA) = refl
item-test (Some EntryB) = refl
item-test (Some EntryC) = refl
item-test (Some Item) = refl
item-test (Some Wit) = refl
item-test (Some End) = refl
item-test None = refl

pub end-test : (v : Option Keyword) → option_eq eq-value.it v (Some End) ≡ same_keyword v (Some End)
end-test (Some Size) = refl
end-test (Some EntryA) = refl
end-test (Some EntryB) = refl
end-test (Some EntryC) = refl
end-test (Some Item) = refl
end-test (Some Wit) = refl
end-test (Some End) = refl
end-test None = refl

-- ---- a test of every member

pub all_pass-append : {A : Type 0} (test : A → Bool) (xs ys : List A) → all_pass test (xs ++ ys) ≡ (all_pass test xs && all_pass test ys)
unfolding all_pass
all_pass-append test [] ys = refl
all_pass-append test (x ∷ xs) ys = ap (λ b. test x && b) (all_pass-append test xs ys) ∙ sym (and_assoc (test x) (all_pass test xs) (all_pass test ys))

pub all_pass-map : {A B : Type 0} (test : B → Bool) (f : A → B) (xs : List A) → all_pass test (map f xs) ≡ all_pass (λ x. test (f x)) xs
unfolding all_pass
all_pass-map test f [] = refl
all_pass-map test f (x ∷ xs) = rw (all_pass-map test f xs)

-- ---- one list of lines behind another

pub having-append : (w : Keyword) (ls hs : List Line) → having w (ls ++ hs) ≡ having w ls ++ having w hs
unfolding having
having-append w [] hs = refl
having-append w (l ∷ ls) hs = go (same_keyword (Some w) l.keyword) (having-append w ls hs)
  where
    go : (t : Bool) → having w (ls ++ hs) ≡ having w ls ++ having w hs
        → cond t (l ∷ having w (ls ++ hs)) (having w (ls ++ hs)) ≡ cond t (l ∷ having w ls) (having w ls) ++ having w hs
    go true e = ap (λ r. l ∷ r) e
    go false e = e

pub number_count-append : (ls hs : List Line) → number_count (ls ++ hs) ≡ number_count ls + number_count hs
unfolding number_count
number_count-append [] hs = omega arith
number_count-append (l ∷ ls) hs = omega (arith, number_count-append ls hs)

pub line_bytes-append : (ls hs : List Line) → line_bytes (ls ++ hs) ≡ line_bytes ls ++ line_bytes hs
unfolding line_bytes
line_bytes-append [] hs = refl
line_bytes-append (l ∷ ls) hs =
    ap (λ r. bytes l.numbers ++ l.root ++ r) (line_bytes-append ls hs) ∙ sym (append_assoc (bytes l.numbers ++ l.root) (line_bytes ls) (line_bytes hs))

pub bytes_of-append : (w : Keyword) (ls hs : List Line) → bytes_of w (ls ++ hs) ≡ bytes_of w ls ++ bytes_of w hs
bytes_of-append w ls hs = ap line_bytes (having-append w ls hs) ∙ line_bytes-append (having w ls) (having w hs)

-- One line more: it counts where it has the keyword.
pub having-more : (w : Keyword) (ls : List Line) (l : Line) → having w (ls ++ (l ∷ [])) ≡ cond (same_keyword (Some w) l.keyword) (having w ls ++ (l ∷ [])) (having w ls)
unfolding having
having-more w ls l = having-append w ls (l ∷ []) ∙ go (same_keyword (Some w) l.keyword)
  where
    go : (t : Bool) → having w ls ++ cond t (l ∷ []) [] ≡ cond t (having w ls ++ (l ∷ [])) (having w ls)
    go true = refl
    go false = append-nil (having w ls)

-- ---- what a line guarantees

-- The bytes of the root on a line with a keyword.
abbrev pub root_size : Option Keyword → ℕ
root_size (Some Size) = 0
root_size (Some EntryA) = 0
root_size (Some EntryB) = 0
root_size (Some EntryC) = 0
root_size (Some Item) = 32
root_size (Some Wit) = 0
root_size (Some End) = 0
root_size None = 0

-- A root of the keyword's size, and as many numbers as the keyword asks for.
pub record Sound (l : Line) : Type 0 where
  pub root : length l.root ≡ root_size l.keyword
  pub fits : (w : Keyword) → l.keyword ≡ Some w → count_fits w (length l.numbers) ≡ true

same-word : (v w : Keyword) → Some w ≡ Some v → v ≡ w
same-word v w e = cc

sound-broken : Sound broken
sound-broken = record { root = refl; fits = λ w e. cc }

sound-numbers : (w : Keyword) → root_size (Some w) ≡ 0 → (fs : List (List ℕ)) → Sound (numbers_line w fs)
sound-numbers w e fs = go (all_pass is_number fs && count_fits w (length fs)) refl
  where
    go : (t : Bool) → (all_pass is_number fs && count_fits w (length fs)) ≡ t → Sound (cond t (record { keyword = Some w; numbers = map decimal fs; root = [] }) broken)
    go true h =
        record {
          root = sym e;
          fits = λ v q. ap (λ u. count_fits u (length (map decimal fs))) (same-word v w q) ∙ ap (count_fits w) (length-map fs decimal) ∙ and_right (all_pass is_number fs) _ h;
        }
    go false h = sound-broken

sound-item : (fs : List (List ℕ)) → Sound (item_line fs)
sound-item fs = go (all_pass is_number (front fs) && count_fits Item (length (front fs)) && is_root (last fs)) refl
  where
    go : (t : Bool) → (all_pass is_number (front fs) && count_fits Item (length (front fs)) && is_root (last fs)) ≡ t
        → Sound (cond t (record { keyword = Some Item; numbers = map decimal (front fs); root = hex_bytes (last fs) }) broken)
    go true h =
        record {
          root = length-hex_bytes 32 (last fs) (root-length (last fs) (and_right (all_pass is_number (front fs) && count_fits Item (length (front fs))) _ h));
          fits = λ v q. ap (λ u. count_fits u (length (map decimal (front fs)))) (same-word v Item q) ∙ ap (count_fits Item) (length-map (front fs) decimal) ∙ and_right (all_pass is_number (front fs)) _ (and_left _ (is_root (last fs)) h);
        }
    go false h = sound-broken

sound-with : (w : Option Keyword) (fs : List (List ℕ)) → Sound (line_with w fs)
sound-with (Some Size) fs = sound-numbers Size refl fs
sound-with (Some EntryA) fs = sound-numbers EntryA refl fs
sound-with (Some EntryB) fs = sound-numbers EntryB refl fs
sound-with (Some EntryC) fs = sound-numbers EntryC refl fs
sound-with (Some Item) fs = sound-item fs
sound-with (Some Wit) fs = sound-numbers Wit refl fs
sound-with (Some End) fs = sound-numbers End refl fs
sound-with None fs = sound-broken

sound-fields : (fs : List (List ℕ)) → Sound (line_of_fields fs)
sound-fields [] = sound-broken
sound-fields (f ∷ fs) = sound-with (keyword_of f) fs

pub sound : (text : List ℕ) → Sound (line_of text)
unfolding line_of
sound text = sound-fields (fields text)

pub all_sound : (texts : List (List ℕ)) → All Sound (map line_of texts)
all_sound [] = tt
all_sound (t ∷ ts) = (sound t, all_sound ts)

-- ---- how many bytes and numbers sound lines have

pub bytes-length : (w : Keyword) (ls : List Line) → All Sound ls → length (bytes_of w ls) ≡ 4 * number_count (having w ls) + root_size (Some w) * count_of w ls
unfolding having number_count line_bytes
bytes-length w [] h = omega arith
bytes-length w (l ∷ ls) h = go (same_keyword (Some w) l.keyword) refl (bytes-length w ls h.1)
  where
    root : same_keyword (Some w) l.keyword ≡ true → length l.root ≡ root_size (Some w)
    root e = h.0.root ∙ ap root_size (sym (same-keyword (Some w) l.keyword e))

    go : (t : Bool) → same_keyword (Some w) l.keyword ≡ t → length (line_bytes (having w ls)) ≡ 4 * number_count (having w ls) + root_size (Some w) * length (having w ls)
        → length (line_bytes (cond t (l ∷ having w ls) (having w ls)))
        ≡ 4 * number_count (cond t (l ∷ having w ls) (having w ls)) + root_size (Some w) * length (cond t (l ∷ having w ls) (having w ls))
    go true e ih =
        omega (
          arith,
          root e,
          length-append (bytes l.numbers ++ l.root) (line_bytes (having w ls)),
          length-append (bytes l.numbers) l.root,
          length-bytes l.numbers,
        )
    go false e ih = ih

-- Three numbers on each line of an entry.
pub entry-numbers : (w : Keyword) → ((n : ℕ) → count_fits w n ≡ true → n ≡ 3)
    → (ls : List Line) → All Sound ls → number_count (having w ls) ≡ 3 * count_of w ls
unfolding having number_count
entry-numbers w three [] h = refl
entry-numbers w three (l ∷ ls) h = go (same_keyword (Some w) l.keyword) refl (entry-numbers w three ls h.1)
  where
    count : Some w ≡ l.keyword → length l.numbers ≡ 3
    count e = three (length l.numbers) (h.0.fits w (sym e))

    go : (t : Bool) → same_keyword (Some w) l.keyword ≡ t → number_count (having w ls) ≡ 3 * length (having w ls)
        → number_count (cond t (l ∷ having w ls) (having w ls)) ≡ 3 * length (cond t (l ∷ having w ls) (having w ls))
    go true e ih = omega (arith, count (same-keyword (Some w) l.keyword e))
    go false e ih = ih

module _ (ls : List Line) (h : All Sound ls) where
  pub a-length : length (bytes_of EntryA ls) ≡ 4 * (3 * count_of EntryA ls)
  a-length = omega (arith, bytes-length EntryA ls h, entry-numbers EntryA (λ n. eqb-true n 3) ls h)

  pub b-length : length (bytes_of EntryB ls) ≡ 4 * (3 * count_of EntryB ls)
  b-length = omega (arith, bytes-length EntryB ls h, entry-numbers EntryB (λ n. eqb-true n 3) ls h)

  pub c-length : length (bytes_of EntryC ls) ≡ 4 * (3 * count_of EntryC ls)
  c-length = omega (arith, bytes-length EntryC ls h, entry-numbers EntryC (λ n. eqb-true n 3) ls h)

  pub items-length : length (bytes_of Item ls) ≡ 4 * (number_count (having Item ls) + 8 * count_of Item ls)
  items-length = omega (arith, bytes-length Item ls h)

  pub wits-length : length (bytes_of Wit ls) ≡ 4 * number_count (having Wit ls)
  wits-length = omega (arith, bytes-length Wit ls h)
