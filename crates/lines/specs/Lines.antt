-- What a line of a sheet says: its keyword, its numbers and, on an item's line, its root.
use Rattle.std.specs.Prelude.{Bool, cond, ◌&&◌, List, [], ◌∷◌, map, ℕ, length, eqb, leb, Option, Some, None}
use Rattle.numbers.specs.Equality.{same_bytes}
use Rattle.lines.specs.declared.keyword.Keyword.{Keyword}
use Rattle.lines.specs.declared.keyword.Keyword.TheVariants.{Size, EntryA, EntryB, EntryC, Item, Wit, End}
use Rattle.lines.specs.Text.{all_pass, decimal, is_number, is_root, hex_bytes, fields}

-- The keywords as byte strings.
abbrev pub size_word : List ℕ
size_word = 115 ∷ 105 ∷ 122 ∷ 101 ∷ []

abbrev pub a_word : List ℕ
a_word = 97 ∷ []

abbrev pub b_word : List ℕ
b_word = 98 ∷ []

abbrev pub c_word : List ℕ
c_word = 99 ∷ []

abbrev pub item_word : List ℕ
item_word = 105 ∷ 116 ∷ 101 ∷ 109 ∷ []

abbrev pub wit_word : List ℕ
wit_word = 119 ∷ 105 ∷ 116 ∷ []

abbrev pub end_word : List ℕ
end_word = 101 ∷ 110 ∷ 100 ∷ []

-- The keyword that a field is; None for any other field.
abbrev pub keyword_of : List ℕ → Option Keyword
keyword_of f =
    cond (same_bytes f a_word) (Some EntryA)
    (cond (same_bytes f b_word) (Some EntryB)
    (cond (same_bytes f c_word) (Some EntryC)
    (cond (same_bytes f item_word) (Some Item)
    (cond (same_bytes f wit_word) (Some Wit)
    (cond (same_bytes f size_word) (Some Size)
    (cond (same_bytes f end_word) (Some End) None))))))

-- How many numbers a line may have. More than the least on a line `item` or `wit` is a matter of check 2.
abbrev pub count_fits : Keyword → ℕ → Bool
count_fits Size count = eqb count 3
count_fits EntryA count = eqb count 3
count_fits EntryB count = eqb count 3
count_fits EntryC count = eqb count 3
count_fits Item count = leb 1 count
count_fits Wit count = leb 1 count
count_fits End count = eqb count 1

pub record Line : Type 0 where
  pub keyword : Option Keyword
  pub numbers : List ℕ
  pub root : List ℕ

-- A line that breaks the rules has no keyword.
abbrev pub broken : Line
broken = record { keyword = None; numbers = []; root = [] }

-- A keyword and numbers.
abbrev pub numbers_line : Keyword → List (List ℕ) → Line
numbers_line w fs = cond (all_pass is_number fs && count_fits w (length fs)) (record { keyword = Some w; numbers = map decimal fs; root = [] }) broken

-- The fields before the last, and the last.
unfoldable pub front : List (List ℕ) → List (List ℕ)
front [] = []
front (f ∷ []) = []
front (f ∷ g ∷ fs) = f ∷ front (g ∷ fs)

unfoldable pub last : List (List ℕ) → List ℕ
last [] = []
last (f ∷ []) = f
last (f ∷ g ∷ fs) = last (g ∷ fs)

-- The keyword `item`, numbers and a root.
abbrev pub item_line : List (List ℕ) → Line
item_line fs =
    cond (all_pass is_number (front fs) && count_fits Item (length (front fs)) && is_root (last fs))
    (record { keyword = Some Item; numbers = map decimal (front fs); root = hex_bytes (last fs) })
    broken

-- The line of a first field, which may be a keyword, and the fields behind it.
abbrev pub line_with : Option Keyword → List (List ℕ) → Line
line_with (Some Size) fs = numbers_line Size fs
line_with (Some EntryA) fs = numbers_line EntryA fs
line_with (Some EntryB) fs = numbers_line EntryB fs
line_with (Some EntryC) fs = numbers_line EntryC fs
line_with (Some Item) fs = item_line fs
line_with (Some Wit) fs = numbers_line Wit fs
line_with (Some End) fs = numbers_line End fs
line_with None fs = broken

abbrev pub line_of_fields : List (List ℕ) → Line
line_of_fields [] = broken
line_of_fields (f ∷ fs) = line_with (keyword_of f) fs

unfoldable pub line_of : List ℕ → Line
line_of text = line_of_fields (fields text)
