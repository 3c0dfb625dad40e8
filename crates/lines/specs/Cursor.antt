-- Where the fields and lines of a text lie: the field and the line that start at an index, what is read there, and what a buffer holds then.
use Rattle.std.specs.Prelude.{Bool, cond, ◌&&◌, ◌||◌, List, [], ◌∷◌, ◌++◌, map, ℕ, ◌+◌, ◌*◌, min, length, get_or, take, drop, eqb, leb, ltb, Option, Some, None}
use Rattle.numbers.specs.Numbers.{bytes4, bytes}
use Rattle.lines.specs.declared.number.Number.{Number}
use Rattle.lines.specs.declared.row.Row.{Row}
use Rattle.lines.specs.Text.{all_pass, decimal, is_number, is_root, hex_bytes, fields}
use Rattle.lines.specs.Lines.{front, last}

-- The bytes up to the first tab or byte 10, and those up to the first byte 10.
unfoldable pub field : List ℕ → List ℕ
field [] = []
field (x ∷ xs) = cond (eqb x 9 || eqb x 10) [] (x ∷ field xs)

unfoldable pub line : List ℕ → List ℕ
line [] = []
line (x ∷ xs) = cond (eqb x 10) [] (x ∷ line xs)

-- The field that starts at an index, and where it ends.
abbrev pub field_at : List ℕ → ℕ → List ℕ
field_at s at = field (drop at s)

abbrev pub field_end : List ℕ → ℕ → ℕ
field_end s at = at + length (field_at s at)

-- The rest of the line from an index on, its fields, and where the next line starts: behind byte 10, or at the text's end.
abbrev pub line_at : List ℕ → ℕ → List ℕ
line_at s at = line (drop at s)

abbrev pub fields_at : List ℕ → ℕ → List (List ℕ)
fields_at s at = fields (line_at s at)

abbrev pub next_line : List ℕ → ℕ → ℕ
next_line s at = min (at + length (line_at s at) + 1) (length s)

-- The field as a number, and where it ends.
unfoldable pub number_at : List ℕ → ℕ → Option Number
number_at s at = cond (is_number (field_at s at)) (Some (record { value = decimal (field_at s at); end = field_end s at })) None

-- The same where a tab ends the field.
unfoldable pub number_before_tab : List ℕ → ℕ → Option Number
number_before_tab s at = cond (ltb (field_end s at) (length s) && eqb (get_or s (field_end s at) 0) 9) (number_at s at) None

-- The bytes of the root that the field is.
unfoldable pub root_at : List ℕ → ℕ → Option (List ℕ)
root_at s at = cond (is_root (field_at s at)) (Some (hex_bytes (field_at s at))) None

-- The rest of the line as numbers, behind `count` others.
unfoldable pub numbers_at : List ℕ → ℕ → ℕ → Option Row
numbers_at s at count = cond (all_pass is_number (fields_at s at)) (Some (record { count = count + length (fields_at s at); next = next_line s at })) None

-- The same as exactly `size` numbers.
unfoldable pub exactly_at : List ℕ → ℕ → ℕ → ℕ → Option Row
exactly_at s at count size = cond (all_pass is_number (fields_at s at) && eqb (length (fields_at s at)) size) (Some (record { count = count + size; next = next_line s at })) None

-- The same as one number or more and a root, which takes the place of eight.
abbrev pub is_item : List (List ℕ) → Bool
is_item fs = all_pass is_number (front fs) && leb 1 (length (front fs)) && is_root (last fs)

unfoldable pub item_row_at : List ℕ → ℕ → ℕ → Option Row
item_row_at s at count = cond (is_item (fields_at s at)) (Some (record { count = count + length (front (fields_at s at)) + 8; next = next_line s at })) None

-- What those lines append to a buffer.
abbrev pub number_bytes : List (List ℕ) → List ℕ
number_bytes fs = bytes (map decimal fs)

abbrev pub item_bytes : List (List ℕ) → List ℕ
item_bytes fs = number_bytes (front fs) ++ hex_bytes (last fs)

-- A buffer with xs from index `at` on.
abbrev pub placed : ℕ → List ℕ → List ℕ → List ℕ
placed at xs held = take at held ++ (xs ++ drop (at + length xs) held)

-- A buffer with xs behind its first `count` numbers if there is room, else as it was.
unfoldable pub appended : ℕ → List ℕ → List ℕ → List ℕ
appended count xs held = cond (leb (4 * count + length xs) (length held)) (placed (4 * count) xs held) held

-- A buffer behind fields that are read as numbers: each is appended, up to the first that is none.
unfoldable pub appended_numbers : ℕ → List (List ℕ) → List ℕ → List ℕ
appended_numbers count [] held = held
appended_numbers count (f ∷ fs) held = cond (is_number f) (appended_numbers (count + 1) fs (appended count (bytes4 (decimal f)) held)) held

-- A buffer behind fields that are read as an item: those before the last as numbers, and the root if all of them are an item.
unfoldable pub appended_item : ℕ → List (List ℕ) → List ℕ → List ℕ
appended_item count fs held =
    cond (is_item fs)
    (appended (count + length (front fs)) (hex_bytes (last fs)) (appended_numbers count (front fs) held))
    (appended_numbers count (front fs) held)
