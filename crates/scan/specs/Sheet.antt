-- What a sheet says (paper 01, "The sheet and its claims listing"): its lines in order, the sizes, the circuit, the items and the witnesses.
use Rattle.std.specs.Prelude.{Bool, false, cond, ◌&&◌, ◌||◌, List, [], ◌∷◌, ◌++◌, map, ℕ, ◌+◌, length, get_or, drop, eqb, Option, Some, None}
use Rattle.numbers.specs.Numbers.{bytes}
use Rattle.lines.specs.declared.keyword.Keyword.{Keyword}
use Rattle.lines.specs.declared.keyword.Keyword.TheVariants.{Size, EntryA, EntryB, EntryC, Item, Wit, End}
use Rattle.lines.specs.Text.{all_pass, lines}
use Rattle.lines.specs.Lines.{Line, line_of}

-- ---- keywords

abbrev pub number : Option Keyword → ℕ
number (Some Size) = 0
number (Some EntryA) = 1
number (Some EntryB) = 2
number (Some EntryC) = 3
number (Some Item) = 4
number (Some Wit) = 5
number (Some End) = 6
number None = 7

abbrev pub same_keyword : Option Keyword → Option Keyword → Bool
same_keyword v w = eqb (number v) (number w)

abbrev pub one_of : List Keyword → Option Keyword → Bool
one_of [] w = false
one_of (v ∷ vs) w = same_keyword (Some v) w || one_of vs w

-- The keywords of which one may stand on the next line: `size` first; then any lines `a`, then `b`, then `c`; then pairs `item` and `wit`;
-- last `end`. None stands for no line.
abbrev pub may_follow : Option Keyword → List Keyword
may_follow None = Size ∷ []
may_follow (Some Size) = EntryA ∷ EntryB ∷ EntryC ∷ Item ∷ End ∷ []
may_follow (Some EntryA) = EntryA ∷ EntryB ∷ EntryC ∷ Item ∷ End ∷ []
may_follow (Some EntryB) = EntryB ∷ EntryC ∷ Item ∷ End ∷ []
may_follow (Some EntryC) = EntryC ∷ Item ∷ End ∷ []
may_follow (Some Item) = Wit ∷ []
may_follow (Some Wit) = Item ∷ End ∷ []
may_follow (Some End) = []

abbrev pub follows : Option Keyword → Option Keyword → Bool
follows v w = one_of (may_follow v) w

-- Lines behind a line with the keyword v are in order, up to `end`. A line that breaks the rules has no keyword and follows none.
unfoldable pub ordered_after : Option Keyword → List Line → Bool
ordered_after v [] = same_keyword v (Some End)
ordered_after v (l ∷ ls) = follows v l.keyword && ordered_after l.keyword ls

abbrev pub ordered : List Line → Bool
ordered ls = ordered_after None ls

unfoldable pub sheet_lines : List ℕ → List Line
sheet_lines s = map line_of (lines s)

-- ---- what the lines say

-- The lines with a keyword.
unfoldable pub having : Keyword → List Line → List Line
having w [] = []
having w (l ∷ ls) = cond (same_keyword (Some w) l.keyword) (l ∷ having w ls) (having w ls)

abbrev pub count_of : Keyword → List Line → ℕ
count_of w ls = length (having w ls)

-- Number i of the first of some lines, and of the first with a keyword.
abbrev pub first_numbers : List Line → List ℕ
first_numbers [] = []
first_numbers (l ∷ ls) = l.numbers

abbrev pub first_at : ℕ → List Line → ℕ
first_at i ls = get_or (first_numbers ls) i 0

abbrev pub number_of : Keyword → ℕ → List Line → ℕ
number_of w i ls = first_at i (having w ls)

abbrev pub m : List Line → ℕ
m ls = number_of Size 0 ls

abbrev pub n : List Line → ℕ
n ls = number_of Size 1 ls

abbrev pub k : List Line → ℕ
k ls = number_of Size 2 ls

abbrev pub pairs : List Line → ℕ
pairs ls = count_of Item ls

-- The numbers, and the roots behind an item's, of the lines with a keyword, as bytes, one line after the other.
unfoldable pub line_bytes : List Line → List ℕ
line_bytes [] = []
line_bytes (l ∷ ls) = (bytes l.numbers ++ l.root) ++ line_bytes ls

abbrev pub bytes_of : Keyword → List Line → List ℕ
bytes_of w ls = line_bytes (having w ls)

-- Every line with the keyword has so many numbers.
abbrev pub all_have : ℕ → List Line → Bool
all_have count ls = all_pass (λ l. eqb (length l.numbers) count) ls

-- As many numbers on each line of a pair as the sizes give.
abbrev pub pairs_fit : List Line → Bool
pairs_fit ls = all_have (1 + m ls + n ls) (having Item ls) && all_have (k ls) (having Wit ls)

-- ---- buffers

-- A buffer filled from the front; what lies beyond is unchanged.
abbrev pub filled : List ℕ → List ℕ → List ℕ
filled xs held = xs ++ drop (length xs) held
