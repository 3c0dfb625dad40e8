-- The state behind lines in order, by what they say.
use mathlib.Core.Bool.{◌&&◌}
use mathlib.Core.List.{List, [], ◌∷◌}
use Prim.Native.Nat.{ℕ, ◌+◌, ◌*◌}
use lib.ListN.{length}
use Rattle.std.specs.Prelude.{Option, None}
use Rattle.lines.specs.declared.keyword.Keyword.{Keyword}
use Rattle.lines.specs.declared.keyword.Keyword.TheVariants.{Size, EntryA, EntryB, EntryC, Item, Wit, End}
use Rattle.scan.specs.declared.state.State.{State}
use Rattle.lines.specs.Lines.{Line}
use Rattle.scan.specs.Sheet.{having, first_at, all_have}

-- The keyword of the last line; None where there is none.
unfoldable pub last_keyword : List Line → Option Keyword
last_keyword [] = None
last_keyword (l ∷ []) = l.keyword
last_keyword (l ∷ h ∷ ls) = last_keyword (h ∷ ls)

-- How many numbers lines have.
unfoldable pub number_count : List Line → ℕ
number_count [] = 0
number_count (l ∷ ls) = length l.numbers + number_count ls

-- The state by the last keyword and the lines with each keyword. A root counts as eight numbers.
abbrev pub state_from : Option Keyword → List Line → List Line → List Line → List Line → List Line → List Line → List Line → ℕ → State
state_from last sizes a b c items wits ends at = record {
  at = at;
  last = last;
  sizes = record { m = first_at 0 sizes; n = first_at 1 sizes; k = first_at 2 sizes };
  entries = record { a = length a; b = length b; c = length c };
  pairs = record {
    items = number_count items + 8 * length items;
    wits = number_count wits;
    count = length items;
  };
  fit = all_have (1 + first_at 0 sizes + first_at 1 sizes) items && all_have (first_at 2 sizes) wits;
  end = first_at 0 ends;
}

-- The state at index `at`, behind the lines ls.
abbrev pub state_after : List Line → ℕ → State
state_after ls at = state_from (last_keyword ls) (having Size ls) (having EntryA ls) (having EntryB ls) (having EntryC ls) (having Item ls) (having Wit ls) (having End ls) at
