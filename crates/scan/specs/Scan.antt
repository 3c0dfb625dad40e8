-- A pass over the lines of a sheet: the state behind each line, what the line puts into its buffer, and where the pass ends.
use Rattle.std.specs.Prelude.{◌≡◌, Bool, true, cond, not, ◌&&◌, ◌||◌, List, [], ◌∷◌, ℕ, ◌+◌, ◌*◌, ◌≤◌, length, get_or, eqb, Option, Some, None}
use Rattle.lines.specs.declared.keyword.Keyword.{Keyword}
use Rattle.lines.specs.declared.keyword.Keyword.TheVariants.{Size, EntryA, EntryB, EntryC, Item, Wit, End}
use Rattle.lines.specs.declared.row.Row.{Row}
use Rattle.lines.specs.Text.{fields, lines}
use Rattle.lines.specs.Lines.{Line, keyword_of, line_of}
use Rattle.lines.specs.Cursor.{line_at, next_line, appended_numbers, appended_item}
use Rattle.scan.specs.declared.Buffers.{Buffers}
use Rattle.scan.specs.declared.state.Entries.{Entries}
use Rattle.scan.specs.declared.state.Pairs.{Pairs}
use Rattle.scan.specs.declared.state.State.{State}
use Rattle.scan.specs.Sheet.{same_keyword, follows}

-- The state before the first line.
abbrev pub start : State
start = record {
  at = 0;
  last = None;
  sizes = record { m = 0; n = 0; k = 0 };
  entries = record { a = 0; b = 0; c = 0 };
  pairs = record { items = 0; wits = 0; count = 0 };
  fit = true;
  end = 0;
}

-- The state behind a line with the keyword w, with other entries or pairs.
abbrev pub with_entries : Option Keyword → Entries → State → ℕ → State
with_entries w entries st next = record { at = next; last = w; sizes = st.sizes; entries = entries; pairs = st.pairs; fit = st.fit; end = st.end }

abbrev pub with_pairs : Option Keyword → Pairs → Bool → State → ℕ → State
with_pairs w pairs fit st next = record { at = next; last = w; sizes = st.sizes; entries = st.entries; pairs = pairs; fit = fit; end = st.end }

-- The state behind a line that breaks the rules: no keyword is the last.
abbrev pub stopped : State → State
stopped st = with_entries None st.entries st st.at

-- The state behind the line of an entry, by what was read of its fields.
abbrev pub after_entry : Option Keyword → Entries → State → Option Row → State
after_entry w entries st (Some row) = with_entries w entries st row.next
after_entry w entries st None = stopped st

-- The state behind one more line with the numbers xs, which ends before index `next`.
abbrev pub advance_by : Option Keyword → State → List ℕ → ℕ → State
advance_by (Some Size) st xs next =
    record { at = next; last = Some Size; sizes = record { m = get_or xs 0 0; n = get_or xs 1 0; k = get_or xs 2 0 }; entries = st.entries; pairs = st.pairs; fit = st.fit; end = st.end }
advance_by (Some EntryA) st xs next = with_entries (Some EntryA) (record { a = st.entries.a + 1; b = st.entries.b; c = st.entries.c }) st next
advance_by (Some EntryB) st xs next = with_entries (Some EntryB) (record { a = st.entries.a; b = st.entries.b + 1; c = st.entries.c }) st next
advance_by (Some EntryC) st xs next = with_entries (Some EntryC) (record { a = st.entries.a; b = st.entries.b; c = st.entries.c + 1 }) st next
advance_by (Some Item) st xs next =
    with_pairs (Some Item) (record { items = st.pairs.items + length xs + 8; wits = st.pairs.wits; count = st.pairs.count + 1 })
    (st.fit && eqb (length xs) (1 + st.sizes.m + st.sizes.n)) st next
advance_by (Some Wit) st xs next =
    with_pairs (Some Wit) (record { items = st.pairs.items; wits = st.pairs.wits + length xs; count = st.pairs.count })
    (st.fit && eqb (length xs) st.sizes.k) st next
advance_by (Some End) st xs next = record { at = next; last = Some End; sizes = st.sizes; entries = st.entries; pairs = st.pairs; fit = st.fit; end = get_or xs 0 0 }
advance_by None st xs next = stopped st

unfoldable pub advance : State → Line → ℕ → State
advance st l next = advance_by l.keyword st l.numbers next

-- The same, if the line may stand there.
unfoldable pub step : State → Line → ℕ → State
step st l next = cond (follows st.last l.keyword) (advance st l next) (stopped st)

-- The line at the state's index.
abbrev pub line_here : List ℕ → State → Line
line_here s st = line_of (line_at s st.at)

abbrev pub MayStand : List ℕ → State → Type 0
MayStand s st = follows st.last (line_here s st).keyword ≡ true

-- No counter is ahead of the index, so none overflows.
abbrev pub Bounded : ℕ → State → Type 0
Bounded size st =
    (st.at ≤ size) × (3 * st.entries.a ≤ st.at) × (3 * st.entries.b ≤ st.at) × (3 * st.entries.c ≤ st.at)
    × (st.pairs.items ≤ st.at) × (st.pairs.wits ≤ st.at) × (st.pairs.count ≤ st.at)

-- ---- buffers

-- How many numbers the buffer for the lines with a keyword has; lines with another have no buffer.
abbrev pub count_in : Keyword → State → ℕ
count_in EntryA st = 3 * st.entries.a
count_in EntryB st = 3 * st.entries.b
count_in EntryC st = 3 * st.entries.c
count_in Item st = st.pairs.items
count_in Wit st = st.pairs.wits
count_in Size st = 0
count_in End st = 0

-- The buffer for the lines with the keyword w, which has `count` numbers, behind the fields of such a line, appended as they are read.
abbrev pub fields_into : Keyword → ℕ → List (List ℕ) → List ℕ → List ℕ
fields_into w count fs held = cond (same_keyword (Some w) (Some Item)) (appended_item count fs held) (appended_numbers count fs held)

-- The same behind any line: it changes where the line's first field is w, and w may stand there. A line that breaks the rules further on has appended the
-- numbers before.
unfoldable pub line_into : Keyword → State → List (List ℕ) → List ℕ → List ℕ
line_into w st [] held = held
line_into w st (f ∷ fs) held = cond (follows st.last (keyword_of f) && same_keyword (Some w) (keyword_of f)) (fields_into w (count_in w st) fs held) held

-- The buffers are the same slices.
abbrev pub SameSlices : Buffers → Buffers → Type 0
SameSlices old new =
    (new.a.ghost_name ≡ old.a.ghost_name) × (new.b.ghost_name ≡ old.b.ghost_name) × (new.c.ghost_name ≡ old.c.ghost_name)
    × (new.items.ghost_name ≡ old.items.ghost_name) × (new.wits.ghost_name ≡ old.wits.ghost_name)

-- Each buffer for the lines with a keyword w is what `into w` makes of it.
abbrev pub EachBuffer : (Keyword → List ℕ → List ℕ) → Buffers → Buffers → Type 0
EachBuffer into old new =
    record {
      a : new.a.now ≡ into EntryA old.a.now;
      b : new.b.now ≡ into EntryB old.b.now;
      c : new.c.now ≡ into EntryC old.c.now;
      items : new.items.now ≡ into Item old.items.now;
      wits : new.wits.now ≡ into Wit old.wits.now;
      same : SameSlices old new;
    }

-- ---- the pass

-- Whether the pass ends behind a line: the line broke the rules, or it is an item and not the whole sheet is asked for.
abbrev pub over : Bool → State → Bool
over whole st = same_keyword st.last None || (not whole && same_keyword st.last (Some Item))

-- The state that the pass over s ends with, and one of its buffers, from the state st on, where `texts` are the lines from there.
unfoldable pub pass : Bool → List ℕ → List (List ℕ) → State → State
pass whole s [] st = st
pass whole s (t ∷ texts) st =
    let next = step st (line_of t) (next_line s st.at) in
    cond (over whole next) next (pass whole s texts next)

unfoldable pub pass_into : Keyword → Bool → List ℕ → List (List ℕ) → State → List ℕ → List ℕ
pass_into w whole s [] st held = held
pass_into w whole s (t ∷ texts) st held =
    let next = step st (line_of t) (next_line s st.at) in
    let now = line_into w st (fields t) held in
    cond (over whole next) now (pass_into w whole s texts next now)

-- The same from the first line on: what a scan of s ends with, and the buffer for the lines with the keyword w, which had the bytes `held`.
unfoldable pub scanned : Bool → List ℕ → State
scanned whole s = pass whole s (lines s) start

unfoldable pub scanned_into : Keyword → Bool → List ℕ → List ℕ → List ℕ
scanned_into w whole s held = pass_into w whole s (lines s) start held
