-- What a line adds to the state, by what was read of its fields.
use mathlib.Core.Path.{◌≡◌, refl, sym, ap, ap₂, ◌∙◌}
use mathlib.Core.Bool.{Bool, true, false, not, ◌&&◌}
use mathlib.Core.List.{List, [], ◌∷◌, ◌++◌, map, append-nil}
use Prim.Native.Nat.{ℕ, zero, suc, ◌+◌, ◌*◌, ◌^◌, ◌≤◌, ◌<◌}
use native.Mathlib.Omega.{arith}
use borrow.Author.Tests.{leb-true, eqb-true, eqb-false, le-leb, eq-eqb, ne_eqb}
use lib.Dec.{eqb, leb}
use lib.ListN.{length, drop, length-map, drop_of_length-le}
use Rattle.std.specs.Prelude.{Option, Some, None}
use Rattle.numbers.specs.Numbers.{numbers}
use Rattle.numbers.proofs.Bounds.{Below}
use Rattle.numbers.proofs.Bytes.{numbers-bytes}
use Rattle.numbers.proofs.Tests.{and_left, and_right}
use Rattle.lines.specs.declared.keyword.Keyword.{Keyword}
use Rattle.lines.specs.declared.keyword.Keyword.TheVariants.{EntryA, EntryB, EntryC, Item, Wit}
use Rattle.lines.specs.declared.row.Row.{Row}
use Rattle.scan.specs.declared.state.Entries.{Entries}
use Rattle.scan.specs.declared.state.State.{State}
use Rattle.lines.specs.Text.{all_pass, decimal, is_digit, needless_zero, is_number, hex_bytes}
use Rattle.lines.specs.Lines.{Line, count_fits, broken, numbers_line, front, last, item_line, line_with}
use Rattle.lines.specs.Cursor.{fields_at, next_line, numbers_at, exactly_at, is_item, item_row_at, number_bytes, appended_numbers}
use Rattle.lines.proofs.AppendLaws.{Appended, length-number_bytes, numbers-appended}
use Rattle.lines.proofs.FieldEnds.{first_field}
use Rattle.lines.proofs.ReadLaws.{cond-read, cond-bad, row_read, row-bad}
use Rattle.scan.specs.Scan.{stopped, with_entries, with_pairs, after_entry, advance_by, advance}

-- ---- the state behind a line

module _ (st : State) (l : Line) (next : ℕ) where
  pub state-broken : l ≡ broken → advance st l next ≡ stopped st
  unfolding advance
  state-broken h = ap (λ (k : Line). advance st k next) h

  state-behind : {w : Option Keyword} {xs root : List ℕ} → l ≡ record { keyword = w; numbers = xs; root = root } → advance st l next ≡ advance_by w st xs next
  unfolding advance
  state-behind h = ap (λ (k : Line). advance st k next) h

-- ---- fields

-- A line has a field at any index.
some-fields : (s : List ℕ) (at : ℕ) → 1 ≤ length (fields_at s at)
some-fields s at = omega (arith, ap length (first_field s at).1)

-- A number is below 2 ^ 32, and so are those of fields that are all numbers.
decimal-below : (f : List ℕ) → is_number f ≡ true → decimal f < 2 ^ 32
decimal-below f h =
    let most = leb-true (decimal f) 4294967295 (and_right (leb 1 (length f) && leb (length f) 10 && not (needless_zero f) && all_pass is_digit f) (leb (decimal f) 4294967295) h) in
    omega arith

decimals-below : (fs : List (List ℕ)) → all_pass is_number fs ≡ true → Below (2 ^ 32) (map decimal fs)
unfolding all_pass
decimals-below [] h i l = absurd (omega arith)
decimals-below (f ∷ fs) h zero l = decimal-below f (and_left (is_number f) (all_pass is_number fs) h)
decimals-below (f ∷ fs) h (suc i) l = decimals-below fs (and_right (is_number f) (all_pass is_number fs) h) i (omega arith)

-- A buffer that the numbers fill gives them back.
numbers-back : (fs : List (List ℕ)) (held now : List ℕ) → all_pass is_number fs ≡ true → length held ≡ 4 * length fs → Appended 0 (number_bytes fs) held now → numbers now ≡ map decimal fs
numbers-back fs held now h n a =
    let size : length (number_bytes fs) ≡ length held = length-number_bytes fs ∙ sym n in
    let rest : drop (0 + length (number_bytes fs)) held ≡ [] = drop_of_length-le held {i = 0 + length (number_bytes fs)} (omega arith) in
    let all : now ≡ number_bytes fs = a.1 (omega arith) ∙ ap (λ (t : List ℕ). number_bytes fs ++ t) rest ∙ append-nil (number_bytes fs) in
    ap numbers all ∙ numbers-bytes (map decimal fs) (decimals-below fs h)

-- ---- lines of exactly `size` numbers, behind `count` others in their buffer; the next line starts at `next`

module _ (s : List ℕ) (at count size : ℕ) {r : Option Row} (e : r ≡ exactly_at s at count size) where
  exactly-read : {row : Row} → r ≡ Some row → (all_pass is_number (fields_at s at) ≡ true) × (eqb (length (fields_at s at)) size ≡ true) × (row.next ≡ next_line s at)
  unfolding exactly_at
  exactly-read t =
      let test = eqb (length (fields_at s at)) size in
      let f = cond-read (all_pass is_number (fields_at s at) && test) _ _ (sym e ∙ t) in
      (and_left (all_pass is_number (fields_at s at)) test f.0, and_right (all_pass is_number (fields_at s at)) test f.0, f.2)

  module _ (w : Keyword) (exactly : (n : ℕ) → count_fits w n ≡ eqb n size) where
    pub exactly-bad : r ≡ None → numbers_line w (fields_at s at) ≡ broken
    unfolding exactly_at
    exactly-bad b = rw (exactly (length (fields_at s at)), cond-bad (all_pass is_number (fields_at s at) && eqb (length (fields_at s at)) size) _ _ (sym e ∙ b))

    exactly-line : {row : Row} → r ≡ Some row → numbers_line w (fields_at s at) ≡ record { keyword = Some w; numbers = map decimal (fields_at s at); root = [] }
    exactly-line t = rw ((exactly-read t).0, exactly (length (fields_at s at)), (exactly-read t).1)

-- ---- `a`, `b` and `c`

-- w is the keyword of an entry, and behind its line the entries are `entries`.
pub record EntryKeyword (w : Keyword) (st : State) (entries : Entries) : Type 0 where
  pub three : (count : ℕ) → count_fits w count ≡ eqb count 3
  pub line : (fs : List (List ℕ)) → line_with (Some w) fs ≡ numbers_line w fs
  pub behind : (xs : List ℕ) (next : ℕ) → advance_by (Some w) st xs next ≡ with_entries (Some w) entries st next

module _ (st : State) where
  pub is-a : EntryKeyword EntryA st (record { a = st.entries.a + 1; b = st.entries.b; c = st.entries.c })
  is-a = record { three = λ n. refl; line = λ fs. refl; behind = λ xs next. refl }

  pub is_b : EntryKeyword EntryB st (record { a = st.entries.a; b = st.entries.b + 1; c = st.entries.c })
  is_b = record { three = λ n. refl; line = λ fs. refl; behind = λ xs next. refl }

  pub is_c : EntryKeyword EntryC st (record { a = st.entries.a; b = st.entries.b; c = st.entries.c + 1 })
  is_c = record { three = λ n. refl; line = λ fs. refl; behind = λ xs next. refl }

module _ (w : Keyword) (st : State) (entries : Entries) (is : EntryKeyword w st entries) (s : List ℕ) (at count : ℕ) (q : State) where
  entry-by : (r : Option Row) → r ≡ exactly_at s at (3 * count) 3 → q ≡ after_entry (Some w) entries st r → q ≡ advance st (line_with (Some w) (fields_at s at)) (next_line s at)
  entry-by (Some row) e z =
      let xs = map decimal (fields_at s at) in
      let f = exactly-read s at (3 * count) 3 e refl in
      z ∙ sym (is.behind xs row.next) ∙ ap (advance_by (Some w) st xs) f.2
      ∙ sym (state-behind st _ (next_line s at) (is.line (fields_at s at) ∙ exactly-line s at (3 * count) 3 e w is.three refl))
  entry-by None e z = z ∙ sym (state-broken st _ _ (is.line (fields_at s at) ∙ exactly-bad s at (3 * count) 3 e w is.three refl))

  pub entry_read : {r : Option Row} {v : Keyword} {now : Entries} → r ≡ exactly_at s at (3 * count) 3 → v ≡ w → now ≡ entries → q ≡ after_entry (Some v) now st r
      → q ≡ advance st (line_with (Some w) (fields_at s at)) (next_line s at)
  entry_read {r} e v n z = entry-by r e (z ∙ ap₂ (λ x y. after_entry (Some x) y st r) v n)

-- ---- `size` and `end`: the numbers come back out of a buffer that they fill

module _ (st : State) (s : List ℕ) (at size : ℕ) {r : Option Row} (e : r ≡ exactly_at s at 0 size) (w : Keyword) (exactly : (n : ℕ) → count_fits w n ≡ eqb n size) where
  pub exactly-stopped : {q : State} → q ≡ stopped st → r ≡ None → q ≡ advance st (numbers_line w (fields_at s at)) (next_line s at)
  exactly-stopped z b = z ∙ sym (state-broken st _ _ (exactly-bad s at 0 size e w exactly b))

  -- The state by the numbers xs that were found in the buffer.
  pub exactly-found : {row : Row} → r ≡ Some row → (held found : List ℕ) → length held ≡ 4 * size
      → found ≡ appended_numbers 0 (fields_at s at) held
      → advance_by (Some w) st (numbers found) row.next ≡ advance st (numbers_line w (fields_at s at)) (next_line s at)
  exactly-found t held found h a =
      let f = exactly-read s at 0 size e t in
      let count : length (fields_at s at) ≡ size = eqb-true (length (fields_at s at)) size f.1 in
      let back : numbers found ≡ map decimal (fields_at s at) = numbers-back (fields_at s at) held found f.0 (omega arith) (numbers-appended 0 (fields_at s at) held a f.0) in
      rw (back, f.2) (sym (state-behind st _ (next_line s at) (exactly-line s at 0 size e w exactly t)))

-- ---- `wit` and `item`: the test of the total against the expected one is that of the line's own count

same_count : (a b x y : ℕ) → (a ≡ b → x ≡ y) → (x ≡ y → a ≡ b) → eqb a b ≡ eqb x y
same_count a b x y f g = go (eqb x y) refl
  where
    go : (t : Bool) → eqb x y ≡ t → eqb a b ≡ eqb x y
    go true h = eq-eqb a b (g (eqb-true x y h)) ∙ sym h
    go false h = ne_eqb a b (λ q. eqb-false x y h (f q)) ∙ sym h

module _ (st : State) (s : List ℕ) (at : ℕ) {r : Option Row} {row : Row} (t : r ≡ Some row) where
  pub witness-read : r ≡ numbers_at s at st.pairs.wits
      → with_pairs (Some Wit) (record { items = st.pairs.items; wits = row.count; count = st.pairs.count }) (st.fit && eqb row.count (st.pairs.wits + st.sizes.k)) st row.next
      ≡ advance st (numbers_line Wit (fields_at s at)) (next_line s at)
  witness-read e =
      let xs = map decimal (fields_at s at) in
      let n = length xs in
      let f = row_read s at st.pairs.wits e t in
      let h : row.count ≡ st.pairs.wits + n = omega (arith, f.1, length-map (fields_at s at) decimal) in
      let same = same_count (st.pairs.wits + n) (st.pairs.wits + st.sizes.k) n st.sizes.k (λ q. omega arith) (λ q. omega arith) in
      let line : numbers_line Wit (fields_at s at) ≡ record { keyword = Some Wit; numbers = xs; root = [] } = rw (f.0, le-leb 1 (length (fields_at s at)) (some-fields s at)) in
      rw (f.2, h, same) (sym (state-behind st _ (next_line s at) line))

  row-of-item : r ≡ item_row_at s at st.pairs.items → (is_item (fields_at s at) ≡ true) × (row.count ≡ st.pairs.items + length (front (fields_at s at)) + 8) × (row.next ≡ next_line s at)
  unfolding item_row_at
  row-of-item e = cond-read (is_item (fields_at s at)) _ _ (sym e ∙ t)

  -- A root takes the place of eight numbers.
  pub item-read : r ≡ item_row_at s at st.pairs.items
      → with_pairs (Some Item) (record { items = row.count; wits = st.pairs.wits; count = st.pairs.count + 1 }) (st.fit && eqb row.count (st.pairs.items + (1 + st.sizes.m + st.sizes.n) + 8)) st row.next
      ≡ advance st (item_line (fields_at s at)) (next_line s at)
  item-read e =
      let xs = map decimal (front (fields_at s at)) in
      let n = length xs in
      let k = 1 + st.sizes.m + st.sizes.n in
      let f = row-of-item e in
      let h : row.count ≡ st.pairs.items + n + 8 = omega (arith, f.1, length-map (front (fields_at s at)) decimal) in
      let same = same_count (st.pairs.items + n + 8) (st.pairs.items + k + 8) n k (λ q. omega arith) (λ q. omega arith) in
      let line : item_line (fields_at s at) ≡ record { keyword = Some Item; numbers = xs; root = hex_bytes (last (fields_at s at)) } = rw f.0 in
      rw (f.2, h, same) (sym (state-behind st _ (next_line s at) line))

pub witness-bad : (s : List ℕ) (at count : ℕ) {r : Option Row} → r ≡ numbers_at s at count → r ≡ None → numbers_line Wit (fields_at s at) ≡ broken
witness-bad s at count e b = rw (row-bad s at count e b)

pub item-bad : (s : List ℕ) (at count : ℕ) {r : Option Row} → r ≡ item_row_at s at count → r ≡ None → item_line (fields_at s at) ≡ broken
unfolding item_row_at
item-bad s at count e b = rw (cond-bad (is_item (fields_at s at)) _ _ (sym e ∙ b))
