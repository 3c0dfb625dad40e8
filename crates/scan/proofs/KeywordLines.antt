-- The line of a keyword and the fields behind it: it has the keyword or none, and is at least as long as what it adds to the counters.
use mathlib.Core.Path.{◌≡◌, refl}
use mathlib.Core.Bool.{Bool, true, false, cond, ◌&&◌}
use mathlib.Core.Logic.{◌⊎◌, inl, inr}
use mathlib.Core.List.{List, [], map}
use Prim.Native.Nat.{ℕ, ◌+◌, ◌≤◌, ◌<◌}
use native.Mathlib.Omega.{arith}
use borrow.Author.Tests.{eqb-true}
use lib.ListN.{length, length-map}
use Rattle.std.specs.Prelude.{Option, Some, None}
use Rattle.numbers.proofs.Tests.{and_left, and_right}
use Rattle.lines.specs.declared.keyword.Keyword.{Keyword}
use Rattle.lines.specs.declared.keyword.Keyword.TheVariants.{Size, EntryA, EntryB, EntryC, Item, Wit, End}
use Rattle.lines.specs.Text.{all_pass, decimal, is_number, hex_bytes}
use Rattle.lines.specs.Lines.{Line, broken, count_fits, front, last, numbers_line, item_line, line_with}
use Rattle.lines.specs.Cursor.{fields_at, next_line, is_item}
use Rattle.lines.proofs.LineLengths.{numbers_fit, item-fits}
use Rattle.scan.specs.declared.state.State.{State}
use Rattle.scan.specs.Scan.{advance_by, Bounded}

-- How many bytes a line takes at least, by its keyword and how many numbers it has: one for each number in its buffer.
abbrev pub least_bytes : Keyword → ℕ → ℕ
least_bytes Size count = 0
least_bytes EntryA count = 3
least_bytes EntryB count = 3
least_bytes EntryC count = 3
least_bytes Item count = count + 8
least_bytes Wit count = count
least_bytes End count = 0

-- A line that keeps the rules has the keyword, and at least so many bytes.
abbrev pub Kept : List ℕ → ℕ → Keyword → Line → Type 0
Kept s at w l = (l.keyword ≡ Some w) × (at + least_bytes w (length l.numbers) ≤ next_line s at)

module _ (s : List ℕ) (at : ℕ) (inside : at ≤ length s) where
  abbrev fs : List (List ℕ)
  fs = fields_at s at

  numbers-kept : (w : Keyword) → ((count : ℕ) → count_fits w count ≡ true → least_bytes w count ≤ count) → Kept s at w (numbers_line w fs) ⊎ ((numbers_line w fs).keyword ≡ None)
  numbers-kept w least = go (all_pass is_number fs && count_fits w (length fs)) refl
    where
      go : (t : Bool) → (all_pass is_number fs && count_fits w (length fs)) ≡ t
          → Kept s at w (cond t (record { keyword = Some w; numbers = map decimal fs; root = [] }) broken) ⊎ ((cond t (record { keyword = Some w; numbers = map decimal fs; root = [] }) broken).keyword ≡ None)
      go true e =
          inl (refl, rw (length-map fs decimal) (omega (arith, least (length fs) (and_right (all_pass is_number fs) _ e), numbers_fit s at inside (and_left (all_pass is_number fs) _ e))))
      go false e = inr refl

  item-kept : Kept s at Item (item_line fs) ⊎ ((item_line fs).keyword ≡ None)
  item-kept = go (is_item fs) refl
    where
      go : (t : Bool) → is_item fs ≡ t
          → Kept s at Item (cond t (record { keyword = Some Item; numbers = map decimal (front fs); root = hex_bytes (last fs) }) broken)
          ⊎ ((cond t (record { keyword = Some Item; numbers = map decimal (front fs); root = hex_bytes (last fs) }) broken).keyword ≡ None)
      go true e = inl (refl, rw (length-map (front fs) decimal) (omega (arith, item-fits s at inside e)))
      go false e = inr refl

  pub kept : (w : Keyword) → Kept s at w (line_with (Some w) fs) ⊎ ((line_with (Some w) fs).keyword ≡ None)
  kept Size = numbers-kept Size (λ n e. omega arith)
  kept EntryA = numbers-kept EntryA (λ n e. omega (arith, eqb-true n 3 e))
  kept EntryB = numbers-kept EntryB (λ n e. omega (arith, eqb-true n 3 e))
  kept EntryC = numbers-kept EntryC (λ n e. omega (arith, eqb-true n 3 e))
  kept Item = item-kept
  kept Wit = numbers-kept Wit (λ n e. omega arith)
  kept End = numbers-kept End (λ n e. omega arith)

-- It has the keyword or none.
cond-keyword : (t : Bool) (l : Line) → ((cond t l broken).keyword ≡ l.keyword) ⊎ ((cond t l broken).keyword ≡ None)
cond-keyword true l = inl refl
cond-keyword false l = inr refl

numbers-keyword : (w : Keyword) (fs : List (List ℕ)) → ((numbers_line w fs).keyword ≡ Some w) ⊎ ((numbers_line w fs).keyword ≡ None)
numbers-keyword w fs = cond-keyword (all_pass is_number fs && count_fits w (length fs)) (record { keyword = Some w; numbers = map decimal fs; root = [] })

pub keyword-or-none : (w : Option Keyword) (fs : List (List ℕ)) → ((line_with w fs).keyword ≡ w) ⊎ ((line_with w fs).keyword ≡ None)
keyword-or-none (Some Size) fs = numbers-keyword Size fs
keyword-or-none (Some EntryA) fs = numbers-keyword EntryA fs
keyword-or-none (Some EntryB) fs = numbers-keyword EntryB fs
keyword-or-none (Some EntryC) fs = numbers-keyword EntryC fs
keyword-or-none (Some Item) fs = cond-keyword (is_item fs) (record { keyword = Some Item; numbers = map decimal (front fs); root = hex_bytes (last fs) })
keyword-or-none (Some Wit) fs = numbers-keyword Wit fs
keyword-or-none (Some End) fs = numbers-keyword End fs
keyword-or-none None _ = inr refl

-- A keyword with no field behind it is a broken line.
pub alone-broken : (w : Option Keyword) → (line_with w []).keyword ≡ None
unfolding all_pass front
alone-broken (Some Size) = refl
alone-broken (Some EntryA) = refl
alone-broken (Some EntryB) = refl
alone-broken (Some EntryC) = refl
alone-broken (Some Item) = refl
alone-broken (Some Wit) = refl
alone-broken (Some End) = refl
alone-broken None = refl

-- No counter gets ahead of the index.
pub advance-bounded : (v : Keyword) (st : State) (xs : List ℕ) (next size : ℕ) → Bounded size st → st.at < next → next ≤ size → st.at + least_bytes v (length xs) ≤ next
    → Bounded size (advance_by (Some v) st xs next)
advance-bounded Size st xs next size h more within long = omega arith
advance-bounded EntryA st xs next size h more within long = omega arith
advance-bounded EntryB st xs next size h more within long = omega arith
advance-bounded EntryC st xs next size h more within long = omega arith
advance-bounded Item st xs next size h more within long = omega arith
advance-bounded Wit st xs next size h more within long = omega arith
advance-bounded End st xs next size h more within long = omega arith
