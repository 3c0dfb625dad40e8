-- Lines read in order so far: what the state behind them is, and what one line more makes of it.
use mathlib.Core.Path.{◌≡◌, refl, sym, ap, ◌∙◌}
use mathlib.Core.Bool.{Bool, true, false, cond, not, ◌&&◌, false≢true}
use mathlib.Core.List.{List, [], ◌∷◌, ◌++◌, append_assoc}
use Prim.Native.Nat.{ℕ, ◌+◌, ◌*◌}
use native.Mathlib.Omega.{arith}
use lib.Dec.{eqb}
use lib.ListN.{length, length-append}
use Rattle.std.specs.Prelude.{Option, Some, None}
use Rattle.algebra.specs.Lists.{All}
use Rattle.algebra.proofs.ListLaws.{All-append}
use Rattle.lines.specs.declared.keyword.Keyword.{Keyword}
use Rattle.lines.specs.declared.keyword.Keyword.TheVariants.{Size, EntryA, EntryB, EntryC, Item, Wit, End}
use Rattle.scan.specs.declared.state.State.{State}
use Rattle.lines.specs.Text.{all_pass}
use Rattle.lines.specs.Lines.{Line}
use Rattle.scan.specs.Sheet.{same_keyword, follows, ordered_after, having, m, n, k, all_have}
use Rattle.scan.specs.Scan.{stopped, advance_by, advance, step}
use Rattle.scan.proofs.StateAfter.{last_keyword, number_count, state_from, state_after}
use Rattle.scan.proofs.SheetLaws.{same-keyword, all_pass-append, having-more, number_count-append, Sound}

-- ---- which keyword may follow

-- A line without a keyword follows none.
pub follows-none : (v : Option Keyword) → follows v None ≡ false
follows-none (Some Size) = refl
follows-none (Some EntryA) = refl
follows-none (Some EntryB) = refl
follows-none (Some EntryC) = refl
follows-none (Some Item) = refl
follows-none (Some Wit) = refl
follows-none (Some End) = refl
follows-none None = refl

-- `size` stands first only.
follows-size : (v : Option Keyword) → follows v (Some Size) ≡ true → v ≡ None
follows-size (Some Size) e = absurd (false≢true e)
follows-size (Some EntryA) e = absurd (false≢true e)
follows-size (Some EntryB) e = absurd (false≢true e)
follows-size (Some EntryC) e = absurd (false≢true e)
follows-size (Some Item) e = absurd (false≢true e)
follows-size (Some Wit) e = absurd (false≢true e)
follows-size (Some End) e = absurd (false≢true e)
follows-size None e = refl

-- Nothing follows `end`.
follows-end : (v w : Option Keyword) → follows v w ≡ true → same_keyword (Some End) v ≡ false
follows-end (Some Size) w e = refl
follows-end (Some EntryA) w e = refl
follows-end (Some EntryB) w e = refl
follows-end (Some EntryC) w e = refl
follows-end (Some Item) w e = refl
follows-end (Some Wit) w e = refl
follows-end (Some End) w e = absurd (false≢true e)
follows-end None w e = refl

last_more : (ls : List Line) (l : Line) → last_keyword (ls ++ (l ∷ [])) ≡ l.keyword
unfolding last_keyword
last_more [] l = refl
last_more (h ∷ []) l = refl
last_more (h ∷ g ∷ ls) l = last_more (g ∷ ls) l

-- ---- one step

pub advance-last : (v : Option Keyword) (st : State) (xs : List ℕ) (next : ℕ) → (advance_by v st xs next).last ≡ v
advance-last (Some Size) st xs next = refl
advance-last (Some EntryA) st xs next = refl
advance-last (Some EntryB) st xs next = refl
advance-last (Some EntryC) st xs next = refl
advance-last (Some Item) st xs next = refl
advance-last (Some Wit) st xs next = refl
advance-last (Some End) st xs next = refl
advance-last None st xs next = refl

pub step-on : (st : State) (l : Line) (next : ℕ) → follows st.last l.keyword ≡ true → step st l next ≡ advance st l next
unfolding step
step-on st l next f = rw f

pub step-off : (st : State) (l : Line) (next : ℕ) → follows st.last l.keyword ≡ false → step st l next ≡ stopped st
unfolding step
step-off st l next f = rw f

pub step-last : (st : State) (l : Line) (next : ℕ) → follows st.last l.keyword ≡ true → (step st l next).last ≡ l.keyword
unfolding advance
step-last st l next f = ap (λ x. x.last) (step-on st l next f) ∙ advance-last l.keyword st l.numbers next

-- Behind a step the state is at the next line exactly if the line may stand there.
advance-at : (u v : Option Keyword) → follows u v ≡ true → (st : State) (xs : List ℕ) (next : ℕ) → (advance_by v st xs next).at ≡ next
advance-at u (Some Size) f st xs next = refl
advance-at u (Some EntryA) f st xs next = refl
advance-at u (Some EntryB) f st xs next = refl
advance-at u (Some EntryC) f st xs next = refl
advance-at u (Some Item) f st xs next = refl
advance-at u (Some Wit) f st xs next = refl
advance-at u (Some End) f st xs next = refl
advance-at u None f st xs next = absurd (false≢true (sym (follows-none u) ∙ f))

pub step-at : (st : State) (l : Line) (next : ℕ) → follows st.last l.keyword ≡ true → (step st l next).at ≡ next
unfolding advance
step-at st l next f = ap (λ x. x.at) (step-on st l next f) ∙ advance-at st.last l.keyword f st l.numbers next

-- ... and then it has a keyword.
pub step-some : (st : State) (l : Line) (next : ℕ) → same_keyword (step st l next).last None ≡ not (follows st.last l.keyword)
step-some st l next = go (follows st.last l.keyword) refl
  where
    some : (u v : Option Keyword) → follows u v ≡ true → same_keyword v None ≡ false
    some u v f = go' (same_keyword v None) refl
      where
        go' : (t : Bool) → same_keyword v None ≡ t → t ≡ false
        go' true e = absurd (false≢true (sym (follows-none u) ∙ ap (follows u) (sym (same-keyword v None e)) ∙ f))
        go' false e = refl

    go : (t : Bool) → follows st.last l.keyword ≡ t → same_keyword (step st l next).last None ≡ not t
    go true f = ap (λ v. same_keyword v None) (step-last st l next f) ∙ some st.last l.keyword f
    go false f = ap (λ x. same_keyword x.last None) (step-off st l next f)

-- ---- lines in order so far

pub data OrderedPrefix : List Line → Type 0 where
  none : OrderedPrefix []
  more : (ls : List Line) (l : Line) → OrderedPrefix ls → follows (last_keyword ls) l.keyword ≡ true → Sound l → OrderedPrefix (ls ++ (l ∷ []))

pub prefix-sound : (ls : List Line) → OrderedPrefix ls → All Sound ls
prefix-sound ls none = tt
prefix-sound ls (more hs l b f h) = All-append Sound hs (l ∷ []) (prefix-sound hs b) (h, tt)

-- Behind them the order goes on from the last keyword.
pub prefix-order : (ls : List Line) → OrderedPrefix ls → (rest : List Line) → ordered_after None (ls ++ rest) ≡ ordered_after (last_keyword ls) rest
unfolding last_keyword ordered_after
prefix-order ls none rest = refl
prefix-order ls (more hs l b f h) rest = rw (append_assoc hs (l ∷ []) rest, prefix-order hs b (l ∷ rest), last_more hs l, f)

-- Without a last keyword there is no line.
prefix-none : (ls : List Line) → OrderedPrefix ls → last_keyword ls ≡ None → ls ≡ []
prefix-none ls none e = refl
prefix-none ls (more hs l b f h) e =
    absurd (false≢true (sym (follows-none (last_keyword hs)) ∙ ap (follows (last_keyword hs)) (sym e ∙ last_more hs l) ∙ f))

-- `end` is the last line.
prefix-end : (ls : List Line) → OrderedPrefix ls → same_keyword (Some End) (last_keyword ls) ≡ false → having End ls ≡ []
unfolding having
prefix-end ls none e = refl
prefix-end ls (more hs l b f h) e =
    having-more End hs l ∙ ap (λ t. cond t (having End hs ++ (l ∷ [])) (having End hs)) (ap (same_keyword (Some End)) (sym (last_more hs l)) ∙ e) ∙ prefix-end hs b (follows-end (last_keyword hs) l.keyword f)

-- ---- the state behind one line more

-- Two tests, and one more of the first or of the second.
more-first : (a b c : Bool) → ((a && b) && c) ≡ ((a && (c && true)) && b)
more-first true true true = refl
more-first true true false = refl
more-first true false true = refl
more-first true false false = refl
more-first false b c = refl

more-second : (a b c : Bool) → ((a && b) && c) ≡ (a && (b && (c && true)))
more-second true true true = refl
more-second true true false = refl
more-second true false c = refl
more-second false b c = refl

module _ (ls : List Line) (l : Line) (at next : ℕ) where
  -- The lines with the keyword w, where l has the keyword v.
  abbrev after : Keyword → Option Keyword → List Line
  after w v = cond (same_keyword (Some w) v) (having w ls ++ (l ∷ [])) (having w ls)

  abbrev state_with : Option Keyword → State
  state_with v = state_from v (after Size v) (after EntryA v) (after EntryB v) (after EntryC v) (after Item v) (after Wit v) (after End v) next

  state-more : state_after (ls ++ (l ∷ [])) next ≡ state_with l.keyword
  state-more i =
      state_from
      (last_more ls l i)
      (having-more Size ls l i)
      (having-more EntryA ls l i)
      (having-more EntryB ls l i)
      (having-more EntryC ls l i)
      (having-more Item ls l i)
      (having-more Wit ls l i)
      (having-more End ls l i)
      next

  one_more : (hs : List Line) → length hs + 1 ≡ length (hs ++ (l ∷ []))
  one_more hs = omega (arith, length-append hs (l ∷ []))

  numbers_more : (hs : List Line) → number_count hs + length l.numbers ≡ number_count (hs ++ (l ∷ []))
  unfolding number_count
  numbers_more hs = omega (arith, number_count-append hs (l ∷ []))

  -- an item's root counts as eight numbers
  item-more : (hs : List Line) → number_count hs + 8 * length hs + length l.numbers + 8 ≡ number_count (hs ++ (l ∷ [])) + 8 * length (hs ++ (l ∷ []))
  item-more hs = omega (arith, one_more hs, numbers_more hs)

  -- what the lines before say: those without a last keyword are none, and none of them is `end` unless it is the last
  module _ (empty : last_keyword ls ≡ None → ls ≡ []) (open-end : same_keyword (Some End) (last_keyword ls) ≡ false → having End ls ≡ []) where
    first : follows (last_keyword ls) (Some Size) ≡ true → (w : Keyword) → having w ls ≡ []
    unfolding having
    first f w = ap (having w) (empty (follows-size (last_keyword ls) f))

    advance-after : (v : Option Keyword) → follows (last_keyword ls) v ≡ true → advance_by v (state_after ls at) l.numbers next ≡ state_with v
    unfolding all_pass
    advance-after (Some Size) f = rw (first f Size, first f Item, first f Wit)
    advance-after (Some EntryA) f = rw (one_more (having EntryA ls))
    advance-after (Some EntryB) f = rw (one_more (having EntryB ls))
    advance-after (Some EntryC) f = rw (one_more (having EntryC ls))
    advance-after (Some Item) f =
        rw (
          item-more (having Item ls),
          one_more (having Item ls),
          all_pass-append (λ h. eqb (length h.numbers) (1 + m ls + n ls)) (having Item ls) (l ∷ []),
          more-first (all_have (1 + m ls + n ls) (having Item ls)) (all_have (k ls) (having Wit ls)) (eqb (length l.numbers) (1 + m ls + n ls)),
        )
    advance-after (Some Wit) f =
        rw (
          numbers_more (having Wit ls),
          all_pass-append (λ h. eqb (length h.numbers) (k ls)) (having Wit ls) (l ∷ []),
          more-second (all_have (1 + m ls + n ls) (having Item ls)) (all_have (k ls) (having Wit ls)) (eqb (length l.numbers) (k ls)),
        )
    advance-after (Some End) f = rw (open-end (follows-end (last_keyword ls) (Some End) f))
    advance-after None f = absurd (false≢true (sym (follows-none (last_keyword ls)) ∙ f))

-- One line more, which may stand there, gives the state behind all of them.
pub advance-more : (ls : List Line) (l : Line) (at next : ℕ) → OrderedPrefix ls → follows (last_keyword ls) l.keyword ≡ true
    → advance (state_after ls at) l next ≡ state_after (ls ++ (l ∷ [])) next
unfolding advance
advance-more ls l at next b f = advance-after ls l at next (prefix-none ls b) (prefix-end ls b) l.keyword f ∙ sym (state-more ls l at next)
