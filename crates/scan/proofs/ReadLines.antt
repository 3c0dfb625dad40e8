-- The lines that a pass has read, in order so far, with the state and one buffer behind them. This holds before the first line, one line more keeps it,
-- and it says where the pass ends.
use mathlib.Core.Path.{◌≡◌, refl, sym, ap, subst, ◌∙◌}
use mathlib.Core.Bool.{Bool, true, false, cond, not, ◌&&◌, ◌||◌, false≢true}
use mathlib.Core.Logic.{◌⊎◌, inl, inr}
use mathlib.Core.List.{List, [], ◌∷◌, ◌++◌, map, cons≢nil, tail-eq_of_cons-eq}
use Prim.Native.Nat.{ℕ, ◌*◌, ◌≤◌, ◌<◌}
use native.Mathlib.Nat.{zero-add}
use native.Mathlib.Omega.{arith}
use borrow.Author.Tests.{leb-true, leb-false, not-true}
use lib.Dec.{leb}
use lib.ListN.{length, drop, drop_of_length-le}
use lib.Seq.{append_snoc}
use Rattle.std.specs.Prelude.{Some, None}
use Rattle.algebra.specs.Lists.{All}
use Rattle.numbers.proofs.Tests.{and_left, and_right}
use Rattle.lines.specs.declared.keyword.Keyword.{Keyword}
use Rattle.lines.specs.declared.keyword.Keyword.TheVariants.{Size, EntryA, EntryB, EntryC, Item, Wit, End}
use Rattle.scan.specs.declared.state.State.{State}
use Rattle.lines.specs.Text.{all_pass, fields, lines, pieces}
use Rattle.lines.specs.Lines.{Line, line_of}
use Rattle.lines.specs.Cursor.{next_line}
use Rattle.scan.specs.Sheet.{same_keyword, one_of, follows, ordered_after, ordered, sheet_lines, having, line_bytes, bytes_of}
use Rattle.scan.specs.Scan.{start, advance, step, count_in, line_into, over, pass, pass_into, scanned, scanned_into}
use Rattle.lines.proofs.LineLengths.{first-of-lines, next-within}
use Rattle.lines.proofs.AppendLaws.{Appended, appended-none, appended-more}
use Rattle.scan.proofs.StateAfter.{last_keyword, number_count, state_after}
use Rattle.scan.proofs.SheetLaws.{Sound, sound, bytes_of-append, a-length, b-length, c-length, items-length, wits-length}
use Rattle.scan.proofs.ScanLaws.{step-on, step-at, step-some, OrderedPrefix, none, more, prefix-sound, prefix-order, advance-more}
use Rattle.scan.proofs.LineBuffers.{text-put}

-- The lines `texts` are left.
pub record ReadLines (s : List ℕ) (w : Keyword) (held₀ : List ℕ) (texts : List (List ℕ)) (st : State) (held : List ℕ) : Type 0 where
  pub ls : List Line
  pub in-order : OrderedPrefix ls
  pub split : sheet_lines s ≡ ls ++ map line_of texts
  pub left : texts ≡ lines (drop st.at s)
  pub state : st ≡ state_after ls st.at
  pub within : st.at ≤ length s
  pub put : Appended 0 (bytes_of w ls) held₀ held

-- The keywords whose lines have a buffer: the state counts its numbers.
abbrev pub has_buffer : Keyword → Bool
has_buffer w = one_of (EntryA ∷ EntryB ∷ EntryC ∷ Item ∷ Wit ∷ []) (Some w)

counted : (w : Keyword) → has_buffer w ≡ true → (ls : List Line) → All Sound ls → (at : ℕ) → length (bytes_of w ls) ≡ 4 * count_in w (state_after ls at)
counted EntryA b ls h at = a-length ls h
counted EntryB b ls h at = b-length ls h
counted EntryC b ls h at = c-length ls h
counted Item b ls h at = items-length ls h
counted Wit b ls h at = wits-length ls h
counted Size b ls h at = absurd (false≢true b)
counted End b ls h at = absurd (false≢true b)

none_read : (s : List ℕ) (w : Keyword) (held : List ℕ) → ReadLines s w held (lines s) start held
unfolding sheet_lines having line_bytes number_count last_keyword all_pass
none_read s w held = record { ls = []; in-order = none; split = refl; left = refl; state = refl; within = omega arith; put = appended-none 0 held }

-- ---- one line more

-- Where lines are left, so are bytes.
more-lines : (s : List ℕ) (at : ℕ) (t : List ℕ) (texts : List (List ℕ)) → t ∷ texts ≡ lines (drop at s) → at < length s
unfolding pieces
more-lines s at t texts left = go (leb (length s) at) refl
  where
    go : (b : Bool) → leb (length s) at ≡ b → at < length s
    go true e = absurd (cons≢nil (left ∙ ap lines (drop_of_length-le s (leb-true (length s) at e))))
    go false e = leb-false (length s) at e

module _ (s : List ℕ) (w : Keyword) (has : has_buffer w ≡ true) (held₀ t : List ℕ) (texts : List (List ℕ)) (st : State) (held : List ℕ) (so_far : ReadLines s w held₀ (t ∷ texts) st held) where
  abbrev next : ℕ
  next = next_line s st.at

  abbrev behind : State
  behind = step st (line_of t) next

  abbrev ls : List Line
  ls = so_far.ls

  inside : st.at < length s
  inside = more-lines s st.at t texts so_far.left

  last-here : st.last ≡ last_keyword ls
  last-here = ap (λ x. x.last) so_far.state

  -- where the line may not stand, the sheet is not in order
  not-ordered : follows st.last (line_of t).keyword ≡ false → ordered (sheet_lines s) ≡ false
  unfolding ordered_after
  not-ordered f =
      let refused : follows (last_keyword ls) (line_of t).keyword ≡ false = ap (λ v. follows v (line_of t).keyword) (sym last-here) ∙ f in
      ap ordered so_far.split ∙ prefix-order ls so_far.in-order (map line_of (t ∷ texts)) ∙ ap (λ b. b && ordered_after (line_of t).keyword (map line_of texts)) refused

  module _ (may : follows st.last (line_of t).keyword ≡ true) where
    may-ls : follows (last_keyword ls) (line_of t).keyword ≡ true
    may-ls = ap (λ v. follows v (line_of t).keyword) (sym last-here) ∙ may

    at_next : behind.at ≡ next
    at_next = step-at st (line_of t) next may

    state-next : behind ≡ state_after (ls ++ (line_of t ∷ [])) next
    state-next = step-on st (line_of t) next may ∙ ap (λ x. advance x (line_of t) next) so_far.state ∙ advance-more ls (line_of t) st.at next so_far.in-order may-ls

    size : length (bytes_of w ls) ≡ 4 * count_in w st
    size = counted w has ls (prefix-sound ls so_far.in-order) st.at ∙ ap (λ x. 4 * count_in w x) (sym so_far.state)

    one-read : ReadLines s w held₀ texts behind (line_into w st (fields t) held)
    one-read =
        record {
          ls = ls ++ (line_of t ∷ []);
          in-order = more ls (line_of t) so_far.in-order may-ls (sound t);
          split = so_far.split ∙ sym (append_snoc ls (line_of t) (map line_of texts));
          left = tail-eq_of_cons-eq (so_far.left ∙ first-of-lines s st.at inside) ∙ rw at_next;
          state = state-next ∙ rw at_next;
          within = omega (arith, at_next, next-within s st.at);
          put = rw (bytes_of-append w ls (line_of t ∷ [])) (
              appended-more 0 (count_in w st) (bytes_of w ls) (bytes_of w (line_of t ∷ [])) held₀ held _ size so_far.put (rw (zero-add (count_in w st)) (text-put w st t held may)));
        }

-- ---- the end of the pass

-- A line may not stand there, and the sheet is not in order; or no line is left; or the last one is an item, and not the whole sheet is asked for.
abbrev pub Ended : Bool → List ℕ → Keyword → List ℕ → State → List ℕ → Type 0
Ended whole s w held₀ st held =
    ((same_keyword st.last None ≡ true) × (ordered (sheet_lines s) ≡ false))
    ⊎ ((texts : List (List ℕ)) × (ReadLines s w held₀ texts st held × ((texts ≡ []) ⊎ ((whole ≡ false) × (same_keyword st.last (Some Item) ≡ true)))))

module _ (whole : Bool) (s : List ℕ) (w : Keyword) (has : has_buffer w ≡ true) (held₀ : List ℕ) where
  -- From a line on, by whether the pass ends behind it.
  module _ (t : List ℕ) (texts : List (List ℕ)) (st : State) (held : List ℕ) (so_far : ReadLines s w held₀ (t ∷ texts) st held) where
    abbrev r : State
    r = step st (line_of t) (next_line s st.at)

    abbrev put : List ℕ
    put = line_into w st (fields t) held

    abbrev EndsIf : Bool → Type 0
    EndsIf b = Ended whole s w held₀ (cond b r (pass whole s texts r)) (cond b put (pass_into w whole s texts r put))

    module _ (rest : (st : State) (held : List ℕ) → ReadLines s w held₀ texts st held → Ended whole s w held₀ (pass whole s texts st) (pass_into w whole s texts st held)) where
      stands : follows st.last (line_of t).keyword ≡ true → (b : Bool) → over whole r ≡ b → EndsIf b
      stands f true o =
          let some : same_keyword r.last None ≡ false = step-some st (line_of t) (next_line s st.at) ∙ ap not f in
          let item : (not whole && same_keyword r.last (Some Item)) ≡ true = ap (λ b. b || (not whole && same_keyword r.last (Some Item))) (sym some) ∙ o in
          inr (texts, (one-read s w has held₀ t texts st held so_far f, inr (not-true whole (and_left (not whole) _ item), and_right (not whole) _ item)))
      stands f false o = rest r put (one-read s w has held₀ t texts st held so_far f)

      line-ends : (b : Bool) → follows st.last (line_of t).keyword ≡ b → EndsIf (over whole r)
      line-ends true f = stands f (over whole r) refl
      line-ends false f =
          let last : same_keyword r.last None ≡ true = step-some st (line_of t) (next_line s st.at) ∙ ap not f in
          subst EndsIf (sym (ap (λ b. b || (not whole && same_keyword r.last (Some Item))) last)) (inl (last, not-ordered s w has held₀ t texts st held so_far f))

  pass-ends : (texts : List (List ℕ)) (st : State) (held : List ℕ) → ReadLines s w held₀ texts st held → Ended whole s w held₀ (pass whole s texts st) (pass_into w whole s texts st held)
  unfolding pass pass_into
  pass-ends [] st held so_far = inr ([], (so_far, inl refl))
  pass-ends (t ∷ texts) st held so_far = line-ends t texts st held so_far (pass-ends texts) (follows st.last (line_of t).keyword) refl

  pub scan-ends : Ended whole s w held₀ (scanned whole s) (scanned_into w whole s held₀)
  unfolding scanned scanned_into
  scan-ends = pass-ends (lines s) start held₀ (none_read s w held₀)
