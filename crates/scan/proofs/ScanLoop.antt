-- The loop of a scan: between two lines, the pass over the lines that are left ends as the whole one does.
use mathlib.Core.Path.{◌≡◌, refl, sym, ap, ap₂, ◌∙◌}
use mathlib.Core.Bool.{Bool, true, false, cond, not, ◌&&◌, ◌||◌}
use mathlib.Core.List.{List, []}
use Prim.Native.Nat.{ℕ, ◌-◌, ◌≤◌, ◌<◌}
use native.Mathlib.Omega.{arith}
use borrow.Author.Tests.{not-false}
use lib.ListN.{length, drop, drop_of_length-le}
use Rattle.std.specs.Prelude.{Some, None}
use Rattle.lines.specs.declared.keyword.Keyword.{Keyword}
use Rattle.lines.specs.declared.keyword.Keyword.TheVariants.{EntryA, EntryB, EntryC, Item, Wit}
use Rattle.scan.specs.declared.state.State.{State}
use Rattle.lines.specs.Text.{lines, pieces}
use Rattle.lines.specs.Cursor.{fields_at, next_line}
use Rattle.scan.specs.Sheet.{same_keyword, follows}
use Rattle.scan.specs.Scan.{start, step, line_here, MayStand, Bounded, line_into, over, pass, pass_into, scanned, scanned_into}
use Rattle.lines.proofs.LineLengths.{first-of-lines, next-after}
use Rattle.scan.proofs.ScanLaws.{step-at, step-some}

-- The pass from a state on, and one of its buffers.
abbrev pass_from : Bool → List ℕ → State → State
pass_from whole s st = pass whole s (lines (drop st.at s)) st

abbrev pass_from_into : Keyword → Bool → List ℕ → State → List ℕ → List ℕ
pass_from_into w whole s st held = pass_into w whole s (lines (drop st.at s)) st held

pub record Passing (whole : Bool) (s a₀ b₀ c₀ items₀ wits₀ a b c items wits : List ℕ) (st : State) : Type 0 where
  pub bounded : Bounded (length s) st
  pub state : pass_from whole s st ≡ scanned whole s
  pub in-a : pass_from_into EntryA whole s st a ≡ scanned_into EntryA whole s a₀
  pub in_b : pass_from_into EntryB whole s st b ≡ scanned_into EntryB whole s b₀
  pub in_c : pass_from_into EntryC whole s st c ≡ scanned_into EntryC whole s c₀
  pub in-items : pass_from_into Item whole s st items ≡ scanned_into Item whole s items₀
  pub in-wits : pass_from_into Wit whole s st wits ≡ scanned_into Wit whole s wits₀

-- What the scan promises of its result and the buffers, where `Same` says that these are those of the call.
abbrev Result : Bool → List ℕ → List ℕ → List ℕ → List ℕ → List ℕ → List ℕ → List ℕ → List ℕ → List ℕ → List ℕ → List ℕ → Type 0 → State → Type 0
Result whole s a₀ b₀ c₀ items₀ wits₀ a b c items wits Same r =
    record {
      state : r ≡ scanned whole s;
      buffers : record {
        a : a ≡ scanned_into EntryA whole s a₀;
        b : b ≡ scanned_into EntryB whole s b₀;
        c : c ≡ scanned_into EntryC whole s c₀;
        items : items ≡ scanned_into Item whole s items₀;
        wits : wits ≡ scanned_into Wit whole s wits₀;
        same : Same;
      };
    }

pub start-passing : (whole : Bool) (s a b c items wits : List ℕ) → Passing whole s a b c items wits a b c items wits start
unfolding scanned scanned_into
start-passing whole s a b c items wits = record { bounded = omega arith; state = refl; in-a = refl; in_b = refl; in_c = refl; in-items = refl; in-wits = refl }

-- ---- one line

module _ {whole : Bool} {s a₀ b₀ c₀ items₀ wits₀ a b c items wits : List ℕ} {st : State} (so_far : Passing whole s a₀ b₀ c₀ items₀ wits₀ a b c items wits st) where
  -- at the end no line is left
  pub end-result : length s ≤ st.at → {Same : Type 0} → Same → Result whole s a₀ b₀ c₀ items₀ wits₀ a b c items wits Same st
  unfolding pass pass_into pieces
  end-result all same =
      let none : drop st.at s ≡ [] = drop_of_length-le s all in
      record {
        state = rw none at so_far.state;
        buffers = record {
          a = rw none at so_far.in-a;
          b = rw none at so_far.in_b;
          c = rw none at so_far.in_c;
          items = rw none at so_far.in-items;
          wits = rw none at so_far.in-wits;
          same = same;
        };
      }

  module _ (inside : st.at < length s) {r : State} (e : r ≡ step st (line_here s st) (next_line s st.at)) where
    abbrev next : ℕ
    next = next_line s st.at

    pass-here : pass_from whole s st ≡ cond (over whole r) r (pass whole s (lines (drop next s)) r)
    unfolding pass
    pass-here =
        ap (λ texts. pass whole s texts st) (first-of-lines s st.at inside)
        ∙ ap (λ x. cond (over whole x) x (pass whole s (lines (drop next s)) x)) (sym e)

    abbrev Into : Keyword → List ℕ → List ℕ → Type 0
    Into w held now = now ≡ line_into w st (fields_at s st.at) held

    into-here : (w : Keyword) (held now : List ℕ) → Into w held now → pass_from_into w whole s st held ≡ cond (over whole r) now (pass_into w whole s (lines (drop next s)) r now)
    unfolding pass_into
    into-here w held now put =
        ap (λ texts. pass_into w whole s texts st held) (first-of-lines s st.at inside)
        ∙ ap₂ (λ (x : State) (y : List ℕ). cond (over whole x) y (pass_into w whole s (lines (drop next s)) x y)) (sym e) (sym put)

    module _ {a' b' c' items' wits' : List ℕ} (put_a : Into EntryA a a') (put_b : Into EntryB b b') (put-c : Into EntryC c c') (put-items : Into Item items items') (put-wits : Into Wit wits wits') where
      -- the pass ends behind it
      pub last-result : over whole r ≡ true → {Same : Type 0} → Same → Result whole s a₀ b₀ c₀ items₀ wits₀ a' b' c' items' wits' Same r
      last-result o same =
          record {
            state = sym (rw o at pass-here) ∙ so_far.state;
            buffers = record {
              a = end EntryA a put_a ∙ so_far.in-a;
              b = end EntryB b put_b ∙ so_far.in_b;
              c = end EntryC c put-c ∙ so_far.in_c;
              items = end Item items put-items ∙ so_far.in-items;
              wits = end Wit wits put-wits ∙ so_far.in-wits;
              same = same;
            };
          }
        where
          end : (w : Keyword) (held : List ℕ) {now : List ℕ} → Into w held now → now ≡ pass_from_into w whole s st held
          end w held {now} put = sym (rw o at (into-here w held now put))

      -- it goes on
      module _ (o : over whole r ≡ false) where
        some : same_keyword r.last None ≡ false
        some = go (same_keyword r.last None) refl
          where
            go : (t : Bool) → same_keyword r.last None ≡ t → t ≡ false
            go true n = sym (ap (λ t. t || (not whole && same_keyword r.last (Some Item))) n) ∙ o
            go false n = refl

        may : MayStand s st
        may = not-false (follows st.last (line_here s st).keyword) (sym (step-some st (line_here s st) next) ∙ ap (λ x. same_keyword x.last None) (sym e) ∙ some)

        at_next : r.at ≡ next
        at_next = ap (λ x. x.at) e ∙ step-at st (line_here s st) next may

        pub less-left : length s - r.at < length s - st.at
        less-left = omega (arith, at_next, next-after s st.at inside)

        pub next-passing : (MayStand s st → Bounded (length s) r) → Passing whole s a₀ b₀ c₀ items₀ wits₀ a' b' c' items' wits' r
        next-passing bound =
            record {
              bounded = bound may;
              state = ap (λ n. pass whole s (lines (drop n s)) r) at_next ∙ sym (rw o at pass-here) ∙ so_far.state;
              in-a = on EntryA a put_a ∙ so_far.in-a;
              in_b = on EntryB b put_b ∙ so_far.in_b;
              in_c = on EntryC c put-c ∙ so_far.in_c;
              in-items = on Item items put-items ∙ so_far.in-items;
              in-wits = on Wit wits put-wits ∙ so_far.in-wits;
            }
          where
            on : (w : Keyword) (held : List ℕ) {now : List ℕ} → Into w held now → pass_from_into w whole s r now ≡ pass_from_into w whole s st held
            on w held {now} put = ap (λ n. pass_into w whole s (lines (drop n s)) r now) at_next ∙ sym (rw o at (into-here w held now put))
