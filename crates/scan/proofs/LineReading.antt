-- Reading the line at the state's index: by its first field and the fields behind it, with a tab between them.
use mathlib.Core.Path.{◌≡◌, refl, sym, ap, ◌∙◌}
use mathlib.Core.Bool.{Bool, true, false, cond, ◌&&◌, true≢false}
use mathlib.Core.Logic.{◌⊎◌, inl, inr, ⊎_elim}
use mathlib.Core.List.{List, [], ◌∷◌}
use Prim.Native.Nat.{ℕ, ◌+◌, ◌≤◌, ◌<◌}
use native.Mathlib.Omega.{arith}
use borrow.Author.Tests.{eq-eqb}
use lib.ListN.{length, get_or}
use Rattle.std.specs.Prelude.{Some, None}
use Rattle.lines.specs.declared.keyword.Keyword.{Keyword}
use Rattle.lines.specs.declared.keyword.Keyword.TheVariants.{EntryA, EntryB, EntryC, Item, Wit}
use Rattle.scan.specs.declared.state.State.{State}
use Rattle.lines.specs.Text.{all_pass}
use Rattle.lines.specs.Lines.{Line, keyword_of, front, line_with, line_of_fields, line_of}
use Rattle.lines.specs.Cursor.{field_at, field_end, fields_at, next_line, appended_numbers, appended_item}
use Rattle.scan.specs.Sheet.{number, same_keyword, follows}
use Rattle.scan.specs.Scan.{stopped, advance_by, advance, step, line_here, MayStand, Bounded, count_in, fields_into, line_into}
use Rattle.lines.proofs.FieldEnds.{first_field, tab-within, tab-fields, tab-next}
use Rattle.lines.proofs.LineLengths.{next-within}
use Rattle.scan.proofs.ScanLaws.{follows-none, step-on, step-off}
use Rattle.scan.proofs.KeywordLines.{Kept, kept, keyword-or-none, alone-broken, advance-bounded}

-- The buffer for the lines with the keyword w behind it.
abbrev into : Keyword → List ℕ → State → List ℕ → List ℕ
into w s st held = line_into w st (fields_at s st.at) held

-- What reading it promises, where `Same` says that the buffers are those of the call.
abbrev pub LineRead : List ℕ → State → List ℕ → List ℕ → List ℕ → List ℕ → List ℕ → List ℕ → List ℕ → List ℕ → List ℕ → List ℕ → Type 0 → State → Type 0
LineRead s st a b c items wits a' b' c' items' wits' Same r =
    record {
      state : r ≡ step st (line_here s st) (next_line s st.at);
      bounded : MayStand s st → Bounded (length s) r;
      buffers : record {
        a : a' ≡ into EntryA s st a;
        b : b' ≡ into EntryB s st b;
        c : c' ≡ into EntryC s st c;
        items : items' ≡ into Item s st items;
        wits : wits' ≡ into Wit s st wits;
        same : Same;
      };
    }

-- A keyword that may not follow changes no buffer, and neither does a keyword alone.
into-refused : (w : Keyword) (st : State) (f : List ℕ) (fs : List (List ℕ)) (held : List ℕ) → follows st.last (keyword_of f) ≡ false → held ≡ line_into w st (f ∷ fs) held
unfolding line_into
into-refused w st f fs held h = sym (ap (λ t. cond (t && same_keyword (Some w) (keyword_of f)) (fields_into w (count_in w st) fs held) held) h)

into-alone : (w : Keyword) (st : State) (f held : List ℕ) → held ≡ line_into w st (f ∷ []) held
unfolding line_into appended_item appended_numbers front all_pass
into-alone w st f held = same (follows st.last (keyword_of f) && same_keyword (Some w) (keyword_of f)) (same_keyword (Some w) (Some Item))
  where
    same : (t u : Bool) → held ≡ cond t (cond u held held) held
    same true true = refl
    same true false = refl
    same false u = refl

-- A line that may not stand there.
module _ (s : List ℕ) (st r : State) (e : r ≡ stopped st) where
  refused : ((w : Keyword) (held : List ℕ) → held ≡ into w s st held) → follows st.last (line_here s st).keyword ≡ false
      → (a b c items wits : List ℕ) {Same : Type 0} → Same → LineRead s st a b c items wits a b c items wits Same r
  refused left f a b c items wits same =
      record {
        state = e ∙ sym (step-off st (line_here s st) (next_line s st.at) f);
        bounded = λ m. absurd (true≢false (sym m ∙ f));
        buffers = record {
          a = left EntryA a;
          b = left EntryB b;
          c = left EntryC c;
          items = left Item items;
          wits = left Wit wits;
          same = same;
        };
      }

  -- a keyword that may not follow
  pub word-refused : follows st.last (keyword_of (field_at s st.at)) ≡ false → (a b c items wits : List ℕ) {Same : Type 0} → Same → LineRead s st a b c items wits a b c items wits Same r
  unfolding line_of
  word-refused f =
      let fs = first_field s st.at in
      let w = keyword_of (field_at s st.at) in
      let l : (line_here s st).keyword ≡ (line_with w fs.0).keyword = ap (λ x. (line_of_fields x).keyword) fs.1 in
      refused
      (λ v held. into-refused v st (field_at s st.at) fs.0 held f ∙ ap (λ x. line_into v st x held) (sym fs.1))
      (⊎_elim (λ k. ap (follows st.last) (l ∙ k) ∙ f) (λ k. ap (follows st.last) (l ∙ k) ∙ follows-none st.last) (keyword-or-none w fs.0))

  -- a field alone
  pub alone-refused : fields_at s st.at ≡ field_at s st.at ∷ [] → (a b c items wits : List ℕ) {Same : Type 0} → Same → LineRead s st a b c items wits a b c items wits Same r
  unfolding line_of
  alone-refused e =
      refused
      (λ v held. into-alone v st (field_at s st.at) held ∙ ap (λ x. line_into v st x held) (sym e))
      (ap (follows st.last) (ap (λ x. (line_of_fields x).keyword) e ∙ alone-broken (keyword_of (field_at s st.at))) ∙ follows-none st.last)

-- A first field that ends at `end`, where a tab stands; its keyword may follow.
pub record AtTab (s : List ℕ) (st : State) (end : ℕ) (w : Keyword) : Type 0 where
  pub inside : st.at < length s
  pub bounded : Bounded (length s) st
  pub is-end : end ≡ field_end s st.at
  pub word : Some w ≡ keyword_of (field_at s st.at)
  pub may : follows st.last (Some w) ≡ true
  pub tab : get_or s end 0 ≡ 9

pub with-keyword : (s : List ℕ) (st : State) (end : ℕ) (v w : Keyword) → v ≡ w → AtTab s st end v → AtTab s st end w
with-keyword s st end v w e h = rw e at h

-- The fields behind it start inside s, not before the state's index.
pub behind-tab : (s : List ℕ) (st : State) (end : ℕ) (w : Keyword) → AtTab s st end w → (end + 1 ≤ length s) × (st.at ≤ end)
behind-tab s st end w h = omega (arith, tab-within s st.at end (omega (arith, h.inside)) h.is-end h.tab, h.is-end)

-- The line whose keyword is w.
module _ (s : List ℕ) (st r : State) (end : ℕ) (w : Keyword) (at-tab : AtTab s st end w) (e : r ≡ advance st (line_with (Some w) (fields_at s (end + 1))) (next_line s (end + 1))) where
  abbrev here : Line
  here = line_with (Some w) (fields_at s (end + 1))

  before : st.at ≤ length s
  before = omega (arith, at-tab.inside)

  behind : (end + 1 ≤ length s) × (st.at ≤ end)
  behind = behind-tab s st end w at-tab

  line-is : line_here s st ≡ here
  unfolding line_of
  line-is = ap line_of_fields (tab-fields s st.at end before at-tab.is-end at-tab.tab) ∙ ap (λ k. line_with k (fields_at s (end + 1))) (sym at-tab.word)

  next-is : next_line s st.at ≡ next_line s (end + 1)
  next-is = tab-next s st.at end before at-tab.is-end at-tab.tab

  broken-stops : here.keyword ≡ None → step st here (next_line s (end + 1)) ≡ advance st here (next_line s (end + 1))
  unfolding advance
  broken-stops k =
      step-off st here (next_line s (end + 1)) (ap (follows st.last) k ∙ follows-none st.last)
      ∙ sym (ap (λ v. advance_by v st here.numbers (next_line s (end + 1))) k)

  state : r ≡ step st (line_here s st) (next_line s st.at)
  state =
      let same : step st here (next_line s (end + 1)) ≡ advance st here (next_line s (end + 1)) =
      ⊎_elim (λ k. step-on st here (next_line s (end + 1)) (ap (follows st.last) k ∙ at-tab.may)) broken-stops (keyword-or-none (Some w) (fields_at s (end + 1))) in
      e ∙ sym same ∙ rw (line-is, next-is)

  -- a line that may stand there keeps the rules
  module _ (stands : MayStand s st) where
    here-kept : Kept s (end + 1) w here
    here-kept =
        ⊎_elim
        (λ k. k)
        (λ k. absurd (true≢false (sym stands ∙ ap (λ l. follows st.last l.keyword) line-is ∙ ap (follows st.last) k ∙ follows-none st.last)))
        (kept s (end + 1) behind.0 w)

    now-bounded : Bounded (length s) r
    unfolding advance
    now-bounded =
        rw (e, here-kept.0)
        (advance-bounded w st here.numbers (next_line s (end + 1)) (length s) at-tab.bounded (omega (arith, behind)) (next-within s (end + 1)) (omega (arith, behind, here-kept.1)))

  -- A buffer: of another keyword and unchanged, or of this one and with the fields that were read.
  abbrev Buffer : Keyword → List ℕ → List ℕ → Type 0
  Buffer v held now = ((same_keyword (Some v) (Some w) ≡ false) × (now ≡ held)) ⊎ ((v ≡ w) × (now ≡ fields_into w (count_in w st) (fields_at s (end + 1)) held))

  abbrev chosen : Bool → Keyword → List ℕ → List ℕ
  chosen t v held = cond t (fields_into v (count_in v st) (fields_at s (end + 1)) held) held

  into-here : (v : Keyword) (held : List ℕ) → into v s st held ≡ chosen (same_keyword (Some v) (Some w)) v held
  unfolding line_into
  into-here v held =
      ap (λ x. line_into v st x held) (tab-fields s st.at end before at-tab.is-end at-tab.tab)
      ∙ ap (λ k. chosen (follows st.last k && same_keyword (Some v) k) v held) (sym at-tab.word)
      ∙ ap (λ t. chosen (t && same_keyword (Some v) (Some w)) v held) at-tab.may

  buffer : (v : Keyword) (held now : List ℕ) → Buffer v held now → now ≡ into v s st held
  buffer v held now (inl h) = h.1 ∙ sym (into-here v held ∙ ap (λ t. chosen t v held) h.0)
  buffer v held now (inr h) = h.1 ∙ sym (ap (λ u. into u s st held) h.0 ∙ into-here w held ∙ ap (λ t. chosen t w held) (eq-eqb (number (Some w)) (number (Some w)) refl))

  pub line_read : (a b c items wits a' b' c' items' wits' : List ℕ) {Same : Type 0}
      → Buffer EntryA a a' → Buffer EntryB b b' → Buffer EntryC c c' → Buffer Item items items' → Buffer Wit wits wits' → Same
      → LineRead s st a b c items wits a' b' c' items' wits' Same r
  line_read a b c items wits a' b' c' items' wits' in-a in_b in_c in-items in-wits same =
      record {
        state = state;
        bounded = now-bounded;
        buffers = record {
          a = buffer EntryA a a' in-a;
          b = buffer EntryB b b' in_b;
          c = buffer EntryC c c' in_c;
          items = buffer Item items items' in-items;
          wits = buffer Wit wits wits' in-wits;
          same = same;
        };
      }
