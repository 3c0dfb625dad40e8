-- The field that starts at an index: which byte ends it, and what the line then is, with its fields and the start of the next line.
use mathlib.Core.Path.{◌≡◌, refl, sym, ap, ◌∙◌}
use mathlib.Core.Bool.{Bool, true, false}
use mathlib.Core.Logic.{◌⊎◌, inl, inr, ⊎_elim}
use mathlib.Core.List.{List, [], ◌∷◌, ◌++◌}
use Prim.Native.Nat.{ℕ, suc, ◌+◌, ◌≤◌, ◌<◌, min}
use native.Mathlib.Omega.{arith}
use borrow.Author.Tests.{eqb-true}
use lib.Dec.{eqb}
use lib.ListN.{length, get_or, drop, length-append, length-drop, get_or-eq_default}
use lib.Seq.{get_or-append_seam, drop-append-add, drop-drop, get_or-drop}
use Rattle.lines.specs.Text.{pieces, fields}
use Rattle.lines.specs.Cursor.{field, line, field_at, field_end, line_at, fields_at, next_line}
use Rattle.lines.proofs.FieldLaws.{field-inside}

-- ---- the first field of a text

-- What ends the first field of a text: a tab, byte 10 or the text's end.
data First (l : List ℕ) : Type 0 where
  tab : (f r : List ℕ) → l ≡ f ++ (9 ∷ r) → field l ≡ f → line l ≡ f ++ (9 ∷ line r) → fields (line l) ≡ f ∷ fields (line r) → First l
  newline : (f r : List ℕ) → l ≡ f ++ (10 ∷ r) → field l ≡ f → line l ≡ f → fields (line l) ≡ f ∷ [] → First l
  end : field l ≡ l → line l ≡ l → fields (line l) ≡ l ∷ [] → First l

first-nil : First []
unfolding field line pieces
first-nil = end refl refl refl

first_more : (x : ℕ) (xs : List ℕ) → eqb x 9 ≡ false → eqb x 10 ≡ false → First xs → First (x ∷ xs)
unfolding field line pieces
first_more x xs n t (tab f r e₀ e₁ e₂ e₃) = tab (x ∷ f) r (rw e₀) (rw (n, t, e₁)) (rw (t, e₂)) (rw t (rw n (rw e₃)))
first_more x xs n t (newline f r e₀ e₁ e₂ e₃) = newline (x ∷ f) r (rw e₀) (rw (n, t, e₁)) (rw (t, e₂)) (rw t (rw n (rw e₃)))
first_more x xs n t (end e₁ e₂ e₃) = end (rw (n, t, e₁)) (rw (t, e₂)) (rw t (rw n (rw e₃)))

first-tab : (x : ℕ) (xs : List ℕ) → x ≡ 9 → First (x ∷ xs)
unfolding field line pieces
first-tab x xs e = tab [] xs (rw e) (rw e) (rw e) (rw e)

first-newline : (x : ℕ) (xs : List ℕ) → x ≡ 10 → First (x ∷ xs)
unfolding field line pieces
first-newline x xs e = newline [] xs (rw e) (rw e) (rw e) (rw e)

first : (l : List ℕ) → First l
first [] = first-nil
first (x ∷ xs) = by-tab (eqb x 9) refl (first xs)
  where
    by-newline : (t : Bool) → eqb x 10 ≡ t → eqb x 9 ≡ false → First xs → First (x ∷ xs)
    by-newline true e n r = first-newline x xs (eqb-true x 10 e)
    by-newline false e n r = first_more x xs n e r

    by-tab : (t : Bool) → eqb x 9 ≡ t → First xs → First (x ∷ xs)
    by-tab true e r = first-tab x xs (eqb-true x 9 e)
    by-tab false e r = by-newline (eqb x 10) refl e r

-- The byte where the first field ends, 0 at the text's end.
byte-behind : (l f r : List ℕ) (b : ℕ) → l ≡ f ++ (b ∷ r) → field l ≡ f → get_or l (length (field l)) 0 ≡ b
byte-behind l f r b e₀ e₁ = rw (e₁, e₀) (get_or-append_seam f b r 0)

no-byte-behind : (l : List ℕ) → field l ≡ l → get_or l (length (field l)) 0 ≡ 0
no-byte-behind l e = rw e (get_or-eq_default l 0 {n = length l} (omega arith))

field-ends : (l : List ℕ) → First l → length (field l) < length l → (get_or l (length (field l)) 0 ≡ 9) ⊎ (get_or l (length (field l)) 0 ≡ 10)
field-ends l (tab f r e₀ e₁ e₂ e₃) h = inl (byte-behind l f r 9 e₀ e₁)
field-ends l (newline f r e₀ e₁ e₂ e₃) h = inr (byte-behind l f r 10 e₀ e₁)
field-ends l (end e₁ e₂ e₃) h = absurd (omega (arith, ap length e₁))

-- What a tab behind the first field parts.
abbrev Parted : List ℕ → List ℕ → Type 0
Parted l r = (length (field l) < length l) × (line l ≡ field l ++ (9 ∷ line r)) × (fields (line l) ≡ field l ∷ fields (line r))

parted : (l : List ℕ) → First l → get_or l (length (field l)) 0 ≡ 9 → Parted l (drop (suc (length (field l))) l)
parted l (tab f r e₀ e₁ e₂ e₃) h = (
  omega (arith, ap length e₀, length-append f (9 ∷ r), ap length e₁),
  e₂ ∙ rw (rest, e₁),
  e₃ ∙ rw (rest, e₁),
)
  where
    rest : drop (suc (length (field l))) l ≡ r
    rest =
        let e : suc (length f) ≡ length f + 1 = omega arith in
        rw (e₁, e₀, e) (drop-append-add f (9 ∷ r) 1)
parted l (newline f r e₀ e₁ e₂ e₃) h = absurd (omega (arith, byte-behind l f r 10 e₀ e₁))
parted l (end e₁ e₂ e₃) h = absurd (omega (arith, no-byte-behind l e₁))

-- The first field is the whole line where no tab ends it.
alone : (l : List ℕ) → First l → (get_or l (length (field l)) 0 ≡ 9 → ⊥) → (line l ≡ field l) × (fields (line l) ≡ field l ∷ [])
alone l (tab f r e₀ e₁ e₂ e₃) h = absurd (h (byte-behind l f r 9 e₀ e₁))
alone l (newline f r e₀ e₁ e₂ e₃) h = (e₂ ∙ sym e₁, e₃ ∙ rw e₁)
alone l (end e₁ e₂ e₃) h = (e₂ ∙ sym e₁, e₃ ∙ rw e₁)

some-fields : (l : List ℕ) → First l → (fs : List (List ℕ)) × (fields (line l) ≡ field l ∷ fs)
some-fields l (tab f r e₀ e₁ e₂ e₃) = (fields (line r), e₃ ∙ rw e₁)
some-fields l (newline f r e₀ e₁ e₂ e₃) = ([], e₃ ∙ rw e₁)
some-fields l (end e₁ e₂ e₃) = ([], e₃ ∙ rw e₁)

-- Every rest of a line has a first field.
pub first_field : (s : List ℕ) (at : ℕ) → (fs : List (List ℕ)) × (fields_at s at ≡ field_at s at ∷ fs)
first_field s at = some-fields (drop at s) (first (drop at s))

-- ---- the field of s that starts at an index and ends at `end`
module _ (s : List ℕ) (at end : ℕ) (inside : at ≤ length s) (is-end : end ≡ field_end s at) where
  byte : get_or (drop at s) (length (field_at s at)) 0 ≡ get_or s end 0
  byte = rw is-end (get_or-drop at s (length (field_at s at)) 0)

  rest : drop (suc (length (field_at s at))) (drop at s) ≡ drop (end + 1) s
  rest =
      let e : at + suc (length (field_at s at)) ≡ end + 1 = omega arith in
      drop-drop (suc (length (field_at s at))) at s ∙ rw e

  pub end-within : end ≤ length s
  end-within = omega (arith, field-inside s at inside)

  end-byte : end < length s → (get_or s end 0 ≡ 9) ⊎ (get_or s end 0 ≡ 10)
  end-byte l = rw byte at (field-ends (drop at s) (first (drop at s)) (omega (arith, length-drop at s)))

  -- What ends it before the text's end is a tab where it is not byte 10.
  module _ (before : end ≡ length s → ⊥) where
    pub end_before : end < length s
    end_before = omega (arith, end-within)

    pub is-tab : (get_or s end 0 ≡ 10 → ⊥) → get_or s end 0 ≡ 9
    is-tab h = ⊎_elim (λ b. b) (λ b. absurd (h b)) (end-byte end_before)

  -- Where a tab ends it, another field follows.
  module _ (h : get_or s end 0 ≡ 9) where
    here : Parted (drop at s) (drop (suc (length (field_at s at))) (drop at s))
    here = parted (drop at s) (first (drop at s)) (byte ∙ h)

    pub tab-within : end < length s
    tab-within = omega (arith, here.0, length-drop at s)

    tab-line : line_at s at ≡ field_at s at ++ (9 ∷ line_at s (end + 1))
    tab-line = here.1 ∙ rw rest

    pub tab-fields : fields_at s at ≡ field_at s at ∷ fields_at s (end + 1)
    tab-fields = here.2 ∙ rw rest

    pub tab-next : next_line s at ≡ next_line s (end + 1)
    tab-next =
        let e : at + length (line_at s at) + 1 ≡ end + 1 + length (line_at s (end + 1)) + 1 =
        omega (arith, ap length tab-line, length-append (field_at s at) (9 ∷ line_at s (end + 1))) in
        rw e

  -- Where none ends it, it is the line's last.
  module _ (h : get_or s end 0 ≡ 9 → ⊥) where
    last_line : line_at s at ≡ field_at s at
    last_line = (alone (drop at s) (first (drop at s)) (λ e. h (sym byte ∙ e))).0

    pub last-fields : fields_at s at ≡ field_at s at ∷ []
    last-fields = (alone (drop at s) (first (drop at s)) (λ e. h (sym byte ∙ e))).1

    pub last-next : next_line s at ≡ min (end + 1) (length s)
    last-next =
        let e : at + length (line_at s at) + 1 ≡ end + 1 = omega (arith, ap length last_line) in
        rw e

  pub no-tab-end : end ≡ length s → get_or s end 0 ≡ 9 → ⊥
  no-tab-end e h = omega (arith, get_or-eq_default s 0 {n = end} (omega arith))

  no-tab-newline : get_or s end 0 ≡ 10 → get_or s end 0 ≡ 9 → ⊥
  no-tab-newline e h = omega arith

  pub end-fields : end ≡ length s → fields_at s at ≡ field_at s at ∷ []
  end-fields e = last-fields (no-tab-end e)

  pub newline-fields : get_or s end 0 ≡ 10 → fields_at s at ≡ field_at s at ∷ []
  newline-fields e = last-fields (no-tab-newline e)
