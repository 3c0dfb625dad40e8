-- The lines of the listing: each of them, and then all, from what the calls put.
use mathlib.Core.Path.{◌≡◌, sym, ap, ap₂, ◌∙◌}
use mathlib.Core.List.{List, [], ◌∷◌, ◌++◌, append_assoc, append-nil}
use Prim.Native.Nat.{ℕ, zero, suc, ◌+◌, ◌-◌, ◌*◌}
use native.Mathlib.Nat.{suc-mul}
use native.Mathlib.Numerals.{add-one}
use native.Mathlib.Omega.{arith}
use lib.Dec.{eqb}
use lib.ListN.{take, drop}
use Rattle.algebra.specs.Lists.{concat_to}
use Rattle.field.specs.BabyBear.{R, val}
use Rattle.tree.specs.Layout.{part}
use Rattle.theory.specs.R1cs.{value}
use Rattle.theory.specs.Buffers.{number_at}
use Rattle.theory.specs.Fp.{elements, circuit, item_size, item_part, read_item}
use Rattle.lines.specs.LineWriting.{write_number, write_fields, write_line}
use Rattle.listing.specs.Listing.{claim_e, claim_value, verdict_word, claim_line, claim_lines}

-- ---- lines

-- Behind s a word, a tab, a field and byte 10.
one_field : (s word field : List ℕ) → (((s ++ word) ++ 9 ∷ []) ++ field) ++ 10 ∷ [] ≡ s ++ write_line word (field ∷ [])
unfolding write_fields
one_field s word field = simp append_assoc

-- Behind s three fields that end in a tab, a word and byte 10.
three-fields : (s i v e word : List ℕ) → ((((s ++ (i ++ 9 ∷ [])) ++ (v ++ 9 ∷ [])) ++ (e ++ 9 ∷ [])) ++ word) ++ 10 ∷ [] ≡ s ++ write_line i (v ∷ e ∷ word ∷ [])
unfolding write_fields
three-fields s i v e word = simp append_assoc

-- ---- lines that are put by several calls

-- A word and a number.
pub line-put : (s word : List ℕ) (x : ℕ) {s₁ s₂ s₃ t : List ℕ} → s₁ ≡ s ++ word → s₂ ≡ s₁ ++ 9 ∷ [] → s₃ ≡ s₂ ++ write_number x → t ≡ s₃ ++ 10 ∷ []
    → t ≡ s ++ write_line word (write_number x ∷ [])
line-put s word x h₁ h₂ h₃ h₄ = rw (h₄, h₃, h₂, h₁) (one_field s word (write_number x))

-- An item's line.
module _ (s : List ℕ) (i v e : ℕ) {s₁ s₂ s₃ s₄ t : List ℕ} (h₁ : s₁ ≡ s ++ (write_number i ++ 9 ∷ [])) (h₂ : s₂ ≡ s₁ ++ (write_number v ++ 9 ∷ []))
    (h₃ : s₃ ≡ s₂ ++ (write_number e ++ 9 ∷ [])) (h₄ : s₄ ≡ s₃ ++ verdict_word (eqb v e)) (h₅ : t ≡ s₄ ++ 10 ∷ []) where
  pub claim-put : t ≡ s ++ claim_line i v e
  claim-put = rw (h₅, h₄, h₃, h₂, h₁) (three-fields s (write_number i) (write_number v) (write_number e) (verdict_word (eqb v e)))

-- ---- the items' lines

-- One list more.
concat-more : {A : Type 0} (n : ℕ) (f : ℕ → List A) → concat_to (suc n) f ≡ concat_to n f ++ f n
concat-more zero f = append-nil (f 0)
concat-more {A} (suc n) f =
    ap (λ (l : List A). f 0 ++ l) (concat-more n (λ i. f (suc i)))
    ∙ sym (append_assoc (f 0) (concat_to n (λ i. f (suc i))) (f (suc n)))

-- Member i of members of s bytes, as the code cuts it out.
abbrev pub member : List ℕ → ℕ → ℕ → List ℕ
member xs i s = take ((i + 1) * s - i * s) (drop (i * s) xs)

pub member-part : (xs : List ℕ) (i s : ℕ) → member xs i s ≡ part xs (i * s) s
member-part xs i s =
    let behind : (i + 1) * s ≡ i * s + s = rw (add-one, suc-mul) in
    let width : (i + 1) * s - i * s ≡ s = omega arith in
    ap (λ (n : ℕ). take n (drop (i * s) xs)) width

-- Item i, of which the code says the size.
pub member-item : (m n : ℕ) (items : List ℕ) (i : ℕ) {size : ℕ} → size ≡ item_size m n → member items i size ≡ item_part m n items i
member-item m n items i {size} sized = member-part items i size ∙ ap (λ (s : ℕ). part items (i * s) s) sized

module _ (m n k : ℕ) (a b c items wits : List ℕ) where
  abbrev line_at : ℕ → List ℕ
  line_at i = claim_line i (claim_value m n k a b c items wits i) (claim_e m n k a b c items wits i)

  -- The line of item i, put right behind those before it; an item has `size` bytes.
  module _ (i : ℕ) {size v e : ℕ} (sized : size ≡ item_size m n) (e-read : e ≡ number_at (member items i size) 0)
      (computed : v ≡ val (value R (circuit a b c) (read_item m n (member items i size)).r (read_item m n (member items i size)).x (elements k (member wits i (4 * k))))) where
    value-at : v ≡ claim_value m n k a b c items wits i
    unfolding claim_value
    value-at =
        computed
        ∙ ap₂ (λ (xs ys : List ℕ). val (value R (circuit a b c) (read_item m n xs).r (read_item m n xs).x (elements k ys))) (member-item m n items i sized) (member-part wits i (4 * k))

    e-at : e ≡ claim_e m n k a b c items wits i
    e-at = e-read ∙ ap (λ (xs : List ℕ). number_at xs 0) (member-item m n items i sized)

    pub claims-more : (s : List ℕ) {t u : List ℕ} → t ≡ s ++ claim_lines m n k a b c items wits i → u ≡ t ++ claim_line i v e
        → u ≡ s ++ claim_lines m n k a b c items wits (i + 1)
    claims-more s {t} before line =
        line
        ∙ ap₂ ◌++◌ before (ap₂ (claim_line i) value-at e-at)
        ∙ append_assoc s (claim_lines m n k a b c items wits i) (line_at i)
        ∙ ap (λ (l : List ℕ). s ++ l) (sym (concat-more i line_at) ∙ ap (λ (j : ℕ). concat_to j line_at) (sym (add-one i)))
