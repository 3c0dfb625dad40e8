-- The sums of the rows after some of a matrix's entries, and what one more entry adds.
-- Assumes nothing.
use mathlib.Core.Path.{◌≡◌, refl, sym, ap, ap₂, ◌∙◌}
use mathlib.Core.List.{List, map}
use Prim.Native.Nat.{ℕ, zero, suc, ◌+◌, ◌<◌}
use native.Mathlib.Decide.{ℕ_discrete}
use native.Mathlib.Numerals.{add-one}
use native.Mathlib.Omega.{arith}
use borrow.Author.Tests.{eq-eqb, ne_eqb}
use lib.Dec.{eqb}
use lib.ListN.{length, get_or, set, replicate, length-set, get_or-replicate}
use lib.Seq.{get_or-set_same, get_or-set_other, ext_get_or}
use Rattle.algebra.specs.Ring.{CommRing}
use Rattle.algebra.specs.Lists.{build}
use Rattle.algebra.proofs.ListLaws.{length-build, get_or-build, get_or-map}
use Rattle.field.specs.BabyBear.{p, R, F, val, ofℕ, 𝟘, ◌⊕◌, ◌⊗◌}
use Rattle.field.proofs.Laws.{val-zero, below-p}
use Rattle.field.proofs.Chains.{sum_of}
use Rattle.theory.specs.R1cs.{Entry, only_if, row_sum}
use Rattle.theory.specs.Buffers.{entry_count, row_at, column_at, entry_value_at}
use Rattle.theory.specs.Fp.{entry_at, matrix}
use Rattle.r1cs.specs.Rows.{row_sums}

module _ (K : CommRing) where
  -- What an entry adds to row j.
  abbrev pub term : Entry K.carrier → List K.carrier → ℕ → K.carrier
  term e z j = only_if K (eqb e.row j) (K.mul e.value (get_or z e.column K.zero))

  -- One more entry adds its term.
  pub row_sum-more : (i : ℕ) (f : ℕ → Entry K.carrier) (z : List K.carrier) (j : ℕ)
      → row_sum K (build (suc i) f) z j ≡ K.add (row_sum K (build i f) z j) (term (f i) z j)
  row_sum-more zero f z j = K.add_comm (term (f 0) z j) K.zero
  row_sum-more (suc i) f z j = ap (λ (s : K.carrier). K.add (term (f 0) z j) s) (row_sum-more i (λ n. f (suc n)) z j)
      ∙ sym (K.add_assoc (term (f 0) z j) (row_sum K (build i (λ n. f (suc n))) z j) (term (f (suc i)) z j))

-- The sum of row j after the first i entries.
abbrev pub row_so_far : List ℕ → List ℕ → ℕ → ℕ → F
row_so_far entries z i j = row_sum R (build i (entry_at entries)) (map ofℕ z) j

-- sums has the sums of the rows after the first i entries.
pub record Summed (entries z : List ℕ) (i : ℕ) (sums : List ℕ) : Type 0 where
  pub size : length sums ≡ 64
  pub sum : (j : ℕ) → j < 64 → get_or sums j 0 ≡ val (row_so_far entries z i j)

pub summed-none : (entries z : List ℕ) → Summed entries z 0 (replicate 64 0)
summed-none entries z = record { size = refl; sum = λ j h. get_or-replicate 64 j 0 0 h ∙ sym val-zero }

module _ {entries z : List ℕ} {i : ℕ} {sums : List ℕ} (s : Summed entries z i sums) where
  pub summed-below : (j : ℕ) → j < 64 → get_or sums j 0 < p
  summed-below j h = below-p (row_so_far entries z i j) (s.sum j h)

  pub summed-all : i ≡ entry_count entries → sums ≡ row_sums entries z
  unfolding row_sums
  summed-all e = ext_get_or 0 sums (build 64 f) (s.size ∙ sym (length-build 64 f)) (λ j h. at j (rw s.size at h))
    where
      f : ℕ → ℕ
      f j = val (row_sum R (matrix entries) (map ofℕ z) j)

      at : (j : ℕ) → j < 64 → get_or sums j 0 ≡ get_or (build 64 f) j 0
      at j h = s.sum j h ∙ ap (λ (n : ℕ). val (row_so_far entries z n j)) e ∙ sym (get_or-build 64 f j 0 h)

  module _ {row column coefficient product sum : ℕ} (er : row ≡ row_at entries i) (ec : column ≡ column_at entries i) (ev : coefficient ≡ entry_value_at entries i)
      (hr : row < 64) (hc : column < length z) (ep : product ≡ val (ofℕ coefficient ⊗ ofℕ (get_or z column 0)))
      (es : sum ≡ val (ofℕ (get_or sums row 0) ⊕ ofℕ product)) where
    abbrev added : F
    added = ofℕ coefficient ⊗ ofℕ (get_or z column 0)

    -- The entry's value times the number of z in its column.
    added_is : (entry_at entries i).value ⊗ get_or (map ofℕ z) (entry_at entries i).column 𝟘 ≡ added
    added_is = ap₂ (λ (v c : ℕ). ofℕ v ⊗ get_or (map ofℕ z) c 𝟘) (sym ev) (sym ec)
        ∙ ap (λ (x : F). ofℕ coefficient ⊗ x) (get_or-map ofℕ z column 0 𝟘 hc)

    own : sum ≡ val (row_so_far entries z (suc i) row)
    own = sum_of (row_so_far entries z i row) added (s.sum row hr) ep es
        ∙ ap val (ap (λ (x : F). row_so_far entries z i row ⊕ x) (sym (termed)) ∙ sym (row_sum-more R i (entry_at entries) (map ofℕ z) row))
      where
        termed : term R (entry_at entries i) (map ofℕ z) row ≡ added
        termed = rw (eq-eqb (row_at entries i) row (sym er)) added_is

    other : (j : ℕ) → (j ≡ row → ⊥) → row_so_far entries z i j ≡ row_so_far entries z (suc i) j
    other j d = sym (R.add-zero (row_so_far entries z i j)) ∙ ap (λ (x : F). row_so_far entries z i j ⊕ x) (sym nothing) ∙ sym (row_sum-more R i (entry_at entries) (map ofℕ z) j)
      where
        nothing : term R (entry_at entries i) (map ofℕ z) j ≡ 𝟘
        nothing = rw (ne_eqb (row_at entries i) j (λ e. d (sym e ∙ sym er)))

    pub summed-more : Summed entries z (i + 1) (set sums row sum)
    summed-more = rw add-one (record { size = length-set sums row sum ∙ s.size; sum = λ j h. go j h (ℕ_discrete j row) })
      where
        go : (j : ℕ) → j < 64 → Dec (j ≡ row) → get_or (set sums row sum) j 0 ≡ val (row_so_far entries z (suc i) j)
        go j h (yes e) = rw e (get_or-set_same sums row sum 0 (omega (arith, s.size)) ∙ own)
        go j h (no d) = get_or-set_other sums row j sum 0 d ∙ s.sum j h ∙ ap val (other j d)
