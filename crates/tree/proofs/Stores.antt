-- A store, and a run of stores: what stands where it went, and what stands elsewhere.
use mathlib.Core.Path.{◌≡◌, refl, sym, ap, subst, ◌∙◌}
use mathlib.Core.List.{List, [], ◌∷◌}
use Prim.Native.Nat.{ℕ, zero, suc, ◌+◌, ◌≤◌, ◌<◌}
use native.Mathlib.Nat.{add-zero, add-suc, suc-add}
use native.Mathlib.Omega.{arith}
use borrow.Author.Count.{below_more}
use lib.ListN.{length, get_or, set, length-set}
use lib.Seq.{sets, get_or-set_same, get_or-set_other}

module _ {A : Type 0} where
  -- what holds of each element before i, and of the one stored at i
  pub set_more : (P : ℕ → A → Type 0) (l : List A) (i : ℕ) (a d : A) → i < length l → ((q : ℕ) → q < i → P q (get_or l q d)) → P i a
      → (q : ℕ) → q < i + 1 → P q (get_or (set l i a) q d)
  set_more P l i a d h all here =
      below_more (λ (q : ℕ). P q (get_or (set l i a) q d)) i
      (λ q hq. subst (P q) (sym (get_or-set_other l i q a d (omega arith))) (all q hq))
      (subst (P i) (sym (get_or-set_same l i a d h)) here)

  pub get_or-sets_before : (vs l : List A) (i j : ℕ) (d : A) → j < i → get_or (sets l i vs) j d ≡ get_or l j d
  get_or-sets_before [] l i j d h = refl
  get_or-sets_before (a ∷ vs) l i j d h = get_or-sets_before vs (set l i a) (suc i) j d (omega arith) ∙ get_or-set_other l i j a d (omega arith)

  pub get_or-sets-after : (vs l : List A) (i j : ℕ) (d : A) → i + length vs ≤ j → get_or (sets l i vs) j d ≡ get_or l j d
  get_or-sets-after [] l i j d h = refl
  get_or-sets-after (a ∷ vs) l i j d h = get_or-sets-after vs (set l i a) (suc i) j d (omega arith) ∙ get_or-set_other l i j a d (omega arith)

  pub get_or-sets-within : (vs l : List A) (i j : ℕ) (d : A) → j < length vs → i + length vs ≤ length l → get_or (sets l i vs) (i + j) d ≡ get_or vs j d
  get_or-sets-within [] l i j d h fits = absurd (omega arith)
  get_or-sets-within (a ∷ vs) l i zero d h fits =
      ap (λ (n : ℕ). get_or (sets (set l i a) (suc i) vs) n d) (add-zero i)
      ∙ get_or-sets_before vs (set l i a) (suc i) i d (omega arith)
      ∙ get_or-set_same l i a d (omega arith)
  get_or-sets-within (a ∷ vs) l i (suc j) d h fits =
      ap (λ (n : ℕ). get_or (sets (set l i a) (suc i) vs) n d) (add-suc i j ∙ sym (suc-add i j))
      ∙ get_or-sets-within vs (set l i a) (suc i) j d (omega arith) (omega (arith, length-set l i a))
