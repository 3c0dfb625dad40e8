-- The loop that joins in place: turn i puts new numbers at positions i and half + i, and leaves the later ones of both halves as they were.
-- Assumes nothing.
use mathlib.Core.Path.{◌≡◌, refl, sym, ◌∙◌, ap}
use mathlib.Core.List.{List, ◌++◌}
use Prim.Native.Nat.{ℕ, ◌+◌, ◌-◌, ◌≤◌, ◌<◌}
use native.Mathlib.Decide.{ℕ_discrete, dec_lt}
use native.Mathlib.Omega.{arith}
use lib.ListN.{length, get_or, set, length-set, length-append, get_or-append}
use lib.Seq.{get_or-set_same, get_or-set_other, get_or-append-add, ext_get_or}
use Rattle.algebra.specs.Lists.{build}
use Rattle.algebra.proofs.ListLaws.{length-build, get_or-build}

module _ (half : ℕ) (lower upper : ℕ → ℕ) (before : List ℕ) where
  -- The state before turn i.
  pub record Turned (i : ℕ) (out : List ℕ) : Type 0 where
    pub long : length out ≡ half + half
    pub new-lower : (j : ℕ) → j < i → get_or out j 0 ≡ lower j
    pub new-upper : (j : ℕ) → j < i → get_or out (half + j) 0 ≡ upper j
    pub old-lower : (j : ℕ) → i ≤ j → j < half → get_or out j 0 ≡ get_or before j 0
    pub old-upper : (j : ℕ) → i ≤ j → j < half → get_or out (half + j) 0 ≡ get_or before (half + j) 0

  pub turned_none : length before ≡ half + half → Turned 0 before
  turned_none l = record { long = l; new-lower = λ j h. absurd (omega arith); new-upper = λ j h. absurd (omega arith); old-lower = λ j h g. refl; old-upper = λ j h g. refl }

  module _ (i : ℕ) (out : List ℕ) (a b : ℕ) (h : i < half) (t : Turned i out) where
    abbrev stored : List ℕ
    stored = set (set out (half + i) b) i a

    -- A position that is neither i nor half + i.
    other : (j : ℕ) → (j ≡ i → ⊥) → (j ≡ half + i → ⊥) → get_or stored j 0 ≡ get_or out j 0
    other j d e = get_or-set_other (set out (half + i) b) i j a 0 d ∙ get_or-set_other out (half + i) j b 0 e

    stored-lower : get_or stored i 0 ≡ a
    stored-lower = get_or-set_same (set out (half + i) b) i a 0 (omega (arith, length-set out (half + i) b, t.long))

    stored-upper : get_or stored (half + i) 0 ≡ b
    stored-upper = get_or-set_other (set out (half + i) b) i (half + i) a 0 (λ e. omega arith) ∙ get_or-set_same out (half + i) b 0 (omega (arith, t.long))

    pub turned_more : a ≡ lower i → b ≡ upper i → Turned (i + 1) stored
    turned_more ea eb = record {
      long = length-set (set out (half + i) b) i a ∙ length-set out (half + i) b ∙ t.long;
      new-lower = λ j g. go-lower j g (ℕ_discrete j i);
      new-upper = λ j g. go-upper j g (ℕ_discrete j i);
      old-lower = λ j g k. other j (λ e. omega arith) (λ e. omega arith) ∙ t.old-lower j (omega arith) k;
      old-upper = λ j g k. other (half + j) (λ e. omega arith) (λ e. omega arith) ∙ t.old-upper j (omega arith) k;
    }
      where
        go-lower : (j : ℕ) → j < i + 1 → Dec (j ≡ i) → get_or stored j 0 ≡ lower j
        go-lower j g (yes e) = ap (λ (n : ℕ). get_or stored n 0) e ∙ stored-lower ∙ ea ∙ ap lower (sym e)
        go-lower j g (no d) = other j d (λ e. omega arith) ∙ t.new-lower j (omega arith)

        go-upper : (j : ℕ) → j < i + 1 → Dec (j ≡ i) → get_or stored (half + j) 0 ≡ upper j
        go-upper j g (yes e) = ap (λ (n : ℕ). get_or stored (half + n) 0) e ∙ stored-upper ∙ eb ∙ ap upper (sym e)
        go-upper j g (no d) = other (half + j) (λ e. omega arith) (λ e. d (omega arith)) ∙ t.new-upper j (omega arith)

  pub turned-all : (i : ℕ) (out : List ℕ) → i ≡ half → Turned i out → out ≡ build half lower ++ build half upper
  turned-all i out e t = ext_get_or 0 out (build half lower ++ build half upper)
      (t.long ∙ sym (length-append (build half lower) (build half upper) ∙ omega (arith, length-build half lower, length-build half upper)))
      (λ j h. each j (omega (arith, t.long)) (dec_lt j half))
    where
      each : (j : ℕ) → j < half + half → Dec (j < half) → get_or out j 0 ≡ get_or (build half lower ++ build half upper) j 0
      each j h (yes l) = t.new-lower j (omega arith)
          ∙ sym (get_or-append (build half lower) (build half upper) 0 j (omega (arith, length-build half lower)) ∙ get_or-build half lower j 0 l)
      each j h (no l) = ap (λ (n : ℕ). get_or out n 0) second ∙ t.new-upper (j - half) (omega arith)
          ∙ sym (ap (λ (n : ℕ). get_or (build half lower ++ build half upper) n 0) (omega (arith, length-build half lower))
          ∙ get_or-append-add (build half lower) (build half upper) (j - half) 0 ∙ get_or-build half upper (j - half) 0 (omega arith))
        where
          second : j ≡ half + (j - half)
          second = omega arith
