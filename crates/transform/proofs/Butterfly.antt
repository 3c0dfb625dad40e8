-- The two numbers of a turn, and a joined block.
-- Assumes nothing.
use mathlib.Core.Path.{◌≡◌, sym, ◌∙◌, ap, ap₂}
use mathlib.Core.List.{List, map-append, ◌++◌}
use Prim.Native.Nat.{ℕ, ◌+◌, ◌*◌, ◌<◌}
use native.Mathlib.Omega.{arith}
use lib.ListN.{length, get_or, set, length-map, length-append}
use Rattle.algebra.specs.Lists.{build}
use Rattle.algebra.specs.Halving.{joined}
use Rattle.algebra.proofs.ListLaws.{length-build, map-build}
use Rattle.field.specs.BabyBear.{p, R, F, val, ofℕ, ◌⊕◌, ◌⊖◌, ◌⊗◌}
use Rattle.field.specs.Numbers.{Below}
use Rattle.field.proofs.Laws.{ofℕ-of}
use Rattle.transform.specs.Blocks.{joint}
use Rattle.transform.proofs.Joining.{Turned, turned_more}

module _ (table : List ℕ) (step half : ℕ) (before : List ℕ) where
  -- The point of turn i, and the values of the even and the odd part there.
  abbrev pub x : ℕ → F
  x i = ofℕ (get_or table (i * step) 0)

  abbrev pub even : ℕ → F
  even i = ofℕ (get_or before i 0)

  abbrev pub odd : ℕ → F
  odd i = ofℕ (get_or before (half + i) 0)

  abbrev pub lower_at : ℕ → ℕ
  lower_at i = val (even i ⊕ x i ⊗ odd i)

  abbrev pub upper_at : ℕ → ℕ
  upper_at i = val (even i ⊖ x i ⊗ odd i)

  module _ (long : length before ≡ half + half) (below : Below before) (i : ℕ) (out : List ℕ) (h : i < half) (t : Turned half lower_at upper_at before i out) where
    -- The value of the even part is still there.
    pub even-below : get_or out i 0 < p
    even-below = rw (t.old-lower i (omega arith) h) (below i (omega arith))

    -- One turn: m is the point times the value of the odd part.
    pub turn : {m a b : ℕ} → m ≡ val (x i ⊗ ofℕ (get_or out (half + i) 0)) → a ≡ val (ofℕ (get_or out i 0) ⊕ ofℕ m) → b ≡ val (ofℕ (get_or out i 0) ⊖ ofℕ m)
        → Turned half lower_at upper_at before (i + 1) (set (set out (half + i) b) i a)
    turn {m} {a} {b} em ea eb = turned_more half lower_at upper_at before i out a b h t
        (ea ∙ ap₂ (λ (y z : F). val (y ⊕ z)) here product) (eb ∙ ap₂ (λ (y z : F). val (y ⊖ z)) here product)
      where
        here : ofℕ (get_or out i 0) ≡ even i
        here = ap ofℕ (t.old-lower i (omega arith) h)

        product : ofℕ m ≡ x i ⊗ odd i
        product = ofℕ-of (x i ⊗ ofℕ (get_or out (half + i) 0)) em ∙ ap (λ (n : ℕ). x i ⊗ ofℕ n) (t.old-upper i (omega arith) h)

  pub turned-joint : build half lower_at ++ build half upper_at ≡ joint table step half before
  turned-joint = sym (map-append val (build half (λ i. even i ⊕ x i ⊗ odd i)) (build half (λ i. even i ⊖ x i ⊗ odd i))
      ∙ ap₂ (λ (s t : List ℕ). s ++ t) (map-build val half (λ i. even i ⊕ x i ⊗ odd i)) (map-build val half (λ i. even i ⊖ x i ⊗ odd i)))

pub joint-length : (table : List ℕ) (step half : ℕ) (l : List ℕ) → length (joint table step half l) ≡ half + half
joint-length table step half l = length-map (joined R half (x table step half l) (even table step half l) (odd table step half l)) val
    ∙ length-append (build half lower) (build half upper) ∙ ap₂ (λ (m n : ℕ). m + n) (length-build half lower) (length-build half upper)
  where
    lower : ℕ → F
    lower i = even table step half l i ⊕ x table step half l i ⊗ odd table step half l i

    upper : ℕ → F
    upper i = even table step half l i ⊖ x table step half l i ⊗ odd table step half l i
