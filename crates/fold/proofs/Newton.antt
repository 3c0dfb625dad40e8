-- Newton's rule in place. A turn of a loop at index j changes entry j; "what is still to come" from j on is then the same.
use mathlib.Core.Path.{◌≡◌, refl, sym, ap, ap₂, ◌∙◌}
use mathlib.Core.List.{List, [], ◌∷◌, ◌++◌, map, append-nil, append_assoc}
use Prim.Native.Nat.{ℕ, ◌+◌, ◌-◌, ◌≤◌, ◌<◌}
use native.Mathlib.Numerals.{add-one}
use native.Mathlib.Omega.{arith}
use lib.ListN.{length, get_or, take, drop, set, length-set, take-append-drop, drop_of_length-le}
use lib.Seq.{take_all, take-suc-set, drop-cons, drop-set-lt, get_or-set_other}
use Rattle.algebra.specs.Lists.{build}
use Rattle.algebra.specs.Interpolation.{slopes, step}
use Rattle.algebra.proofs.ListLaws.{length-build, get_or-build}
use Rattle.algebra.proofs.Solver.{x₀, x₁, x₂, ◌:+◌, ◌:*◌, ◌:-◌, :-◌, ring-eq}
use Rattle.field.specs.BabyBear.{p, baby_bear, F, val, ofℕ, R, inv, ◌⊕◌, ⊝◌, ◌⊖◌, ◌⊗◌}
use Rattle.field.proofs.Laws.{val-small, ofℕ-of}
use Rattle.fold.specs.Newton.{slopes_from, expand_from}
use Rattle.fold.proofs.Factors.{inverse-difference}

-- ---- a list as it is split at an index
pub rest : (xs : List ℕ) (j : ℕ) → j < length xs → drop j xs ≡ get_or xs j 0 ∷ drop (j + 1) xs
rest xs j h = drop-cons xs j 0 h ∙ ap (λ (n : ℕ). get_or xs j 0 ∷ drop n xs) (sym (add-one j))

pub drop-build : {A : Type 0} (n : ℕ) (f : ℕ → A) (j : ℕ) → j < n → drop j (build n f) ≡ f j ∷ drop (j + 1) (build n f)
drop-build {A} n f j h = drop-cons (build n f) j (f 0) (omega (arith, length-build n f)) ∙ ap₂ (λ (a : A) (k : ℕ). a ∷ drop k (build n f)) (get_or-build n f j (f 0) h) (sym (add-one j))

-- After a store at j, what stands up to there ends with the new entry.
front-set : (xs : List ℕ) (j v : ℕ) (ys : List ℕ) → j < length xs → take (j + 1) (set xs j v) ++ ys ≡ take j xs ++ v ∷ ys
front-set xs j v ys h = ap (λ (n : ℕ). take n (set xs j v) ++ ys) (add-one j) ∙ ap (λ (s : List ℕ). s ++ ys) (take-suc-set xs j v h) ∙ append_assoc (take j xs) (v ∷ []) ys

-- ---- the slopes from value i
module _ (i v : ℕ) where
  -- The slopes to the values from index j on, and the list with them in place.
  abbrev pub slopes_at : ℕ → List ℕ → List F
  slopes_at j xs = slopes baby_bear (ofℕ i) (ofℕ v) (drop j (build (length xs) ofℕ)) (map ofℕ (drop j xs))

  abbrev pub slopes_left : ℕ → List ℕ → List ℕ
  slopes_left j xs = take j xs ++ map val (slopes_at j xs)

  pub slopes-more : (j : ℕ) (xs : List ℕ) {d y s : ℕ} → i ≤ j → j < length xs
      → d ≡ val (ofℕ (get_or xs j 0) ⊖ ofℕ v) → y ≡ val (inv (ofℕ (j - i))) → s ≡ val (ofℕ d ⊗ ofℕ y) → slopes_left (j + 1) (set xs j s) ≡ slopes_left j xs
  slopes-more j xs {d} {y} {s} h l e ey f = front-set xs j s (map val (slopes_of (length (set xs j s)) (drop (j + 1) (set xs j s)))) l
      ∙ ap₂ (λ (n : ℕ) (ys : List ℕ). take j xs ++ s ∷ map val (slopes_of n ys)) (length-set xs j s) (drop-set-lt (j + 1) xs j s (omega arith))
      ∙ ap (λ (x : ℕ). take j xs ++ x ∷ map val (slopes_of (length xs) (drop (j + 1) xs))) slope
      ∙ ap₂ (λ (ps : List F) (ys : List ℕ). take j xs ++ map val (slopes baby_bear (ofℕ i) (ofℕ v) ps (map ofℕ ys))) (sym (drop-build (length xs) ofℕ j l)) (sym (rest xs j l))
    where
      slopes_of : ℕ → List ℕ → List F
      slopes_of n ys = slopes baby_bear (ofℕ i) (ofℕ v) (drop (j + 1) (build n ofℕ)) (map ofℕ ys)

      slope : s ≡ val ((ofℕ (get_or xs j 0) ⊖ ofℕ v) ⊗ inv (ofℕ j ⊖ ofℕ i))
      slope = f ∙ ap₂ (λ (a b : F). val (a ⊗ b)) (ofℕ-of (ofℕ (get_or xs j 0) ⊖ ofℕ v) e) (inverse-difference j i h ey)

  pub slopes-all : (j : ℕ) (xs : List ℕ) → length xs ≤ j → slopes_left j xs ≡ xs
  slopes-all j xs h = ap₂ (λ (s : List ℕ) (ps : List F). s ++ map val (slopes baby_bear (ofℕ i) (ofℕ v) ps (map ofℕ (drop j xs)))) (take_all j xs h)
      (drop_of_length-le (build (length xs) ofℕ) {i = j} (omega (arith, length-build (length xs) ofℕ)))
      ∙ append-nil xs

pub slopes_from-left : (i : ℕ) (xs : List ℕ) → slopes_left i (get_or xs i 0) (i + 1) xs ≡ slopes_from i xs
unfolding slopes_from
slopes_from-left i xs = refl

-- ---- v + (X - a) q
module _ (a : ℕ) where
  -- The step at index j, and the list with it in place.
  abbrev pub step_at : ℕ → List ℕ → List F
  step_at j xs = step baby_bear (ofℕ a) (ofℕ (get_or xs j 0)) (map ofℕ (drop (j + 1) xs))

  abbrev pub expand_left : ℕ → List ℕ → List ℕ
  expand_left j xs = take j xs ++ map val (step_at j xs)

  pub expand-more : (j : ℕ) (xs : List ℕ) (m s : ℕ) → j + 1 < length xs
      → m ≡ val (ofℕ a ⊗ ofℕ (get_or xs (j + 1) 0)) → s ≡ val (ofℕ (get_or xs j 0) ⊖ ofℕ m) → expand_left (j + 1) (set xs j s) ≡ expand_left j xs
  expand-more j xs m s h e f = front-set xs j s (map val (step_of (get_or (set xs j s) (j + 1) 0) (drop (j + 1 + 1) (set xs j s)))) (omega arith)
      ∙ ap₂ (λ (w : ℕ) (ys : List ℕ). take j xs ++ s ∷ map val (step_of w ys)) (get_or-set_other xs j (j + 1) s 0 (λ q. omega arith)) (drop-set-lt (j + 1 + 1) xs j s (omega arith))
      ∙ ap (λ (x : ℕ). take j xs ++ x ∷ map val (step_of (get_or xs (j + 1) 0) (drop (j + 1 + 1) xs))) first
      ∙ ap (λ (ys : List ℕ). take j xs ++ map val (step baby_bear (ofℕ a) (ofℕ (get_or xs j 0)) (map ofℕ ys))) (sym (rest xs (j + 1) h))
    where
      step_of : ℕ → List ℕ → List F
      step_of w ys = step baby_bear (ofℕ a) (ofℕ w) (map ofℕ ys)

      first : s ≡ val (ofℕ (get_or xs j 0) ⊕ ⊝ ofℕ a ⊗ ofℕ (get_or xs (j + 1) 0))
      first = f ∙ ap val (ap (λ (y : F). ofℕ (get_or xs j 0) ⊖ y) (ofℕ-of (ofℕ a ⊗ ofℕ (get_or xs (j + 1) 0)) e)
          ∙ ring-eq R (ofℕ (get_or xs j 0) ∷ ofℕ a ∷ ofℕ (get_or xs (j + 1) 0) ∷ []) (x₀ :- x₁ :* x₂) (x₀ :+ (:- x₁) :* x₂) tt)

  pub expand-all : (j : ℕ) (xs : List ℕ) → length xs ≡ j + 1 → get_or xs j 0 < p → expand_left j xs ≡ xs
  expand-all j xs h b = ap (λ (ys : List ℕ). take j xs ++ map val (step baby_bear (ofℕ a) (ofℕ (get_or xs j 0)) (map ofℕ ys))) none
      ∙ ap₂ (λ (x : ℕ) (ys : List ℕ). take j xs ++ x ∷ ys) (val-small b) (sym none)
      ∙ ap (λ (ys : List ℕ). take j xs ++ ys) (sym (rest xs j (omega arith)))
      ∙ take-append-drop j xs
    where
      none : drop (j + 1) xs ≡ []
      none = drop_of_length-le xs {i = j + 1} (omega arith)

pub expand_from-left : (i a : ℕ) (xs : List ℕ) → expand_left a i xs ≡ expand_from i a xs
unfolding expand_from
expand_from-left i a xs = refl
