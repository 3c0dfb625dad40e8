-- The two loops: Horner's rule from the highest number of a witness down, and the numbers of a codeword point by point.
-- Assumes nothing.
use mathlib.Core.Path.{◌≡◌, sym, ◌∙◌, ap}
use mathlib.Core.List.{List, map}
use Rattle.std.specs.Prelude.{reverse}
use Prim.Native.Nat.{ℕ, suc, ◌+◌, ◌-◌, ◌<◌}
use native.Mathlib.Omega.{arith}
use Rattle.std.proofs.lemmas.List.{get_or-reverse}
use Rattle.std.proofs.lemmas.Grind.{get_or_default_zero}
use lib.ListN.{length, get_or, drop, length-reverse}
use lib.Seq.{drop-cons, drop-length}
use Rattle.algebra.specs.Lists.{build}
use Rattle.algebra.specs.Polynomial.{eval_poly}
use Rattle.algebra.proofs.ListLaws.{map-build, build-get_or}
use Rattle.field.specs.BabyBear.{R, F, val, ofℕ, ◌⊕◌, ◌⊗◌}
use Rattle.field.proofs.Laws.{val-zero, ofℕ-of}
use Rattle.code.specs.Codeword.{value_at, codeword}
use Rattle.code.proofs.Evaluation.{value_at-eval_poly}

-- acc is the value at x of the numbers of w from i on.
unfoldable pub Upper : List ℕ → ℕ → ℕ → ℕ → Type 0
Upper w x i acc = acc ≡ val (eval_poly R (map ofℕ (drop i w)) (ofℕ x))

pub upper-end : (w : List ℕ) (x : ℕ) → Upper w x (length w) 0
unfolding Upper
upper-end w x = sym (ap (λ (l : List ℕ). val (eval_poly R (map ofℕ l) (ofℕ x))) (drop-length w) ∙ val-zero)

-- Number n, the one after k of a list's numbers taken from its end.
pub from-the-end : (w : List ℕ) (k n : ℕ) → (k < length (reverse w)) × (n ≡ get_or (reverse w) k n) → (k < length w) × (n ≡ get_or w (length w - (k + 1)) 0)
from-the-end w k n t = (inside, t.1 ∙ get_or-reverse w k n inside ∙ ap (λ (i : ℕ). get_or w i n) (omega arith) ∙ get_or_default_zero w (length w - (k + 1)) n (omega (arith, inside)))
  where
    inside : k < length w
    inside = omega (arith, t.0, length-reverse w)

-- One turn, down to number i: m is x times the value so far, and r is number i plus m.
pub upper-turn : (w : List ℕ) (x i j acc : ℕ) → i < length w → j ≡ suc i → Upper w x j acc
    → (m r : ℕ) → m ≡ val (ofℕ x ⊗ ofℕ acc) → r ≡ val (ofℕ (get_or w i 0) ⊕ ofℕ m) → Upper w x i r
unfolding Upper
upper-turn w x i j acc h e inv m r em er = er
    ∙ ap (λ (y : F). val (ofℕ (get_or w i 0) ⊕ y)) (ofℕ-of (ofℕ x ⊗ ofℕ acc) em
    ∙ ap (λ (y : F). ofℕ x ⊗ y) (ofℕ-of (eval_poly R (map ofℕ (drop j w)) (ofℕ x)) inv ∙ ap (λ (n : ℕ). eval_poly R (map ofℕ (drop n w)) (ofℕ x)) e))
    ∙ ap (λ (l : List ℕ). val (eval_poly R (map ofℕ l) (ofℕ x))) (sym (drop-cons w i 0 h))

pub upper-all : (w : List ℕ) (x i acc : ℕ) → i ≡ 0 → Upper w x i acc → acc ≡ val (value_at R (map ofℕ w) (ofℕ x))
unfolding Upper
upper-all w x i acc e inv = inv ∙ ap (λ (n : ℕ). val (eval_poly R (map ofℕ (drop n w)) (ofℕ x))) e ∙ ap val (sym (value_at-eval_poly R (map ofℕ w) (ofℕ x)))

-- The numbers of the codeword at points that are given by their index.
pub codeword-build : (n : ℕ) (point : ℕ → F) (w : List F) → build n (λ i. val (value_at R w (point i))) ≡ map val (codeword R (build n point) w)
unfolding codeword
codeword-build n point w = sym (ap (map val) (map-build (value_at R w) n point) ∙ map-build val n (λ i. value_at R w (point i)))

-- The same at points that are a list of numbers.
pub codeword-given : (n : ℕ) (points : List ℕ) (w : List F) → n ≡ length points → build n (λ i. val (value_at R w (ofℕ (get_or points i 0)))) ≡ map val (codeword R (map ofℕ points) w)
codeword-given n points w e = codeword-build n (λ i. ofℕ (get_or points i 0)) w
    ∙ ap (λ (ps : List F). map val (codeword R ps w)) (sym (map-build ofℕ n (λ i. get_or points i 0)) ∙ ap (map ofℕ) (build-get_or points n 0 (sym e)))
