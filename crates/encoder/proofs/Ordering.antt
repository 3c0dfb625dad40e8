-- The openings of each witness, put in order: the lengths as they are worked out, and what is written.
use mathlib.Core.Path.{◌≡◌, sym, ap, ap₂, ◌∙◌}
use mathlib.Core.Bool.{Bool, true}
use mathlib.Core.List.{List}
use Prim.Native.Nat.{ℕ, suc, ◌+◌, ◌*◌, ◌≤◌, ◌<◌}
use native.Mathlib.Nat.{mul-le-mul}
use native.Mathlib.Numerals.{add-one}
use native.Mathlib.Omega.{arith}
use Rattle.algebra.specs.Lists.{concat_to}
use Rattle.algebra.proofs.ListLaws.{concat_to-cong}
use Rattle.tree.specs.Layout.{part, opening_size}
use Rattle.code.specs.Points.{depth}
use Rattle.theory.specs.Checks.{answer_if, written}
use Rattle.theory.specs.Calls.{interleave as interleave_of}
use Rattle.theory.specs.Fp.{in_order, witness_openings, interleave_fits, interleave}
use Rattle.encoder.specs.Parts.{piece}

-- The lengths are far below 2 ^ 64.
module _ (l t size : ℕ) (few : l ≤ 8) (short : t ≤ 4294967295) (small : size ≤ 260) where
  pub count_small : t * (l + 1) ≤ 38654705655
  count_small = let count : l + 1 ≤ 9 = omega arith in mul-le-mul short count

  pub all_small : t * (l + 1) * size ≤ 10050223470300
  all_small = mul-le-mul count_small small

-- The parts of one buffer that is read with sizes as they were worked out.
abbrev pub taken : ℕ → ℕ → ℕ → List ℕ → List ℕ
taken t n size s = concat_to t (λ q. concat_to n (λ i. piece s (t * size) size i q))

module _ (k t l size : ℕ) (sized : size ≡ opening_size (depth k)) where
  pub taken-in-order : (s : List ℕ) → taken t (l + 1) size s ≡ in_order (depth k) t l (witness_openings k t s)
  taken-in-order s = ap₂ (λ (n b : ℕ). taken t n b s) (add-one l) sized

  pub in_rows : (n : ℕ) → n ≡ t * (suc l * opening_size (depth k)) → n ≡ t * ((l + 1) * size)
  in_rows n h = h ∙ ap₂ (λ (j b : ℕ). t * (j * b)) (sym (add-one l)) (sym sized)

  pub in_parts : (n : ℕ) → n ≡ suc l * (t * opening_size (depth k)) → n ≡ (l + 1) * (t * size)
  in_parts n h = h ∙ ap₂ (λ (j b : ℕ). j * (t * b)) (sym (add-one l)) (sym sized)

-- ---- for callers

-- The order of equal buffers.
pub in-order-cong : (d t l : ℕ) (f g : ℕ → List ℕ) → ((i : ℕ) → i < suc l → f i ≡ g i) → in_order d t l f ≡ in_order d t l g
in-order-cong d t l f g h = concat_to-cong t _ _ (λ q j. concat_to-cong (suc l) _ _ (λ i b. ap (λ (s : List ℕ). part s (q * opening_size d) (opening_size d)) (h i b)))

-- Where the buffers fit, the call accepts.
pub interleave-accepts : (k l t : ℕ) (opened openings : List ℕ) → interleave_fits k l t opened openings ≡ true
    → interleave k l t opened openings ≡ record { answer = 0; openings = in_order (depth k) t l (witness_openings k t opened) }
unfolding interleave_of
interleave-accepts k l t opened openings h =
    ap (λ (fits : Bool). let answered = answer_if fits 2 0 in
    record { answer = answered; openings = written answered (in_order (depth k) t l (witness_openings k t opened)) openings }) h
