-- The witnesses opened, with the size of an opening as it was worked out, and their openings interleaved.
use mathlib.Core.Path.{◌≡◌, ap, subst, ◌∙◌}
use mathlib.Core.Bool.{true, ◌&&◌}
use mathlib.Core.List.{List}
use Prim.Native.Nat.{ℕ, suc, ◌*◌}
use lib.Dec.{eqb}
use Rattle.algebra.specs.Lists.{build, concat_to}
use Rattle.tree.specs.Layout.{opening_size}
use Rattle.code.specs.Points.{is_witness_count, depth}
use Rattle.theory.specs.Results.{Opened, Interleaved}
use Rattle.theory.specs.Sizes.{item_count_fits, position_count_fits, has_length}
use Rattle.theory.specs.Fp.{in_order, witness_openings, interleave_fits, interleave}
use Rattle.encoder.specs.Parts.{Filled}
use Rattle.encoder.proofs.Accepted.{interleave-fits}
use Rattle.encoder.proofs.Filling.{all-filled}
use Rattle.encoder.proofs.Ordering.{in-order-cong, interleave-accepts}
use Rattle.chain.specs.Answers.{first_refusal}
use Rattle.chain.specs.Chained.{opened_size, open_into}

module _ (k t l size : ℕ) (points wits wit positions opened openings : List ℕ) (sized : size ≡ opening_size (depth k)) (fit : interleave_fits k l t opened openings ≡ true) where
  -- The opening of witness i, into its part of a given width.
  abbrev each : ℕ → ℕ → Opened
  each width i = open_into k t l width points wits wit positions opened i

  same_width : t * size ≡ opened_size k t
  same_width = ap (λ (s : ℕ). t * s) sized

  pub shown-answer : (r : ℕ) → r ≡ first_refusal (build (suc l) (λ i. (each (t * size) i).answer)) → r ≡ first_refusal (build (suc l) (λ i. (each (opened_size k t) i).answer))
  shown-answer r e = e ∙ ap (λ (w : ℕ). first_refusal (build (suc l) (λ i. (each w i).answer))) same_width

  -- s is the buffer with every witness opened.
  module _ (s : List ℕ) (filled : Filled (t * size) (λ i. (each (t * size) i).openings) opened (suc l) s) where
    as-sized : Filled (opened_size k t) (λ i. (each (opened_size k t) i).openings) opened (suc l) s
    as-sized = subst (λ (w : ℕ). Filled w (λ i. (each w i).openings) opened (suc l) s) same_width filled

    pub shown-opened : s ≡ concat_to (suc l) (λ i. (each (opened_size k t) i).openings)
    shown-opened = all-filled (opened_size k t) (λ i. (each (opened_size k t) i).openings) opened (suc l) s (interleave-fits k l t opened openings fit).opened-length as-sized

    still-fits : interleave_fits k l t s openings ≡ true
    still-fits =
        ap (λ (n : ℕ). is_witness_count k && item_count_fits l && position_count_fits k t && eqb n (t * suc l * opening_size (depth k)) && has_length openings (t * suc l * opening_size (depth k))) filled.same
        ∙ fit

    accepts : interleave k l t s openings ≡ record { answer = 0; openings = in_order (depth k) t l (witness_openings k t s) }
    accepts = interleave-accepts k l t s openings still-fits

    pub shown-zero : (r : ℕ) → r ≡ (interleave k l t s openings).answer → r ≡ 0
    shown-zero r e = e ∙ ap (λ (x : Interleaved). x.answer) accepts

    pub shown-ordered : (os : List ℕ) → os ≡ (interleave k l t s openings).openings → os ≡ in_order (depth k) t l (λ i. (each (opened_size k t) i).openings)
    shown-ordered os e =
        e
        ∙ ap (λ (x : Interleaved). x.openings) accepts
        ∙ in-order-cong (depth k) t l (witness_openings k t s) (λ i. (each (opened_size k t) i).openings) as-sized.parts
