-- Verifying by groups of checks: 2, 3, 13, 5 and 6, which test each number by itself, and 7 to 9. Before 8 nothing is hashed.
use mathlib.Core.Path.{◌≡◌, refl, sym, ap, ◌∙◌}
use mathlib.Core.Bool.{Bool, true, false, cond}
use mathlib.Core.List.{List, [], ◌∷◌}
use Prim.Native.Nat.{ℕ}
use native.Mathlib.Omega.{arith}
use lib.Dec.{eqb}
use Rattle.algebra.specs.Lists.{All}
use Rattle.hash.specs.Sha256.{block_count}
use Rattle.tree.specs.Merkle.{blocks_of}
use Rattle.theory.specs.Items.{Item}
use Rattle.theory.specs.Combination.{quotient_size}
use Rattle.theory.specs.Folds.{Shown}
use Rattle.theory.specs.Checks.{Check, check, answer_if, answer}
use Rattle.theory.specs.Verify.{input_checks, unhashed_checks, reached_strings, verify as verify_of}
use Rattle.theory.specs.Fp.{fp, elements, read_items, read_shown, combines, openings_lead, values_combine, verify_fits, verify}
use Rattle.theory.proofs.CheckLaws.{Passed, answer-passed, group-refused, group-passed}
use Rattle.theory.proofs.FpLaws.{fp-laws}
use Rattle.theory.proofs.Counted.{refused-early, none-early}
use Rattle.field.specs.BabyBear.{F}
use Rattle.verifier.specs.declared.shown.Fold.{Fold}
use Rattle.verifier.specs.Verifying.{IsFoldOf, batch, coefficients, shown, number_checks}

module _ (m n k l t challenge : ℕ) (items positions quotient item openings : List ℕ) where
  abbrev batched : List (Item F)
  batched = read_items m n l items

  abbrev folded : Shown F
  folded = read_shown m n k l t challenge positions item openings

  abbrev input : List Check
  input = input_checks fp m n k l t challenge items positions quotient item openings

  abbrev unhashed : List Check
  unhashed = unhashed_checks fp m n k l t challenge items positions quotient item openings

  -- The checks behind the first.
  abbrev behind : List Check → List Check
  behind [] = []
  behind (c ∷ cs) = cs

  -- Check 7, and those behind it.
  abbrev combined : Bool
  combined = combines m n batched (elements (quotient_size m l) quotient) folded

  abbrev opened : List Check
  opened = check 8 (openings_lead batched folded) ∷ check 9 (values_combine batched folded) ∷ []

  -- The first group refuses.
  module _ {r : ℕ} (e : r ≡ answer input) (refuses : r ≡ 0 → ⊥) where
    unhashed-refuses : answer unhashed ≡ r
    unhashed-refuses = group-refused input (check 7 combined ∷ []) (λ z. refuses (e ∙ z)) ∙ sym e

    pub refused-verdict : r ≡ (verify m n k l t challenge items positions quotient item openings).verdict
    refused-verdict = sym (refused-early fp fp-laws m n k l t challenge items positions quotient item openings (λ z. refuses (sym unhashed-refuses ∙ z)) ∙ unhashed-refuses)

    pub refused-blocks : 0 ≡ (verify m n k l t challenge items positions quotient item openings).blocks
    refused-blocks = sym (none-early fp fp-laws m n k l t challenge items positions quotient item openings (λ z. refuses (sym unhashed-refuses ∙ z)))

  -- Check 2 does.
  pub unfit : verify_fits m n k l t challenge items positions quotient item openings ≡ false → 2 ≡ answer input
  unfit h = sym (ap (λ (b : Bool). answer_if b 2 (answer (behind input))) h)

  -- It passes, and f is the fold.
  module _ (fits : verify_fits m n k l t challenge items positions quotient item openings ≡ true) (f : Fold) (is : IsFoldOf m n k l t items positions quotient item openings f) where
    pub numbers-answer : {r : ℕ} → r ≡ answer (number_checks f challenge) → r ≡ answer input
    numbers-answer e =
        rw (is.m_is, is.n_is, is.k_is, is.l_is, is.t_is, is.items_is, is.positions_is, is.quotient_is, is.item_is, is.openings_is) at e
        ∙ sym (ap (λ (b : Bool). answer_if b 2 (answer (behind input))) fits)

    module _ (numbers : 0 ≡ answer (number_checks f challenge)) where
      passed : All Passed input
      passed = answer-passed input (omega arith) (sym (numbers-answer numbers))

      pub later-verdict : {r : ℕ} → r ≡ answer (check 7 (combines f.sizes.m f.sizes.n (batch f) (coefficients f) (shown f challenge)) ∷ check 8 (openings_lead (batch f) (shown f challenge)) ∷ check 9 (values_combine (batch f) (shown f challenge)) ∷ [])
          → r ≡ (verify m n k l t challenge items positions quotient item openings).verdict
      unfolding verify_of
      later-verdict e =
          rw (is.m_is, is.n_is, is.k_is, is.l_is, is.t_is, is.items_is, is.positions_is, is.quotient_is, is.item_is, is.openings_is) at e
          ∙ sym (group-passed input (check 7 combined ∷ opened) passed)

      is-seven : (b : Bool) → b ≡ eqb (answer_if b 7 0) 0
      is-seven true = refl
      is-seven false = refl

      pub later-blocks : {r : ℕ} → r ≡ blocks_of block_count (cond (combines f.sizes.m f.sizes.n (batch f) (coefficients f) (shown f challenge)) (reached_strings fp (batch f) (shown f challenge)) [])
          → r ≡ (verify m n k l t challenge items positions quotient item openings).blocks
      unfolding verify_of
      later-blocks e =
          rw (is.m_is, is.n_is, is.k_is, is.l_is, is.t_is, is.items_is, is.positions_is, is.quotient_is, is.item_is, is.openings_is) at e
          ∙ ap (λ (b : Bool). blocks_of block_count (cond b (reached_strings fp batched folded) []))
          (is-seven combined ∙ ap (λ (n : ℕ). eqb n 0) (sym (group-passed input (check 7 combined ∷ []) passed)))
