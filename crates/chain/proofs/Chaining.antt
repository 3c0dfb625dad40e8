-- What the chain promises where it stops: at its own test, after folding, after the openings, or at the end.
use mathlib.Core.Path.{◌≡◌, refl, sym, ap, ap₂, ◌∙◌}
use mathlib.Core.Bool.{true, false}
use mathlib.Core.List.{List, [], ◌∷◌}
use Prim.Native.Nat.{ℕ, suc}
use Rattle.algebra.specs.Lists.{build, concat_to}
use Rattle.code.specs.Points.{depth}
use Rattle.theory.specs.Checks.{written}
use Rattle.theory.specs.Results.{Folded, Opened}
use Rattle.theory.specs.Statements.{Honest, PermittedChallenge, PermittedPositions, verifying, deciding}
use Rattle.theory.specs.Fp.{fp, in_order, fold_outputs_fit, fold, witness_openings, interleave_fits, verify, decide}
use Rattle.theory.proofs.CheckLaws.{written-accepted}
use Rattle.checks.proofs.Calls.{refused}
use Rattle.chain.specs.Answers.{first_of, first_refusal}
use Rattle.chain.specs.Chained.{opened_size, open_into, Chained, chain_if, chain}
use Rattle.chain.proofs.Refusals.{refusal-append, first_of-zero, first-refuses, first_passes}
use Rattle.chain.proofs.HonestChain.{chain_runs, honest-zero}

module _ (m n k l t challenge : ℕ) (points a b c items wits positions quotient item wit opened openings : List ℕ) where
  abbrev whole : Chained
  whole = chain m n k l t challenge points a b c items wits positions quotient item wit opened openings

  -- The promise: the answer r, and what the buffers hold.
  abbrev pub Promised : ℕ → List ℕ → List ℕ → List ℕ → List ℕ → List ℕ → Type 0
  Promised r q i w o os =
      (Honest fp m n k l points a b c items wits → PermittedChallenge fp l challenge → PermittedPositions k t positions
      → fold_outputs_fit m n k l quotient item wit ≡ true → interleave_fits k l t opened openings ≡ true → r ≡ 0)
      × ((r ≡ whole.answer)
      × ((q ≡ whole.quotient) × ((i ≡ whole.item) × ((w ≡ whole.wit) × ((o ≡ whole.opened) × (os ≡ whole.openings))))))

  module _ (r : ℕ) (q i w o os : List ℕ) (ran : Chained) (is : whole ≡ ran) where
    promised : r ≡ ran.answer → q ≡ ran.quotient → i ≡ ran.item → w ≡ ran.wit → o ≡ ran.opened → os ≡ ran.openings → Promised r q i w o os
    promised er eq ei ew eo es = (
      λ honest permitted allowed outputs both. back (λ (x : Chained). x.answer) er ∙ honest-zero m n k l t challenge points a b c items wits positions quotient item wit opened openings honest permitted allowed outputs both,
      (
        back (λ (x : Chained). x.answer) er,
        (
          back (λ (x : Chained). x.quotient) eq,
          (
            back (λ (x : Chained). x.item) ei,
            (
              back (λ (x : Chained). x.wit) ew,
              (
                back (λ (x : Chained). x.opened) eo,
                back (λ (x : Chained). x.openings) es,
              ),
            ),
          ),
        ),
      ),
    )
      where
        back : {A : Type 0} {v : A} (field : Chained → A) → v ≡ field ran → v ≡ field whole
        back field e = e ∙ ap field (sym is)

  -- Where the two buffers do not fit, no call is made.
  pub none-called : interleave_fits k l t opened openings ≡ false → Promised 2 quotient item wit opened openings
  unfolding chain
  none-called h =
      promised 2 quotient item wit opened openings (chain_if m n k l t challenge points a b c items wits positions quotient item wit opened openings false)
      (ap (chain_if m n k l t challenge points a b c items wits positions quotient item wit opened openings) h) refl refl refl refl refl refl

  abbrev folded : Folded
  folded = fold m n k l challenge points a b c items wits quotient item wit

  -- The opening of witness j, with w as the new one.
  abbrev opened_with : List ℕ → ℕ → Opened
  opened_with w j = open_into k t l (opened_size k t) points wits w positions opened j

  abbrev answers_with : List ℕ → List ℕ
  answers_with w = build (suc l) (λ j. (opened_with w j).answer)

  -- The two buffers fit: folding answers f and leaves q, i and w.
  module _ (fit : interleave_fits k l t opened openings ≡ true) (f : ℕ) (q i w : List ℕ)
      (answers : f ≡ folded.answer) (wrote-quotient : q ≡ folded.quotient) (wrote-item : i ≡ folded.item) (wrote-wit : w ≡ folded.wit) where
    abbrev ran : Chained
    ran = chain_if m n k l t challenge points a b c items wits positions quotient item wit opened openings true

    is : whole ≡ ran
    is = chain_runs m n k l t challenge points a b c items wits positions quotient item wit opened openings fit

    pub fold-refuses : (f ≡ 0 → ⊥) → Promised f q i w opened openings
    fold-refuses h =
        promised f q i w opened openings ran is (first-refuses f _ answers h) wrote-quotient wrote-item wrote-wit
        (refused _ opened answers h)
        (refused _ openings (first-refuses f _ answers h) h)

    -- Folding answers 0, the openings s.
    module _ (accepted : f ≡ 0) (s : ℕ) (o os : List ℕ) (open-answers : s ≡ first_refusal (answers_with w))
        (wrote-opened : o ≡ concat_to (suc l) (λ j. (opened_with w j).openings))
        (wrote-openings : os ≡ written s (in_order (depth k) t l (λ j. (opened_with w j).openings)) openings) where
      folds : folded.answer ≡ 0
      folds = sym answers ∙ accepted

      -- The same with the witness that folding wrote.
      open-answer : s ≡ first_refusal (answers_with folded.wit)
      open-answer = open-answers ∙ ap (λ (v : List ℕ). first_refusal (answers_with v)) wrote-wit

      opened-all : o ≡ ran.opened
      opened-all =
          wrote-opened
          ∙ ap (λ (v : List ℕ). concat_to (suc l) (λ j. (opened_with v j).openings)) wrote-wit
          ∙ sym (written-accepted _ opened folds)

      ordered-all : os ≡ ran.openings
      ordered-all =
          wrote-openings
          ∙ ap₂ (λ (r : ℕ) (v : List ℕ). written r (in_order (depth k) t l (λ j. (opened_with v j).openings)) openings) (first_passes (sym folds) refl open-answer) wrote-wit

      answer-is : (r : ℕ) → r ≡ first_of (first_refusal (answers_with folded.wit)) (first_refusal (verifying fp m n k l t challenge points a b c items wits positions quotient item wit (witness_openings k t opened) ∷ deciding fp m n k l t challenge points a b c items wits positions quotient item wit (witness_openings k t opened) ∷ []))
          → r ≡ ran.answer
      answer-is r e = first_passes (sym folds) refl (e ∙ sym (refusal-append (answers_with folded.wit) _))

      pub open-refuses : (s ≡ 0 → ⊥) → Promised s q i w o os
      open-refuses h =
          promised s q i w o os ran is (answer-is s (first-refuses s _ open-answer h)) wrote-quotient wrote-item wrote-wit opened-all ordered-all

      -- The openings answer 0 too, and verifying and deciding r.
      module _ (opens : s ≡ 0) (r : ℕ) (decided-both : r ≡ first_of (verify m n k l t challenge items positions q i os).verdict (decide m n k points a b c i w)) where
        ordered : os ≡ in_order (depth k) t l (λ j. (opened_with folded.wit j).openings)
        ordered =
            wrote-openings
            ∙ written-accepted _ openings opens
            ∙ ap (λ (v : List ℕ). in_order (depth k) t l (λ j. (opened_with v j).openings)) wrote-wit

        verified : (verify m n k l t challenge items positions q i os).verdict ≡ verifying fp m n k l t challenge points a b c items wits positions quotient item wit (witness_openings k t opened)
        verified =
            ap₂ (λ (x y : List ℕ). (verify m n k l t challenge items positions x y os).verdict) wrote-quotient wrote-item
            ∙ ap (λ (x : List ℕ). (verify m n k l t challenge items positions folded.quotient folded.item x).verdict) ordered

        decided : decide m n k points a b c i w ≡ deciding fp m n k l t challenge points a b c items wits positions quotient item wit (witness_openings k t opened)
        decided = ap₂ (decide m n k points a b c) wrote-item wrote-wit

        pub all-called : Promised r q i w o os
        all-called =
            promised r q i w o os ran is
            (answer-is r (first_passes open-answer opens (decided-both ∙ ap₂ first_of verified (decided ∙ sym (first_of-zero _)))))
            wrote-quotient wrote-item wrote-wit opened-all ordered-all
