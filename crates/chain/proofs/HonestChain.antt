-- The chain answers 0 for an honest list, a permitted challenge and permitted positions, where the buffers have their lengths.
use mathlib.Core.Path.{◌≡◌, ap, ◌∙◌}
use mathlib.Core.Bool.{true}
use mathlib.Core.List.{List}
use Prim.Native.Nat.{ℕ, suc}
use borrow.Author.Tests.{eq-eqb}
use lib.ListN.{length}
use Rattle.theory.specs.Statements.{Honest, PermittedChallenge, PermittedPositions, OutputsFit, chain_answers}
use Rattle.theory.specs.Fp.{fp, fold_outputs_fit, witness_openings, interleave_fits}
use Rattle.theory.proofs.Parts.{length_part, part-within}
use Rattle.theory.proofs.FirstStatement.{first-statement}
use Rattle.encoder.proofs.Accepted.{interleave-fits}
use Rattle.chain.specs.Chained.{opened_size, Chained, chain_if, chain}
use Rattle.chain.proofs.Refusals.{refusal-none}

module _ (m n k l t challenge : ℕ) (points a b c items wits positions quotient item wit opened openings : List ℕ) where
  -- The two buffers have their lengths.
  pub chain_runs : interleave_fits k l t opened openings ≡ true
      → chain m n k l t challenge points a b c items wits positions quotient item wit opened openings ≡ chain_if m n k l t challenge points a b c items wits positions quotient item wit opened openings true
  unfolding chain
  chain_runs h = ap (chain_if m n k l t challenge points a b c items wits positions quotient item wit opened openings) h

  module _ (honest : Honest fp m n k l points a b c items wits) (permitted : PermittedChallenge fp l challenge) (allowed : PermittedPositions k t positions)
      (outputs-fit : fold_outputs_fit m n k l quotient item wit ≡ true) (both-fit : interleave_fits k l t opened openings ≡ true) where
    outputs : OutputsFit fp m n k l t quotient item wit (witness_openings k t opened)
    outputs = record {
      folding = outputs-fit;
      opening = λ i h. eq-eqb _ _ (length_part opened _ (opened_size k t)
          (part-within (suc l) i (opened_size k t) (length opened) h (interleave-fits k l t opened openings both-fit).opened-length));
    }

    pub honest-zero : (chain m n k l t challenge points a b c items wits positions quotient item wit opened openings).answer ≡ 0
    honest-zero =
        ap (λ (x : Chained). x.answer) (chain_runs both-fit)
        ∙ refusal-none (chain_answers fp m n k l t challenge points a b c items wits positions quotient item wit (witness_openings k t opened))
        (first-statement m n k l t challenge points a b c items wits positions quotient item wit (witness_openings k t opened) honest permitted allowed outputs)
