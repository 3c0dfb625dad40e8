-- The chain of calls of the first statement (paper 01, "The words of demand 3") in lent buffers: what it answers, and what each
-- buffer then holds. Each call that takes points is lent the same. The buffers `opened` and `openings` are those of interleaving.
use Rattle.std.specs.Prelude.{Bool, true, false, List, [], ◌∷◌, ◌++◌, ℕ, suc, ◌*◌, get_or}
use Rattle.algebra.specs.Lists.{build, concat_to}
use Rattle.tree.specs.Layout.{part, opening_size}
use Rattle.code.specs.Points.{depth}
use Rattle.theory.specs.Checks.{written}
use Rattle.theory.specs.Results.{Folded, Opened}
use Rattle.theory.specs.Statements.{folding, opening, chain_answers}
use Rattle.theory.specs.Fp.{fp, witness_part, in_order, «open», witness_openings, interleave_fits}
use Rattle.chain.specs.Answers.{first_refusal}

-- The bytes of the openings of one witness at t positions.
abbrev pub opened_size : ℕ → ℕ → ℕ
opened_size k t = t * opening_size (depth k)

-- Opening the witness of item i into part i of a buffer whose parts have the given size.
abbrev pub open_item : ℕ → ℕ → ℕ → List ℕ → List ℕ → List ℕ → List ℕ → ℕ → Opened
open_item k t size points wits positions opened i = «open» k t points (witness_part k wits i) positions (part opened (i * size) size)

-- The same for all witnesses: the items' come first, the new one last.
abbrev pub open_into : ℕ → ℕ → ℕ → ℕ → List ℕ → List ℕ → List ℕ → List ℕ → List ℕ → ℕ → Opened
open_into k t l size points wits wit positions opened i =
    «open» k t points (get_or (build l (witness_part k wits) ++ (wit ∷ [])) i []) positions (part opened (i * size) size)

pub record Chained : Type 0 where
  pub answer : ℕ
  pub quotient : List ℕ
  pub item : List ℕ
  pub wit : List ℕ
  pub opened : List ℕ
  pub openings : List ℕ

module _ (m n k l t challenge : ℕ) (points a b c items wits positions quotient item wit opened openings : List ℕ) where
  abbrev folded : Folded
  folded = folding fp m n k l t challenge points a b c items wits positions quotient item wit (witness_openings k t opened)

  abbrev opened_at : ℕ → Opened
  opened_at i = opening fp m n k l t challenge points a b c items wits positions quotient item wit (witness_openings k t opened) i

  -- Where `opened` and `openings` do not pass interleaving's check 2, no call is made. Else the witnesses are opened if folding answers
  -- 0, and the openings are interleaved if every call so far does.
  abbrev pub chain_if : Bool → Chained
  chain_if false = record { answer = 2; quotient = quotient; item = item; wit = wit; opened = opened; openings = openings }
  chain_if true = record {
    answer = first_refusal (chain_answers fp m n k l t challenge points a b c items wits positions quotient item wit (witness_openings k t opened));
    quotient = folded.quotient;
    item = folded.item;
    wit = folded.wit;
    opened = written folded.answer (concat_to (suc l) (λ i. (opened_at i).openings)) opened;
    openings = written (first_refusal (folded.answer ∷ build (suc l) (λ i. (opened_at i).answer))) (in_order (depth k) t l (λ i. (opened_at i).openings)) openings;
  }

  unfoldable pub chain : Chained
  chain = chain_if (interleave_fits k l t opened openings)
