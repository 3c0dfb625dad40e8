-- The first statement with drawn numbers (paper 02, "Challenges drawn by hash"): one chain of calls, each fed what the earlier wrote.
use Rattle.std.specs.Prelude.{◌≡◌, true, List, ◌∷◌, ℕ, ◌*◌}
use Rattle.algebra.specs.Lists.{All}
use Rattle.tree.specs.Layout.{part}
use Rattle.theory.specs.Combination.{quotient_size}
use Rattle.theory.specs.Results.{Quotient, Folded}
use Rattle.theory.specs.Buffers.{number_at}
use Rattle.theory.specs.Sizes.{position_count_fits, has_length}
use Rattle.theory.specs.Statements.{Honest, OutputsFit, chain_answers}
use Rattle.theory.specs.Fp.{fp, item_front, quotient, fold}
use Rattle.draw.specs.Draw.{DrawnChallenge, draw_challenge, DrawnPositions, draw_positions}

-- The output buffers of the calls: `quotient₀` is that of the quotient call, from which the challenge is drawn; the others are those of drawing and of
-- the chain of the first statement.
module _ (m n k l t : ℕ) (points a b c items wits quotient₀ seed challenge positions quotient₁ item wit : List ℕ) (openings : ℕ → List ℕ) where
  -- They pass check 2, and so does the number t of positions.
  pub record DrawnOutputsFit : Type 0 where
    pub quotient-fits : has_length quotient₀ (4 * quotient_size m l) ≡ true
    pub seed-fits : has_length seed 32 ≡ true
    pub challenge-fits : has_length challenge 4 ≡ true
    pub count-fits : position_count_fits k t ≡ true
    pub positions-fit : has_length positions (4 * t) ≡ true
    pub chain : OutputsFit fp m n k l t quotient₁ item wit openings

  -- The quotient of the list, and the challenge drawn from the items and it.
  abbrev pub quotienting : Quotient
  quotienting = quotient m n k l points a b c items wits quotient₀

  abbrev pub drawing : DrawnChallenge
  drawing = draw_challenge m n k l items quotienting.quotient seed challenge

  abbrev pub drawn_challenge : ℕ
  drawn_challenge = number_at drawing.challenge 0

  -- The fold at this challenge, and the positions drawn from the root of the new item that it wrote.
  abbrev pub folding : Folded
  folding = fold m n k l drawn_challenge points a b c items wits quotient₁ item wit

  abbrev pub positioning : DrawnPositions
  positioning = draw_positions k l t drawn_challenge drawing.seed (part folding.item (item_front m n) 32) positions

  -- What the calls answer: quotient, both draws, and at what was drawn the chain of the first statement, which is folding, opening,
  -- verifying and deciding.
  abbrev pub drawn_answers : List ℕ
  drawn_answers =
      quotienting.answer ∷ drawing.answer ∷ positioning.answer
      ∷ chain_answers fp m n k l t drawn_challenge points a b c items wits positioning.positions quotient₁ item wit openings

-- For a list that is honest over some points, every call of the chain answers zero, and the quotient that folding wrote, which verifying is lent, is
-- the one from which the challenge was drawn.
abbrev pub DrawnStatement : Type 0
DrawnStatement = (m n k l t : ℕ) (points a b c items wits quotient₀ seed challenge positions quotient₁ item wit : List ℕ) (openings : ℕ → List ℕ)
    → Honest fp m n k l points a b c items wits
    → DrawnOutputsFit m n k l t points a b c items wits quotient₀ seed challenge positions quotient₁ item wit openings
    → All (λ r. r ≡ 0) (drawn_answers m n k l t points a b c items wits quotient₀ seed challenge positions quotient₁ item wit openings)
    × ((folding m n k l t points a b c items wits quotient₀ seed challenge positions quotient₁ item wit openings).quotient
    ≡ (quotienting m n k l t points a b c items wits quotient₀ seed challenge positions quotient₁ item wit openings).quotient)
