-- The first statement with drawn numbers: quotient and draws answer 0, and what is drawn is permitted, so that the first statement is about it.
use mathlib.Core.Path.{◌≡◌, sym, ap, ◌∙◌}
use mathlib.Core.List.{List}
use Prim.Native.Nat.{ℕ}
use native.Mathlib.Omega.{arith}
use borrow.Author.Tests.{eq-eqb}
use lib.ListN.{length}
use Rattle.numbers.proofs.Tests.{◌&◌}
use Rattle.field.specs.BabyBear.{F}
use Rattle.hash.proofs.DigestLaws.{digest-length}
use Rattle.tree.specs.Layout.{part}
use Rattle.theory.specs.Combination.{quotient_size}
use Rattle.theory.specs.Statements.{Honest, PermittedChallenge, PermittedPositions}
use Rattle.theory.specs.Fp.{fp, element_bytes, item_front, item_size, list_quotient, fold}
use Rattle.theory.proofs.CheckLaws.{passed-answer}
use Rattle.theory.proofs.Passed.{ListFits}
use Rattle.theory.proofs.Parts.{length_part}
use Rattle.theory.proofs.ElementBytes.{length-written}
use Rattle.theory.proofs.ItemBytes.{length-item_bytes}
use Rattle.theory.proofs.HonestList.{witness-count, honest-fits, honest-passes, honest-below}
use Rattle.theory.proofs.Folding.{new_item-fits, length-list_quotient, quotient-answers, quotient-wrote, wrote-quotient, wrote-item}
use Rattle.theory.proofs.FirstStatement.{first-statement}
use Rattle.theory.proofs.FpLaws.{fp-laws}
use Rattle.draw.specs.Draw.{seed_of, draw_challenge_checks, draw_challenge, draw_positions_checks, draw_positions}
use Rattle.draw.specs.Drawn.{DrawnOutputsFit, quotienting, drawing, drawn_challenge, folding, positioning, DrawnStatement}
use Rattle.draw.proofs.Permitted.{drawn-seed, drawn-challenge-permitted, drawn-positions-permitted}

module _ (m n k l t : ℕ) (points a b c items wits quotient₀ seed challenge positions quotient₁ item wit : List ℕ) (openings : ℕ → List ℕ)
    (honest : Honest fp m n k l points a b c items wits)
    (outputs : DrawnOutputsFit m n k l t points a b c items wits quotient₀ seed challenge positions quotient₁ item wit openings) where
  abbrev coefficients : List F
  coefficients = list_quotient m n k l a b c items wits

  abbrev made : List ℕ
  made = (quotienting m n k l t points a b c items wits quotient₀ seed challenge positions quotient₁ item wit openings).quotient

  abbrev drawn : ℕ
  drawn = drawn_challenge m n k l t points a b c items wits quotient₀ seed challenge positions quotient₁ item wit openings

  fits : ListFits fp m n k l points a b c items wits
  fits = honest-fits honest

  -- ---- the challenge

  made-is : made ≡ element_bytes coefficients
  made-is = quotient-wrote honest quotient₀ outputs.quotient-fits

  drawn-from-coefficients : (draw_challenge m n k l items (element_bytes coefficients) seed challenge).answer ≡ 0
  unfolding draw_challenge
  drawn-from-coefficients = passed-answer (draw_challenge_checks m n k l items (element_bytes coefficients) seed challenge) (
    fits.sizes-fit & fits.count-fits & fits.items-fit & eq-eqb _ _ (length-written fp fp-laws (quotient_size m l) coefficients (length-list_quotient honest fp-laws)) & outputs.seed-fits & outputs.challenge-fits,
    ((honest-below honest).items-below & fp-laws.format-laws.numbers-below coefficients, ((honest-passes honest).leading-one, tt)),
  )

  drawing-zero : (draw_challenge m n k l items made seed challenge).answer ≡ 0
  drawing-zero = ap (λ (q : List ℕ). (draw_challenge m n k l items q seed challenge).answer) made-is ∙ drawn-from-coefficients

  permitted : PermittedChallenge fp l drawn
  permitted = drawn-challenge-permitted m n k l items made seed challenge drawing-zero

  -- ---- the positions

  abbrev drawn_seed : List ℕ
  drawn_seed = (drawing m n k l t points a b c items wits quotient₀ seed challenge positions quotient₁ item wit openings).seed

  abbrev new_root : List ℕ
  new_root = part (folding m n k l t points a b c items wits quotient₀ seed challenge positions quotient₁ item wit openings).item (item_front m n) 32

  new-item-length : length (fold m n k l drawn points a b c items wits quotient₁ item wit).item ≡ item_size m n
  new-item-length = ap length (wrote-item honest outputs.chain drawn permitted) ∙ length-item_bytes fp fp-laws (new_item-fits fp fp-laws m n k l _ points items wits coefficients)

  positioning-zero : (draw_positions k l t drawn drawn_seed new_root positions).answer ≡ 0
  unfolding draw_positions seed_of
  positioning-zero = passed-answer (draw_positions_checks k l t drawn drawn_seed new_root positions) (
    witness-count m n k fits.sizes-fit & fits.count-fits & outputs.count-fits & eq-eqb _ _ seed-length & eq-eqb _ _ root-length & outputs.positions-fit,
    (permitted, tt),
  )
    where
      seed-length : length drawn_seed ≡ 32
      seed-length = ap length (drawn-seed m n k l items made seed challenge drawing-zero) ∙ digest-length _

      root-length : length new_root ≡ 32
      root-length = length_part (fold m n k l drawn points a b c items wits quotient₁ item wit).item (item_front m n) 32 (omega (arith, new-item-length))

  allowed : PermittedPositions k t (positioning m n k l t points a b c items wits quotient₀ seed challenge positions quotient₁ item wit openings).positions
  allowed = drawn-positions-permitted k l t drawn drawn_seed new_root positions positioning-zero

pub drawn-statement : DrawnStatement
drawn-statement m n k l t points a b c items wits quotient₀ seed challenge positions quotient₁ item wit openings honest outputs =
    let permit = permitted m n k l t points a b c items wits quotient₀ seed challenge positions quotient₁ item wit openings honest outputs in (
      (
        quotient-answers honest quotient₀ outputs.quotient-fits,
        (
          drawing-zero m n k l t points a b c items wits quotient₀ seed challenge positions quotient₁ item wit openings honest outputs,
          (
            positioning-zero m n k l t points a b c items wits quotient₀ seed challenge positions quotient₁ item wit openings honest outputs,
            first-statement m n k l t _ points a b c items wits _ quotient₁ item wit openings honest permit
                (allowed m n k l t points a b c items wits quotient₀ seed challenge positions quotient₁ item wit openings honest outputs) outputs.chain,
          ),
        ),
      ),
      wrote-quotient honest outputs.chain _ permit ∙ sym (quotient-wrote honest quotient₀ outputs.quotient-fits),
    )
