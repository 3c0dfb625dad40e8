-- Folding an honest list at a permitted challenge: it answers 0, and writes the quotient, the new item and the new witness. The quotient call
-- writes the same quotient.
use mathlib.Core.Path.{◌≡◌, ap, ◌∙◌}
use mathlib.Core.Bool.{true}
use mathlib.Core.List.{List, ◌∷◌}
use Prim.Native.Nat.{ℕ}
use lib.ListN.{length}
use Rattle.algebra.proofs.ListLaws.{length-build, All-append}
use Rattle.numbers.proofs.Tests.{and_left, and_right, ◌&◌, same_bytes_lem}
use Rattle.tree.proofs.Blocks.{root-length}
use Rattle.code.specs.Points.{depth}
use Rattle.theory.specs.Combination.{quotient_size}
use Rattle.theory.specs.Checks.{check}
use Rattle.theory.specs.Instance.{Instance}
use Rattle.theory.specs.Buffers.{item_bytes}
use Rattle.theory.specs.Results.{Folded}
use Rattle.theory.specs.Sizes.{has_length}
use Rattle.theory.specs.Calls.{list_checks, claim_checks, list_quotient, quotient_checks, quotient, new_witness, new_item, fold_checks, fold}
use Rattle.theory.specs.Statements.{Honest, PermittedChallenge, OutputsFit}
use Rattle.theory.proofs.CheckLaws.{Passed, true-every, passed-answer, written-accepted}
use Rattle.theory.proofs.Equality.{same-element}
use Rattle.theory.proofs.InstanceLaws.{InstanceLaws}
use Rattle.theory.proofs.Passed.{ClaimsPass, passed-list, passed-claims}
use Rattle.theory.proofs.ItemBytes.{Fits}
use Rattle.theory.proofs.Reading.{length-read_items}
use Rattle.theory.proofs.HonestList.{honest-passes, honest-quotient}

module _ (I : Instance) where
  open I use {field as F, format as E, hash as H}
  open F.ring use {carrier as K}

  -- ---- what is written has the sizes

  pub length-new_witness : (k l : ℕ) (challenge : K) (wits : List ℕ) → length (new_witness I k l challenge wits) ≡ k
  length-new_witness k l challenge wits = length-build k _

  pub new_item-fits : InstanceLaws I → (m n k l : ℕ) (challenge : K) (points items wits : List ℕ) (q : List K) → Fits m n (new_item I m n k l challenge points items wits q)
  new_item-fits laws m n k l challenge points items wits q = record {
    r-size = length-build m _;
    x-size = length-build n _;
    root-size = root-length H.digest laws.hash-laws.digest-length (depth k) _;
  }

  -- ---- a permitted challenge

  module _ (l : ℕ) (challenge : E.Challenge) (permitted : PermittedChallenge I l challenge) where
    pub challenge-sized : E.sized challenge ≡ true
    challenge-sized = and_left (E.sized challenge) (E.permitted l challenge) permitted

    pub challenge-permitted : E.permitted l challenge ≡ true
    challenge-permitted = and_right (E.sized challenge) (E.permitted l challenge) permitted

module _ {I : Instance} {m n k l : ℕ} {points a b c items wits : List ℕ} (honest : Honest I m n k l points a b c items wits) where
  open I use {format as E}

  pub length-list_quotient : InstanceLaws I → length (list_quotient I m n k l a b c items wits) ≡ quotient_size m l
  length-list_quotient laws = (honest-quotient honest laws).coefficients ∙ ap (quotient_size m) (length-read_items I m n l items)

  honest-claims : ClaimsPass I m n k l points a b c items wits
  honest-claims = record {
    all-match = true-every l _ (λ i h. same_bytes_lem (honest.matches i h));
    all-hold = true-every l _ (λ i h. same-element I (honest.holds i h));
  }

  -- ---- the quotient alone

  module _ (quotient₀ : List ℕ) (fits : has_length quotient₀ (E.size (quotient_size m l)) ≡ true) where
    pub quotient-answers : (quotient I m n k l points a b c items wits quotient₀).answer ≡ 0
    unfolding quotient
    quotient-answers = passed-answer (quotient_checks I m n k l points a b c items wits quotient₀) (
      honest.check2 & fits,
      All-append Passed (list_checks I m n k l points a b c items wits) (claim_checks I m n k l points a b c items wits)
          (passed-list I m n k l points a b c items wits (honest-passes honest))
          (passed-claims I m n k l points a b c items wits honest-claims),
    )

    pub quotient-wrote : (quotient I m n k l points a b c items wits quotient₀).quotient ≡ E.bytes_of (list_quotient I m n k l a b c items wits)
    unfolding quotient
    quotient-wrote = written-accepted _ quotient₀ quotient-answers

  -- ---- the call

  module _ {t : ℕ} {quotient item wit : List ℕ} {openings : ℕ → List ℕ} (outputs : OutputsFit I m n k l t quotient item wit openings)
      (challenge : E.Challenge) (permitted : PermittedChallenge I l challenge) where
    abbrev folded : Folded
    folded = fold I m n k l challenge points a b c items wits quotient item wit

    pub folding-answers : folded.answer ≡ 0
    unfolding fold
    folding-answers = passed-answer (fold_checks I m n k l challenge points a b c items wits quotient item wit) (
      challenge-sized I l challenge permitted & honest.check2 & outputs.folding,
      All-append Passed (list_checks I m n k l points a b c items wits) (check 5 (E.permitted l challenge) ∷ claim_checks I m n k l points a b c items wits)
          (passed-list I m n k l points a b c items wits (honest-passes honest))
          (challenge-permitted I l challenge permitted, passed-claims I m n k l points a b c items wits honest-claims),
    )

    pub wrote-quotient : folded.quotient ≡ E.bytes_of (list_quotient I m n k l a b c items wits)
    unfolding fold
    wrote-quotient = written-accepted _ quotient folding-answers

    pub wrote-item : folded.item ≡ item_bytes I (new_item I m n k l (E.element challenge) points items wits (list_quotient I m n k l a b c items wits))
    unfolding fold
    wrote-item = written-accepted _ item folding-answers

    pub wrote-witness : folded.wit ≡ E.bytes_of (new_witness I k l (E.element challenge) wits)
    unfolding fold
    wrote-witness = written-accepted _ wit folding-answers
