-- The first statement of demand 3: for an honest list, a permitted challenge and permitted positions, every call of the chain answers 0.
use mathlib.Core.Path.{◌≡◌, sym, ap, ap₂, ◌∙◌}
use mathlib.Core.Bool.{true}
use mathlib.Core.List.{List}
use Prim.Native.Nat.{ℕ, suc}
use borrow.Author.Tests.{eq-eqb}
use lib.ListN.{length, get_or}
use Rattle.algebra.specs.Lists.{build}
use Rattle.algebra.proofs.ListLaws.{All-append, All-build}
use Rattle.numbers.proofs.Tests.{◌&◌, same_bytes_lem}
use Rattle.code.specs.Points.{depth}
use Rattle.theory.specs.R1cs.{value}
use Rattle.theory.specs.Items.{Item}
use Rattle.theory.specs.Combination.{new_w, new_e, quotient_size}
use Rattle.theory.specs.Folds.{Shown}
use Rattle.theory.specs.Instance.{Instance, code, witness_root}
use Rattle.theory.specs.Buffers.{elements, circuit, item_size, item_bytes, read_items, read_witness, in_order}
use Rattle.theory.specs.Sizes.{has_length}
use Rattle.theory.specs.Calls.{list_quotient, new_witness, new_item, list_checks, claim_checks, decide_checks, decide}
use Rattle.theory.specs.Verify.{read_shown, combines, openings_lead, values_combine, verify_checks, verify}
use Rattle.theory.specs.Statements.{Honest, PermittedChallenge, PermittedPositions, OutputsFit, folding, opening, verifying, deciding, FirstStatement}
use Rattle.theory.specs.Fp.{fp}
use Rattle.theory.proofs.Passing.{Passes}
use Rattle.theory.proofs.CheckLaws.{Passed, true-every, passed-answer}
use Rattle.theory.proofs.Equality.{same-element, same-elements}
use Rattle.theory.proofs.InstanceLaws.{InstanceLaws}
use Rattle.theory.proofs.FpLaws.{fp-laws}
use Rattle.theory.proofs.Passed.{ListFits, ListPasses, ClaimsPass, passed-list, passed-claims}
use Rattle.theory.proofs.ElementBytes.{length-written, elements-read}
use Rattle.theory.proofs.ItemBytes.{Fits, length-item_bytes, item-below}
use Rattle.theory.proofs.Reading.{one_below, one-matches, one_holds}
use Rattle.theory.proofs.HonestList.{honest-fits, honest-passes, honest-below}
use Rattle.theory.proofs.LeadingOne.{one-leading-one, combined-leading-one}
use Rattle.theory.proofs.Folding.{length-new_witness, new_item-fits, challenge-sized, challenge-permitted, length-list_quotient, folding-answers, wrote-quotient, wrote-item, wrote-witness}
use Rattle.theory.proofs.Opening.{position-count-fits, positions-fit}
use Rattle.theory.proofs.Chain.{each-opening-answers, ordered-size, ordered-below, newest-read, chain-passes}

module _ {I : Instance} (laws : InstanceLaws I) {m n k l t : ℕ} {points a b c items wits positions quotient item wit : List ℕ} {openings : ℕ → List ℕ}
    (honest : Honest I m n k l points a b c items wits) (allowed : PermittedPositions k t positions) (outputs : OutputsFit I m n k l t quotient item wit openings)
    (challenge : I.format.Challenge) (permitted : PermittedChallenge I l challenge) where
  open I use {field as F, format as E, hash as H}
  open F.ring use {carrier as K, zero as 𝟘}

  abbrev batch : List (Item K)
  batch = read_items I m n l items

  -- What folding I and opening I write, and what of it the verifier is shown.
  abbrev coefficients : List K
  coefficients = list_quotient I m n k l a b c items wits

  abbrev new : Item K
  new = new_item I m n k l (E.element challenge) points items wits coefficients

  abbrev newest : List K
  newest = new_witness I k l (E.element challenge) wits

  abbrev ordered : List ℕ
  ordered = in_order I (depth k) t l (λ i. (opening I m n k l t challenge points a b c items wits positions quotient item wit openings i).openings)

  abbrev shown : Shown K
  shown = read_shown I m n k l t challenge positions (item_bytes I new) ordered

  -- The new witness, as a combination over the list that is read.
  abbrev combination : List K
  combination = new_w F k (length batch) (read_witness I k wits) (E.element challenge)

  passes : Passes F H (code I k points) (circuit I a b c) m n batch coefficients (record { shown = shown; witness = combination })
  passes = chain-passes laws honest allowed outputs challenge permitted

  -- ---- sizes and bounds

  abbrev fits : ListFits I m n k l points a b c items wits
  fits = honest-fits honest

  new-fits : Fits m n new
  new-fits = new_item-fits I laws m n k l (E.element challenge) points items wits coefficients

  item-size : length (item_bytes I new) ≡ item_size I m n
  item-size = length-item_bytes I laws new-fits

  witness-size : length (E.bytes_of newest) ≡ E.size k
  witness-size = length-written I laws k newest (length-new_witness I k l (E.element challenge) wits)

  quotient-fits : has_length (E.bytes_of coefficients) (E.size (quotient_size m l)) ≡ true
  quotient-fits = eq-eqb _ _ (length-written I laws (quotient_size m l) coefficients (length-list_quotient honest laws))

  item-fits : has_length (item_bytes I new) (item_size I m n) ≡ true
  item-fits = eq-eqb _ _ item-size

  witness-fits : has_length (E.bytes_of newest) (E.size k) ≡ true
  witness-fits = eq-eqb _ _ witness-size

  -- ---- verifying I

  check7 : combines I m n batch (elements I (quotient_size m l) (E.bytes_of coefficients)) shown ≡ true
  check7 = same-elements I passes.new-r & same-elements I passes.new-x & same-element I (passes.new-e ∙ ap (λ (q : List K). new_e F batch q (E.element challenge)) (sym read))
    where
      read : elements I (quotient_size m l) (E.bytes_of coefficients) ≡ coefficients
      read = elements-read I laws (quotient_size m l) coefficients (length-list_quotient honest laws)

  check8 : openings_lead I batch shown ≡ true
  check8 = true-every _ _ (λ q h. true-every _ _ (λ i j. same_bytes_lem (passes.leads q h i j)))

  check9 : values_combine I batch shown ≡ true
  check9 = true-every _ _ (λ q h. same-element I (passes.combines q h))

  verified : (verify I m n k l t challenge items positions (E.bytes_of coefficients) (item_bytes I new) ordered).verdict ≡ 0
  unfolding verify
  verified = passed-answer (verify_checks I m n k l t challenge items positions (E.bytes_of coefficients) (item_bytes I new) ordered) (
    challenge-sized I l challenge permitted & fits.sizes-fit & fits.count-fits & position-count-fits allowed & fits.items-fit & positions-fit allowed & quotient-fits & item-fits
        & eq-eqb _ _ (ordered-size laws honest allowed outputs challenge permitted),
    (
      (honest-below honest).items-below & laws.format-laws.numbers-below coefficients & item-below I laws new-fits & ordered-below laws honest allowed outputs challenge permitted,
      ((honest-passes honest).leading-one, (challenge-permitted I l challenge permitted, (allowed.check6, (check7, (check8, (check9, tt)))))),
    ),
  )

  -- ---- deciding I

  -- The new witness as it is read.
  read : elements I k (E.bytes_of newest) ≡ combination
  read = newest-read laws honest allowed outputs challenge permitted

  new-list : ListPasses I m n k 1 points a b c (item_bytes I new) (E.bytes_of newest)
  new-list = record {
    below = (honest-below honest).circuit-below & (one_below I m n k (item_bytes I new) (E.bytes_of newest) item-size witness-size ∙ item-below I laws new-fits)
        & laws.format-laws.numbers-below newest;
    differ = (honest-passes honest).differ;
    in-order = (honest-passes honest).in-order;
    leading-one = one-leading-one I m n (item_bytes I new) item-size
        (ap (λ (x : List K). get_or x 0 𝟘) passes.new-x ∙ combined-leading-one I laws m n k l items fits.sizes-fit fits.count-fits (honest-passes honest).leading-one (E.element challenge));
  }

  new-claims : ClaimsPass I m n k 1 points a b c (item_bytes I new) (E.bytes_of newest)
  new-claims = record {
    all-match = one-matches I m n k (item_bytes I new) (E.bytes_of newest) item-size witness-size points ∙ same_bytes_lem (passes.matches ∙ ap (witness_root I k points) (sym read));
    all-hold = one_holds I m n k (item_bytes I new) (E.bytes_of newest) item-size witness-size a b c
        ∙ same-element I (ap (value F.ring (circuit I a b c) shown.item.r shown.item.x) read ∙ passes.holds);
  }

  decided : decide I m n k points a b c (item_bytes I new) (E.bytes_of newest) ≡ 0
  unfolding decide
  decided = passed-answer (decide_checks I m n k points a b c (item_bytes I new) (E.bytes_of newest)) (
    fits.sizes-fit & fits.points-fit & fits.circuit-fits & item-fits & witness-fits,
    All-append Passed (list_checks I m n k 1 points a b c (item_bytes I new) (E.bytes_of newest)) (claim_checks I m n k 1 points a b c (item_bytes I new) (E.bytes_of newest))
        (passed-list I m n k 1 points a b c (item_bytes I new) (E.bytes_of newest) new-list)
        (passed-claims I m n k 1 points a b c (item_bytes I new) (E.bytes_of newest) new-claims),
  )

  -- ---- the calls of the chain

  folding-zero : (folding I m n k l t challenge points a b c items wits positions quotient item wit openings).answer ≡ 0
  folding-zero = folding-answers honest outputs challenge permitted

  verifying-zero : verifying I m n k l t challenge points a b c items wits positions quotient item wit openings ≡ 0
  verifying-zero =
      ap₂ (λ (q i : List ℕ). (verify I m n k l t challenge items positions q i ordered).verdict) (wrote-quotient honest outputs challenge permitted) (wrote-item honest outputs challenge permitted)
      ∙ verified

  deciding-zero : deciding I m n k l t challenge points a b c items wits positions quotient item wit openings ≡ 0
  deciding-zero = ap₂ (λ (i w : List ℕ). decide I m n k points a b c i w) (wrote-item honest outputs challenge permitted) (wrote-witness honest outputs challenge permitted) ∙ decided

pub first-for : (I : Instance) → InstanceLaws I → FirstStatement I
first-for I laws m n k l t challenge points a b c items wits positions quotient item wit openings honest permitted allowed outputs = (
  folding-zero laws honest allowed outputs challenge permitted,
  All-append (λ r. r ≡ 0) (build (suc l) answers) _
      (All-build (λ r. r ≡ 0) (suc l) answers (each-opening-answers laws honest allowed outputs challenge permitted))
      (verifying-zero laws honest allowed outputs challenge permitted, (deciding-zero laws honest allowed outputs challenge permitted, tt)),
)
  where
    answers : ℕ → ℕ
    answers i = (opening I m n k l t challenge points a b c items wits positions quotient item wit openings i).answer

-- About the exported calls.
pub first-statement : FirstStatement fp
first-statement = first-for fp fp-laws
