-- A leading one: the new item of a fold whose items have 1 as first input has it too, since the L_i sum to 1. So deciding a folded item never
-- answers 13.
use mathlib.Core.Path.{◌≡◌, ap, ◌∙◌}
use mathlib.Core.Logic.{◌≢◌}
use mathlib.Core.Bool.{true}
use mathlib.Core.List.{List, [], ◌∷◌}
use Prim.Native.Nat.{ℕ, ◌<◌}
use native.Mathlib.Omega.{arith}
use borrow.Author.Tests.{eqb-true}
use lib.ListN.{length, get_or}
use Rattle.algebra.specs.Ring.{Field}
use Rattle.algebra.specs.Lists.{Differ}
use Rattle.numbers.proofs.Tests.{each-true}
use Rattle.theory.specs.Items.{Item, LeadingOne}
use Rattle.theory.specs.Combination.{node, item_at, new_x}
use Rattle.theory.specs.Instance.{Instance}
use Rattle.theory.specs.Buffers.{item_size, read_item, item_bytes, read_items}
use Rattle.theory.specs.Sizes.{sizes, item_count_fits, leading_one, items_leading_one}
use Rattle.theory.specs.Calls.{list_fits, list_quotient, new_item, fold_outputs_fit, fold, decide_checks, decide}
use Rattle.theory.specs.Verify.{verify}
use Rattle.theory.specs.Fp.{fp}
use Rattle.theory.proofs.FpLaws.{fp-laws}
use Rattle.theory.proofs.CombinationLaws.{get_or-mix_lists, mix-ones}
use Rattle.theory.proofs.CheckLaws.{every_true, every_one, never-answers, written-accepted}
use Rattle.theory.proofs.Equality.{same-element, equal-element}
use Rattle.theory.proofs.InstanceLaws.{InstanceLaws}
use Rattle.theory.proofs.Passed.{ListFits, list-fits, FoldPasses, fold-passes, VerifyPasses, verify-passes}
use Rattle.theory.proofs.Parts.{first_part}
use Rattle.theory.proofs.ItemBytes.{Fits, length-item_bytes, item-read}
use Rattle.theory.proofs.Reading.{length-read_items, item_at-read_items}
use Rattle.theory.proofs.HonestList.{some-input, some_item, few-items}
use Rattle.theory.proofs.Folding.{new_item-fits}

-- ---- over any field

module _ (F : Field) where
  open F.ring use {carrier as K, zero as 𝟘}

  -- Of items whose first inputs are 1, the new first input at any challenge is 1.
  pub new-leading-one : (n : ℕ) (items : List (Item K)) → 0 < n → 0 < length items → Differ (length items) (node F)
      → ((i : ℕ) → i < length items → LeadingOne F (item_at F items i).x) → (a : K) → LeadingOne F (new_x F n items a)
  new-leading-one n items inputs some different lead a =
      get_or-mix_lists F n (length items) (λ i. (item_at F items i).x) a 0 inputs
      ∙ mix-ones F (length items) different some (λ i. get_or (item_at F items i).x 0 𝟘) lead a

-- ---- check 13

module _ (I : Instance) where
  open I use {field as F, format as E}
  open F.ring use {carrier as K, zero as 𝟘, one as 𝟙}

  -- Of l items, item by item; and of one.
  pub items-leading-one : (m n l : ℕ) (items : List ℕ) → items_leading_one I m n l items ≡ true
      → (i : ℕ) → i < l → LeadingOne F (item_at F (read_items I m n l items) i).x
  items-leading-one m n l items passed i h =
      ap (λ (t : Item K). get_or t.x 0 𝟘) (item_at-read_items I m n l items i h) ∙ equal-element I _ 𝟙 (every_true l _ passed i h)

  pub one-leading-one : (m n : ℕ) (item : List ℕ) → length item ≡ item_size I m n → LeadingOne F (read_item I m n item).x → items_leading_one I m n 1 item ≡ true
  one-leading-one m n item size lead =
      every_one _ ∙ ap (λ (b : List ℕ). leading_one I (read_item I m n b).x) (first_part item (item_size I m n) size) ∙ same-element I lead

  -- Where the items of a buffer pass it, the new first input at any challenge is 1.
  pub combined-leading-one : InstanceLaws I → (m n k l : ℕ) (items : List ℕ) → sizes m n k ≡ true → item_count_fits l ≡ true → items_leading_one I m n l items ≡ true
      → (a : K) → LeadingOne F (new_x F n (read_items I m n l items) a)
  combined-leading-one laws m n k l items fit count passed =
      new-leading-one F n (read_items I m n l items) (some-input m n k fit) (omega (arith, counted, some_item l count)) apart
      (λ i h. items-leading-one m n l items passed i (omega (arith, counted)))
    where
      counted : length (read_items I m n l items) ≡ l
      counted = length-read_items I m n l items

      apart : Differ (length (read_items I m n l items)) (node F)
      apart i j h p = laws.nodes-differ i j h (omega (arith, counted, few-items l count))

  -- ---- a folded item

  -- Deciding an item that passes it does not answer 13.
  not-13 : (m n k : ℕ) (points a b c item wit : List ℕ) → items_leading_one I m n 1 item ≡ true → decide I m n k points a b c item wit ≢ 13
  unfolding decide
  not-13 m n k points a b c item wit passed = never-answers 13 (decide_checks I m n k points a b c item wit) (omega arith) (
    λ e. absurd (omega (arith, e)),
    (λ e. absurd (omega (arith, e)), (λ e. absurd (omega (arith, e)), (λ e. absurd (omega (arith, e)), (λ e. passed, (λ e. absurd (omega (arith, e)), (λ e. absurd (omega (arith, e)), tt)))))),
  )

  -- An item that verifying accepted as the new one of a list, of whatever bytes: deciding it with the same m and n never answers 13, with
  -- any points, circuit and witness.
  pub verified-for : InstanceLaws I → (m n k l t : ℕ) (challenge : E.Challenge) (items positions q item openings : List ℕ)
      → (verify I m n k l t challenge items positions q item openings).verdict ≡ 0
      → (j : ℕ) (points a b c wit : List ℕ) → decide I m n j points a b c item wit ≢ 13
  unfolding verify
  verified-for laws m n k l t challenge items positions q item openings accepted j points a b c wit =
      not-13 m n j points a b c item wit (one-leading-one m n item (eqb-true (length item) (item_size I m n) passed.fits.item-fits)
      (ap (λ (x : List K). get_or x 0 𝟘) passed.combine.new-x
      ∙ combined-leading-one laws m n k l items passed.fits.sizes-fit passed.fits.count-fits passed.leading-one (E.element challenge)))
    where
      passed : VerifyPasses I m n k l t challenge items positions q item openings
      passed = verify-passes I m n k l t challenge items positions q item openings accepted

  -- The same for the item that folding wrote.
  pub folded-for : InstanceLaws I → (m n k l : ℕ) (challenge : E.Challenge) (points a b c items wits q item wit : List ℕ)
      → (fold I m n k l challenge points a b c items wits q item wit).answer ≡ 0
      → (j : ℕ) (others d e f other : List ℕ) → decide I m n j others d e f (fold I m n k l challenge points a b c items wits q item wit).item other ≢ 13
  unfolding fold
  folded-for laws m n k l challenge points a b c items wits q item wit accepted j others d e f other =
      rw (written-accepted (item_bytes I new) item accepted) (not-13 m n j others d e f (item_bytes I new) other (one-leading-one m n (item_bytes I new) (length-item_bytes I laws new-fits)
      (ap (λ (t : Item K). get_or t.x 0 𝟘) (item-read I laws new-fits)
      ∙ combined-leading-one laws m n k l items fits.sizes-fit fits.count-fits passed.list.leading-one (E.element challenge))))
    where
      new : Item K
      new = new_item I m n k l (E.element challenge) points items wits (list_quotient I m n k l a b c items wits)

      new-fits : Fits m n new
      new-fits = new_item-fits I laws m n k l (E.element challenge) points items wits (list_quotient I m n k l a b c items wits)

      passed : FoldPasses I m n k l points a b c items wits challenge q item wit
      passed = fold-passes I m n k l points a b c items wits challenge q item wit accepted

      fits : ListFits I m n k l points a b c items wits
      fits = list-fits I m n k l points a b c items wits
          (each-true (E.sized challenge) (list_fits I m n k l points a b c items wits ∷ fold_outputs_fit I m n k l q item wit ∷ []) passed.fits).1.0

-- About the exported calls.
pub verified-never-13 : (m n k l t challenge : ℕ) (items positions q item openings : List ℕ) → (verify fp m n k l t challenge items positions q item openings).verdict ≡ 0
    → (j : ℕ) (points a b c wit : List ℕ) → decide fp m n j points a b c item wit ≢ 13
verified-never-13 = verified-for fp fp-laws

pub folded-never-13 : (m n k l challenge : ℕ) (points a b c items wits q item wit : List ℕ) → (fold fp m n k l challenge points a b c items wits q item wit).answer ≡ 0
    → (j : ℕ) (others d e f other : List ℕ) → decide fp m n j others d e f (fold fp m n k l challenge points a b c items wits q item wit).item other ≢ 13
folded-never-13 = folded-for fp fp-laws
