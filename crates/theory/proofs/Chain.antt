-- The chain of calls for an honest list: the witnesses that are opened, and what the openings show. What the verifier is shown passes.
use mathlib.Core.Path.{◌≡◌, refl, sym, ap, ◌∙◌}
use mathlib.Core.Bool.{true}
use mathlib.Core.List.{List, [], ◌∷◌}
use Prim.Native.Nat.{ℕ, suc, ◌*◌, ◌<◌}
use native.Mathlib.Decide.{dec_lt}
use native.Mathlib.Omega.{arith}
use lib.ListN.{length, get_or, get_or-append}
use lib.Seq.{get_or-append_seam}
use Rattle.algebra.specs.Lists.{build, concat_to}
use Rattle.algebra.proofs.ListLaws.{length-build, get_or-build}
use Rattle.numbers.specs.Numbers.{numbers}
use Rattle.numbers.proofs.Bounds.{below}
use Rattle.code.specs.Points.{is_witness_count, depth}
use Rattle.theory.specs.Items.{Item}
use Rattle.theory.specs.Combination.{new_w}
use Rattle.theory.specs.Folds.{Opening, Shown, position_count, position_at, opening_at}
use Rattle.theory.specs.Instance.{Instance, code, witness_root}
use Rattle.theory.specs.Buffers.{elements, circuit, item_bytes, read_items, witness_part, read_witness, opening_size, opening_bytes, in_order}
use Rattle.theory.specs.Sizes.{elements_below, opened_below}
use Rattle.theory.specs.Results.{Folded}
use Rattle.theory.specs.Calls.{list_quotient, new_witness, new_item, opening_of}
use Rattle.theory.specs.Verify.{read_shown}
use Rattle.theory.specs.Statements.{Honest, PermittedChallenge, PermittedPositions, OutputsFit, folding, witnesses, opening}
use Rattle.theory.proofs.Passing.{Passes}
use Rattle.theory.proofs.InstanceLaws.{InstanceLaws}
use Rattle.theory.proofs.LentPoints.{code_laws}
use Rattle.theory.proofs.ElementBytes.{length-written, elements-read, length-witness_part, witness-below}
use Rattle.theory.proofs.ItemBytes.{item-read}
use Rattle.theory.proofs.OpeningBytes.{Siblings, length-in_order, opening-read, opened-below}
use Rattle.theory.proofs.Reading.{length-read_items, opening_at-read_shown}
use Rattle.theory.proofs.HonestFold.{folded_item, honest-fold-passes}
use Rattle.theory.proofs.HonestList.{witness-count, honest-fits, honest-passes, honest-below, wits-size, honest-shaped, honest-matches, honest-quotient}
use Rattle.theory.proofs.Folding.{length-new_witness, new_item-fits, wrote-witness}
use Rattle.theory.proofs.Opening.{opening-siblings, position-count, opening-answers, wrote-openings}

module _ {I : Instance} (laws : InstanceLaws I) {m n k l t : ℕ} {points a b c items wits positions quotient item wit : List ℕ} {openings : ℕ → List ℕ}
    (honest : Honest I m n k l points a b c items wits) (allowed : PermittedPositions k t positions) (outputs : OutputsFit I m n k l t quotient item wit openings)
    (challenge : I.format.Challenge) (permitted : PermittedChallenge I l challenge) where
  open I use {field as F, format as E, hash as H}
  open F.ring use {carrier as K}

  -- The list as it is read, its quotient, the new witness and the new item.
  abbrev batch : List (Item K)
  batch = read_items I m n l items

  abbrev coefficients : List K
  coefficients = list_quotient I m n k l a b c items wits

  abbrev newest : List K
  newest = new_witness I k l (E.element challenge) wits

  abbrev new : Item K
  new = new_item I m n k l (E.element challenge) points items wits coefficients

  counted : is_witness_count k ≡ true
  counted = witness-count m n k (honest-fits honest).sizes-fit

  -- ---- the witnesses that the openings are of

  abbrev folded : Folded
  folded = folding I m n k l t challenge points a b c items wits positions quotient item wit openings

  abbrev opened-witness : ℕ → List ℕ
  opened-witness i = get_or (witnesses I m n k l t challenge points a b c items wits positions quotient item wit openings) i []

  opened-witness-old : (i : ℕ) → i < l → opened-witness i ≡ witness_part I k wits i
  opened-witness-old i h =
      get_or-append (build l (witness_part I k wits)) (folded.wit ∷ []) [] i (omega (arith, length-build l (witness_part I k wits)))
      ∙ get_or-build l (witness_part I k wits) i [] h

  opened-witness-new : opened-witness l ≡ E.bytes_of newest
  opened-witness-new =
      ap opened-witness (sym (length-build l (witness_part I k wits)))
      ∙ get_or-append_seam (build l (witness_part I k wits)) folded.wit [] []
      ∙ wrote-witness honest outputs challenge permitted

  -- What is so for the bytes of each witness and of the new one is so for each witness that is opened.
  each-opened-witness : (P : List ℕ → Type 0) → ((i : ℕ) → i < l → P (witness_part I k wits i)) → P (E.bytes_of newest) → (i : ℕ) → i < suc l → P (opened-witness i)
  each-opened-witness P old last i h = go (dec_lt i l)
    where
      go : Dec (i < l) → P (opened-witness i)
      go (yes j) = rw (opened-witness-old i j) (old i j)
      go (no j) = let e : i ≡ l = omega arith in rw (e, opened-witness-new) last

  opened-witness-size : (i : ℕ) → i < suc l → length (opened-witness i) ≡ E.size k
  opened-witness-size = each-opened-witness (λ w. length w ≡ E.size k)
      (λ i h. length-witness_part I laws k l i wits h (wits-size honest))
      (length-written I laws k newest (length-new_witness I k l (E.element challenge) wits))

  opened-witness-below : (i : ℕ) → i < suc l → elements_below (opened-witness i) ≡ true
  opened-witness-below = each-opened-witness (λ w. elements_below w ≡ true)
      (λ i h. witness-below I laws k l i wits h (wits-size honest) (honest-below honest).wits-below)
      (laws.format-laws.numbers-below newest)

  -- ---- their openings

  pub each-opening-answers : (i : ℕ) → i < suc l → (opening I m n k l t challenge points a b c items wits positions quotient item wit openings i).answer ≡ 0
  each-opening-answers i h = opening-answers allowed I points (opened-witness i) (openings i) counted (honest-fits honest).points-fit (honest-passes honest).differ (opened-witness-size i h) (opened-witness-below i h) (outputs.opening i h)

  -- The opening I of witness i at the position with index q.
  abbrev opened : ℕ → ℕ → Opening K
  opened i q = opening_of I k points (elements I k (opened-witness i)) (get_or (numbers positions) q 0)

  siblings : (i q : ℕ) → Siblings (depth k) (opened i q)
  siblings i q = opening-siblings I laws k points (elements I k (opened-witness i)) (get_or (numbers positions) q 0)

  abbrev buffers : ℕ → List ℕ
  buffers i = (opening I m n k l t challenge points a b c items wits positions quotient item wit openings i).openings

  held : (i : ℕ) → i < suc l → buffers i ≡ concat_to t (λ q. opening_bytes I (opened i q))
  held i h = wrote-openings allowed I points (opened-witness i) (openings i) counted (honest-fits honest).points-fit (honest-passes honest).differ (opened-witness-size i h) (opened-witness-below i h) (outputs.opening i h)

  abbrev ordered : List ℕ
  ordered = in_order I (depth k) t l buffers

  pub ordered-size : length ordered ≡ t * suc l * opening_size I (depth k)
  ordered-size = length-in_order I laws (depth k) t l opened siblings buffers held

  pub ordered-below : opened_below I (depth k) (t * suc l) ordered ≡ true
  ordered-below = opened-below I laws (depth k) t l opened siblings buffers held

  -- ---- what the verifier is shown

  abbrev shown : Shown K
  shown = read_shown I m n k l t challenge positions (item_bytes I new) ordered

  own : (q : ℕ) → q < position_count shown → (i : ℕ) (w : List K) → i < suc l → elements I k (opened-witness i) ≡ w
      → opening_at F batch shown q i ≡ opening_of I k points w (position_at shown q)
  own q h i w j e =
      let inside : q < t = omega (arith, position-count allowed) in
      opening_at-read_shown I m n k l t challenge items positions (item_bytes I new) ordered q i inside j
      ∙ opening-read I laws (depth k) t l opened siblings buffers held q i inside j
      ∙ ap (λ (v : List K). opening_of I k points v (position_at shown q)) e

  -- The new witness, as a combination over the list that is read.
  abbrev combination : List K
  combination = new_w F k (length batch) (read_witness I k wits) (E.element challenge)

  combined : newest ≡ combination
  combined = ap (λ (s : ℕ). new_w F k s (read_witness I k wits) (E.element challenge)) (sym (length-read_items I m n l items))

  pub newest-read : elements I k (E.bytes_of newest) ≡ combination
  newest-read = elements-read I laws k newest (length-new_witness I k l (E.element challenge) wits) ∙ combined

  shown-item : shown.item ≡ folded_item F H (code I k points) m n batch (read_witness I k wits) coefficients (E.element challenge)
  shown-item =
      item-read I laws (new_item-fits I laws m n k l (E.element challenge) points items wits coefficients)
      ∙ (λ i. record { e = new.e; r = new.r; x = new.x; root = witness_root I k points (combined i) })

  pub chain-passes : Passes F H (code I k points) (circuit I a b c) m n batch coefficients (record { shown = shown; witness = combination })
  chain-passes = honest-fold-passes F H (code I k points) (code_laws I laws k counted points (honest-fits honest).points-fit (honest-passes honest).differ) (circuit I a b c) m n batch (read_witness I k wits) coefficients
      (honest-shaped honest) (honest-matches honest) (honest-quotient honest laws) (E.element challenge) shown refl shown-item
      (below (4 * k) (numbers positions) allowed.check6) old-own new-own
    where
      old-own : (q : ℕ) → q < position_count shown → (i : ℕ) → i < length batch → opening_at F batch shown q i ≡ opening_of I k points (read_witness I k wits i) (position_at shown q)
      old-own q h i j = let inside : i < l = omega (arith, length-read_items I m n l items) in
          own q h i (read_witness I k wits i) (omega arith) (ap (elements I k) (opened-witness-old i inside))

      new-own : (q : ℕ) → q < position_count shown → opening_at F batch shown q (length batch) ≡ opening_of I k points combination (position_at shown q)
      new-own q h =
          ap (opening_at F batch shown q) (length-read_items I m n l items)
          ∙ own q h l combination (omega arith) (ap (elements I k) opened-witness-new ∙ newest-read)
