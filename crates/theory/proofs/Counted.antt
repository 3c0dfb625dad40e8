-- How many blocks verifying hashes, by its verdict, over any instance.
use mathlib.Core.Path.{◌≡◌, refl, sym, ap, ap₂, ◌∙◌}
use mathlib.Core.Logic.{◌≢◌}
use mathlib.Core.Bool.{Bool, true, false, cond}
use mathlib.Core.List.{List, [], ◌∷◌}
use Prim.Native.Nat.{ℕ, suc, ◌+◌, ◌*◌, ◌≤◌, ◌<◌}
use native.Mathlib.Decide.{ℕ_discrete}
use native.Mathlib.Nat.{mul-le-mul}
use native.Mathlib.Omega.{arith}
use borrow.Author.Tests.{eqb-true, ne_eqb, leb-true}
use lib.Dec.{eqb, leb}
use lib.ListN.{length}
use Rattle.algebra.specs.Lists.{All}
use Rattle.numbers.proofs.Bytes.{length-numbers}
use Rattle.numbers.proofs.Tests.{and_right, ◌&◌}
use Rattle.tree.specs.Merkle.{blocks_of}
use Rattle.tree.proofs.ReadBack.{digests-length}
use Rattle.tree.proofs.HashedBlocks.{digests-long, opening-blocks}
use Rattle.code.specs.Points.{depth}
use Rattle.code.proofs.Sizes.{count-few, depth-few}
use Rattle.theory.specs.Items.{Item}
use Rattle.theory.specs.Folds.{Opening, Shown, position_count, position_at, leaf_at, opening_at, opening_strings_of}
use Rattle.theory.specs.Checks.{check, answer_if, answer, every, reached}
use Rattle.theory.specs.Instance.{Instance}
use Rattle.theory.specs.Buffers.{read_items, opening_size, read_opening}
use Rattle.theory.specs.Blocks.{opening_blocks, fold_blocks, StopsAt}
use Rattle.theory.specs.Verify.{read_shown, leads, openings_lead, reached_strings, values_combine, unhashed_checks, verify_checks, verify}
use Rattle.theory.proofs.InstanceLaws.{InstanceLaws}
use Rattle.theory.proofs.CheckLaws.{Passed, answer-passed, group-refused, group-passed, never-answers, answer-below}
use Rattle.theory.proofs.Passed.{VerifyFits, verify-fits}
use Rattle.theory.proofs.Parts.{part-within}
use Rattle.theory.proofs.HonestList.{witness-count, few-items}
use Rattle.theory.proofs.Reading.{row_within, length-read_items, opening_at-read_shown}
use Rattle.theory.proofs.Reached.{First, first, reached-most, reached-all, reached-stops}

module _ (I : Instance) (laws : InstanceLaws I) (m n k l t : ℕ) (challenge : I.format.Challenge) (items positions q item openings : List ℕ) where
  open I use {field as F, format as E, hash as H}
  open F.ring use {carrier as K}

  abbrev batch : List (Item K)
  batch = read_items I m n l items

  abbrev shown : Shown K
  shown = read_shown I m n k l t challenge positions item openings

  -- What the checks before 8 answer, and those from 8 on.
  abbrev early : ℕ
  early = answer (unhashed_checks I m n k l t challenge items positions q item openings)

  abbrev late : ℕ
  late = answer (check 8 (openings_lead I batch shown) ∷ check 9 (values_combine I batch shown) ∷ [])

  abbrev strings : ℕ → ℕ → List (List ℕ)
  strings p i = opening_strings_of F batch H shown p i

  abbrev verdict : ℕ
  verdict = (verify I m n k l t challenge items positions q item openings).verdict

  abbrev blocks : ℕ
  blocks = (verify I m n k l t challenge items positions q item openings).blocks

  -- ---- the two groups of checks

  pub refused-early : early ≢ 0 → verdict ≡ early
  unfolding verify
  refused-early h = group-refused (unhashed_checks I m n k l t challenge items positions q item openings) (check 8 (openings_lead I batch shown) ∷ check 9 (values_combine I batch shown) ∷ []) h

  pub none-early : early ≢ 0 → blocks ≡ 0
  unfolding verify blocks_of
  none-early h = ap (λ (b : Bool). blocks_of H.blocks (cond b (reached_strings I batch shown) [])) (ne_eqb early 0 h)

  module _ (e : early ≡ 0) where
    early-passed : All Passed (unhashed_checks I m n k l t challenge items positions q item openings)
    early-passed = answer-passed (unhashed_checks I m n k l t challenge items positions q item openings) (omega arith) e

    late-answers : verdict ≡ late
    unfolding verify
    late-answers = group-passed (unhashed_checks I m n k l t challenge items positions q item openings) (check 8 (openings_lead I batch shown) ∷ check 9 (values_combine I batch shown) ∷ []) early-passed

    fits : VerifyFits I m n k l t challenge items positions q item openings
    fits = verify-fits I m n k l t challenge items positions q item openings early-passed.0

    -- ---- the openings are t × (l + 1)

    position-count : position_count shown ≡ t
    position-count = length-numbers t positions (eqb-true (length positions) (4 * t) fits.positions-fit)

    item_count : length batch ≡ l
    item_count = length-read_items I m n l items

    all-reached : blocks ≡ blocks_of H.blocks (reached t (suc l) (leads I batch shown) strings)
    unfolding verify
    all-reached =
        ap (λ (n : ℕ). blocks_of H.blocks (cond (eqb n 0) (reached_strings I batch shown) [])) e
        ∙ ap₂ (λ (a b : ℕ). blocks_of H.blocks (reached a (suc b) (leads I batch shown) strings)) position-count item_count

    all-lead : openings_lead I batch shown ≡ every t (λ p. every (suc l) (leads I batch shown p))
    all-lead = ap₂ (λ (a b : ℕ). every a (λ p. every (suc b) (leads I batch shown p))) position-count item_count

    -- ---- and each has its blocks

    each : (p i : ℕ) → p < t → i < suc l → blocks_of H.blocks (strings p i) ≡ opening_blocks k
    each p i h j =
        opening-blocks H.digest H.blocks laws.hash-laws.digest-length laws.hash-laws.node-blocks (leaf_at F batch H shown p i) (position_at shown p) (opening_at F batch shown p i).siblings
        (laws.hash-laws.leaf-blocks (position_at shown p) (opening_at F batch shown p i).value)
        (rw opened (digests-long openings (place + E.size 1) (depth k) (omega (arith, part-within (t * suc l) (p * suc l + i) (opening_size I (depth k)) (length openings) (row_within p t i (suc l) h j) size))))
        ∙ ap (λ (o : Opening K). 1 + 2 * length o.siblings) opened
        ∙ ap (λ (n : ℕ). 1 + 2 * n) (digests-length openings (place + E.size 1) (depth k))
      where
        place : ℕ
        place = (p * suc l + i) * opening_size I (depth k)

        size : length openings ≡ t * suc l * opening_size I (depth k)
        size = eqb-true (length openings) (t * suc l * opening_size I (depth k)) fits.openings-fit

        opened : opening_at F batch shown p i ≡ read_opening I (depth k) openings (p * suc l + i)
        opened = opening_at-read_shown I m n k l t challenge items positions item openings p i h j

    whole : openings_lead I batch shown ≡ true → blocks ≡ fold_blocks k l t
    whole lead = all-reached ∙ reached-all H.blocks (suc l) (leads I batch shown) strings t (opening_blocks k) each (sym all-lead ∙ lead)

  -- ---- by the verdict

  pub at_most : blocks ≤ fold_blocks k l t
  at_most = go (ℕ_discrete early 0)
    where
      go : Dec (early ≡ 0) → blocks ≤ fold_blocks k l t
      go (yes e) = omega (arith, all-reached e, reached-most H.blocks (suc l) (leads I batch shown) strings t (opening_blocks k) (each e))
      go (no h) = omega (arith, none-early h)

  pub few : blocks ≤ 39168
  few = go (ℕ_discrete early 0)
    where
      go : Dec (early ≡ 0) → blocks ≤ 39168
      go (yes e) =
          let counted = witness-count m n k (fits e).sizes-fit in
          let positions-most : t ≤ 256 = omega (arith, leb-true t (4 * k) (and_right (leb 1 t) (leb t (4 * k)) (fits e).positions-count), count-few k counted) in
          let items-most : suc l ≤ 9 = omega (arith, few-items l (fits e).count-fits) in
          let opening-most : opening_blocks k ≤ 17 = omega (arith, depth-few k counted) in
          omega (arith, at_most, mul-le-mul (mul-le-mul positions-most items-most) opening-most)
      go (no h) = omega (arith, none-early h)

  -- A verdict that no check before 8 gives.
  late-verdict : {v : ℕ} → verdict ≡ v → (early ≢ 0 → early ≢ v) → early ≡ 0
  late-verdict {v} e h = go (ℕ_discrete early 0)
    where
      go : Dec (early ≡ 0) → early ≡ 0
      go (yes z) = z
      go (no z) = absurd (h z (sym (refused-early z) ∙ e))

  leads-unless : (a b : Bool) → answer_if a 8 (answer_if b 9 0) ≢ 8 → a ≡ true
  leads-unless true b h = refl
  leads-unless false b h = absurd (h refl)

  pub accepted-all : verdict ≡ 0 → blocks ≡ fold_blocks k l t
  accepted-all accepted =
      let e : early ≡ 0 = late-verdict accepted (λ h. h) in
      whole e (leads-unless (openings_lead I batch shown) (values_combine I batch shown) (λ h. absurd (omega (arith, h, late-answers e, accepted))))

  before-8 : (v : ℕ) → 7 < v → v < 10 → early ≢ v
  before-8 v h g = never-answers v (unhashed_checks I m n k l t challenge items positions q item openings) (omega arith) (
    λ e. absurd (omega (arith, e)),
    (λ e. absurd (omega (arith, e)), (λ e. absurd (omega (arith, e)), (λ e. absurd (omega (arith, e)), (λ e. absurd (omega (arith, e)), (λ e. absurd (omega (arith, e)), tt))))),
  )

  pub all-at-9 : verdict ≡ 9 → blocks ≡ fold_blocks k l t
  all-at-9 nine =
      let e : early ≡ 0 = late-verdict nine (λ h. before-8 9 (omega arith) (omega arith)) in
      whole e (leads-unless (openings_lead I batch shown) (values_combine I batch shown) (λ h. absurd (omega (arith, h, late-answers e, nine))))

  pub none-before-8 : verdict ≢ 0 → verdict ≢ 8 → verdict ≢ 9 → blocks ≡ 0
  none-before-8 not-0 not-8 not-9 = none-early (λ e. go (openings_lead I batch shown) (values_combine I batch shown) (late-answers e))
    where
      go : (a b : Bool) → verdict ≡ answer_if a 8 (answer_if b 9 0) → ⊥
      go true true h = not-0 h
      go true false h = not-9 h
      go false b h = not-8 h

  fails-if : (a b : Bool) → answer_if a 8 (answer_if b 9 0) ≡ 8 → a ≡ false
  fails-if true true h = absurd (omega (arith, h))
  fails-if true false h = absurd (omega (arith, h))
  fails-if false b h = refl

  pub stops-at-8 : verdict ≡ 8 → StopsAt (leads I batch shown) k l t blocks
  stops-at-8 eight =
      record {
        q = row.at;
        i = column.at;
        q-inside = row.inside;
        i-inside = column.inside;
        before = row.before & column.before;
        fails = column.fails;
        counted = all-reached e ∙ reached-stops H.blocks (suc l) (leads I batch shown) strings t (opening_blocks k) (each e) row.at column.at row.inside column.inside (row.before & column.before) column.fails;
      }
    where
      e : early ≡ 0
      e = late-verdict eight (λ h. before-8 8 (omega arith) (omega arith))

      row : First t (λ p. every (suc l) (leads I batch shown p))
      row = first t _ (sym (all-lead e) ∙ fails-if (openings_lead I batch shown) (values_combine I batch shown) (sym (late-answers e) ∙ eight))

      column : First (suc l) (leads I batch shown row.at)
      column = first (suc l) _ row.fails

  pub small-verdict : verdict < 64
  unfolding verify
  small-verdict = answer-below 64 (verify_checks I m n k l t challenge items positions q item openings) (omega arith) (omega arith)
