-- Checks 8 and 9, on the buffers as they lie and on what they are read as.
use mathlib.Core.Path.{◌≡◌, refl, sym, ap, ap₂, ◌∙◌}
use mathlib.Core.Bool.{Bool, true}
use mathlib.Core.List.{List}
use Prim.Native.Nat.{ℕ, suc, ◌+◌, ◌*◌, ◌/◌, ◌<◌}
use native.Mathlib.Nat.{add-mul}
use native.Mathlib.Omega.{arith}
use borrow.Author.Tests.{ltb-true}
use lib.Dec.{eqb}
use lib.ListN.{length}
use Rattle.numbers.specs.Numbers.{bytes4}
use Rattle.numbers.proofs.Bytes.{length-numbers}
use Rattle.numbers.specs.Equality.{same_bytes}
use Rattle.field.specs.BabyBear.{baby_bear, p, F, val, ofℕ}
use Rattle.field.proofs.Laws.{val-small}
use Rattle.hash.specs.Sha256.{block_count, digest}
use Rattle.tree.specs.Merkle.{blocks_of, opening_root, opening_strings}
use Rattle.tree.specs.Entry.{entry}
use Rattle.tree.specs.Layout.{opening_size, opened_value, opened_path}
use Rattle.code.specs.Points.{depth}
use Rattle.theory.specs.Items.{Item}
use Rattle.theory.specs.Combination.{mix}
use Rattle.theory.specs.Folds.{Opening, Shown, position_count, opening_at, value_at, item_of, opening_strings_of}
use Rattle.theory.specs.Checks.{every, reached}
use Rattle.theory.specs.Buffers.{number_at, read_opening}
use Rattle.theory.specs.Verify.{leads as leads_of, reached_strings}
use Rattle.theory.specs.Fp.{fp, sha, element_at, opened_below, same_element, openings_lead, values_combine}
use Rattle.theory.proofs.CheckLaws.{every_true, every-cong}
use Rattle.theory.proofs.Reached.{reached-cong}
use Rattle.theory.proofs.Reading.{length-read_items, opening_at-read_shown, row_within}
use Rattle.fold.specs.Weights.{lagrange_at, weighted}
use Rattle.fold.proofs.Mixing.{weighted-mix}
use Rattle.verifier.specs.declared.shown.Fold.{Fold}
use Rattle.verifier.specs.Verifying.{batch, shown, place, leads, strings_at, strings_reached, stride, value_combines}
use Rattle.verifier.proofs.Tests.{same_number}
use Rattle.verifier.proofs.Places.{root-read, opening-within, layout, stride-is, first-is, last-place, value-number}

-- What is tested of the openings of one position.
pub combines-is : (f : Fold) (challenge q : ℕ) {weights : List ℕ} {size x y : ℕ} → weights ≡ lagrange_at f.l challenge → size ≡ opening_size (depth f.sizes.k)
    → x ≡ number_at f.openings.now (q * (f.l + 1) * (size / 4) + f.l * (size / 4))
    → y ≡ val (weighted weights f.openings.now (size / 4) (q * (f.l + 1) * (size / 4)))
    → eqb x y ≡ value_combines (lagrange_at f.l challenge) f q
combines-is f challenge q ew es ex ey =
    let place = last-place f q es in
    let first = first-is f q es in
    let stride = stride-is f es in
    cc

module _ (f : Fold) (challenge : ℕ) (below : opened_below (depth f.sizes.k) (f.t * suc f.l) f.openings.now ≡ true) where
  abbrev items : List (Item F)
  items = batch f

  abbrev folded : Shown F
  folded = shown f challenge

  position-count : position_count folded ≡ f.t
  position-count = length-numbers f.t f.positions.now f.positions_length

  item_count : length items ≡ f.l
  item_count = length-read_items fp f.sizes.m f.sizes.n f.l f.items.now

  module _ (q i : ℕ) (g : q < f.t) (h : i < suc f.l) where
    opening-is : opening_at baby_bear items folded q i ≡ read_opening fp (depth f.sizes.k) f.openings.now (q * suc f.l + i)
    opening-is = opening_at-read_shown fp f.sizes.m f.sizes.n f.sizes.k f.l f.t challenge f.items.now f.positions.now f.item.now f.openings.now q i g h

    value-below : opened_value f.openings.now (place f q i) < p
    value-below = ltb-true (opened_value f.openings.now (place f q i)) p (every_true (f.t * suc f.l) _ below (q * suc f.l + i) (row_within q f.t i (suc f.l) g h))

    -- Where an opening leads.
    leads-same : leads_of fp items folded q i ≡ leads f q i
    unfolding item_of
    leads-same = ap₂ same_bytes
        (ap (λ (o : Opening F). opening_root digest (entry (number_at f.positions.now q) (bytes4 (val o.value))) (number_at f.positions.now q) o.siblings) opening-is
        ∙ ap (λ (v : ℕ). opening_root digest (entry (number_at f.positions.now q) (bytes4 v)) (number_at f.positions.now q) (opened_path f.openings.now (place f q i) (depth f.sizes.k))) (val-small value-below))
        (root-read f i h)

    -- The strings hashed for it.
    strings-same : opening_strings_of baby_bear items sha folded q i ≡ strings_at f q i
    strings-same =
        ap (λ (o : Opening F). opening_strings digest (entry (number_at f.positions.now q) (bytes4 (val o.value))) (number_at f.positions.now q) o.siblings) opening-is
        ∙ ap (λ (v : ℕ). opening_strings digest (entry (number_at f.positions.now q) (bytes4 v)) (number_at f.positions.now q) (opened_path f.openings.now (place f q i) (depth f.sizes.k))) (val-small value-below)

    -- The opened value, as a number of the buffer.
    abbrev number : ℕ
    number = number_at f.openings.now ((q * suc f.l + i) * stride f)

    value_same : opened_value f.openings.now (place f q i) ≡ number
    value_same =
        let start : place f q i ≡ (q * suc f.l + i) * (4 * stride f) = ap (λ (s : ℕ). (q * suc f.l + i) * s) (sym (layout f)) in
        ap (opened_value f.openings.now) start
        ∙ value-number f.openings.now (q * suc f.l + i) (stride f) (omega (arith, start, opening-within f q i g h))

    value-is : value_at baby_bear items folded q i ≡ ofℕ number
    value-is = ap (λ (o : Opening F). o.value) opening-is ∙ ap ofℕ value_same

    number-below : number < p
    number-below = rw value_same at value-below

  pub openings-lead : {r : Bool} → r ≡ every f.t (λ q. every (suc f.l) (leads f q)) → r ≡ openings_lead items folded
  openings-lead e =
      e
      ∙ sym (ap₂ (λ (a b : ℕ). every a (λ q. every (suc b) (leads_of fp items folded q))) position-count item_count
      ∙ every-cong f.t _ _ (λ q g. every-cong (suc f.l) _ _ (λ i h. leads-same q i g h)))

  -- What is hashed.
  pub strings-reached : {r : ℕ} → r ≡ blocks_of block_count (strings_reached f) → r ≡ blocks_of block_count (reached_strings fp items folded)
  strings-reached e =
      e
      ∙ ap (blocks_of block_count) (sym (ap₂ (λ (a b : ℕ). reached a (suc b) (leads_of fp items folded) (λ q i. opening_strings_of baby_bear items sha folded q i)) position-count item_count
      ∙ reached-cong f.t (suc f.l) _ _ _ _ (λ q i g h. leads-same q i g h) (λ q i g h. strings-same q i g h)))

  -- The combination of the items' opened values at position q.
  abbrev combined : ℕ → F
  combined q = mix baby_bear f.l (λ i. value_at baby_bear items folded q i) (ofℕ challenge)

  mixed : (q : ℕ) → q < f.t → weighted (lagrange_at f.l challenge) f.openings.now (stride f) (q * suc f.l * stride f) ≡ combined q
  mixed q g = weighted-mix f.l challenge refl f.openings.now (stride f) (q * suc f.l * stride f) (λ i. value_at baby_bear items folded q i)
      (λ i h. value-is q i g (omega arith) ∙ ap (element_at f.openings.now) (place_is i))
    where
      place_is : (i : ℕ) → (q * suc f.l + i) * stride f ≡ i * stride f + q * suc f.l * stride f
      place_is i = omega (arith, add-mul (q * suc f.l) i (stride f))

  combines-same : (q : ℕ) → q < f.t → value_combines (lagrange_at f.l challenge) f q ≡ same_element (value_at baby_bear items folded q f.l) (combined q)
  combines-same q g =
      ap (λ (a : F). eqb (number q f.l g (omega arith)) (val a)) (mixed q g)
      ∙ sym (ap (λ (a : F). same_element a (combined q)) (value-is q f.l g (omega arith))
      ∙ same_number (combined q) (number-below q f.l g (omega arith)))

  pub values-combine : {r : Bool} → r ≡ every f.t (value_combines (lagrange_at f.l challenge) f) → r ≡ values_combine items folded
  values-combine e =
      e
      ∙ every-cong f.t _ _ combines-same
      ∙ sym (ap₂ (λ (a b : ℕ). every a (λ q. same_element (value_at baby_bear items folded q b) (mix baby_bear b (λ i. value_at baby_bear items folded q i) (ofℕ challenge)))) position-count item_count)
