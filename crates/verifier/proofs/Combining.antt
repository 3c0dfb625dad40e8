-- Check 7: the numbers of the new item are compared with those of the elements e, r and x that it must have.
use mathlib.Core.Path.{◌≡◌, sym, ap, ap₂, ◌∙◌}
use mathlib.Core.Bool.{Bool, true, ◌&&◌}
use mathlib.Core.List.{List, ◌∷◌, ◌++◌, map}
use Prim.Native.Nat.{ℕ, suc, ◌+◌, ◌*◌, ◌<◌}
use native.Mathlib.Omega.{arith}
use borrow.Author.Tests.{eqb-true, eq-eqb, ltb-true}
use lib.Dec.{eqb}
use lib.ListN.{length, get_or, length-append, length-map, get_or-append}
use lib.Seq.{get_or-append-add}
use Rattle.algebra.specs.Lists.{build}
use Rattle.algebra.proofs.ListLaws.{length-build, get_or-build, build-cong, build-append, build-get_or, get_or-map, map-build}
use Rattle.numbers.specs.Numbers.{numbers}
use Rattle.numbers.proofs.Bytes.{length-numbers}
use Rattle.numbers.proofs.Bounds.{below}
use Rattle.numbers.proofs.Tests.{◌&◌, and_left, and_right, same_test}
use Rattle.field.specs.BabyBear.{baby_bear, p, F, val, ofℕ, 𝟘}
use Rattle.field.specs.Numbers.{Below}
use Rattle.field.proofs.Laws.{val-small, ofℕ-of}
use Rattle.theory.specs.Checks.{every}
use Rattle.theory.specs.Items.{Item}
use Rattle.theory.specs.Combination.{new_e, new_r, new_x, quotient_size}
use Rattle.theory.specs.Buffers.{number_at}
use Rattle.theory.specs.Sizes.{elements_below}
use Rattle.theory.specs.Fp.{fp, element_at, elements, read_item, read_items, item_below, same_element, same_elements, combines}
use Rattle.theory.proofs.CheckLaws.{every_true, true-every}
use Rattle.verifier.specs.declared.shown.Fold.{Fold}
use Rattle.verifier.specs.Verifying.{batch, coefficients, shown}
use Rattle.theory.proofs.Equality.{same-element, same-elements, equal-element, equal-elements}

-- ---- the quotient's elements

pub quotient-below : (b : List ℕ) {xs : List ℕ} → xs ≡ numbers b → elements_below b ≡ true → Below xs
quotient-below b {xs} e h = rw e (below p (numbers b) h)

pub quotient-elements : (s : ℕ) (b : List ℕ) {xs : List ℕ} → length b ≡ 4 * s → xs ≡ numbers b → map ofℕ xs ≡ elements s b
quotient-elements s b {xs} h e =
    ap (map ofℕ) (e ∙ sym (build-get_or (numbers b) s 0 (length-numbers s b h)))
    ∙ map-build ofℕ s (λ j. get_or (numbers b) j 0)

-- ---- the item's numbers

module _ (m n : ℕ) (item : List ℕ) (e : F) (r x : List F) (hr : length r ≡ m) (hx : length x ≡ n) where
  abbrev es : List F
  es = e ∷ r ++ x

  count : length es ≡ 1 + m + n
  count = omega (arith, length-append r x, hr, hx)

  -- Entries of r and x.
  entry-r : (j : ℕ) → j < m → get_or es (1 + j) 𝟘 ≡ get_or r j 𝟘
  entry-r j h =
      let next : 1 + j ≡ suc j = omega arith in
      ap (λ (i : ℕ). get_or es i 𝟘) next ∙ get_or-append r x 𝟘 j (omega (arith, hr))

  entry-x : (j : ℕ) → j < n → get_or es (1 + m + j) 𝟘 ≡ get_or x j 𝟘
  entry-x j h =
      let next : 1 + m + j ≡ suc (length r + j) = omega (arith, hr) in
      ap (λ (i : ℕ). get_or es i 𝟘) next ∙ get_or-append-add r x j 𝟘

  -- The item's elements, one list.
  all : element_at item 0 ∷ (build m (λ j. element_at item (1 + j)) ++ build n (λ j. element_at item (1 + m + j))) ≡ build (suc (m + n)) (element_at item)
  all = ap (λ (t : List F). element_at item 0 ∷ t)
      (ap₂ (λ (s t : List F). s ++ t) (build-cong m (λ j. element_at item (1 + j)) (λ j. element_at item (suc j)) first) (build-cong n (λ j. element_at item (1 + m + j)) (λ j. element_at item (suc (m + j))) second)
      ∙ sym (build-append m n (λ j. element_at item (suc j))))
    where
      first : (j : ℕ) → j < m → element_at item (1 + j) ≡ element_at item (suc j)
      first j h = let g : 1 + j ≡ suc j = omega arith in ap (element_at item) g

      second : (j : ℕ) → j < n → element_at item (1 + m + j) ≡ element_at item (suc (m + j))
      second j h = let g : 1 + m + j ≡ suc (m + j) = omega arith in ap (element_at item) g

  abbrev same : Bool
  same = same_elements (read_item m n item).r r && same_elements (read_item m n item).x x && same_element (read_item m n item).e e

  module _ (inside : item_below m n item ≡ true) (expected : List ℕ) (is : expected ≡ map val es) where
    size : length expected ≡ 1 + m + n
    size = ap length is ∙ length-map es val ∙ count

    abbrev equal : ℕ → Bool
    equal j = eqb (number_at item j) (get_or expected j 0)

    entry : (j : ℕ) → j < 1 + m + n → get_or expected j 0 ≡ val (get_or es j 𝟘)
    entry j h = ap (λ (t : List ℕ). get_or t j 0) is ∙ get_or-map val es j 𝟘 0 (omega (arith, count))

    -- Equal numbers are equal elements, and the other way, since the item's numbers are below p.
    element : every (length expected) equal ≡ true → (j : ℕ) → j < 1 + m + n → element_at item j ≡ get_or es j 𝟘
    element h j g = ofℕ-of (get_or es j 𝟘) (eqb-true (number_at item j) (get_or expected j 0) (every_true (length expected) equal h j (omega (arith, size))) ∙ entry j g)

    there : every (length expected) equal ≡ true → same ≡ true
    there h =
        same-elements fp (build-cong m (λ j. element_at item (1 + j)) (λ j. get_or r j 𝟘) (λ j g. element h (1 + j) (omega arith) ∙ entry-r j g) ∙ build-get_or r m 𝟘 hr)
        & same-elements fp (build-cong n (λ j. element_at item (1 + m + j)) (λ j. get_or x j 𝟘) (λ j g. element h (1 + m + j) (omega arith) ∙ entry-x j g) ∙ build-get_or x n 𝟘 hx)
        & same-element fp (element h 0 (omega arith))

    back : same ≡ true → every (length expected) equal ≡ true
    back h = true-every (length expected) equal (λ j g. eq-eqb (number_at item j) (get_or expected j 0) (number j (omega (arith, g, size))))
      where
        lists : build (suc (m + n)) (element_at item) ≡ es
        lists = sym all
            ∙ ap₂ (λ (a : F) (t : List F). a ∷ t) (equal-element fp (read_item m n item).e e (and_right (same_elements (read_item m n item).r r && same_elements (read_item m n item).x x) (same_element (read_item m n item).e e) h))
            (ap₂ (λ (s t : List F). s ++ t)
            (equal-elements fp (read_item m n item).r r (and_left (same_elements (read_item m n item).r r) (same_elements (read_item m n item).x x) (and_left (same_elements (read_item m n item).r r && same_elements (read_item m n item).x x) (same_element (read_item m n item).e e) h)))
            (equal-elements fp (read_item m n item).x x (and_right (same_elements (read_item m n item).r r) (same_elements (read_item m n item).x x) (and_left (same_elements (read_item m n item).r r && same_elements (read_item m n item).x x) (same_element (read_item m n item).e e) h))))

        number : (j : ℕ) → j < 1 + m + n → number_at item j ≡ get_or expected j 0
        number j g =
            sym (val-small (ltb-true (number_at item j) p (every_true (1 + m + n) _ inside j g)))
            ∙ ap val (sym (get_or-build (suc (m + n)) (element_at item) j 𝟘 (omega arith)) ∙ ap (λ (t : List F). get_or t j 𝟘) lists)
            ∙ sym (entry j g)

    pub numbers-same : {result : Bool} → result ≡ every (length expected) equal → result ≡ same
    numbers-same q = q ∙ same_test (every (length expected) equal) same there back

-- ---- check 7

-- The weights are those of `count` items.
pub combines-is : (f : Fold) (challenge : ℕ) {count : ℕ} {quotient expected : List ℕ} {r : Bool}
    → count ≡ f.l → item_below f.sizes.m f.sizes.n f.item.now ≡ true → quotient ≡ numbers f.quotient.now
    → expected ≡ map val (new_e baby_bear (read_items f.sizes.m f.sizes.n count f.items.now) (map ofℕ quotient) (ofℕ challenge)
    ∷ new_r baby_bear f.sizes.m (read_items f.sizes.m f.sizes.n count f.items.now) (ofℕ challenge) ++ new_x baby_bear f.sizes.n (read_items f.sizes.m f.sizes.n count f.items.now) (ofℕ challenge))
    → r ≡ every (length expected) (λ j. eqb (number_at f.item.now j) (get_or expected j 0))
    → r ≡ combines f.sizes.m f.sizes.n (batch f) (coefficients f) (shown f challenge)
combines-is f challenge {count} {quotient} {expected} el inside eq ee er =
    numbers-same f.sizes.m f.sizes.n f.item.now (new_e baby_bear (batch f) (coefficients f) a) (new_r baby_bear f.sizes.m (batch f) a) (new_x baby_bear f.sizes.n (batch f) a)
    (length-build f.sizes.m _) (length-build f.sizes.n _) inside expected
    (ee
    ∙ ap (λ (l : ℕ). wanted (read_items f.sizes.m f.sizes.n l f.items.now) (map ofℕ quotient)) el
    ∙ ap (wanted (batch f)) (quotient-elements (quotient_size f.sizes.m f.l) f.quotient.now f.quotient_length eq))
    er
  where
    a : F
    a = ofℕ challenge

    -- The numbers of e, r and x.
    wanted : List (Item F) → List F → List ℕ
    wanted items q = map val (new_e baby_bear items q a ∷ new_r baby_bear f.sizes.m items a ++ new_x baby_bear f.sizes.n items a)
