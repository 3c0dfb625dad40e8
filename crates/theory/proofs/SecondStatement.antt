-- The second statement of demand 3: of the folds that are accepted and open the same k different positions, with enough different
-- challenges, two different byte strings hashed for them have one digest, or each item holds.
use mathlib.Core.Path.{◌≡◌, refl, subst}
use mathlib.Core.Logic.{⊎_elim, inl, inr}
use mathlib.Core.Bool.{Bool, true, ◌&&◌}
use mathlib.Core.List.Memᴰ
use mathlib.Core.List.{List, map, Memᴰ}
use Prim.Native.Nat.{ℕ, ◌-◌, ◌+◌, ◌*◌, ◌<◌}
use native.Mathlib.Omega.{arith}
use lib.ListN.{length}
use Rattle.algebra.specs.Ring.{Field}
use Rattle.algebra.specs.Lists.{All, Distinct, Differ}
use Rattle.algebra.proofs.ListLaws.{All-from}
use Rattle.numbers.specs.Numbers.{numbers}
use Rattle.numbers.proofs.Tests.{and_left, and_right}
use Rattle.theory.specs.Items.{Item, LeadingOne}
use Rattle.theory.specs.Combination.{node, item_at, quotient_size}
use Rattle.theory.specs.Folds.{Fold, Opens}
use Rattle.theory.specs.Selection.{all_among}
use Rattle.theory.specs.Instance.{Instance, same_element, code}
use Rattle.theory.specs.Buffers.{elements, circuit, read_items}
use Rattle.theory.specs.Statements.{FoldBytes, is_accepted, read_fold, EachHolds, chosen, challenges, SecondStatement}
use Rattle.theory.specs.Fp.{fp}
use Rattle.theory.proofs.Passing.{Passes, EachHolds as EachHoldsOver}
use Rattle.theory.proofs.InstanceLaws.{InstanceLaws}
use Rattle.theory.proofs.FpLaws.{fp-laws}
use Rattle.theory.proofs.Equality.{same-element}
use Rattle.theory.proofs.SelectionLaws.{select-passes, some-member, all_among_lem, once-distinct, once-member}
use Rattle.theory.proofs.Accepted.{accepted-code, at-most-eight, accepted-leading-one, passes}
use Rattle.theory.proofs.Reading.{length-read_items}
use Rattle.theory.proofs.Extraction.{second-for-passing}

module _ (I : Instance) (m n k l : ℕ) (points a b c items quotient : List ℕ) where
  open I use {field as F, format as E, hash as H}
  open F.ring use {carrier as K}

  abbrev batch : List (Item K)
  batch = read_items I m n l items

  abbrev coefficients : List K
  coefficients = elements I (quotient_size m l) quotient

  abbrev read : FoldBytes I → Fold K
  read = read_fold I m n k l points a b c items quotient

  abbrev accepted : FoldBytes I → Bool
  accepted = is_accepted I m n k l points a b c items quotient

  -- The element of a fold's challenge.
  abbrev challenge_of : FoldBytes I → K
  challenge_of f = E.element f.challenge

  -- What holds of the folds as they are read holds of their bytes.
  each_holds : (ps : List ℕ) (folds : List (FoldBytes I)) → ((i : ℕ) → i < l → LeadingOne F (item_at F batch i).x) → EachHoldsOver F (code I k points) (circuit I a b c) batch ps (map read folds)
      → EachHolds I m n k l points a b c items quotient ps folds
  each_holds ps folds lead h = record {
    values = h.values;
    shows = λ f s i q j. h.shows (read f) (Memᴰ.map read s) i q (inside j);
    shows-only = λ f s i q j. h.shows-only (read f) (Memᴰ.map read s) i q (inside j);
    witness = h.witness;
    witness-has = λ i j. let t = h.witness-has i (inside j) in record { size = t.size; values-at = t.values-at };
    witness-only = λ i j w t. h.witness-only i (inside j) w (record { size = t.size; values-at = t.values-at });
    holds = λ i j. h.holds i (inside j);
    leading-one = lead;
  }
    where
      inside : {i : ℕ} → i < l → i < length batch
      inside j = omega (arith, length-read_items I m n l items)

  module _ (folds : List (FoldBytes I)) (ps : List ℕ) where
    -- The folds that are accepted and open the positions, and their different challenges.
    abbrev picked : List (FoldBytes I)
    picked = chosen I m n k l points a b c items quotient ps folds

    abbrev alphas : List K
    alphas = challenges I m n k l points a b c items quotient picked

    tests : (f : FoldBytes I) → Memᴰ f picked → (accepted f && all_among ps (numbers f.positions)) ≡ true
    tests f s = (select-passes (λ g. accepted g && all_among ps (numbers g.positions)) folds f s).1

    is-accepted : (f : FoldBytes I) → Memᴰ f picked → accepted f ≡ true
    is-accepted f s = and_left (accepted f) (all_among ps (numbers f.positions)) (tests f s)

    opens : (f : FoldBytes I) → Memᴰ f picked → All (Opens (read f).shown) ps
    opens f s = all_among_lem ps (numbers f.positions) (and_right (accepted f) (all_among ps (numbers f.positions)) (tests f s))

    -- As they are read, they pass and open the positions.
    abbrev Good : Fold K → Type 0
    Good g = Passes F H (code I k points) (circuit I a b c) m n batch coefficients g × All (Opens g.shown) ps

    good : (g : Fold K) → Memᴰ g (map read picked) → Good g
    good g s = let t = Memᴰ.of_map read picked s in
        subst Good t.2 (passes I m n k l points a b c items quotient t.0 (is-accepted t.0 t.1), opens t.0 t.1)

    -- A challenge is that of a chosen fold.
    of-fold : (x : K) → Memᴰ x alphas → (f : FoldBytes I) × Memᴰ f picked × (challenge_of f ≡ x)
    of-fold x s = Memᴰ.of_map challenge_of picked (once-member (same_element I) (map challenge_of picked) x s)

    taken : All (λ x. (g : Fold K) × Memᴰ g (map read picked) × (g.shown.challenge ≡ x)) alphas
    taken = All-from alphas (λ x s. let t = of-fold x s in (read t.0, Memᴰ.map read t.1, t.2))

    different : Distinct alphas
    different = once-distinct (same_element I) (λ x. same-element I refl) (map challenge_of picked)

-- Some fold is chosen, so the sizes are in range.
pub second-for : (I : Instance) → InstanceLaws I → SecondStatement I
second-for I laws m n k l points a b c items quotient folds ps size distinct many =
    ⊎_elim inl (λ h. inr (each_holds I m n k l points a b c items quotient ps kept (accepted-leading-one I m n k l points a b c items quotient f passed) h))
    (second-for-passing F I.hash (code I k points) laws.hash-laws (accepted-code I m n k l points a b c items quotient f passed laws)
    (circuit I a b c) m n (read_items I m n l items) (elements I (quotient_size m l) quotient) apart ps size distinct
    (map (read_fold I m n k l points a b c items quotient) kept) (good I m n k l points a b c items quotient folds ps)
    (challenges I m n k l points a b c items quotient kept) (different I m n k l points a b c items quotient folds ps) (taken I m n k l points a b c items quotient folds ps) enough)
  where
    F : Field
    F = I.field

    kept : List (FoldBytes I)
    kept = chosen I m n k l points a b c items quotient ps folds

    first : (x : F.ring.carrier) × Memᴰ x (challenges I m n k l points a b c items quotient kept)
    first = some-member (challenges I m n k l points a b c items quotient kept) ((l - 1) * (m + 2)) many

    f : FoldBytes I
    f = (of-fold I m n k l points a b c items quotient folds ps first.0 first.1).0

    passed : is_accepted I m n k l points a b c items quotient f ≡ true
    passed = is-accepted I m n k l points a b c items quotient folds ps f (of-fold I m n k l points a b c items quotient folds ps first.0 first.1).1

    apart : Differ (length (read_items I m n l items)) (node F)
    apart i j h p = laws.nodes-differ i j h (omega (arith, length-read_items I m n l items, at-most-eight I m n k l points a b c items quotient f passed))

    enough : (length (read_items I m n l items) - 1) * (m + 2) < length (challenges I m n k l points a b c items quotient kept)
    enough = rw (length-read_items I m n l items) many

-- About the exported calls.
pub second-statement : SecondStatement fp
second-statement = second-for fp fp-laws
