-- The second statement for passing folds, over any field, hash and code: from folds that open the same k different positions, at more
-- than (l - 1) × (m + 2) different challenges, either two different strings hashed for them have one digest, or they show one value of
-- each item at each position, and each item holds with the one witness whose codeword has these values.
use mathlib.Core.Path.{◌≡◌, sym, ◌∙◌, ap, ap₂, subst}
use mathlib.Core.Logic.{◌⊎◌, inl, inr}
use mathlib.Core.List.{List, [], ◌∷◌, Memᴰ}
use Prim.Native.Nat.{ℕ, ◌+◌, ◌-◌, ◌*◌, ◌<◌}
use native.Mathlib.Omega.{arith}
use lib.ListN.{length, get_or}
use Rattle.algebra.specs.Ring.{Field}
use Rattle.algebra.specs.Lists.{All, Distinct, Differ}
use Rattle.algebra.proofs.ListLaws.{All-map, All-member, All-from}
use Rattle.code.specs.Codeword.{codeword}
use Rattle.tree.specs.Collision.{Collision, NoCollision}
use Rattle.theory.specs.R1cs.{Circuit, value}
use Rattle.theory.specs.Items.{Hash, Code, Item}
use Rattle.theory.specs.Combination.{node, new_w, new_e, combined_value, Shaped, AllHold}
use Rattle.theory.specs.Folds.{Fold, position_count, position_at, Opens, value_at, hashed_for}
use Rattle.theory.proofs.Passing.{HashLaws, CodeLaws, Passes, HasValues, EachHolds}
use Rattle.tree.proofs.Decided.{collision-or-none}
use Rattle.theory.proofs.Search.{index_of, index_of-member}
use Rattle.theory.proofs.CombinationLaws.{mix-cong, length-mix_lists, codeword-mix_lists}
use Rattle.theory.proofs.QuotientTheorem.{quotient-from-many, quotient-holds}
use Rattle.theory.proofs.Witnesses.{one-witness, agree-equal}
use Rattle.theory.proofs.Binding.{new-value, one_value}

module _ (F : Field) where
  open F use {ring as R}
  open R use {carrier as K, zero as 𝟘}

  -- Folds that pass and open all the positions, where the strings hashed for them do not collide; f₀ is one of them.
  module _ (H : Hash K) (C : Code K) (hash-laws : HashLaws K H) (code_laws : CodeLaws K C) (M : Circuit K) (m n : ℕ) (items : List (Item K)) (quotient : List K)
      (different : Differ (length items) (node F)) (ps : List ℕ) (size : length ps ≡ C.k) (distinct : Distinct ps)
      (folds : List (Fold K)) (good : (f : Fold K) → Memᴰ f folds → Passes F H C M m n items quotient f × All (Opens f.shown) ps)
      (apart : NoCollision H.digest (hashed_for F items H C folds)) (f₀ : Fold K) (member₀ : Memᴰ f₀ folds) where
    -- The first index of a position in a fold.
    at : Fold K → ℕ → ℕ
    at f p = index_of p f.shown.positions

    at-inside : (f : Fold K) → Memᴰ f folds → (p : ℕ) → Memᴰ p ps → (at f p < position_count f.shown) × (position_at f.shown (at f p) ≡ p)
    unfolding at
    at-inside f member p mp = index_of-member p f.shown.positions 0 (All-member (Opens f.shown) ps (good f member).1 mp)

    inside : All (λ p. p < 4 * C.k) ps
    inside = All-from ps
        (λ p mp. subst (λ (q : ℕ). q < 4 * C.k) (at-inside f₀ member₀ p mp).1 ((good f₀ member₀).0.inside (at f₀ p) (at-inside f₀ member₀ p mp).0))

    -- The value of item i at position p: the one that f₀ shows. Every fold shows it.
    values : ℕ → ℕ → K
    values i p = value_at F items f₀.shown (at f₀ p) i

    shown : (f : Fold K) → Memᴰ f folds → (i p q : ℕ) → i < length items → Memᴰ p ps → q < position_count f.shown → position_at f.shown q ≡ p
        → value_at F items f.shown q i ≡ values i p
    unfolding values
    shown f member i p q hi mp hq e =
        one_value F H C items hash-laws M m n quotient folds apart f f₀ member member₀ (good f member).0 (good f₀ member₀).0
        i p q (at f₀ p) hi hq (at-inside f₀ member₀ p mp).0 e (at-inside f₀ member₀ p mp).1

    -- The witness of item i: the one whose codeword has these values.
    W : ℕ → List K
    W i = (one-witness F C code_laws ps size distinct inside (values i)).0

    W-has : (i : ℕ) → HasValues F C ps (values i) (W i)
    unfolding W
    W-has i = (one-witness F C code_laws ps size distinct inside (values i)).1

    W-only : (i : ℕ) (w : List K) → HasValues F C ps (values i) w → w ≡ W i
    unfolding W
    W-only i = (one-witness F C code_laws ps size distinct inside (values i)).2

    -- A fold's witness is the combination of the items' witnesses: their codewords agree at the positions.
    witness-mixed : (f : Fold K) → Memᴰ f folds → f.witness ≡ new_w F C.k (length items) W f.shown.challenge
    witness-mixed f member =
        agree-equal F C code_laws ps size distinct inside f.witness (new_w F C.k (length items) W a) passes.witness
        (length-mix_lists F C.k (length items) W a) (λ p mp. agree p mp (at f p) (at-inside f member p mp))
      where
        a : K
        a = f.shown.challenge

        passes : Passes F H C M m n items quotient f
        passes = (good f member).0

        agree : (p : ℕ) → Memᴰ p ps → (q : ℕ) → (q < position_count f.shown) × (position_at f.shown q ≡ p)
            → get_or (codeword R C.points f.witness) p 𝟘 ≡ get_or (codeword R C.points (new_w F C.k (length items) W a)) p 𝟘
        agree p mp q h =
            ap (λ (s : ℕ). get_or (codeword R C.points f.witness) s 𝟘) (sym h.1)
            ∙ sym (new-value F H C items hash-laws M m n quotient folds apart code_laws f member passes q h.0)
            ∙ passes.combines q h.0
            ∙ mix-cong F (length items) (λ i. value_at F items f.shown q i) (λ i. get_or (codeword R C.points (W i)) p 𝟘) a
            (λ i hi. shown f member i p q hi mp h.0 h.1 ∙ sym ((W-has i).values-at p mp))
            ∙ sym (codeword-mix_lists F C.k (length items) W (λ i hi. (W-has i).size) a C.points p
            (omega (arith, All-member (λ p. p < 4 * C.k) ps inside mp, code_laws.count)))

    -- So at a fold's challenge the value of the combined items is the new e.
    value-at : (f : Fold K) → Memᴰ f folds → combined_value F M m n C.k items W f.shown.challenge ≡ new_e F items quotient f.shown.challenge
    value-at f member =
        let passes = (good f member).0 in
        sym (ap₂ (λ (r x : List K). value R M r x (new_w F C.k (length items) W f.shown.challenge)) passes.new-r passes.new-x)
        ∙ ap (value R M f.shown.item.r f.shown.item.x) (sym (witness-mixed f member)) ∙ passes.holds ∙ passes.new-e

    -- At more than (l - 1) × (m + 2) different elements, each the challenge of a fold of the list.
    module _ (alphas : List K) (distinct-alphas : Distinct alphas)
        (taken : All (λ a. (f : Fold K) × Memᴰ f folds × (f.shown.challenge ≡ a)) alphas) (many : (length items - 1) * (m + 2) < length alphas) where
      all-hold : AllHold F M m n C.k items W
      all-hold =
          quotient-holds F M m n C.k items W different shaped quotient
          (quotient-from-many F M m n C.k items W different passes.some_item quotient passes.coefficients alphas many distinct-alphas (All-map each alphas taken))
        where
          passes : Passes F H C M m n items quotient f₀
          passes = (good f₀ member₀).0

          shaped : Shaped F m n C.k items W
          shaped = record { some_item = passes.some_item; item-r = passes.item-r; item-x = passes.item-x; witness = λ i hi. (W-has i).size }

          each : (a : K) → (f : Fold K) × Memᴰ f folds × (f.shown.challenge ≡ a) → combined_value F M m n C.k items W a ≡ new_e F items quotient a
          each a t = subst (λ (b : K). combined_value F M m n C.k items W b ≡ new_e F items quotient b) t.2 (value-at t.0 t.1)

      each_holds : EachHolds F C M items ps folds
      each_holds = record {
        values = values;
        shows = λ f member i p hi mp.
            let here = at-inside f member p mp in
            record { index = at f p; inside = here.0; position = here.1; value = shown f member i p (at f p) hi mp here.0 here.1 };
        shows-only = λ f member i p hi mp v s. sym s.value ∙ shown f member i p s.index hi mp s.inside s.position;
        witness = W;
        witness-has = λ i hi. W-has i;
        witness-only = λ i hi. W-only i;
        holds = all-hold;
      }

pub second-for-passing : (F : Field) (H : Hash F.ring.carrier) (C : Code F.ring.carrier) → HashLaws F.ring.carrier H → CodeLaws F.ring.carrier C
    → (M : Circuit F.ring.carrier) (m n : ℕ) (items : List (Item F.ring.carrier)) (quotient : List F.ring.carrier) → Differ (length items) (node F)
    → (ps : List ℕ) → length ps ≡ C.k → Distinct ps
    → (folds : List (Fold F.ring.carrier))
    → ((f : Fold F.ring.carrier) → Memᴰ f folds → Passes F H C M m n items quotient f × All (Opens f.shown) ps)
    → (alphas : List F.ring.carrier) → Distinct alphas
    → All (λ a. (f : Fold F.ring.carrier) × Memᴰ f folds × (f.shown.challenge ≡ a)) alphas
    → (length items - 1) * (m + 2) < length alphas
    → Collision H.digest (hashed_for F items H C folds) (hashed_for F items H C folds) ⊎ EachHolds F C M items ps folds
second-for-passing F H C hash-laws code_laws M m n items quotient different ps size distinct folds good [] distinct-alphas taken many = absurd (omega arith)
second-for-passing F H C hash-laws code_laws M m n items quotient different ps size distinct folds good (a ∷ alphas) distinct-alphas taken many =
    go (collision-or-none H.digest (hashed_for F items H C folds))
  where
    Collide : Type 0
    Collide = Collision H.digest (hashed_for F items H C folds) (hashed_for F items H C folds)

    go : Collide ⊎ NoCollision H.digest (hashed_for F items H C folds) → Collide ⊎ EachHolds F C M items ps folds
    go (inl c) = inl c
    go (inr apart) = inr
        (each_holds F H C hash-laws code_laws M m n items quotient different ps size distinct folds good apart taken.0.0 taken.0.1
        (a ∷ alphas) distinct-alphas taken many)
