-- What the openings of passing folds show where no two different strings hashed for these folds have one digest:
-- one value of an item at a position, and of the new item the codeword of the fold's witness.
use mathlib.Core.Path.{◌≡◌, sym, ◌∙◌, ap, subst}
use mathlib.Core.Logic.{⊎_elim}
use mathlib.Core.List.Memᴰ
use mathlib.Core.List.{List, [], ◌∷◌, Memᴰ}
use Prim.Native.Nat.{ℕ, suc, ◌<◌}
use native.Mathlib.Omega.{arith}
use lib.ListN.{length, get_or}
use Rattle.algebra.specs.Ring.{Field}
use Rattle.algebra.specs.Lists.{concat_to}
use Rattle.algebra.proofs.ListLaws.{mem-concat_to}
use Rattle.code.specs.Codeword.{codeword}
use Rattle.tree.specs.Merkle.{tree_strings, opening_root, opening_strings}
use Rattle.tree.specs.Collision.{NoCollision, Within}
use Rattle.tree.proofs.Shown.{binding-apart, opening-shows-apart}
use Rattle.theory.specs.R1cs.{Circuit}
use Rattle.theory.specs.Items.{Hash, Code, Item, leaves}
use Rattle.theory.specs.Combination.{item_at}
use Rattle.theory.specs.Folds.{Shown, Fold, position_count, position_at, opening_at, value_at, leaf_at, opening_strings_of, hashed, hashed_for}
use Rattle.theory.proofs.Passing.{HashLaws, CodeLaws, Passes}
use Rattle.theory.proofs.ItemLaws.{leaves-length, leaves_at, item_of-item, item_of-new}

module _ (F : Field) where
  open F use {ring as R}
  open R use {carrier as K, zero as 𝟘}

  module _ (H : Hash K) (C : Code K) (items : List (Item K)) where
    -- The strings hashed for a fold of the list are among those hashed for the list.
    fold-within : (folds : List (Fold K)) (f : Fold K) → Memᴰ f folds → Within (hashed F items H C f) (hashed_for F items H C folds)
    fold-within [] f m a h = absurd (Memᴰ.not-nil m)
    fold-within (g ∷ folds) f m a h = go (λ k. fold-within folds f k a h)
      where
        go : (Memᴰ f folds → Memᴰ a (hashed_for F items H C folds)) → Memᴰ a (hashed_for F items H C (g ∷ folds))
        go ih =
            ⊎_elim
            (λ (e : f ≡ g). Memᴰ.append_left (hashed_for F items H C folds) (subst (λ (t : Fold K). Memᴰ a (hashed F items H C t)) e h))
            (λ k. Memᴰ.append_right (hashed F items H C g) (ih k))
            (Memᴰ.cases_cons m)

    module _ (folds : List (Fold K)) (f : Fold K) (member : Memᴰ f folds) where
      -- So are those of each opening, and those of the tree over the witness's codeword.
      opening-within : (q i : ℕ) → q < position_count f.shown → i < suc (length items) → Within (opening_strings_of F items H f.shown q i) (hashed_for F items H C folds)
      opening-within q i hq hi a m =
          fold-within folds f member a
          (Memᴰ.append_left (tree_strings H.digest C.depth (leaves F H (codeword R C.points f.witness)))
          (mem-concat_to (position_count f.shown) (λ s. concat_to (suc (length items)) (λ j. opening_strings_of F items H f.shown s j)) q hq
          (mem-concat_to (suc (length items)) (λ j. opening_strings_of F items H f.shown q j) i hi m)))

      tree-within : Within (tree_strings H.digest C.depth (leaves F H (codeword R C.points f.witness))) (hashed_for F items H C folds)
      tree-within a m =
          fold-within folds f member a
          (Memᴰ.append_right (concat_to (position_count f.shown) (λ q. concat_to (suc (length items)) (λ i. opening_strings_of F items H f.shown q i))) m)

    module _ (hash-laws : HashLaws K H) (M : Circuit K) (m n : ℕ) (quotient : List K) (folds : List (Fold K)) (apart : NoCollision H.digest (hashed_for F items H C folds)) where
      -- The new item's opened value is the witness's codeword at the position.
      pub new-value : CodeLaws K C → (f : Fold K) → Memᴰ f folds → Passes F H C M m n items quotient f → (q : ℕ) → q < position_count f.shown
          → value_at F items f.shown q (length items) ≡ get_or (codeword R C.points f.witness) (position_at f.shown q) 𝟘
      new-value code_laws f member passes q hq =
          hash-laws.entry_value p (value_at F items s q (length items)) (get_or (codeword R C.points f.witness) p 𝟘)
          (opening-shows-apart H.digest hash-laws.digest-length (hashed_for F items H C folds) apart C.depth (leaves F H (codeword R C.points f.witness))
          (leaf_at F items H s q (length items)) p (opening_at F items s q (length items)).siblings
          (leaves-length F H C code_laws f.witness) (omega (arith, passes.inside q hq, code_laws.size)) (passes.siblings q hq (length items) (omega arith))
          (opening-within folds f member q (length items) hq (omega arith)) (tree-within folds f member)
          (passes.leads q hq (length items) (omega arith) ∙ ap (λ (t : Item K). t.root) (item_of-new F items s) ∙ passes.matches)
          ∙ leaves_at F H C code_laws f.witness p (passes.inside q hq))
        where
          s : Shown K
          s = f.shown

          p : ℕ
          p = position_at f.shown q

      -- An item's opening at position p leads to the item's root, and its strings are among those hashed.
      opened : (f : Fold K) → Memᴰ f folds → Passes F H C M m n items quotient f
          → (q i p : ℕ) → q < position_count f.shown → i < length items → position_at f.shown q ≡ p
          → (opening_root H.digest (H.entry p (value_at F items f.shown q i)) p (opening_at F items f.shown q i).siblings ≡ (item_at F items i).root)
          × Within (opening_strings H.digest (H.entry p (value_at F items f.shown q i)) p (opening_at F items f.shown q i).siblings) (hashed_for F items H C folds)
      opened f member passes q i p hq hi e =
          subst
          (λ (s : ℕ).
          (opening_root H.digest (H.entry s (value_at F items f.shown q i)) s (opening_at F items f.shown q i).siblings ≡ (item_at F items i).root)
          × Within (opening_strings H.digest (H.entry s (value_at F items f.shown q i)) s (opening_at F items f.shown q i).siblings) (hashed_for F items H C folds))
          e
          (passes.leads q hq i (omega arith) ∙ ap (λ (t : Item K). t.root) (item_of-item F items f.shown i hi), opening-within folds f member q i hq (omega arith))

      -- Two openings of one item at one position show one value.
      pub one_value : (f g : Fold K) → Memᴰ f folds → Memᴰ g folds → Passes F H C M m n items quotient f → Passes F H C M m n items quotient g
          → (i p q s : ℕ) → i < length items → q < position_count f.shown → s < position_count g.shown
          → position_at f.shown q ≡ p → position_at g.shown s ≡ p → value_at F items f.shown q i ≡ value_at F items g.shown s i
      one_value f g mf mg pf pg i p q s hi hq hs eq es =
          let first = opened f mf pf q i p hq hi eq in
          let second = opened g mg pg s i p hs hi es in
          hash-laws.entry_value p (value_at F items f.shown q i) (value_at F items g.shown s i)
          (binding-apart H.digest hash-laws.digest-length (hashed_for F items H C folds) apart
          (H.entry p (value_at F items f.shown q i)) (H.entry p (value_at F items g.shown s i)) p
          (opening_at F items f.shown q i).siblings (opening_at F items g.shown s i).siblings
          (pf.siblings q hq i (omega arith) ∙ sym (pg.siblings s hs i (omega arith)))
          first.1 second.1 (first.0 ∙ sym second.0))
