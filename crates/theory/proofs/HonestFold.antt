-- The fold that comes of the chain of calls for an honest list passes: with a quotient of the items, the new item at a challenge, and
-- each witness's own openings, at any positions. Over any field, hash and code.
use mathlib.Core.Path.{◌≡◌, sym, ◌∙◌, ap}
use mathlib.Core.List.{List}
use Prim.Native.Nat.{ℕ, suc, ◌*◌, ◌<◌}
use native.Mathlib.Decide.{dec_lt}
use native.Mathlib.Omega.{arith}
use lib.ListN.{length, get_or}
use Rattle.algebra.specs.Ring.{Field}
use Rattle.code.specs.Codeword.{codeword}
use Rattle.tree.specs.Merkle.{opening_root, path}
use Rattle.tree.proofs.Completeness.{completeness, path-length}
use Rattle.theory.specs.R1cs.{Circuit, value}
use Rattle.theory.specs.Items.{Hash, Code, Item, leaves, root_of, Matches}
use Rattle.theory.specs.Combination.{mix, item_at, new_r, new_x, new_w, new_e, Shaped, IsQuotient}
use Rattle.theory.specs.Folds.{Opening, Shown, position_count, position_at, item_of, opening_at, value_at, leads_to}
use Rattle.theory.proofs.Passing.{CodeLaws, Passes}
use Rattle.theory.proofs.CombinationLaws.{mix-cong, length-mix_lists, codeword-mix_lists}
use Rattle.theory.proofs.ItemLaws.{leaves-length, leaves_at, item_of-item, item_of-new}

module _ (F : Field) where
  open F use {ring as R}
  open R use {carrier as K, zero as 𝟘}

  -- A witness's own opening at a position: the codeword's value there, and the path.
  abbrev pub own_opening : Hash K → Code K → List K → ℕ → Opening K
  own_opening H C w p = record { value = get_or (codeword R C.points w) p 𝟘; siblings = path H.digest C.depth (leaves F H (codeword R C.points w)) p }

  -- The new item at a challenge.
  abbrev pub folded_item : Hash K → Code K → ℕ → ℕ → List (Item K) → (ℕ → List K) → List K → K → Item K
  folded_item H C m n items ws quotient a = record {
    e = new_e F items quotient a;
    r = new_r F m items a;
    x = new_x F n items a;
    root = root_of F H C (new_w F C.k (length items) ws a);
  }

  -- A witness's own opening leads to its root.
  pub own-leads : (H : Hash K) (C : Code K) → CodeLaws K C → (w : List K) (p : ℕ) → p < 4 * C.k
      → opening_root H.digest (H.entry p (own_opening H C w p).value) p (own_opening H C w p).siblings ≡ root_of F H C w
  own-leads H C code_laws w p h =
      ap (λ (e : List ℕ). opening_root H.digest e p (path H.digest C.depth (leaves F H (codeword R C.points w)) p)) (sym (leaves_at F H C code_laws w p h))
      ∙ completeness H.digest C.depth (leaves F H (codeword R C.points w)) p (leaves-length F H C code_laws w) (omega (arith, code_laws.size))

  module _ (H : Hash K) (C : Code K) (code_laws : CodeLaws K C) (M : Circuit K) (m n : ℕ) (items : List (Item K)) (ws : ℕ → List K) (quotient : List K)
      (shaped : Shaped F m n C.k items ws) (matching : (i : ℕ) → i < length items → Matches F H C (item_at F items i) (ws i))
      (is-quotient : IsQuotient F M m n C.k items ws quotient)
      (a : K) (s : Shown K) (at-challenge : s.challenge ≡ a) (new-item : s.item ≡ folded_item H C m n items ws quotient a)
      (inside : (q : ℕ) → q < position_count s → position_at s q < 4 * C.k)
      (own : (q : ℕ) → q < position_count s → (i : ℕ) → i < length items → opening_at F items s q i ≡ own_opening H C (ws i) (position_at s q))
      (own_new : (q : ℕ) → q < position_count s → opening_at F items s q (length items) ≡ own_opening H C (new_w F C.k (length items) ws a) (position_at s q)) where
    -- The new witness.
    abbrev w : List K
    w = new_w F C.k (length items) ws a

    -- An opening that is a witness's own has as many siblings as the tree is deep, and leads to that witness's root.
    own-siblings : (q i : ℕ) (v : List K) → opening_at F items s q i ≡ own_opening H C v (position_at s q) → length (opening_at F items s q i).siblings ≡ C.depth
    own-siblings q i v e =
        ap (λ (o : Opening K). length o.siblings) e ∙ path-length H.digest (leaves F H (codeword R C.points v)) 0 C.depth (position_at s q)

    own_root : (q i : ℕ) (v : List K) → q < position_count s → opening_at F items s q i ≡ own_opening H C v (position_at s q) → leads_to F items H s q i ≡ root_of F H C v
    own_root q i v hq e =
        ap (λ (o : Opening K). opening_root H.digest (H.entry (position_at s q) o.value) (position_at s q) o.siblings) e
        ∙ own-leads H C code_laws v (position_at s q) (inside q hq)

    -- What is so for the items and for the new one is so for all.
    each_index : (P : ℕ → Type 0) → ((i : ℕ) → i < length items → P i) → P (length items) → (i : ℕ) → i < suc (length items) → P i
    each_index P old new i h = go (dec_lt i (length items))
      where
        go : Dec (i < length items) → P i
        go (yes l) = old i l
        go (no l) = let e : i ≡ length items = omega arith in rw e new

    -- The new codeword is the combination of the codewords.
    mixed : (q : ℕ) → q < position_count s → value_at F items s q (length items) ≡ mix F (length items) (λ i. value_at F items s q i) a
    mixed q hq =
        ap (λ (o : Opening K). o.value) (own_new q hq)
        ∙ codeword-mix_lists F C.k (length items) ws shaped.witness a C.points (position_at s q) (omega (arith, inside q hq, code_laws.count))
        ∙ mix-cong F (length items) (λ i. get_or (codeword R C.points (ws i)) (position_at s q) 𝟘) (λ i. value_at F items s q i) a
        (λ i hi. sym (ap (λ (o : Opening K). o.value) (own q hq i hi)))

    pub honest-fold-passes : Passes F H C M m n items quotient (record { shown = s; witness = new_w F C.k (length items) ws a })
    honest-fold-passes = record {
      some_item = shaped.some_item;
      item-r = shaped.item-r;
      item-x = shaped.item-x;
      coefficients = is-quotient.coefficients;
      siblings = λ q hq. each_index (λ i. length (opening_at F items s q i).siblings ≡ C.depth)
          (λ i hi. own-siblings q i (ws i) (own q hq i hi)) (own-siblings q (length items) w (own_new q hq));
      witness = length-mix_lists F C.k (length items) ws a;
      inside = inside;
      new-r = ap (λ (t : Item K). t.r) new-item ∙ ap (new_r F m items) (sym at-challenge);
      new-x = ap (λ (t : Item K). t.x) new-item ∙ ap (new_x F n items) (sym at-challenge);
      new-e = ap (λ (t : Item K). t.e) new-item ∙ ap (new_e F items quotient) (sym at-challenge);
      leads = λ q hq. each_index (λ i. leads_to F items H s q i ≡ (item_of F items s i).root)
          (λ i hi. own_root q i (ws i) hq (own q hq i hi) ∙ sym (matching i hi) ∙ sym (ap (λ (t : Item K). t.root) (item_of-item F items s i hi)))
          (own_root q (length items) w hq (own_new q hq) ∙ sym (ap (λ (t : Item K). t.root) (item_of-new F items s ∙ new-item)));
      combines = λ q hq. mixed q hq ∙ ap (mix F (length items) (λ i. value_at F items s q i)) (sym at-challenge);
      matches = ap (λ (t : Item K). t.root) new-item;
      holds = ap (λ (t : Item K). value R M t.r t.x w) new-item ∙ is-quotient.identity a ∙ sym (ap (λ (t : Item K). t.e) new-item);
    }
