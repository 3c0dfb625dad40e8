-- The leaves over a witness's codeword; and the items with the new item after them.
use mathlib.Core.Path.{◌≡◌, sym, ◌∙◌}
use mathlib.Core.List.{List, [], ◌∷◌}
use Prim.Native.Nat.{ℕ, ◌*◌, ◌^◌, ◌<◌}
use native.Mathlib.Omega.{arith}
use lib.ListN.{length, get_or, get_or-append}
use lib.Seq.{get_or-append_seam}
use Rattle.algebra.specs.Ring.{Field}
use Rattle.algebra.proofs.ListLaws.{length-build, get_or-build}
use Rattle.code.specs.Codeword.{codeword}
use Rattle.code.proofs.Evaluation.{codeword-length}
use Rattle.theory.specs.Items.{Hash, Code, Item, leaves}
use Rattle.theory.specs.Combination.{blank, item_at}
use Rattle.theory.specs.Folds.{Shown, item_of}
use Rattle.theory.proofs.Passing.{CodeLaws}

module _ (F : Field) where
  open F use {ring as R}
  open R use {carrier as K, zero as 𝟘}

  module _ (H : Hash K) (C : Code K) (code_laws : CodeLaws K C) (w : List K) where
    pub codeword-size : length (codeword R C.points w) ≡ 4 * C.k
    codeword-size = codeword-length R C.points w ∙ code_laws.count

    -- There are 2 ^ depth leaves, and leaf p has the data of the codeword's value at p.
    pub leaves-length : length (leaves F H (codeword R C.points w)) ≡ 2 ^ C.depth
    leaves-length = length-build (length (codeword R C.points w)) (λ i. H.entry i (get_or (codeword R C.points w) i 𝟘)) ∙ codeword-size ∙ sym code_laws.size

    pub leaves_at : (p : ℕ) → p < 4 * C.k → get_or (leaves F H (codeword R C.points w)) p [] ≡ H.entry p (get_or (codeword R C.points w) p 𝟘)
    leaves_at p h = get_or-build (length (codeword R C.points w)) (λ i. H.entry i (get_or (codeword R C.points w) i 𝟘)) p [] (omega (arith, codeword-size))

  module _ (items : List (Item K)) (s : Shown K) where
    pub item_of-item : (i : ℕ) → i < length items → item_of F items s i ≡ item_at F items i
    unfolding item_of item_at
    item_of-item i h = get_or-append items (s.item ∷ []) (blank F) i h

    pub item_of-new : item_of F items s (length items) ≡ s.item
    unfolding item_of item_at
    item_of-new = get_or-append_seam items s.item [] (blank F)
