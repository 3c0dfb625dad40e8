-- The witnesses of the items and the new one, opened one after the other.
use mathlib.Core.Path.{◌≡◌, sym, ap, ◌∙◌}
use mathlib.Core.List.{List, [], ◌∷◌}
use Prim.Native.Nat.{ℕ, suc, ◌*◌, ◌<◌}
use native.Mathlib.Nat.{suc-mul}
use native.Mathlib.Numerals.{add-one}
use native.Mathlib.Omega.{arith}
use lib.ListN.{length, get_or-append}
use lib.Seq.{get_or_at}
use Rattle.algebra.specs.Lists.{build}
use Rattle.algebra.proofs.ListLaws.{length-build, get_or-build, build-cong}
use Rattle.tree.specs.Layout.{part}
use Rattle.theory.specs.Results.{Opened}
use Rattle.theory.specs.Fp.{witness_part, «open»}
use Rattle.chain.specs.Answers.{first_of, first_refusal}
use Rattle.encoder.specs.Parts.{replaced, Filled}
use Rattle.chain.specs.Chained.{open_item, open_into}
use Rattle.encoder.proofs.Filling.{still, filled-cong, one-filled}
use Rattle.chain.proofs.Refusals.{refusal-next}

module _ (k t l size : ℕ) (points wits positions opened : List ℕ) where
  -- The opening of item i's witness, and of witness i of all.
  abbrev of_item : ℕ → Opened
  of_item i = open_item k t size points wits positions opened i

  module _ (wit : List ℕ) where
    abbrev of_each : ℕ → Opened
    of_each i = open_into k t l size points wits wit positions opened i

    an_item : (i : ℕ) → i < l → of_item i ≡ of_each i
    an_item i h =
        ap (λ (w : List ℕ). «open» k t points w positions (part opened (i * size) size))
        (sym (get_or-append (build l (witness_part k wits)) (wit ∷ []) [] i (omega (arith, length-build l (witness_part k wits)))
        ∙ get_or-build l (witness_part k wits) i [] h))

    the-new : «open» k t points wit positions (part opened (l * size) size) ≡ of_each l
    the-new =
        ap (λ (w : List ℕ). «open» k t points w positions (part opened (l * size) size))
        (sym (get_or_at (build l (witness_part k wits)) wit [] [] l (length-build l (witness_part k wits))))

    -- s is the buffer after the items' witnesses, s' after the new one too; a, b and r are the answers.
    module _ (s s' : List ℕ) (filled : Filled size (λ i. (of_item i).openings) opened l s) where
      next : «open» k t points wit positions (part s (l * size) size) ≡ of_each l
      next = ap («open» k t points wit positions) (still size (λ i. (of_item i).openings) opened l s filled) ∙ the-new

      pub all-answered : (a b r : ℕ) → a ≡ first_refusal (build l (λ i. (of_item i).answer)) → b ≡ («open» k t points wit positions (part s (l * size) size)).answer
          → r ≡ first_of a b → r ≡ first_refusal (build (suc l) (λ i. (of_each i).answer))
      all-answered a b r e h g =
          refusal-next l (λ i. (of_each i).answer) a b r
          (e ∙ ap first_refusal (build-cong l (λ i. (of_item i).answer) (λ i. (of_each i).answer) (λ i j. ap (λ (o : Opened). o.answer) (an_item i j))))
          (h ∙ ap (λ (o : Opened). o.answer) next)
          g
          ∙ ap (λ (n : ℕ). first_refusal (build n (λ i. (of_each i).answer))) (add-one l)

      pub all-opened : length opened ≡ suc l * size → length s' ≡ length s → s' ≡ replaced s (l * size) size («open» k t points wit positions (part s (l * size) size)).openings
          → Filled size (λ i. (of_each i).openings) opened (suc l) s'
      all-opened e kept put =
          let more =
          one-filled size (λ i. (of_each i).openings) opened l s s' («open» k t points wit positions (part s (l * size) size)).openings
          (filled-cong size (λ i. (of_item i).openings) opened (λ i. (of_each i).openings) l s (λ i j. ap (λ (o : Opened). o.openings) (an_item i j)) filled)
          (omega (arith, suc-mul l size))
          kept
          put
          (ap (λ (o : Opened). o.openings) next) in
          rw add-one at more
