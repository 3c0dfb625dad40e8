-- An opening belongs to one position: that it leads to one root at two different ones takes two different strings with one digest.
use mathlib.Core.Path.{◌≡◌, sym, ap, ◌∙◌}
use mathlib.Core.List.{List, [], ◌∷◌}
use mathlib.Core.Logic.{◌≢◌, ⊎_elim}
use Prim.Native.Nat.{ℕ, zero, suc, ◌/◌, ◌%◌, ◌^◌, ◌<◌}
use lib.ListN.{length, take, drop}
use lib.Seq.{take_at, drop_at}
use Rattle.tree.specs.Merkle.{joined, Long, opening_root, opening_strings}
use Rattle.tree.specs.Entry.{entry}
use Rattle.tree.specs.Collision.{Collision}
use Rattle.tree.proofs.Entries.{entry-position}
use Rattle.tree.proofs.Binding.{own_of, Tells, opening-binds}

-- one string for an own digest on the left of a sibling and for another one on its right: all three are equal
other-side : (own own' s : List ℕ) → length own ≡ 32 → length s ≡ 32 → joined 0 own s ≡ joined 1 own' s → own ≡ own'
other-side own own' s l ls e =
    sym (take_at own s 32 l) ∙ ap (λ (m : List ℕ). take 32 (drop 1 m)) e ∙ take_at s own' 32 ls
    ∙ sym (drop_at own s 32 l) ∙ ap (λ (m : List ℕ). drop 32 (drop 1 m)) e ∙ drop_at s own' 32 ls

own-beside : (b c : ℕ) (own own' s : List ℕ) → length own ≡ 32 → length own' ≡ 32 → length s ≡ 32 → joined b own s ≡ joined c own' s → own ≡ own'
own-beside zero zero own own' s l l' ls e = own_of 0 own own' s s l l' e
own-beside zero (suc c) own own' s l l' ls e = other-side own own' s l ls e
own-beside (suc b) zero own own' s l l' ls e = sym (other-side own' own s l' ls (sym e))
own-beside (suc b) (suc c) own own' s l l' ls e = own_of 1 own own' s s l l' e

-- from any two places, by the same siblings
same-siblings : (p q : ℕ) (ss : List (List ℕ)) → Long ss → Tells p q ss ss
same-siblings p q [] long = tt
same-siblings p q (s ∷ ss) long =
    (λ own own' l l' e. own-beside (p % 2) (q % 2) own own' s l l' long.0 e, same-siblings (p / 2) (q / 2) ss long.1)

module _ (digest : List ℕ → List ℕ) (digest-length : (s : List ℕ) → length (digest s) ≡ 32) where
  -- one and the same opening, a value and siblings, that leads to one root at two different positions: two different strings
  -- that are hashed for it have one digest
  pub opening-fixes-position : (value : List ℕ) (siblings : List (List ℕ)) (i j : ℕ) → Long siblings → i < 2 ^ 32 → j < 2 ^ 32 → i ≢ j
      → opening_root digest (entry i value) i siblings ≡ opening_root digest (entry j value) j siblings
      → Collision digest (opening_strings digest (entry i value) i siblings) (opening_strings digest (entry j value) j siblings)
  opening-fixes-position value siblings i j long hi hj differ e =
      ⊎_elim (λ same. absurd (differ (entry-position i j value value hi hj same))) (λ c. c)
      (opening-binds digest digest-length (entry i value) (entry j value) i j siblings siblings (same-siblings i j siblings long) e)
