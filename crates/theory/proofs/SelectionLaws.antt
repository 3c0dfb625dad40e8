-- The laws of selections: members that pass a test, members by a test of equality, and the different members of a list.
use mathlib.Core.Path.{◌≡◌, refl, sym, subst}
use mathlib.Core.Logic.{⊎_elim}
use mathlib.Core.Bool.{Bool, true, false, not, ◌||◌, false≢true}
use mathlib.Core.List.Memᴰ
use mathlib.Core.List.{List, [], ◌∷◌, Memᴰ}
use Prim.Native.Nat.{ℕ, ◌<◌}
use native.Mathlib.Omega.{arith}
use borrow.Author.Tests.{eqb-true}
use lib.Dec.{eqb}
use lib.ListN.{length}
use Rattle.algebra.specs.Lists.{All, Distinct}
use Rattle.numbers.specs.Equality.{among}
use Rattle.numbers.proofs.Differences.{absent}
use Rattle.numbers.proofs.Tests.{and_left, and_right}
use Rattle.theory.specs.Selection.{keep_if, select, all_among, once}

-- ---- the members that pass a test

-- A selected member is a member of the list, and passes the test.
pub select-passes : {A : Type 0} (f : A → Bool) (l : List A) (a : A) → Memᴰ a (select f l) → Memᴰ a l × (f a ≡ true)
select-passes f [] a h = absurd (Memᴰ.not-nil h)
select-passes {A} f (b ∷ l) a h = go (f b) refl (select-passes f l a) h
  where
    go : (t : Bool) → f b ≡ t → (Memᴰ a (select f l) → Memᴰ a l × (f a ≡ true))
        → Memᴰ a (keep_if t b (select f l)) → Memᴰ a (b ∷ l) × (f a ≡ true)
    go true e ih s = ⊎_elim (λ (q : a ≡ b). (Memᴰ.head q, subst (λ (x : A). f x ≡ true) (sym q) e)) (λ r. (Memᴰ.tail (ih r).0, (ih r).1)) (Memᴰ.cases_cons s)
    go false e ih s = (Memᴰ.tail (ih s).0, (ih s).1)

-- A list longer than some number has a member.
pub some-member : {A : Type 0} (l : List A) (n : ℕ) → n < length l → (a : A) × Memᴰ a l
some-member [] n h = absurd (omega arith)
some-member (a ∷ l) n h = (a, Memᴰ.head refl)

-- ---- by a test of equality: members of a list, and its different members

module _ {A : Type 0} (same : A → A → Bool) (equal : (a b : A) → same a b ≡ true → a ≡ b) where
  among-member : (a : A) (l : List A) → among same a l ≡ true → Memᴰ a l
  among-member a [] h = absurd (false≢true h)
  among-member a (b ∷ l) h = go (same a b) refl (among-member a l) h
    where
      go : (t : Bool) → same a b ≡ t → (among same a l ≡ true → Memᴰ a l) → t || among same a l ≡ true → Memᴰ a (b ∷ l)
      go true e ih s = Memᴰ.head (equal a b e)
      go false e ih s = Memᴰ.tail (ih s)

module _ {A : Type 0} (same : A → A → Bool) (reflects : (a : A) → same a a ≡ true) where
  pub once-distinct : (l : List A) → Distinct (once same l)
  once-distinct [] = tt
  once-distinct (a ∷ l) = go (among same a (once same l)) refl (once-distinct l)
    where
      go : (t : Bool) → among same a (once same l) ≡ t → Distinct (once same l) → Distinct (keep_if (not t) a (once same l))
      go true e ih = ih
      go false e ih = (absent same reflects a (once same l) e, ih)

pub once-member : {A : Type 0} (same : A → A → Bool) (l : List A) (a : A) → Memᴰ a (once same l) → Memᴰ a l
once-member same [] a h = h
once-member same (b ∷ l) a h = go (among same b (once same l)) (once-member same l a) h
  where
    go : (t : Bool) → (Memᴰ a (once same l) → Memᴰ a l) → Memᴰ a (keep_if (not t) b (once same l)) → Memᴰ a (b ∷ l)
    go true ih s = Memᴰ.tail (ih s)
    go false ih s = ⊎_elim (λ (e : a ≡ b). Memᴰ.head e) (λ r. Memᴰ.tail (ih r)) (Memᴰ.cases_cons s)

-- ---- numbers

pub all_among_lem : (ps l : List ℕ) → all_among ps l ≡ true → All (λ a. Memᴰ a l) ps
all_among_lem [] l h = tt
all_among_lem (a ∷ ps) l h = (among-member eqb eqb-true a l (and_left (among eqb a l) (all_among ps l) h), all_among_lem ps l (and_right (among eqb a l) (all_among ps l) h))
