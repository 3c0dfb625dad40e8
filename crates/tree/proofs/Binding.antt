-- Binding: two openings that lead to one root show one entry, or two different strings hashed for them have one digest. This holds
-- where at each level the string that is hashed tells the own digest, as it does for two openings of one position.
use mathlib.Core.Path.{◌≡◌, refl, sym, ap, ◌∙◌}
use mathlib.Core.List.Memᴰ
use mathlib.Core.List.{List, [], ◌∷◌, List-discrete}
use mathlib.Core.Logic.{◌⊎◌, inl, inr}
use Prim.Native.Nat.{ℕ, zero, suc, ◌+◌, ◌/◌, ◌%◌}
use native.Mathlib.Decide.{ℕ_discrete}
use native.Mathlib.Omega.{arith}
use lib.ListN.{length, take, drop, length-append}
use lib.Seq.{take_at, drop_at}
use Rattle.tree.specs.Merkle.{leaf_string, joined, climb, climb_strings, opening_root, opening_strings}
use Rattle.tree.specs.Collision.{Collision, Within}

-- a collision within two lists is one within larger lists
pub widen : {digest : List ℕ → List ℕ} {ps qs cs ds : List (List ℕ)} → Within ps cs → Within qs ds → Collision digest ps qs → Collision digest cs ds
widen f g k = record {
  first = k.first;
  second = k.second;
  in-first = f k.first k.in-first;
  in-second = g k.second k.in-second;
  differ = k.differ;
  same = k.same;
}

-- one string hashed for two own digests of one length: they are equal
pub own_of : (b : ℕ) (own own' s s' : List ℕ) → length own ≡ 32 → length own' ≡ 32 → joined b own s ≡ joined b own' s' → own ≡ own'
own_of zero own own' s s' l l' e =
    sym (take_at own s 32 l) ∙ ap (λ (m : List ℕ). take 32 (drop 1 m)) e ∙ take_at own' s' 32 l'
own_of (suc b) own own' s s' l l' e =
    sym (drop_at s own (length s) refl) ∙ ap (λ (m : List ℕ). drop (length s) (drop 1 m)) e ∙ drop_at s' own' (length s) same
  where
    whole : length s + length own ≡ length s' + length own'
    whole = sym (length-append s own) ∙ ap (λ (m : List ℕ). length (drop 1 m)) e ∙ length-append s' own'

    same : length s' ≡ length s
    same = omega (arith, whole)

-- at each level of two ways upwards the string that is hashed tells the own digest
abbrev pub Tells : ℕ → ℕ → List (List ℕ) → List (List ℕ) → Type 0
Tells p q [] [] = Unit {0}
Tells p q [] (s' ∷ ss') = ⊥
Tells p q (s ∷ ss) [] = ⊥
Tells p q (s ∷ ss) (s' ∷ ss') =
    ((own own' : List ℕ) → length own ≡ 32 → length own' ≡ 32 → joined (p % 2) own s ≡ joined (q % 2) own' s' → own ≡ own')
    × Tells (p / 2) (q / 2) ss ss'

-- so it is from one place, by as many siblings
same_place : (p : ℕ) (ss ss' : List (List ℕ)) → length ss ≡ length ss' → Tells p p ss ss'
same_place p [] [] n = tt
same_place p [] (s' ∷ ss') n = absurd (omega arith)
same_place p (s ∷ ss) [] n = absurd (omega arith)
same_place p (s ∷ ss) (s' ∷ ss') n = (λ own own' l l' e. own_of (p % 2) own own' s s' l l' e, same_place (p / 2) ss ss' (omega arith))

module _ (digest : List ℕ → List ℕ) where
  -- strings with one digest are equal, or collide as heads of two lists
  equal-or-collide : (a b : List ℕ) (ps qs : List (List ℕ)) → digest a ≡ digest b → (a ≡ b) ⊎ Collision digest (a ∷ ps) (b ∷ qs)
  equal-or-collide a b ps qs e = go (List-discrete ℕ_discrete a b)
    where
      go : Dec (a ≡ b) → (a ≡ b) ⊎ Collision digest (a ∷ ps) (b ∷ qs)
      go (yes h) = inl h
      go (no h) = inr (record { first = a; second = b; in-first = Memᴰ.head refl; in-second = Memᴰ.head refl; differ = h; same = e })

  -- strings whose digests are equal unless what is hashed after them collides
  equal-or-later : (a b : List ℕ) (ps qs : List (List ℕ)) → (digest a ≡ digest b) ⊎ Collision digest ps qs → (a ≡ b) ⊎ Collision digest (a ∷ ps) (b ∷ qs)
  equal-or-later a b ps qs (inl e) = equal-or-collide a b ps qs e
  equal-or-later a b ps qs (inr k) = inr (widen (λ x m. Memᴰ.tail m) (λ x m. Memᴰ.tail m) k)

  module _ (digest-length : (s : List ℕ) → length (digest s) ≡ 32) where
    -- the own digests of two ways to one digest
    climb-binds : (own own' : List ℕ) (p q : ℕ) (ss ss' : List (List ℕ)) → length own ≡ 32 → length own' ≡ 32 → Tells p q ss ss'
        → climb digest own p ss ≡ climb digest own' q ss'
        → (own ≡ own') ⊎ Collision digest (climb_strings digest own p ss) (climb_strings digest own' q ss')
    unfolding climb climb_strings
    climb-binds own own' p q [] [] l l' tells e = inl e
    climb-binds own own' p q [] (s' ∷ ss') l l' tells e = absurd tells
    climb-binds own own' p q (s ∷ ss) [] l l' tells e = absurd tells
    climb-binds own own' p q (s ∷ ss) (s' ∷ ss') l l' tells e =
        here (equal-or-later a a' ps ps' (climb-binds (digest a) (digest a') (p / 2) (q / 2) ss ss' (digest-length a) (digest-length a') tells.1 e))
      where
        a : List ℕ
        a = joined (p % 2) own s

        a' : List ℕ
        a' = joined (q % 2) own' s'

        ps : List (List ℕ)
        ps = climb_strings digest (digest a) (p / 2) ss

        ps' : List (List ℕ)
        ps' = climb_strings digest (digest a') (q / 2) ss'

        here : (a ≡ a') ⊎ Collision digest (a ∷ ps) (a' ∷ ps') → (own ≡ own') ⊎ Collision digest (a ∷ ps) (a' ∷ ps')
        here (inl h) = inl (tells.0 own own' l l' h)
        here (inr k) = inr k

    -- two openings that lead to one root
    pub opening-binds : (e e' : List ℕ) (i j : ℕ) (ss ss' : List (List ℕ)) → Tells i j ss ss'
        → opening_root digest e i ss ≡ opening_root digest e' j ss'
        → (e ≡ e') ⊎ Collision digest (opening_strings digest e i ss) (opening_strings digest e' j ss')
    opening-binds e e' i j ss ss' tells h =
        here (equal-or-later (leaf_string e) (leaf_string e') ps ps' (climb-binds (digest (leaf_string e)) (digest (leaf_string e')) i j ss ss' (digest-length _) (digest-length _) tells h))
      where
        ps : List (List ℕ)
        ps = climb_strings digest (digest (leaf_string e)) i ss

        ps' : List (List ℕ)
        ps' = climb_strings digest (digest (leaf_string e')) j ss'

        here : (leaf_string e ≡ leaf_string e') ⊎ Collision digest (leaf_string e ∷ ps) (leaf_string e' ∷ ps')
            → (e ≡ e') ⊎ Collision digest (leaf_string e ∷ ps) (leaf_string e' ∷ ps')
        here (inl k) = inl (ap (drop 1) k)
        here (inr k) = inr k

    -- of one position, with as many siblings
    pub binding : (e e' : List ℕ) (i : ℕ) (ss ss' : List (List ℕ)) → length ss ≡ length ss'
        → opening_root digest e i ss ≡ opening_root digest e' i ss'
        → (e ≡ e') ⊎ Collision digest (opening_strings digest e i ss) (opening_strings digest e' i ss')
    binding e e' i ss ss' n h = opening-binds e e' i i ss ss' (same_place i ss ss' n) h
