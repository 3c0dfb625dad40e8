-- Digests are read off their own bytes alone, and what was written is read back; the lengths of openings.
use mathlib.Core.Path.{◌≡◌, refl, sym, ap, ap₂, subst, ◌∙◌}
use mathlib.Core.List.{List, [], ◌∷◌, ◌++◌}
use Prim.Native.Nat.{ℕ, zero, suc, ◌+◌, ◌-◌, ◌*◌, ◌/◌, ◌≤◌, ◌<◌}
use native.Mathlib.Omega.{arith}
use lib.ListN.{length, get_or, take, drop, length-append, length-drop}
use lib.Seq.{take_at, drop_at, take-take, drop-drop, length-take-le, get_or-take, get_or-drop}
use Rattle.numbers.specs.Numbers.{bytes4}
use Rattle.numbers.proofs.Bounds.{Below}
use Rattle.numbers.proofs.Bytes.{bytes4-numbers}
use Rattle.tree.specs.Merkle.{Long, path, path_from}
use Rattle.tree.specs.Entry.{entries}
use Rattle.tree.specs.Layout.{part, digests, opened_value, opening_size, flat, opening_bytes, own_opening}
use Rattle.tree.proofs.Blocks.{drop-take, root-length}
use Rattle.tree.proofs.Completeness.{path-length}

-- ---- an opening's own bytes
-- those of its value, in a buffer of bytes
pub value-bytes : (s : List ℕ) (at : ℕ) → at + 4 ≤ length s → Below 256 s → bytes4 (opened_value s at) ≡ part s at 4
value-bytes s at h small = bytes4-numbers (part s at 4) long (λ i l. subst (λ (n : ℕ). n < 256) (sym (at_part i (omega (arith, l, long)))) (small (at + i) (omega (arith, l, long))))
  where
    long : length (part s at 4) ≡ 4
    long = length-take-le 4 (drop at s) (omega (arith, length-drop at s))

    at_part : (i : ℕ) → i < 4 → get_or (part s at 4) i 0 ≡ get_or s (at + i) 0
    at_part i l = get_or-take 4 (drop at s) i 0 l ∙ get_or-drop at s i 0

pub digests-drop : (s : List ℕ) (at k n : ℕ) → digests s (at + k) n ≡ digests (drop at s) k n
unfolding digests
digests-drop s at k zero = refl
digests-drop s at k (suc n) =
    ap₂ {C = List (List ℕ)} ◌∷◌ (ap (take 32) (sym (drop-drop k at s))) (ap (λ (m : ℕ). digests s m n) on ∙ digests-drop s at (k + 32) n)
  where
    on : at + k + 32 ≡ at + (k + 32)
    on = omega arith

part-take : (l : List ℕ) (m k r : ℕ) → k + r ≤ m → take r (drop k (take m l)) ≡ take r (drop k l)
part-take l m k r h =
    ap (λ (n : ℕ). take r (drop k (take n l))) split
    ∙ ap (take r) (drop-take k (m - k) l)
    ∙ take-take r (m - k) (drop k l) (omega arith)
  where
    split : m ≡ k + (m - k)
    split = omega arith

pub digests-take : (l : List ℕ) (m k n : ℕ) → k + 32 * n ≤ m → digests (take m l) k n ≡ digests l k n
unfolding digests
digests-take l m k zero h = refl
digests-take l m k (suc n) h = ap₂ {C = List (List ℕ)} ◌∷◌ (part-take l m k 32 (omega arith)) (digests-take l m (k + 32) n (omega arith))

-- an opening has as many siblings as the tree is deep
pub digests-length : (s : List ℕ) (at n : ℕ) → length (digests s at n) ≡ n
unfolding digests
digests-length s at zero = refl
digests-length s at (suc n) = ap suc (digests-length s (at + 32) n)

-- ---- reading back
pub flat-length : (ds : List (List ℕ)) → Long ds → length (flat ds) ≡ 32 * length ds
unfolding flat
flat-length [] l = refl
flat-length (d ∷ ds) l = length-append d (flat ds) ∙ omega (arith, l.0, flat-length ds l.1)

pub digests-flat : (ds : List (List ℕ)) → Long ds → digests (flat ds) 0 (length ds) ≡ ds
unfolding flat digests
digests-flat [] l = refl
digests-flat (d ∷ ds) l =
    ap₂ {C = List (List ℕ)} ◌∷◌
    (take_at d (flat ds) 32 l.0)
    (digests-drop (d ++ flat ds) 32 0 (length ds)
    ∙ ap (λ (r : List ℕ). digests r 0 (length ds)) (drop_at d (flat ds) 32 l.0)
    ∙ digests-flat ds l.1)

module _ (v : ℕ) (ds : List (List ℕ)) where
  pub opening-length : Long ds → length (opening_bytes v ds) ≡ opening_size (length ds)
  opening-length l = omega (arith, flat-length ds l)

-- ---- a position's own opening
module _ (digest : List ℕ → List ℕ) (digest-length : (s : List ℕ) → length (digest s) ≡ 32) where
  pub path-long : (es : List (List ℕ)) (j n p : ℕ) → Long (path_from digest es j n p)
  unfolding path_from
  path-long es j zero p = tt
  path-long es j (suc n) p = (root-length digest digest-length j _, path-long es (suc j) n (p / 2))

  pub own-length : (d : ℕ) (vs : List ℕ) (i : ℕ) → length (own_opening digest d vs i) ≡ opening_size d
  own-length d vs i =
      opening-length (get_or vs i 0) (path digest d (entries vs) i) (path-long (entries vs) 0 d i)
      ∙ ap opening_size (path-length digest (entries vs) 0 d i)
