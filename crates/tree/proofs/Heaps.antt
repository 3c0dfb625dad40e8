-- All digests of a tree in one list: filled in from the leaves to the root, and root and paths read out of it.
use mathlib.Core.Path.{◌≡◌, refl, sym, ap, ap₂, subst, ◌∙◌}
use mathlib.Core.List.{List, [], ◌∷◌}
use Prim.Native.Nat.{ℕ, zero, suc, ◌+◌, ◌-◌, ◌*◌, ◌/◌, ◌^◌, ◌≤◌, ◌<◌}
use native.Mathlib.Nat.{two-pow-succ, add-zero, add-suc, suc-add, zero-add}
use native.Mathlib.Decide.{dec_lt}
use native.Mathlib.Omega.{arith}
use lib.Dec.{lit<}
use lib.ListN.{length, get_or, set}
use lib.Seq.{sets}
use lib.Pow.{pow_mono}
use Rattle.tree.specs.Merkle.{leaf_string, node_string, sibling, root, subtree, path_from, path}
use Rattle.tree.specs.Heap.{Leaves, IsHeap, heap_path}
use Rattle.tree.proofs.Blocks.{subtree-leaf, subtree-node, subtree-whole}
use Rattle.tree.proofs.Places.{sibling-below}
use Rattle.tree.proofs.Stores.{get_or-sets_before, get_or-sets-within, get_or-sets-after}

-- what holds of the one element of a list holds of each
only : (P : ℕ → List ℕ → Type 0) {x : List ℕ} → P 0 x → (q : ℕ) → q < 1 → P q (get_or (x ∷ []) q [])
only P h zero l = h
only P h (suc q) l = absurd (omega arith)

module _ (digest : List ℕ → List ℕ) where
  -- ---- filling in: digests are stored one after the other

  -- n leaves from i on, and one
  pub leaf-step : (es : List (List ℕ)) (count i n : ℕ) (nodes new : List (List ℕ)) → length new ≡ n → count + i + n ≤ length nodes
      → ((q : ℕ) → q < n → get_or new q [] ≡ digest (leaf_string (get_or es (i + q) [])))
      → Leaves digest es count i nodes → Leaves digest es count (i + n) (sets nodes (count + i) new)
  leaf-step es count i n nodes new long fits each all q hq = go (dec_lt q i)
    where
      go : Dec (q < i) → get_or (sets nodes (count + i) new) (count + q) [] ≡ digest (leaf_string (get_or es q []))
      go (yes h) = get_or-sets_before new nodes (count + i) (count + q) [] (omega arith) ∙ all q h
      go (no h) =
          let from : count + q ≡ count + i + (q - i) = omega arith in
          let same : i + (q - i) ≡ q = omega arith in
          ap (λ (k : ℕ). get_or (sets nodes (count + i) new) k []) from
          ∙ get_or-sets-within new nodes (count + i) (q - i) [] (omega arith) (omega arith)
          ∙ each (q - i) (omega arith)
          ∙ ap (λ (k : ℕ). digest (leaf_string (get_or es k []))) same

  -- every index from n on holds its digest
  abbrev pub FilledFrom : ℕ → List (List ℕ) → ℕ → List (List ℕ) → Type 0
  FilledFrom d es n nodes = (j h p : ℕ) → j + h ≡ d → p < 2 ^ h → n ≤ 2 ^ h + p → get_or nodes (2 ^ h + p) [] ≡ subtree digest es j p

  pub filled-leaves : (d : ℕ) (es nodes : List (List ℕ)) → Leaves digest es (2 ^ d) (2 ^ d) nodes → FilledFrom d es (2 ^ d) nodes
  filled-leaves d es nodes l zero h p e hp hn =
      let same : h ≡ d = omega arith in
      ap (λ (k : ℕ). get_or nodes (2 ^ k + p) []) same ∙ l p (subst (λ (k : ℕ). p < 2 ^ k) same hp) ∙ sym (subtree-leaf digest es p)
  filled-leaves d es nodes l (suc j) h p e hp hn = absurd (omega (arith, two-pow-succ h, pow_mono {i = suc h} {j = d} (omega arith)))

  -- the digest of the inner node k, from those of its two children
  abbrev parent : List (List ℕ) → ℕ → List ℕ
  parent nodes k = digest (node_string (get_or nodes (2 * k) []) (get_or nodes (2 * k + 1) []))

  -- it is the tree's, where both children stand from n on
  node_at : (d : ℕ) (es : List (List ℕ)) (n k : ℕ) (nodes : List (List ℕ)) → n ≤ 2 * k → k < 2 ^ d → FilledFrom d es n nodes
      → (j h p : ℕ) → j + h ≡ d → p < 2 ^ h → 2 ^ h + p ≡ k → parent nodes k ≡ subtree digest es j p
  node_at d es n k nodes after small all zero h p e hp q =
      let same : h ≡ d = omega arith in
      absurd (omega (arith, subst (λ (m : ℕ). 2 ^ m + p ≡ k) same q))
  node_at d es n k nodes after small all (suc j) h p e hp q =
      ap₂ (λ (a b : List ℕ). digest (node_string a b)) (child (2 * p) left (omega arith) (omega arith)) (child (2 * p + 1) right (omega arith) (omega arith))
      ∙ sym (subtree-node digest es j p)
    where
      twice : 2 ^ suc h ≡ 2 ^ h + 2 ^ h
      twice = two-pow-succ h

      left : 2 ^ suc h + 2 * p ≡ 2 * k
      left = omega (arith, twice)

      right : 2 ^ suc h + (2 * p + 1) ≡ 2 * k + 1
      right = omega (arith, twice)

      child : (r : ℕ) {m : ℕ} → 2 ^ suc h + r ≡ m → r ≤ 2 * p + 1 → n ≤ m → get_or nodes m [] ≡ subtree digest es j r
      child r f hr hm =
          ap (λ (i : ℕ). get_or nodes i []) (sym f) ∙ all j (suc h) r (add-suc j h ∙ sym (suc-add j h) ∙ e) (omega (arith, twice)) (omega (arith, f))

  -- c inner nodes from k on, which end at n, and one
  pub filled_step : (d : ℕ) (es : List (List ℕ)) (n k c : ℕ) (nodes new : List (List ℕ)) → length new ≡ c → k + c ≡ n → n ≤ 2 * k → n ≤ 2 ^ d
      → n ≤ length nodes → ((i : ℕ) → i < c → get_or new i [] ≡ parent nodes (k + i)) → FilledFrom d es n nodes → FilledFrom d es k (sets nodes k new)
  filled_step d es n k c nodes new long end after small fits each all j h p e hp hm = go (dec_lt (2 ^ h + p) n)
    where
      go : Dec (2 ^ h + p < n) → get_or (sets nodes k new) (2 ^ h + p) [] ≡ subtree digest es j p
      go (yes f) =
          let from : 2 ^ h + p ≡ k + (2 ^ h + p - k) = omega arith in
          ap (λ (q : ℕ). get_or (sets nodes k new) q []) from
          ∙ get_or-sets-within new nodes k (2 ^ h + p - k) [] (omega arith) (omega arith)
          ∙ each (2 ^ h + p - k) (omega arith)
          ∙ ap (parent nodes) (sym from)
          ∙ node_at d es n (2 ^ h + p) nodes (omega arith) (omega arith) all j h p e hp refl
      go (no f) = get_or-sets-after new nodes k (2 ^ h + p) [] (omega arith) ∙ all j h p e hp (omega arith)

  -- every index after n holds its digest
  abbrev pub Above : ℕ → List (List ℕ) → ℕ → List (List ℕ) → Type 0
  Above d es n nodes = (j h p : ℕ) → j + h ≡ d → p < 2 ^ h → n < 2 ^ h + p → get_or nodes (2 ^ h + p) [] ≡ subtree digest es j p

  -- filled_step, said of the indices after n and after m
  pub above_step : (d : ℕ) (es : List (List ℕ)) (n m k c : ℕ) (nodes new : List (List ℕ)) → length new ≡ c → m + c ≡ n → k ≡ m + 1 → n < 2 * k
      → n < 2 ^ d → n < length nodes → ((i : ℕ) → i < c → get_or new i [] ≡ parent nodes (k + i)) → Above d es n nodes → Above d es m (sets nodes k new)
  above_step d es n m k c nodes new long last next after small fits each all j h p e hp hm =
      filled_step d es (n + 1) k c nodes new long (omega arith) (omega arith) (omega arith) (omega arith) each
      (λ j h p e hp hn. all j h p e hp (omega arith)) j h p e hp (omega arith)

  pub filled-one : (d : ℕ) (es : List (List ℕ)) (n : ℕ) (nodes : List (List ℕ)) (new : List ℕ) → 0 < n → n < 2 ^ d → n < length nodes
      → new ≡ parent nodes n → FilledFrom d es (n + 1) nodes → FilledFrom d es n (set nodes n new)
  filled-one d es n nodes new pos small fits e all =
      filled_step d es (n + 1) n 1 nodes (new ∷ []) refl refl (omega arith) (omega arith) (omega arith)
      (only (λ (i : ℕ) (x : List ℕ). x ≡ parent nodes (n + i)) (e ∙ ap (parent nodes) (sym (add-zero n))))
      all

  -- ---- reading out
  pub heap-root : (d : ℕ) (es nodes : List (List ℕ)) → length es ≡ 2 ^ d → IsHeap digest d es nodes → get_or nodes 1 [] ≡ root digest d es
  heap-root d es nodes e holds = holds d 0 0 (add-zero d) (lit< tt) ∙ subtree-whole digest es d e

  heap-path-from : (d : ℕ) (es nodes : List (List ℕ)) → IsHeap digest d es nodes → (j n p : ℕ) → j + n ≡ d → p < 2 ^ n
      → heap_path nodes n p ≡ path_from digest es j n p
  unfolding heap_path path_from
  heap-path-from d es nodes holds j zero p e h = refl
  heap-path-from d es nodes holds j (suc n) p e h =
      ap₂ {C = List (List ℕ)} ◌∷◌
      (holds j (suc n) (sibling p) e (sibling-below (suc n) p (omega arith) h))
      (heap-path-from d es nodes holds (suc j) n (p / 2) (suc-add j n ∙ sym (add-suc j n) ∙ e) (omega (arith, two-pow-succ n)))

  -- the siblings in the list are the path of the position
  pub heap-path : (d : ℕ) (es nodes : List (List ℕ)) → IsHeap digest d es nodes → (i : ℕ) → i < 2 ^ d → heap_path nodes d i ≡ path digest d es i
  heap-path d es nodes holds i h = heap-path-from d es nodes holds 0 d i (zero-add d) h
