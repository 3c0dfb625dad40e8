-- How many blocks the strings of an opening are hashed in: the leaf in one, and each inner node in two.
use mathlib.Core.Path.{◌≡◌, refl, sym, ap, ◌∙◌}
use mathlib.Core.List.{List, [], ◌∷◌, ◌++◌}
use Prim.Native.Nat.{ℕ, zero, suc, ◌+◌, ◌*◌, ◌/◌, ◌%◌, ◌≤◌}
use native.Mathlib.Nat.{zero-add}
use native.Mathlib.Omega.{arith}
use lib.ListN.{length, drop, length-drop}
use lib.Seq.{length-take-le}
use Rattle.numbers.specs.Numbers.{bytes4}
use Rattle.hash.specs.Sha256.{block_count, digest}
use Rattle.hash.proofs.DigestLaws.{digest-length}
use Rattle.hash.proofs.Tree.{leaf-message-blocks, node-message-blocks}
use Rattle.tree.specs.Merkle.{leaf_string, node_string, joined, blocks_of, Long, climb_strings, opening_strings}
use Rattle.tree.specs.Entry.{entry}
use Rattle.tree.specs.Layout.{digests, opening_size, opened_value, opened_path, opened_strings}
use Rattle.tree.proofs.ReadBack.{digests-length}

-- the strings of two lists
pub blocks-append : (blocks : List ℕ → ℕ) (a b : List (List ℕ)) → blocks_of blocks (a ++ b) ≡ blocks_of blocks a + blocks_of blocks b
unfolding blocks_of
blocks-append blocks [] b = sym (zero-add (blocks_of blocks b))
blocks-append blocks (s ∷ a) b = omega (arith, blocks-append blocks a b)

-- digests within a buffer have thirty-two bytes each
pub digests-long : (s : List ℕ) (at n : ℕ) → at + 32 * n ≤ length s → Long (digests s at n)
unfolding digests
digests-long s at zero h = tt
digests-long s at (suc n) h = (length-take-le 32 (drop at s) (omega (arith, length-drop at s)), digests-long s (at + 32) n (omega arith))

module _ (digest : List ℕ → List ℕ) (blocks : List ℕ → ℕ) (digest-length : (s : List ℕ) → length (digest s) ≡ 32)
    (node-blocks : (a b : List ℕ) → length a ≡ 32 → length b ≡ 32 → blocks (node_string a b) ≡ 2) where
  joined-blocks : (b : ℕ) (own s : List ℕ) → length own ≡ 32 → length s ≡ 32 → blocks (joined b own s) ≡ 2
  joined-blocks zero own s l h = node-blocks own s l h
  joined-blocks (suc b) own s l h = node-blocks s own h l

  climb-blocks : (own : List ℕ) (p : ℕ) (ss : List (List ℕ)) → length own ≡ 32 → Long ss → blocks_of blocks (climb_strings digest own p ss) ≡ 2 * length ss
  unfolding climb_strings blocks_of
  climb-blocks own p [] l h = refl
  climb-blocks own p (s ∷ ss) l h =
      omega (arith, joined-blocks (p % 2) own s l h.0, climb-blocks (digest (joined (p % 2) own s)) (p / 2) ss (digest-length _) h.1)

  -- where the leaf takes one
  pub opening-blocks : (e : List ℕ) (i : ℕ) (ss : List (List ℕ)) → blocks (leaf_string e) ≡ 1 → Long ss → blocks_of blocks (opening_strings digest e i ss) ≡ 1 + 2 * length ss
  unfolding blocks_of
  opening-blocks e i ss one h = omega (arith, one, climb-blocks (digest (leaf_string e)) i ss (digest-length _) h)

-- ---- by SHA-256

pub leaf-count : (i : ℕ) (value : List ℕ) → length value ≤ 16 → block_count (leaf_string (entry i value)) ≡ 1
unfolding entry
leaf-count i value h = leaf-message-blocks (bytes4 i) value refl h

pub opened-blocks : (s : List ℕ) (at depth i : ℕ) → at + opening_size depth ≤ length s → blocks_of block_count (opened_strings digest s at depth i) ≡ 1 + 2 * depth
opened-blocks s at depth i h =
    opening-blocks digest block_count digest-length node-message-blocks (entry i (bytes4 (opened_value s at))) i (opened_path s at depth) (leaf-count i (bytes4 (opened_value s at)) (omega arith)) (digests-long s (at + 4) depth (omega arith))
    ∙ ap (λ (n : ℕ). 1 + 2 * n) (digests-length s (at + 4) depth)
