-- A witness in a byte buffer: its numbers are its elements, its codeword is at the points that are used, and the tree's entries over it are
-- the leaves.
use mathlib.Core.Path.{◌≡◌, sym, ap, ap₂, ◌∙◌}
use mathlib.Core.Bool.{true}
use mathlib.Core.List.{List, [], map}
use Prim.Native.Nat.{ℕ, ◌*◌, ◌^◌, ◌<◌}
use native.Mathlib.Omega.{arith}
use lib.ListN.{length, get_or, length-map}
use Rattle.algebra.proofs.ListLaws.{build-cong, build-get_or, map-build, get_or-map}
use Rattle.numbers.specs.Numbers.{numbers, bytes4}
use Rattle.numbers.proofs.Bytes.{length-numbers}
use Rattle.numbers.proofs.Bounds.{below}
use Rattle.field.specs.BabyBear.{p, baby_bear, R, F, val, ofℕ, 𝟘}
use Rattle.field.specs.Numbers.{Below}
use Rattle.hash.specs.Sha256.{digest}
use Rattle.tree.specs.Merkle.{root}
use Rattle.tree.specs.Entry.{entry, entries}
use Rattle.tree.proofs.Entries.{length-entries, entry_at}
use Rattle.code.specs.Points.{is_witness_count, points, depth}
use Rattle.code.specs.Codeword.{codeword}
use Rattle.code.proofs.Numbers.{codeword-numbers-length}
use Rattle.code.proofs.Sizes.{depth-leaves}
use Rattle.theory.specs.Items.{leaves}
use Rattle.theory.specs.Fp.{sha, fp, points_of, codeword_of, witness_root, elements}
use Rattle.theory.specs.Sizes.{points_fit, elements_below}
use Rattle.theory.proofs.FpLaws.{fp-laws}
use Rattle.theory.proofs.LentPoints.{points-built-in, points-lent, points-count}

-- The elements of a buffer of k numbers are those of its numbers.
pub elements-numbers : (k : ℕ) (b : List ℕ) → length b ≡ 4 * k → elements k b ≡ map ofℕ (numbers b)
elements-numbers k b h = sym (map-build ofℕ k (λ j. get_or (numbers b) j 0)) ∙ ap (map ofℕ) (build-get_or (numbers b) k 0 (length-numbers k b h))

-- A list that was loaded from the buffer.
pub loaded-length : (k : ℕ) (b : List ℕ) → length b ≡ 4 * k → {xs : List ℕ} → xs ≡ numbers b → length xs ≡ k
loaded-length k b long e = ap length e ∙ length-numbers k b long

-- The numbers of a buffer that passes the test are below p.
pub numbers-below : (b : List ℕ) → elements_below b ≡ true → Below (numbers b)
numbers-below b e = below p (numbers b) e

-- The entries over the numbers of some elements are the leaves over the elements.
pub entries-leaves : (vs : List F) → entries (map val vs) ≡ leaves baby_bear sha vs
entries-leaves vs =
    sym (build-get_or (entries (map val vs)) (length vs) [] (length-entries (map val vs) ∙ length-map vs val))
    ∙ build-cong (length vs) (λ i. get_or (entries (map val vs)) i []) (λ i. entry i (bytes4 (val (get_or vs i 𝟘)))) each
  where
    each : (i : ℕ) → i < length vs → get_or (entries (map val vs)) i [] ≡ entry i (bytes4 (val (get_or vs i 𝟘)))
    each i h = entry_at (map val vs) i (omega (arith, length-map vs val)) ∙ ap (λ (v : ℕ). entry i (bytes4 v)) (get_or-map val vs i 𝟘 0 h)

-- ---- the codeword and the root of k numbers in a buffer

-- A codeword has 4k numbers.
pub codeword-count : (k : ℕ) (lent : List ℕ) (es : List F) → points_fit k lent ≡ true → length (map val (codeword_of k lent es)) ≡ 4 * k
codeword-count k lent es fits = codeword-numbers-length (points_of k lent) es ∙ points-count fp fp-laws k lent fits

module _ (k : ℕ) (w : List ℕ) (count : is_witness_count k ≡ true) (long : length w ≡ 4 * k) where
  -- A list that was loaded from the buffer has a codeword.
  pub witness-asked : {xs : List ℕ} {n : ℕ} → xs ≡ numbers w → n ≡ 4 * k → elements_below w ≡ true → (is_witness_count (length xs) ≡ true) × (n ≡ 4 * length xs) × Below xs
  witness-asked e h small =
      (ap is_witness_count (loaded-length k w long e) ∙ count, h ∙ ap (λ (i : ℕ). 4 * i) (sym (loaded-length k w long e)), rw e (numbers-below w small))

-- The codeword at the built-in points, and at lent ones.
module _ (k : ℕ) (lent w : List ℕ) (long : length w ≡ 4 * k) {xs : List ℕ} where
  pub codeword-built-in : length lent ≡ 0 → xs ≡ numbers w → map val (codeword R (points (length xs)) (map ofℕ xs)) ≡ map val (codeword_of k lent (elements k w))
  codeword-built-in none e =
      ap₂ (λ (ps es : List F). map val (codeword R ps es)) (ap points (loaded-length k w long e) ∙ sym (points-built-in fp k lent none)) (ap (map ofℕ) e ∙ sym (elements-numbers k w long))

  pub codeword-lent : (length lent ≡ 0 → ⊥) → xs ≡ numbers w → map val (codeword R (map ofℕ (numbers lent)) (map ofℕ xs)) ≡ map val (codeword_of k lent (elements k w))
  codeword-lent some e = ap₂ (λ (ps es : List F). map val (codeword R ps es)) (sym (points-lent fp k lent some)) (ap (map ofℕ) e ∙ sym (elements-numbers k w long))

-- The root over the numbers of a codeword.
pub root-read : (k : ℕ) (lent : List ℕ) (es : List F) {xs : List ℕ} {d : ℕ} → xs ≡ map val (codeword_of k lent es) → d ≡ depth k → root digest d (entries xs) ≡ witness_root k lent es
root-read k lent es e h = ap₂ (λ (n : ℕ) (ds : List (List ℕ)). root digest n ds) h (ap entries e ∙ entries-leaves (codeword_of k lent es))

-- It has 2 ^ depth numbers.
pub codeword-leaves : (k : ℕ) → is_witness_count k ≡ true → {n d : ℕ} → n ≡ 4 * k → d ≡ depth k → n ≡ 2 ^ d
codeword-leaves k count h e = h ∙ sym (depth-leaves k count) ∙ ap (λ (i : ℕ). 2 ^ i) (sym e)
