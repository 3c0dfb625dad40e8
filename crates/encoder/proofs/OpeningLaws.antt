-- The openings that the tree writes over the numbers of a codeword are the openings of the witness.
use mathlib.Core.Path.{◌≡◌, refl, sym, ap, ap₂, ◌∙◌}
use mathlib.Core.Bool.{true}
use mathlib.Core.List.{List, [], ◌∷◌, ◌++◌, map}
use Prim.Native.Nat.{ℕ, zero, suc, ◌*◌, ◌^◌, ◌≤◌, ◌<◌}
use native.Mathlib.Nat.{mul-le-mul}
use native.Mathlib.Omega.{arith}
use lib.Dec.{lit≤}
use lib.ListN.{length, get_or, length-map}
use Rattle.algebra.specs.Lists.{concat_to}
use Rattle.algebra.proofs.ListLaws.{get_or-map}
use Rattle.numbers.specs.Numbers.{numbers, bytes, all_below}
use Rattle.numbers.proofs.Bytes.{length-numbers}
use Rattle.numbers.proofs.Bounds.{below}
use Rattle.field.specs.BabyBear.{F, val, 𝟘}
use Rattle.hash.specs.Sha256.{digest}
use Rattle.tree.specs.Merkle.{path}
use Rattle.tree.specs.Layout.{opening_size, flat, opening_bytes, own_opening, own_openings}
use Rattle.code.specs.Points.{is_witness_count, depth}
use Rattle.code.proofs.Sizes.{for-witness-counts, depth-leaves}
use Rattle.checks.proofs.WitnessLaws.{entries-leaves, codeword-count}
use Rattle.theory.specs.Folds.{Opening}
use Rattle.theory.specs.Sizes.{points_fit, positions_below}
use Rattle.theory.specs.Buffers as buffers
use Rattle.theory.specs.Fp.{fp, codeword_of, opening_of, openings_of}

-- A tree over a codeword has at most 8 levels.
pub depth-few : (k : ℕ) → is_witness_count k ≡ true → depth k ≤ 8
unfolding depth
depth-few = for-witness-counts (λ k. depth k ≤ 8) (lit≤ tt) (lit≤ tt) (lit≤ tt) (lit≤ tt) (lit≤ tt) (lit≤ tt)

pub size_small : (k : ℕ) → is_witness_count k ≡ true → opening_size (depth k) ≤ 260
size_small k h = omega (arith, depth-few k h)

-- The strings of the members of a list, one after the other, are those of its indices.
flat-concat : (t : ℕ) (is : List ℕ) (f g : ℕ → List ℕ) → length is ≡ t → ((q : ℕ) → q < t → f (get_or is q 0) ≡ g q) → flat (map f is) ≡ concat_to t g
unfolding flat
flat-concat zero [] f g h e = refl
flat-concat zero (i ∷ is) f g h e = absurd (omega arith)
flat-concat (suc t) [] f g h e = absurd (omega arith)
flat-concat (suc t) (i ∷ is) f g h e =
    ap₂ ◌++◌ (e 0 (omega arith)) (flat-concat t is f (λ q. g (suc q)) (omega arith) (λ q l. e (suc q) (omega arith)))

-- The bytes of an opening by the number of its value.
opening-bytes : (o : Opening F) → opening_bytes (val o.value) o.siblings ≡ buffers.opening_bytes fp o
unfolding bytes
opening-bytes o = refl

-- The bytes of the openings fit a number of 64 bits.
pub openings-small : (t d : ℕ) → t < 4294967296 → d ≤ 8 → t * opening_size d ≤ 1116691496700
openings-small t d h l = mul-le-mul {n₂ = 4294967295} {m₂ = 260} (omega arith) (omega arith)

-- The positions are those that passed check 6, and d is the depth of the tree.
module _ (k t : ℕ) (positions : List ℕ) (long : length positions ≡ 4 * t) (small : positions_below k positions ≡ true) {d : ℕ} (deep : d ≡ depth k) where
  counted : length (numbers positions) ≡ t
  counted = length-numbers t positions long

  -- The openings of a witness, by the numbers xs of its codeword.
  module _ (points : List ℕ) (fits : points_fit k points ≡ true) (es : List F) {xs : List ℕ} (read : xs ≡ map val (codeword_of k points es)) where
    pub openings-read : own_openings digest d xs (numbers positions) ≡ openings_of k t points es (numbers positions)
    openings-read =
        ap₂ (λ (n : ℕ) (vs : List ℕ). own_openings digest n vs (numbers positions)) deep read
        ∙ flat-concat t (numbers positions) (own_opening digest (depth k) (map val (codeword_of k points es))) _ counted each
      where
        each : (q : ℕ) → q < t → own_opening digest (depth k) (map val (codeword_of k points es)) (get_or (numbers positions) q 0) ≡ buffers.opening_bytes fp (opening_of k points es (get_or (numbers positions) q 0))
        each q h =
            ap₂ (λ (v : ℕ) (ds : List (List ℕ)). opening_bytes v (path digest (depth k) ds (get_or (numbers positions) q 0)))
            (get_or-map val (codeword_of k points es) (get_or (numbers positions) q 0) 𝟘 0
            (omega (arith, below (4 * k) (numbers positions) small q (omega (arith, counted)), codeword-count k points es fits, length-map (codeword_of k points es) val)))
            (entries-leaves (codeword_of k points es))
            ∙ opening-bytes (opening_of k points es (get_or (numbers positions) q 0))

  -- What the tree's writer asks of the positions and of the buffer.
  pub positions-inside : is_witness_count k ≡ true → all_below (2 ^ d) (numbers positions) ≡ true
  positions-inside count = ap (λ (n : ℕ). all_below n (numbers positions)) (ap (λ (i : ℕ). 2 ^ i) deep ∙ depth-leaves k count) ∙ small

  pub openings-room : {n : ℕ} → n ≡ t * opening_size (depth k) → n ≡ length (numbers positions) * opening_size d
  openings-room e = e ∙ ap₂ (λ (m i : ℕ). m * opening_size i) (sym counted) (sym deep)
