-- What `all` says of the chunks of a buffer, and of the numbers of a range.
use mathlib.Core.Path.{◌≡◌, refl, sym, ap, ap₂, ◌∙◌}
use mathlib.Core.Bool.{Bool, ◌&&◌}
use mathlib.Core.List.{List, [], ◌∷◌, ◌++◌}
use Prim.Native.Nat.{ℕ, zero, suc, ◌+◌, ◌*◌, ◌≤◌, ◌<◌}
use native.Mathlib.Nat.{suc-mul, zero-mul, add_comm}
use native.Mathlib.Omega.{arith}
use lib.ListN.{length, take, drop, length-append, length-drop}
use Rattle.std.proofs.lemmas.List.{take_at, drop_at, drop-drop}
use Rattle.std.specs.Iterator.{AlwaysYields}
use Rattle.std.specs.List.{list_all, range_with_len}
use Rattle.std.specs.declared.slice.ChunksExact.{ChunksExact}
use Rattle.std.specs.Slice.Iter.{chunks_exact_rest, chunks_exact_size, chunks_exact_steps}
use Rattle.std.proofs.Math.Bool.{and-true, and_assoc}
use Rattle.std.proofs.lemmas.Iterator.{YieldsList}
use Rattle.tree.specs.Layout.{part}
use Rattle.theory.specs.Checks.{every}
use Rattle.theory.proofs.CheckLaws.{every-cong}

-- The first n chunks of `size` bytes.
abbrev pub chunks : ℕ → ℕ → List ℕ → List (List ℕ)
chunks zero size xs = []
chunks (suc n) size xs = take size xs ∷ chunks n size (drop size xs)

yielded : (size n : ℕ) (xs : List ℕ) (s : ChunksExact ℕ) → chunks_exact_rest s ≡ xs → chunks_exact_size s ≡ size → n * size ≤ length xs → length xs < n * size + size
    → AlwaysYields chunks_exact_steps (λ y. y.now) s (chunks n size xs)
yielded size zero xs s e h low high = λ x j t. omega (arith, ap length e, ap length t.1.0, length-append x.now (chunks_exact_rest j), t.1.1, zero-mul size)
yielded size (suc n) xs s e h low high = (
  λ j t. omega (arith, ap length e, t.1.0, suc-mul n size),
  λ x j t.
      let parts : xs ≡ x.now ++ chunks_exact_rest j = sym e ∙ t.1.0 in
      let long : length x.now ≡ size = t.1.1 ∙ h in
      let rest : chunks_exact_rest j ≡ drop size xs = sym (ap (drop size) parts ∙ drop_at x.now (chunks_exact_rest j) size long) in
      (sym (ap (take size) parts ∙ take_at x.now (chunks_exact_rest j) size long), yielded size n (drop size xs) j rest (t.0 ∙ h) (omega (arith, length-drop size xs, suc-mul n size)) (omega (arith, length-drop size xs, suc-mul n size))),
)

pub YieldsList-from_chunks_exact : {s : ChunksExact ℕ} (size n : ℕ) (xs : List ℕ) → chunks_exact_rest s ≡ xs → chunks_exact_size s ≡ size → n * size ≤ length xs → length xs < n * size + size
    → YieldsList chunks_exact_steps (λ y. y.now) s (chunks n size xs)
YieldsList-from_chunks_exact {s} size n xs e h low high = record { runs = yielded size n xs s e h low high }

-- A test of each number below n, from the first on.
every-first : (n : ℕ) (f : ℕ → Bool) → every (suc n) f ≡ (f 0 && every n (λ i. f (suc i)))
unfolding every
every-first zero f = sym (and-true (f 0))
every-first (suc n) f = ap (λ (t : Bool). t && f (suc n)) (every-first n f) ∙ and_assoc (f 0) (every n (λ i. f (suc i))) (f (suc n))

pub all-chunks : (test : List ℕ → Bool) (size n : ℕ) (xs : List ℕ) → list_all test (chunks n size xs) ≡ every n (λ i. test (part xs (i * size) size))
unfolding every
all-chunks test size zero xs = refl
all-chunks test size (suc n) xs =
    ap₂ ◌&&◌ (ap (λ (at : ℕ). test (part xs at size)) (sym (zero-mul size)))
    (all-chunks test size n (drop size xs) ∙ every-cong n _ _ (λ i _. ap (λ (rest : List ℕ). test (take size rest)) (drop-drop (i * size) size xs ∙ ap (λ (at : ℕ). drop at xs) (sym (suc-mul i size ∙ add_comm (i * size) size)))))
    ∙ sym (every-first n (λ i. test (part xs (i * size) size)))

-- ---- a range

pub all-range : (test : ℕ → Bool) (a n : ℕ) → list_all test (range_with_len a n) ≡ every n (λ i. test (a + i))
unfolding every
all-range test a zero = refl
all-range test a (suc n) =
    let here : a ≡ a + 0 = omega arith in
    ap₂ ◌&&◌ (ap test here) (all-range test (a + 1) n ∙ every-cong n _ _ (λ i _. let next : a + 1 + i ≡ a + suc i = omega arith in ap test next))
    ∙ sym (every-first n (λ i. test (a + i)))

-- From 0 on.
pub all-to : (test : ℕ → Bool) (n : ℕ) → list_all test (range_with_len 0 n) ≡ every n test
all-to test n = all-range test 0 n ∙ every-cong n _ _ (λ i _. let here : 0 + i ≡ i = omega arith in ap test here)
