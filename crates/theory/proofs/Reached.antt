-- The laws of tests in rows of w that are made row by row, up to and with the first that fails, and of the blocks that what they reach is
-- hashed in.
use mathlib.Core.Path.{◌≡◌, refl, sym, ap, ap₂, ◌∙◌}
use mathlib.Core.Bool.{Bool, true, false, cond, ◌&&◌, and-false, false≢true}
use mathlib.Core.List.{List, []}
use Prim.Native.Nat.{ℕ, zero, suc, ◌+◌, ◌*◌, ◌≤◌, ◌<◌}
use native.Mathlib.Nat.{suc-mul, add-mul, mul_assoc}
use native.Mathlib.Numerals.{add-one}
use native.Mathlib.Omega.{arith}
use Rattle.algebra.specs.Lists.{concat_to}
use Rattle.algebra.proofs.ListLaws.{concat_to-cong, concat_to-last, concat_to-stop}
use Rattle.numbers.proofs.Tests.{and_left, and_right, ◌&◌}
use Rattle.tree.specs.Merkle.{blocks_of}
use Rattle.tree.proofs.HashedBlocks.{blocks-append}
use Rattle.theory.specs.Checks.{every, reaches, reached}
use Rattle.theory.proofs.CheckLaws.{every_true, true-every, every-fails, every-cong}

-- ---- the first test that fails

pub record First (n : ℕ) (f : ℕ → Bool) : Type 0 where
  pub at : ℕ
  pub inside : at < n
  pub before : every at f ≡ true
  pub fails : f at ≡ false

pub first : (n : ℕ) (f : ℕ → Bool) → every n f ≡ false → First n f
unfolding every
first zero f e = absurd (false≢true (sym e))
first (suc n) f e = go (every n f) refl (first n f)
  where
    go : (b : Bool) → every n f ≡ b → (every n f ≡ false → First n f) → First (suc n) f
    go true h ih = record { at = n; inside = omega arith; before = h; fails = sym (ap (λ (b : Bool). b && f n) h) ∙ e }
    go false h ih = let t = ih h in record { at = t.at; inside = omega (arith, t.inside); before = t.before; fails = t.fails }

-- ---- tests and lists that agree

pub reached-cong : (n w : ℕ) (f g : ℕ → ℕ → Bool) (a b : ℕ → ℕ → List (List ℕ))
    → ((q i : ℕ) → q < n → i < w → f q i ≡ g q i) → ((q i : ℕ) → q < n → i < w → a q i ≡ b q i) → reached n w f a ≡ reached n w g b
reached-cong n w f g a b e h = concat_to-cong n _ _ (λ q l. concat_to-cong w _ _ (λ i k. ap₂ (λ (t : Bool) (s : List (List ℕ)). cond t s []) (same q i l k) (h q i l k)))
  where
    same : (q i : ℕ) → q < n → i < w → reaches w f q i ≡ reaches w g q i
    same q i l k = ap₂ ◌&&◌ (every-cong q _ _ (λ p s. every-cong w (f p) (g p) (λ j t. e p j (omega arith) t))) (every-cong i (f q) (g q) (λ j s. e q j l (omega arith)))

-- ---- blocks

module _ (blocks : List ℕ → ℕ) where
  one_more : (n : ℕ) (f : ℕ → List (List ℕ)) → blocks_of blocks (concat_to (suc n) f) ≡ blocks_of blocks (concat_to n f) + blocks_of blocks (f n)
  one_more n f = ap (blocks_of blocks) (concat_to-last n f) ∙ blocks-append blocks (concat_to n f) (f n)

  -- Lists that take at most, or exactly, b blocks each.
  all_most : (n b : ℕ) (f : ℕ → List (List ℕ)) → ((i : ℕ) → i < n → blocks_of blocks (f i) ≤ b) → blocks_of blocks (concat_to n f) ≤ n * b
  unfolding blocks_of
  all_most zero b f h = omega arith
  all_most (suc n) b f h = omega (arith, one_more n f, h n (omega arith), all_most n b f (λ i l. h i (omega arith)), suc-mul n b)

  all-exactly : (n b : ℕ) (f : ℕ → List (List ℕ)) → ((i : ℕ) → i < n → blocks_of blocks (f i) ≡ b) → blocks_of blocks (concat_to n f) ≡ n * b
  unfolding blocks_of
  all-exactly zero b f h = omega arith
  all-exactly (suc n) b f h = omega (arith, one_more n f, h n (omega arith), all-exactly n b f (λ i l. h i (omega arith)), suc-mul n b)

  module _ (w : ℕ) (f : ℕ → ℕ → Bool) (has : ℕ → ℕ → List (List ℕ)) where
    abbrev at : ℕ → ℕ → List (List ℕ)
    at q i = cond (reaches w f q i) (has q i) []

    abbrev row : ℕ → List (List ℕ)
    row q = concat_to w (at q)

    -- The blocks of all that is reached before test i of row q.
    abbrev pub blocks_before : ℕ → ℕ → ℕ
    blocks_before q i = blocks_of blocks (concat_to q row) + blocks_of blocks (concat_to i (at q))

    pub before-first : 0 ≡ blocks_before 0 0
    unfolding blocks_of
    before-first = refl

    here : (q i : ℕ) → reaches w f q i ≡ true → blocks_of blocks (at q i) ≡ blocks_of blocks (has q i)
    here q i r = ap (λ (b : Bool). blocks_of blocks (cond b (has q i) [])) r

    pub before-next : (q i : ℕ) → reaches w f q i ≡ true → blocks_before q i + blocks_of blocks (has q i) ≡ blocks_before q (i + 1)
    before-next q i r = rw (add-one i) (omega (arith, one_more i (at q), here q i r))

    pub before-row : (q i : ℕ) → i ≡ w → blocks_before q i ≡ blocks_before (q + 1) 0
    unfolding blocks_of
    before-row q i e = rw (e, add-one q) (omega (arith, one_more q row))

    pub before-end : (n q : ℕ) → q ≡ n → blocks_before q 0 ≡ blocks_of blocks (reached n w f has)
    unfolding blocks_of
    before-end n q e = rw e (omega arith)

    -- ---- where a test fails nothing behind it is reached

    module _ (q i : ℕ) (inside : i < w) (fails : f q i ≡ false) where
      later-in-row : (j : ℕ) → i < j → at q j ≡ []
      later-in-row j h =
          ap (λ (b : Bool). cond (every q (λ p. every w (f p)) && b) (has q j) []) (sym (every-fails j (f q) i h fails))
          ∙ ap (λ (b : Bool). cond b (has q j) []) (and-false (every q (λ p. every w (f p))))

      later-row : (p : ℕ) → q < p → row p ≡ []
      later-row p h = concat_to-stop w 0 (at p) (omega arith) (λ j l k. ap (λ (b : Bool). cond (b && every j (f p)) (has p j) []) (sym (every-fails p (λ r. every w (f r)) q h (sym (every-fails w (f q) i inside fails)))))

      pub stops : (n : ℕ) → q < n → blocks_before q (i + 1) ≡ blocks_of blocks (reached n w f has)
      stops n h =
          rw (add-one i) (
          ap (λ (t : List (List ℕ)). blocks_of blocks (concat_to q row) + blocks_of blocks t) (sym (concat_to-stop w (suc i) (at q) (omega arith) (λ j l k. later-in-row j (omega arith))))
          ∙ sym (one_more q row)
          ∙ ap (blocks_of blocks) (sym (concat_to-stop n (suc q) row (omega arith) (λ p l k. later-row p (omega arith))))
          )

    -- ---- where each test has b blocks

    module _ (n b : ℕ) (each : (q i : ℕ) → q < n → i < w → blocks_of blocks (has q i) ≡ b) where
      pub reached-most : blocks_of blocks (reached n w f has) ≤ n * w * b
      unfolding blocks_of
      reached-most = omega (arith, all_most n (w * b) row (λ q h. all_most w b (at q) (λ i l. at_most q i h l (reaches w f q i))), mul_assoc n w b)
        where
          at_most : (q i : ℕ) → q < n → i < w → (c : Bool) → blocks_of blocks (cond c (has q i) []) ≤ b
          at_most q i h l true = omega (arith, each q i h l)
          at_most q i h l false = omega arith

      -- The rows before q, all of whose tests pass.
      module _ (q : ℕ) (inside : q ≤ n) (pass : every q (λ p. every w (f p)) ≡ true) where
        passes : (p i : ℕ) → p < q → i < w → f p i ≡ true
        passes p i h l = every_true w (f p) (every_true q (λ r. every w (f r)) pass p h) i l

        reaches_all : (p i : ℕ) → p < q → i < w → reaches w f p i ≡ true
        reaches_all p i h l =
            true-every p (λ r. every w (f r)) (λ r k. true-every w (f r) (λ j g. passes r j (omega arith) g)) & true-every i (f p) (λ j k. passes p j h (omega arith))

        rows-exactly : blocks_of blocks (concat_to q row) ≡ q * (w * b)
        rows-exactly = all-exactly q (w * b) row (λ p h. all-exactly w b (at p) (λ i l. here p i (reaches_all p i h l) ∙ each p i (omega arith) l))

      pub reached-all : every n (λ q. every w (f q)) ≡ true → blocks_of blocks (reached n w f has) ≡ n * w * b
      reached-all pass = omega (arith, rows-exactly n (omega arith) pass, mul_assoc n w b)

      -- Up to and with the first test that fails.
      pub reached-stops : (q i : ℕ) → q < n → i < w → reaches w f q i ≡ true → f q i ≡ false → blocks_of blocks (reached n w f has) ≡ suc (q * w + i) * b
      reached-stops q i h l r fails =
          sym (stops q i l fails n h)
          ∙ sym (before-next q i r)
          ∙ omega (arith, rows-exactly q (omega arith) rows, in_row, each q i h l, add-mul (q * w) i b, mul_assoc q w b, suc-mul (q * w + i) b)
        where
          rows : every q (λ p. every w (f p)) ≡ true
          rows = and_left (every q (λ p. every w (f p))) (every i (f q)) r

          tests : every i (f q) ≡ true
          tests = and_right (every q (λ p. every w (f p))) (every i (f q)) r

          in_row : blocks_of blocks (concat_to i (at q)) ≡ i * b
          in_row = all-exactly i b (at q) (λ j k. here q j (rows & true-every j (f q) (λ p g. every_true i (f q) tests p (omega arith))) ∙ each q j h (omega arith))
