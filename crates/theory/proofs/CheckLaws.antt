-- The laws of checks: an answer is 0 exactly if every check passes; tests that hold over ranges.
use mathlib.Core.Path.{◌≡◌, refl, sym, ◌∙◌, ap, ap₂}
use mathlib.Core.Logic.{◌≢◌}
use mathlib.Core.Bool.{Bool, true, false, ◌&&◌, and-false, false≢true}
use mathlib.Core.List.{List, [], ◌∷◌, ◌++◌}
use Prim.Native.Nat.{ℕ, zero, suc, ◌<◌}
use native.Mathlib.Decide.{ℕ_discrete}
use native.Mathlib.Omega.{arith}
use Rattle.algebra.specs.Lists.{All}
use Rattle.numbers.proofs.Tests.{and_left, and_right, ◌&◌}
use Rattle.theory.specs.Checks.{Check, answer_if, answer, written, every}

-- ---- a test of each number below n
pub every_true : (n : ℕ) (f : ℕ → Bool) → every n f ≡ true → (i : ℕ) → i < n → f i ≡ true
unfolding every
every_true zero f e i h = absurd (omega arith)
every_true (suc n) f e i h = go (ℕ_discrete i n) (every_true n f (and_left (every n f) (f n) e) i)
  where
    go : Dec (i ≡ n) → (i < n → f i ≡ true) → f i ≡ true
    go (yes q) ih = ap f q ∙ and_right (every n f) (f n) e
    go (no q) ih = ih (omega arith)

pub true-every : (n : ℕ) (f : ℕ → Bool) → ((i : ℕ) → i < n → f i ≡ true) → every n f ≡ true
unfolding every
true-every zero f h = refl
true-every (suc n) f h = true-every n f (λ i l. h i (omega arith)) & h n (omega arith)

-- Where one fails.
pub every-fails : (n : ℕ) (f : ℕ → Bool) (i : ℕ) → i < n → f i ≡ false → false ≡ every n f
unfolding every
every-fails zero f i l h = absurd (omega arith)
every-fails (suc n) f i l h = go (ℕ_discrete i n) (λ less. every-fails n f i less h)
  where
    go : Dec (i ≡ n) → (i < n → false ≡ every n f) → false ≡ (every n f && f n)
    go (yes q) ih = sym (ap (λ (b : Bool). every n f && b) (sym (ap f q) ∙ h) ∙ and-false (every n f))
    go (no q) ih = ap (λ (b : Bool). b && f n) (ih (omega arith))

-- Tests that agree.
pub every-cong : (n : ℕ) (f g : ℕ → Bool) → ((i : ℕ) → i < n → f i ≡ g i) → every n f ≡ every n g
unfolding every
every-cong zero f g h = refl
every-cong (suc n) f g h = ap₂ ◌&&◌ (every-cong n f g (λ i l. h i (omega arith))) (h n (omega arith))

pub every_one : (f : ℕ → Bool) → every 1 f ≡ f 0
unfolding every
every_one f = refl

-- ---- answers
-- The check passes.
abbrev pub Passed : Check → Type 0
Passed c = c.passes ≡ true

-- Where the answer is 0, every check passes, as long as no check has the number 0.
pub answer-passed : (cs : List Check) → All (λ c. 0 < c.number) cs → answer cs ≡ 0 → All Passed cs
answer-passed [] n e = tt
answer-passed (c ∷ cs) n e = go c.passes refl (answer-passed cs n.1) e
  where
    go : (b : Bool) → c.passes ≡ b → (answer cs ≡ 0 → All Passed cs) → answer_if b c.number (answer cs) ≡ 0 → (c.passes ≡ true) × All Passed cs
    go true h ih z = (h, ih z)
    go false h ih z = absurd (omega (arith, n.0))

pub passed-answer : (cs : List Check) → All Passed cs → answer cs ≡ 0
passed-answer [] h = refl
passed-answer (c ∷ cs) h = rw h.0 (passed-answer cs h.1)

-- An answer is below what the numbers of all checks are below.
pub answer-below : (b : ℕ) (cs : List Check) → 0 < b → All (λ c. c.number < b) cs → answer cs < b
answer-below b [] some h = some
answer-below b (c ∷ cs) some h = go c.passes (answer-below b cs some h.1)
  where
    go : (p : Bool) → answer cs < b → answer_if p c.number (answer cs) < b
    go true ih = ih
    go false ih = h.0

-- A number is not the answer where every check that has it passes.
pub never-answers : (n : ℕ) (cs : List Check) → 0 < n → All (λ c. c.number ≡ n → Passed c) cs → answer cs ≢ n
never-answers n [] some h = λ e. absurd (omega (arith, e))
never-answers n (c ∷ cs) some h = go c.passes h.0 (never-answers n cs some h.1)
  where
    go : (b : Bool) → (c.number ≡ n → b ≡ true) → answer cs ≢ n → answer_if b c.number (answer cs) ≢ n
    go true t ih = ih
    go false t ih = λ e. absurd (false≢true (t e))

pub passed-split : (cs ds : List Check) → All Passed (cs ++ ds) → All Passed cs × All Passed ds
passed-split [] ds h = (tt, h)
passed-split (c ∷ cs) ds h = let s = passed-split cs ds h.1 in ((h.0, s.0), s.1)

-- A group of checks before others: where it refuses, it gives the answer; where all of it passes, the others do.
pub group-refused : (cs ds : List Check) → answer cs ≢ 0 → answer (cs ++ ds) ≡ answer cs
group-refused [] ds h = absurd (h refl)
group-refused (c ∷ cs) ds h = go c.passes (group-refused cs ds) h
  where
    go : (b : Bool) → (answer cs ≢ 0 → answer (cs ++ ds) ≡ answer cs) → answer_if b c.number (answer cs) ≢ 0
        → answer_if b c.number (answer (cs ++ ds)) ≡ answer_if b c.number (answer cs)
    go true ih n = ih n
    go false ih n = refl

pub group-passed : (cs ds : List Check) → All Passed cs → answer (cs ++ ds) ≡ answer ds
group-passed [] ds h = refl
group-passed (c ∷ cs) ds h = rw h.0 (group-passed cs ds h.1)

-- ---- buffers
pub written-accepted : {a : ℕ} (result before : List ℕ) → a ≡ 0 → written a result before ≡ result
written-accepted result before e = rw e
