-- The checking order (paper 01): a call answers with the number of the first check that fails, and with 0 where none does.
use Rattle.std.specs.Prelude.{Bool, true, false, cond, ◌&&◌, List, [], ◌∷◌, ℕ, zero, suc}
use Rattle.algebra.specs.Lists.{concat_to}

-- A check: its number, and whether the input passes it.
pub record Check : Type 0 where
  pub number : ℕ
  pub passes : Bool

abbrev pub check : ℕ → Bool → Check
check n b = record { number = n; passes = b }

-- The number n where the check fails, and else what the next checks say.
abbrev pub answer_if : Bool → ℕ → ℕ → ℕ
answer_if true n next = next
answer_if false n next = n

-- The number of the first check that fails, or 0.
abbrev pub answer : List Check → ℕ
answer [] = 0
answer (c ∷ cs) = answer_if c.passes c.number (answer cs)

-- What an output buffer holds after a call: the result where the answer is 0, and else what it held at the call.
abbrev pub written : ℕ → List ℕ → List ℕ → List ℕ
written zero result before = result
written (suc n) result before = before

-- Whether f holds of each number below n.
unfoldable pub every : ℕ → (ℕ → Bool) → Bool
every zero f = true
every (suc n) f = every n f && f n

-- Tests f that stand in rows of w are made row by row, up to and with the first that fails: test i of row q is reached where each one
-- before it passes.
abbrev pub reaches : ℕ → (ℕ → ℕ → Bool) → ℕ → ℕ → Bool
reaches w f q i = every q (λ p. every w (f p)) && every i (f q)

-- What n rows of tests that are reached have, one after the other.
abbrev pub reached : {A : Type 0} → ℕ → ℕ → (ℕ → ℕ → Bool) → (ℕ → ℕ → List A) → List A
reached n w f has = concat_to n (λ q. concat_to w (λ i. cond (reaches w f q i) (has q i) []))
