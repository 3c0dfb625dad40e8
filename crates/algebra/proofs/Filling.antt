-- A loop that fills a list from the front with f 0, f 1, .., one store a turn.
use mathlib.Core.Path.{◌≡◌, sym, ap, ◌∙◌}
use Prim.Native.Nat.{ℕ, ◌+◌, ◌<◌}
use native.Mathlib.Decide.{ℕ_discrete}
use native.Mathlib.Omega.{arith}
use mathlib.Core.List.{List}
use lib.ListN.{length, get_or, set}
use lib.Seq.{get_or-set_same, get_or-set_other, ext_get_or}
use Rattle.algebra.specs.Lists.{build}
use Rattle.algebra.proofs.ListLaws.{length-build, get_or-build}

module _ (f : ℕ → ℕ) where
  -- The first i entries are filled.
  abbrev pub Filled : ℕ → List ℕ → Type 0
  Filled i xs = (k : ℕ) → k < i → get_or xs k 0 ≡ f k

  pub filled_none : (xs : List ℕ) → Filled 0 xs
  filled_none xs k h = absurd (omega arith)

  pub filled_more : (i : ℕ) (xs : List ℕ) (x : ℕ) → i < length xs → Filled i xs → x ≡ f i → Filled (i + 1) (set xs i x)
  filled_more i xs x h r e k l = go (ℕ_discrete k i)
    where
      go : Dec (k ≡ i) → get_or (set xs i x) k 0 ≡ f k
      go (yes q) = ap (λ (n : ℕ). get_or (set xs i x) n 0) q ∙ get_or-set_same xs i x 0 h ∙ e ∙ ap f (sym q)
      go (no q) = get_or-set_other xs i k x 0 q ∙ r k (omega arith)

  pub filled-all : (i n : ℕ) (xs : List ℕ) → i ≡ n → length xs ≡ n → Filled i xs → xs ≡ build n f
  filled-all i n xs e l r = ext_get_or 0 xs (build n f) (l ∙ sym (length-build n f)) (λ k h. r k (omega arith) ∙ sym (get_or-build n f k 0 (omega arith)))
