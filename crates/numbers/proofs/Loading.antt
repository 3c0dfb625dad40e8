-- A loop that fills a list with the entries of another, from the front: after i turns the first i entries agree.
use mathlib.Core.Path.{◌≡◌, sym, ap, ap₂, ◌∙◌}
use mathlib.Core.List.{List, [], ◌∷◌, ◌++◌}
use Prim.Native.Nat.{ℕ, ◌+◌, ◌<◌}
use native.Mathlib.Numerals.{add-one}
use lib.ListN.{length, get_or, take, set}
use lib.Seq.{take-suc, take-suc-set, take_all}
use native.Mathlib.Omega.{arith}

pub loaded-more : (xs out : List ℕ) (i v : ℕ) → i < length out → i < length xs → take i out ≡ take i xs → v ≡ get_or xs i 0
    → take (i + 1) (set out i v) ≡ take (i + 1) xs
loaded-more xs out i v h k e w =
    ap (λ (n : ℕ). take n (set out i v)) (add-one i)
    ∙ take-suc-set out i v h
    ∙ ap₂ (λ (s : List ℕ) (y : ℕ). s ++ (y ∷ [])) e w
    ∙ sym (take-suc xs i 0 k)
    ∙ ap (λ (n : ℕ). take n xs) (sym (add-one i))

pub loaded-all : (xs out : List ℕ) (i : ℕ) → length out ≡ i → length xs ≡ i → take i out ≡ take i xs → out ≡ xs
loaded-all xs out i h k e = sym (take_all i out (omega arith)) ∙ e ∙ take_all i xs (omega arith)
