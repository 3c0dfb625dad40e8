-- A loop that writes the numbers of a list xs into a buffer b, one `put` a turn: after i turns the buffer holds the first i
-- numbers, and the rest of it is as it was.
use mathlib.Core.Path.{◌≡◌, refl, sym, ap, ap₂, ◌∙◌}
use mathlib.Core.List.{List, [], ◌∷◌, ◌++◌, append-nil}
use Prim.Native.Nat.{ℕ, ◌+◌, ◌*◌, ◌≤◌, ◌<◌}
use native.Mathlib.Numerals.{add-one}
use native.Mathlib.Omega.{arith}
use lib.ListN.{length, get_or, take, drop, length-append, length-drop, drop_of_length-le}
use lib.Seq.{take_at, drop_at, drop-drop, take-suc, take_all, length-take-le}
use Rattle.numbers.specs.Numbers.{bytes4, bytes}
use Rattle.numbers.proofs.Bytes.{length-bytes, bytes-append}

module _ (xs b : List ℕ) where
  abbrev pub Filling : ℕ → List ℕ → Type 0
  Filling i c = c ≡ bytes (take i xs) ++ drop (4 * i) b

  pub filling-none : Filling 0 b
  unfolding bytes
  filling-none = refl

  module _ (i : ℕ) (c : List ℕ) (r : Filling i c) where
    written : i ≤ length xs → length (bytes (take i xs)) ≡ 4 * i
    written h = length-bytes (take i xs) ∙ ap (λ (n : ℕ). 4 * n) (length-take-le i xs h)

    pub filling-length : i ≤ length xs → 4 * i ≤ length b → length c ≡ length b
    filling-length h k = omega (arith, ap length r, length-append (bytes (take i xs)) (drop (4 * i) b), written h, length-drop (4 * i) b)

    -- `put` writes number i
    pub filling-more : (x : ℕ) (d : List ℕ) → i < length xs → x ≡ get_or xs i 0
        → d ≡ take (4 * i) c ++ bytes4 x ++ drop (4 * i + 4) c → Filling (i + 1) d
    unfolding bytes
    filling-more x d h v e =
        e
        ∙ ap₂ (λ (s t : List ℕ). s ++ bytes4 x ++ t) front back
        ∙ ap₂ (λ (s : List ℕ) (n : ℕ). s ++ drop n b) grown four-on
      where
        four-on : 4 * i + 4 ≡ 4 * (i + 1)
        four-on = omega arith

        h' : i ≤ length xs
        h' = omega arith

        front : take (4 * i) c ≡ bytes (take i xs)
        front = ap (take (4 * i)) r ∙ take_at (bytes (take i xs)) _ _ (written h')

        back : drop (4 * i + 4) c ≡ drop (4 * i + 4) b
        back =
            sym (drop-drop 4 (4 * i) c)
            ∙ ap (λ (s : List ℕ). drop 4 (drop (4 * i) s)) r
            ∙ ap (drop 4) (drop_at (bytes (take i xs)) _ _ (written h'))
            ∙ drop-drop 4 (4 * i) b

        grown : bytes (take i xs) ++ bytes4 x ≡ bytes (take (i + 1) xs)
        grown =
            ap (λ (y : ℕ). bytes (take i xs) ++ bytes4 y) v
            ∙ sym (bytes-append (take i xs) (get_or xs i 0 ∷ []))
            ∙ ap bytes (sym (take-suc xs i 0 h) ∙ ap (λ (n : ℕ). take n xs) (sym (add-one i)))

    pub filling-all : i ≡ length xs → length b ≡ 4 * length xs → c ≡ bytes xs
    filling-all e h =
        r
        ∙ ap₂ (λ (s t : List ℕ). bytes s ++ t) (take_all i xs (omega arith)) (drop_of_length-le b {i = 4 * i} (omega arith))
        ∙ append-nil (bytes xs)
