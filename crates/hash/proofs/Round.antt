-- The rounds so far.
-- Assumes nothing.
use Rattle.std.proofs.Common.{◌≡◌, ℕ, zero, suc, ◌+◌, ◌-◌, ◌<◌, ◌≤◌, List, length, get_or, take, drop, sym, refl, ap, ◌∙◌, add-zero, add-suc, add-one, arith, length-drop, length-take-le, get_or-drop, get_or-take}
use Rattle.hash.specs.Sha256.{round_with, rounds}

-- s is what t rounds leave, and n what the next one leaves of s
pub one-round : (k w h s n : List ℕ) (t : ℕ) → s ≡ rounds k w h t → n ≡ round_with (get_or k t 0) (get_or w t 0) s → n ≡ rounds k w h (t + 1)
unfolding rounds
one-round k w h s n t e p = rw (add-one t) (p ∙ ap (round_with (get_or k t 0) (get_or w t 0)) e)

-- t rounds look at the first t constants and words alone
pub rounds-ext : (k k' w w' s : List ℕ) (t : ℕ) → ((i : ℕ) → i < t → get_or k i 0 ≡ get_or k' i 0) → ((i : ℕ) → i < t → get_or w i 0 ≡ get_or w' i 0)
    → rounds k w s t ≡ rounds k' w' s t
unfolding rounds
rounds-ext k k' w w' s zero f g = refl
rounds-ext k k' w w' s (suc t) f g =
    λ j. round_with (f t (omega arith) j) (g t (omega arith) j) (rounds-ext k k' w w' s t (λ i h. f i (omega arith)) (λ i h. g i (omega arith)) j)

-- t rounds, and n more with the constants and words past them
rounds-on : (k w s : List ℕ) (t n : ℕ) → rounds (drop t k) (drop t w) (rounds k w s t) n ≡ rounds k w s (t + n)
unfolding rounds
rounds-on k w s t zero = ap (rounds k w s) (sym (add-zero t))
rounds-on k w s t (suc n) =
    (λ j. round_with (get_or-drop t k n 0 j) (get_or-drop t w n 0 j) (rounds-on k w s t n j)) ∙ ap (rounds k w s) (sym (add-suc t n))

-- s is what t rounds leave, and r what n more leave of s, with the constants and words from t on
pub more-rounds : (k w h k' w' s r : List ℕ) (t n : ℕ) → s ≡ rounds k w h t → ((i : ℕ) → i < n → get_or k' i 0 ≡ get_or k (t + i) 0)
    → ((i : ℕ) → i < n → get_or w' i 0 ≡ get_or w (t + i) 0) → r ≡ rounds k' w' s n → r ≡ rounds k w h (t + n)
more-rounds k w h k' w' s r t n e f g p =
    p
    ∙ rounds-ext k' (drop t k) w' (drop t w) s n (λ i l. f i l ∙ sym (get_or-drop t k i 0)) (λ i l. g i l ∙ sym (get_or-drop t w i 0))
    ∙ ap (λ (x : List ℕ). rounds (drop t k) (drop t w) x n) e
    ∙ rounds-on k w h t n

-- the n entries from t on, as the code's slices have them
abbrev pub part : ℕ → ℕ → List ℕ → List ℕ
part t n xs = take (t + n - t) (drop t xs)

pub length_part : (t n : ℕ) (xs : List ℕ) → t + n ≤ length xs → length (part t n xs) ≡ n
length_part t n xs h = length-take-le (t + n - t) (drop t xs) (omega (arith, length-drop t xs)) ∙ omega arith

pub get_or-part : (t n : ℕ) (xs : List ℕ) (i : ℕ) → i < n → get_or (part t n xs) i 0 ≡ get_or xs (t + i) 0
get_or-part t n xs i h = get_or-take (t + n - t) (drop t xs) i 0 (omega arith) ∙ get_or-drop t xs i 0
