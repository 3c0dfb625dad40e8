-- From numbers to bytes and back.
use mathlib.Core.Path.{◌≡◌, refl, sym, ap, ap₂, ◌∙◌}
use mathlib.Core.List.{List, [], ◌∷◌, ◌++◌}
use Prim.Native.Nat.{ℕ, zero, suc, ◌+◌, ◌*◌, ◌/◌, ◌%◌, ◌^◌, ◌≤◌, ◌<◌}
use native.Mathlib.Nat.{div-div-eq-div-mul}
use native.Mathlib.Omega.{arith}
use lib.ListN.{length, get_or, take, drop}
use Rattle.numbers.specs.Numbers.{number4, numbers, bytes4, bytes}
use Rattle.numbers.proofs.Bounds.{Below}

-- ---- lengths and places
pub count-numbers : (b : List ℕ) → length (numbers b) ≡ length b / 4
unfolding numbers
count-numbers [] = refl
count-numbers (a ∷ []) = refl
count-numbers (a ∷ b ∷ []) = refl
count-numbers (a ∷ b ∷ c ∷ []) = refl
count-numbers (a ∷ b ∷ c ∷ d ∷ r) = omega (arith, count-numbers r)

pub length-numbers : (n : ℕ) (b : List ℕ) → length b ≡ 4 * n → length (numbers b) ≡ n
length-numbers n b h = omega (arith, count-numbers b)

-- number i is made of the bytes from 4 * i
pub number_at : (i : ℕ) (b : List ℕ) → 4 * i + 4 ≤ length b
    → get_or (numbers b) i 0 ≡ number4 (get_or b (4 * i) 0) (get_or b (4 * i + 1) 0) (get_or b (4 * i + 2) 0) (get_or b (4 * i + 3) 0)
unfolding numbers
number_at i [] h = omega arith
number_at i (a ∷ []) h = omega arith
number_at i (a ∷ b ∷ []) h = omega arith
number_at i (a ∷ b ∷ c ∷ []) h = omega arith
number_at zero (a ∷ b ∷ c ∷ d ∷ r) h = refl
number_at (suc i) (a ∷ b ∷ c ∷ d ∷ r) h =
    let e₀ : 4 * suc i ≡ suc (suc (suc (suc (4 * i)))) = omega arith in
    let e₁ : 4 * suc i + 1 ≡ suc (suc (suc (suc (4 * i + 1)))) = omega arith in
    let e₂ : 4 * suc i + 2 ≡ suc (suc (suc (suc (4 * i + 2)))) = omega arith in
    let e₃ : 4 * suc i + 3 ≡ suc (suc (suc (suc (4 * i + 3)))) = omega arith in
    rw (e₁, e₂, e₃, e₀) (number_at i r (omega arith))

-- the numbers from i on stand in the bytes from 4 * i on
pub numbers-drop : (i : ℕ) (b : List ℕ) → 4 * i ≤ length b → numbers (drop (4 * i) b) ≡ drop i (numbers b)
unfolding numbers
numbers-drop zero b h = refl
numbers-drop (suc i) [] h = absurd (omega arith)
numbers-drop (suc i) (a ∷ []) h = absurd (omega arith)
numbers-drop (suc i) (a ∷ b ∷ []) h = absurd (omega arith)
numbers-drop (suc i) (a ∷ b ∷ c ∷ []) h = absurd (omega arith)
numbers-drop (suc i) (a ∷ b ∷ c ∷ d ∷ r) h =
    let e : 4 * suc i ≡ suc (suc (suc (suc (4 * i)))) = omega arith in
    rw e (numbers-drop i r (omega arith))

pub numbers-take : (n : ℕ) (b : List ℕ) → 4 * n ≤ length b → numbers (take (4 * n) b) ≡ take n (numbers b)
unfolding numbers
numbers-take zero b h = refl
numbers-take (suc n) [] h = absurd (omega arith)
numbers-take (suc n) (a ∷ []) h = absurd (omega arith)
numbers-take (suc n) (a ∷ b ∷ []) h = absurd (omega arith)
numbers-take (suc n) (a ∷ b ∷ c ∷ []) h = absurd (omega arith)
numbers-take (suc n) (a ∷ b ∷ c ∷ d ∷ r) h =
    let e : 4 * suc n ≡ suc (suc (suc (suc (4 * n)))) = omega arith in
    rw e (ap (λ (t : List ℕ). number4 a b c d ∷ t) (numbers-take n r (omega arith)))

pub length-bytes : (xs : List ℕ) → length (bytes xs) ≡ 4 * length xs
unfolding bytes
length-bytes [] = refl
length-bytes (x ∷ xs) = omega (arith, length-bytes xs)

pub bytes-append : (xs ys : List ℕ) → bytes (xs ++ ys) ≡ bytes xs ++ bytes ys
unfolding bytes
bytes-append [] ys = refl
bytes-append (x ∷ xs) ys = ap (λ r. bytes4 x ++ r) (bytes-append xs ys)

-- ---- one number
digits : (x : ℕ) → x < 2 ^ 32 → number4 (x % 256) (x / 256 % 256) (x / 256 / 256 % 256) (x / 256 / 256 / 256 % 256) ≡ x
digits x h = omega arith

second-byte : (x : ℕ) → x / 65536 ≡ x / 256 / 256
second-byte x = sym (div-div-eq-div-mul x 256 256)

third-byte : (x : ℕ) → x / 16777216 ≡ x / 256 / 256 / 256
third-byte x = sym (div-div-eq-div-mul x 65536 256) ∙ ap (λ (q : ℕ). q / 256) (second-byte x)

-- the four bytes of a number below 2 ^ 32 make the number again
pub number4-bytes4 : (x : ℕ) → x < 2 ^ 32 → number4 (x % 256) (x / 256 % 256) (x / 65536 % 256) (x / 16777216 % 256) ≡ x
number4-bytes4 x h = rw (second-byte x, third-byte x) (digits x h)

pub bytes4-injective : (x y : ℕ) → x < 2 ^ 32 → y < 2 ^ 32 → bytes4 x ≡ bytes4 y → x ≡ y
bytes4-injective x y hx hy e = sym (number4-bytes4 x hx) ∙ ap value e ∙ number4-bytes4 y hy
  where
    value : List ℕ → ℕ
    value b = number4 (get_or b 0 0) (get_or b 1 0) (get_or b 2 0) (get_or b 3 0)

-- four bytes are those of the number that they make
carry : (a r : ℕ) → a < 256 → ((a + 256 * r) % 256 ≡ a) × ((a + 256 * r) / 256 ≡ r)
carry a r h = (omega arith, omega arith)

pub bytes4-number4 : (a b c d : ℕ) → a < 256 → b < 256 → c < 256 → d < 256 → bytes4 (number4 a b c d) ≡ a ∷ b ∷ c ∷ d ∷ []
bytes4-number4 a b c d ha hb hc hd = rw (second-byte x, third-byte x, nested, first, (carry b _ hb).1, (carry c d hc).1) (four (carry a _ ha).0 (carry b _ hb).0 (carry c d hc).0 (omega arith))
  where
    x : ℕ
    x = number4 a b c d

    nested : x ≡ a + 256 * (b + 256 * (c + 256 * d))
    nested = omega arith

    first : (a + 256 * (b + 256 * (c + 256 * d))) / 256 ≡ b + 256 * (c + 256 * d)
    first = (carry a _ ha).1

    four : {a' b' c' d' : ℕ} → a' ≡ a → b' ≡ b → c' ≡ c → d' ≡ d → a' ∷ b' ∷ c' ∷ d' ∷ [] ≡ a ∷ b ∷ c ∷ d ∷ []
    four ea eb ec ed = cc

-- ---- lists of numbers
pub numbers-bytes : (xs : List ℕ) → Below (2 ^ 32) xs → numbers (bytes xs) ≡ xs
unfolding numbers bytes
numbers-bytes [] h = refl
numbers-bytes (x ∷ xs) h = ap₂ ◌∷◌ (number4-bytes4 x (h 0 (omega arith))) (numbers-bytes xs (λ i l. h (suc i) (omega arith)))

pub bytes-numbers : (n : ℕ) (b : List ℕ) → length b ≡ 4 * n → Below 256 b → bytes (numbers b) ≡ b
unfolding numbers bytes
bytes-numbers n [] l h = refl
bytes-numbers n (a ∷ []) l h = absurd (omega arith)
bytes-numbers n (a ∷ b ∷ []) l h = absurd (omega arith)
bytes-numbers n (a ∷ b ∷ c ∷ []) l h = absurd (omega arith)
bytes-numbers zero (a ∷ b ∷ c ∷ d ∷ r) l h = absurd (omega arith)
bytes-numbers (suc n) (a ∷ b ∷ c ∷ d ∷ r) l h =
    ap₂ ◌++◌
    (bytes4-number4 a b c d (h 0 (omega arith)) (h 1 (omega arith)) (h 2 (omega arith)) (h 3 (omega arith)))
    (bytes-numbers n r (omega arith) (λ i m. h (suc (suc (suc (suc i)))) (omega arith)))

-- of one number
bytes_one : (xs : List ℕ) → length xs ≡ 1 → bytes4 (get_or xs 0 0) ≡ bytes xs
unfolding bytes
bytes_one [] l = absurd (omega arith)
bytes_one (x ∷ []) l = refl
bytes_one (x ∷ y ∷ xs) l = absurd (omega arith)

pub bytes4-numbers : (b : List ℕ) → length b ≡ 4 → Below 256 b → bytes4 (get_or (numbers b) 0 0) ≡ b
bytes4-numbers b l h = bytes_one (numbers b) (length-numbers 1 b l) ∙ bytes-numbers 1 b l h
