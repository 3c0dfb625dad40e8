-- Numbers in decimal: what the library prints is what a listing has, and how many digits there are.
use mathlib.Core.Path.{◌≡◌, refl, sym, ap, ◌∙◌}
use mathlib.Core.Bool.{Bool, true, false}
use mathlib.Core.List.{List, [], ◌∷◌, ◌++◌}
use Prim.Native.Nat.{ℕ, zero, suc, ◌+◌, ◌/◌, ◌%◌, ◌^◌, ◌≤◌, ◌<◌}
use native.Mathlib.Nat.{pow-suc}
use native.Mathlib.Omega.{arith}
use borrow.Author.Tests.{ltb-true, ltb-false, lt-ltb, le-ltb}
use lib.Dec.{ltb}
use lib.ListN.{length}
use Rattle.std.specs.Fmt.{decimal}
use Rattle.std.proofs.lemmas.Fmt.{decimal_digit, decimal_step, length-decimal-le}
use Rattle.lines.specs.LineWriting.{last_digits, write_number}

-- A number below 10 has one digit.
one-digit : (count x : ℕ) → x < 10 → last_digits (suc count) x ≡ (48 + x) ∷ []
unfolding last_digits
one-digit count x h = rw (lt-ltb x 10 h)

-- Behind the digits of x / 10 stands x % 10.
last-digit : (count x : ℕ) → 10 ≤ x → last_digits (suc count) x ≡ last_digits count (x / 10) ++ ((48 + x % 10) ∷ [])
unfolding last_digits
last-digit count x h = rw (le-ltb x 10 h)

-- The library's digits.
printed : (count x : ℕ) → x < 10 ^ suc count → x < 2 ^ 64 → decimal x ≡ last_digits (suc count) x
printed zero x h fits = decimal_digit x (omega arith) ∙ sym (one-digit 0 x (omega arith))
printed (suc count) x h fits = go (ltb x 10) refl (printed count (x / 10) (omega (arith, pow-suc 10 (suc count))) (omega arith))
  where
    go : (b : Bool) → ltb x 10 ≡ b → decimal (x / 10) ≡ last_digits (suc count) (x / 10) → decimal x ≡ last_digits (suc (suc count)) x
    go true e ih =
        let small = ltb-true x 10 e in
        decimal_digit x small ∙ sym (one-digit (suc count) x small)
    go false e ih =
        let large = ltb-false x 10 e in
        decimal_step x large fits ∙ ap (λ (ds : List ℕ). ds ++ ((48 + x % 10) ∷ [])) ih ∙ sym (last-digit (suc count) x large)

pub number-printed : (x : ℕ) → x < 2 ^ 32 → decimal x ≡ write_number x
number-printed x h = printed 9 x (omega arith) (omega arith)

-- At most so many digits.
few : (count x : ℕ) → 0 < count → x < 10 ^ count → x < 2 ^ 32 → length (write_number x) ≤ count
few count x some h fits = rw (← number-printed x fits) (length-decimal-le count x some h (omega arith))

pub write-few : (x : ℕ) → x < 2 ^ 32 → length (write_number x) ≤ 10
write-few x h = few 10 x (omega arith) (omega arith) h

pub write_two : (x : ℕ) → x < 100 → length (write_number x) ≤ 2
write_two x h = few 2 x (omega arith) (omega arith) (omega arith)
