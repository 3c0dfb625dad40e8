-- Numbers and roots as they are written: they are read back, and no byte of them is a tab or a line's end.
use mathlib.Core.Path.{◌≡◌, refl, ap, ap₂, ◌∙◌}
use mathlib.Core.Bool.{Bool, true, false, cond, not, and-false}
use mathlib.Core.List.{List, [], ◌∷◌, ◌++◌}
use Prim.Native.Nat.{ℕ, zero, suc, ◌+◌, ◌-◌, ◌*◌, ◌/◌, ◌%◌, ◌^◌, ◌≤◌, ◌<◌}
use native.Mathlib.Omega.{arith}
use borrow.Author.Tests.{le-leb, lt-leb, eq-eqb, ne_eqb, lt-ltb, leb-true, ltb-true, ltb-false}
use lib.Dec.{leb, ltb}
use lib.ListN.{length, get_or, length-append, get_or-append}
use Rattle.algebra.specs.Lists.{All}
use Rattle.numbers.proofs.Tests.{◌&◌, and_left, and_right}
use Rattle.lines.specs.Text.{all_pass, is_digit, decimal_from, decimal, needless_zero, is_number, is_hex_digit, hex_value, is_root, hex_bytes}
use Rattle.lines.specs.LineWriting.{last_digits, write_number, hex_digit, write_hex}
use Rattle.scan.proofs.SheetLaws.{all_pass-append}

-- ---- numbers

-- One more digit behind others.
decimal-more : (v : ℕ) (ds : List ℕ) (d : ℕ) → decimal_from v (ds ++ (d ∷ [])) ≡ 10 * decimal_from v ds + (d - 48)
unfolding decimal_from
decimal-more v [] d = refl
decimal-more v (x ∷ xs) d = decimal-more (10 * v + (x - 48)) xs d

-- The digits of x, at most `count`: the first is no 0 where x is not, and it is the only one where x is below 10.
record Digits (count x : ℕ) (ds : List ℕ) : Type 0 where
  some : 1 ≤ length ds
  few : length ds ≤ count
  all : all_pass is_digit ds ≡ true
  value : decimal ds ≡ x
  leading : 1 ≤ x → 48 < get_or ds 0 0
  alone : x < 10 → length ds ≡ 1

one-digit : (count x : ℕ) → x < 10 → Digits (suc count) x ((48 + x) ∷ [])
unfolding all_pass decimal_from
one-digit count x h = record {
  some = omega arith;
  few = omega arith;
  all = le-leb 48 (48 + x) (omega arith) & le-leb (48 + x) 57 (omega arith) & refl;
  value = omega arith;
  leading = omega arith;
  alone = λ l. refl;
}

more-digits : (count x : ℕ) (ds : List ℕ) → 10 ≤ x → Digits count (x / 10) ds → Digits (suc count) x (ds ++ ((48 + x % 10) ∷ []))
unfolding all_pass
more-digits count x ds h d =
    let size = length-append ds ((48 + x % 10) ∷ []) in
    record {
      some = omega (arith, d.some);
      few = omega (arith, d.few);
      all = all_pass-append is_digit ds ((48 + x % 10) ∷ []) ∙ (d.all & (le-leb 48 (48 + x % 10) (omega arith) & le-leb (48 + x % 10) 57 (omega arith) & refl));
      value = decimal-more 0 ds (48 + x % 10) ∙ omega (arith, d.value);
      leading = λ l. rw (get_or-append ds ((48 + x % 10) ∷ []) 0 0 d.some) (d.leading (omega arith));
      alone = λ l. absurd (omega arith);
    }

digits : (count x : ℕ) → x < 10 ^ suc count → Digits (suc count) x (last_digits (suc count) x)
unfolding last_digits
digits zero x h = rw (lt-ltb x 10 (omega arith)) (one-digit 0 x (omega arith))
digits (suc count) x h = go (ltb x 10) refl (digits count (x / 10))
  where
    go : (b : Bool) → ltb x 10 ≡ b → (x / 10 < 10 ^ suc count → Digits (suc count) (x / 10) (last_digits (suc count) (x / 10)))
        → Digits (suc (suc count)) x (cond b ((48 + x) ∷ []) (last_digits (suc count) (x / 10) ++ ((48 + x % 10) ∷ [])))
    go true e ih = one-digit (suc count) x (ltb-true x 10 e)
    go false e ih = more-digits (suc count) x (last_digits (suc count) (x / 10)) (ltb-false x 10 e) (ih (omega arith))

written-digits : (x : ℕ) → x ≤ 4294967295 → Digits 10 x (write_number x)
written-digits x h = digits 9 x (omega arith)

pub decimal-written : (x : ℕ) → x ≤ 4294967295 → decimal (write_number x) ≡ x
decimal-written x h = (written-digits x h).value

no-needless-zero : (x : ℕ) (ds : List ℕ) → Digits 10 x ds → not (needless_zero ds) ≡ true
no-needless-zero x ds d = go (ltb x 10) refl
  where
    go : (b : Bool) → ltb x 10 ≡ b → not (needless_zero ds) ≡ true
    go true e = rw (d.alone (ltb-true x 10 e))
    go false e =
        let l : 10 ≤ x = ltb-false x 10 e in
        let f : 48 < get_or ds 0 0 = d.leading (omega arith) in
        rw (ne_eqb (get_or ds 0 0) 48 (omega arith)) (ap not (and-false (leb 2 (length ds))))

pub number-written : (x : ℕ) → x ≤ 4294967295 → is_number (write_number x) ≡ true
number-written x h =
    let d = written-digits x h in
    le-leb 1 (length (write_number x)) d.some & le-leb (length (write_number x)) 10 d.few & no-needless-zero x (write_number x) d & d.all
    & rw d.value (le-leb x 4294967295 h)

-- Bytes above those of a tab and a line's end.
abbrev pub Plain : List ℕ → Type 0
Plain f = All (λ x. 10 < x) f

plain-digits : (ds : List ℕ) → all_pass is_digit ds ≡ true → Plain ds
unfolding all_pass
plain-digits [] h = tt
plain-digits (d ∷ ds) h =
    let l = leb-true 48 d (and_left (leb 48 d) (leb d 57) (and_left (is_digit d) (all_pass is_digit ds) h)) in
    (omega arith, plain-digits ds (and_right (is_digit d) (all_pass is_digit ds) h))

pub plain-number : (x : ℕ) → x ≤ 4294967295 → Plain (write_number x)
plain-number x h = plain-digits (write_number x) (written-digits x h).all

-- ---- roots

-- The hexadecimal digit d of v.
record HexDigit (v d : ℕ) : Type 0 where
  valid : is_hex_digit d ≡ true
  value : hex_value d ≡ v
  plain : 10 < d

hex-digit : (v : ℕ) → v < 16 → HexDigit v (hex_digit v)
hex-digit v h = go (ltb v 10) refl
  where
    go : (b : Bool) → ltb v 10 ≡ b → HexDigit v (cond b (48 + v) (87 + v))
    go true e =
        let l : v < 10 = ltb-true v 10 e in
        let d : is_digit (48 + v) ≡ true = le-leb 48 (48 + v) (omega arith) & le-leb (48 + v) 57 (omega arith) in
        record { valid = rw d; value = rw d (omega arith); plain = omega arith }
    go false e =
        let l : 10 ≤ v = ltb-false v 10 e in
        let d : is_digit (87 + v) ≡ false = rw (lt-leb (87 + v) 57 (omega arith)) (and-false (leb 48 (87 + v))) in
        record {
          valid = rw d (le-leb 97 (87 + v) (omega arith) & le-leb (87 + v) 102 (omega arith));
          value = rw d (omega arith);
          plain = omega arith;
        }

-- The digits ds of the bytes r.
record Hex (r ds : List ℕ) : Type 0 where
  size : length ds ≡ 2 * length r
  all : all_pass is_hex_digit ds ≡ true
  value : hex_bytes ds ≡ r
  plain : Plain ds

written-hex : (r : List ℕ) → All (λ x. x < 256) r → Hex r (write_hex r)
unfolding write_hex hex_bytes all_pass
written-hex [] h = record { size = refl; all = refl; value = refl; plain = tt }
written-hex (x ∷ xs) h =
    let rest = written-hex xs h.1 in
    let l : x < 256 = h.0 in
    let high = hex-digit (x / 16) (omega arith) in
    let low = hex-digit (x % 16) (omega arith) in
    let byte : 16 * (x / 16) + x % 16 ≡ x = omega arith in
    record {
      size = omega (arith, rest.size);
      all = high.valid & (low.valid & rest.all);
      value = ap₂ ◌∷◌ (rw (high.value, low.value) byte) rest.value;
      plain = (high.plain, (low.plain, rest.plain));
    }

pub root-written : (r : List ℕ) → length r ≡ 32 → All (λ x. x < 256) r → is_root (write_hex r) ≡ true
root-written r size h = eq-eqb (length (write_hex r)) 64 (omega (arith, (written-hex r h).size)) & (written-hex r h).all

pub bytes-written : (r : List ℕ) → All (λ x. x < 256) r → hex_bytes (write_hex r) ≡ r
bytes-written r h = (written-hex r h).value

pub plain-root : (r : List ℕ) → All (λ x. x < 256) r → Plain (write_hex r)
plain-root r h = (written-hex r h).plain
