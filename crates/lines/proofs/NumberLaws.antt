-- Numbers in fields: the digits from an index on, after others that write v, make the number of the whole field.
use mathlib.Core.Path.{◌≡◌, refl, sym, ap₂, ◌∙◌}
use mathlib.Core.Bool.{Bool, true, false, cond, not, ◌&&◌, and-false, and_assoc}
use mathlib.Core.List.{List, [], ◌∷◌}
use Prim.Native.Nat.{ℕ, zero, suc, ◌+◌, ◌-◌, ◌*◌, ◌≤◌, ◌<◌, min}
use native.Mathlib.Nat.{le_refl, le_trans, add-zero}
use native.Mathlib.Numerals.{add-one}
use native.Mathlib.Omega.{arith}
use borrow.Author.Tests.{le-leb, lt-leb, leb-true, eqb-true, eqb-false, ne_eqb}
use lib.Dec.{eqb, leb}
use lib.ListN.{length, get_or}
use Rattle.std.specs.Prelude.{Option, Some, None}
use Rattle.std.proofs.lemmas.List.{nil_from_length}
use Rattle.numbers.proofs.Tests.{and_left, and_right}
use Rattle.lines.specs.declared.number.Number.{Number}
use Rattle.lines.specs.Text.{all_pass, is_digit, decimal, decimal_from}
use Rattle.lines.specs.Cursor.{field_at, field_end, number_at}
use Rattle.lines.proofs.FieldLaws.{ends_field, field-more, end_more, none_here, field-inside, field-first}

-- More digits write no smaller number.
decimal-grows : (v : ℕ) (ds : List ℕ) → v ≤ decimal_from v ds
unfolding decimal_from
decimal-grows v [] = le_refl v
decimal-grows v (d ∷ ds) = le_trans (omega arith) (decimal-grows (10 * v + (d - 48)) ds)

pub digit_low : (d : ℕ) → is_digit d ≡ true → 48 ≤ d
digit_low d e = leb-true 48 d (and_left (leb 48 d) (leb d 57) e)

pub digit-high : (d : ℕ) → is_digit d ≡ true → d ≤ 57
digit-high d e = leb-true d 57 (and_right (leb 48 d) (leb d 57) e)

-- A digit ends no field.
digit-inside : (d : ℕ) → is_digit d ≡ true → ends_field d ≡ false
digit-inside d e = rw (ne_eqb d 9 (λ z. omega (arith, digit_low d e)), ne_eqb d 10 (λ z. omega (arith, digit_low d e)))

-- A number that ends at `end`.
abbrev found : ℕ → ℕ → Option Number
found x end = Some (record { value = x; end = end })

-- The digits of the field at i, after those of v.
abbrev written : ℕ → List ℕ → ℕ → Option Number
written v f end = cond (all_pass is_digit f && leb (decimal_from v f) 4294967295) (found (decimal_from v f) end) None

abbrev pub digits_at : List ℕ → ℕ → ℕ → Option Number
digits_at s v i = written v (field_at s i) (field_end s i)

module _ (s : List ℕ) (v i : ℕ) where
  module _ (h : i < length s) (inside : ends_field (get_or s i 0) ≡ false) where
    digits_more : is_digit (get_or s i 0) ≡ true → digits_at s v i ≡ digits_at s (10 * v + (get_or s i 0 - 48)) (i + 1)
    unfolding all_pass decimal_from
    digits_more e = ap₂ (written v) (field-more s i h inside) (end_more s i h inside) ∙ rw e

    digits-bad : is_digit (get_or s i 0) ≡ false → digits_at s v i ≡ None
    unfolding all_pass
    digits-bad e = rw (field-more s i h inside, e)

  digits-big : 4294967295 < v → digits_at s v i ≡ None
  digits-big h = simp (lt-leb (decimal_from v (field_at s i)) 4294967295 (le_trans h (decimal-grows v (field_at s i))), and-false)

  digits-over : v ≤ 4294967295 → field_at s i ≡ [] → digits_at s v i ≡ found v i
  unfolding all_pass decimal_from
  digits-over h e = rw (e, le-leb v 4294967295 h, add-zero)

-- A field is a number if its digits write one and it has the right form: the count of the digits and the first of them.
abbrev form : ℕ → ℕ → Bool
form count first = leb 1 count && leb count 10 && not (leb 2 count && eqb first 48)

cond-and : (a b : Bool) (x y : Option Number) → cond (a && b) x y ≡ cond a (cond b x y) y
cond-and true b x y = refl
cond-and false b x y = refl

cond_same : (a : Bool) (y : Option Number) → cond a y y ≡ y
cond_same true y = refl
cond_same false y = refl

number-form : (s : List ℕ) (at : ℕ) → number_at s at ≡ cond (form (length (field_at s at)) (get_or (field_at s at) 0 0)) (digits_at s 0 at) None
unfolding number_at
number-form s at =
    let f = field_at s at in
    let right = form (length f) (get_or f 0 0) in
    rw (and_assoc right (all_pass is_digit f) (leb (decimal f) 4294967295)) (cond-and right (all_pass is_digit f && leb (decimal f) 4294967295) (found (decimal f) (field_end s at)) None)

-- No digits, or too large a number.
number-bad : (s : List ℕ) (at : ℕ) → digits_at s 0 at ≡ None → None ≡ number_at s at
number-bad s at e = sym (number-form s at ∙ rw e (cond_same (form (length (field_at s at)) (get_or (field_at s at) 0 0)) None))

-- More than ten digits.
number-long : (s : List ℕ) (at : ℕ) → 10 < length (field_at s at) → None ≡ number_at s at
number-long s at h = sym (number-form s at ∙ simp (lt-leb (length (field_at s at)) 10 h, and-false))

-- The greatest number of n digits.
unfoldable pub greatest : ℕ → ℕ
greatest zero = 0
greatest (suc n) = 10 * greatest n + 9

greatest-grows : (n m : ℕ) → n ≤ m → greatest n ≤ greatest m
unfolding greatest
greatest-grows zero m h = omega arith
greatest-grows (suc n) zero h = absurd (omega arith)
greatest-grows (suc n) (suc m) h = omega (arith, greatest-grows n m (omega arith))

pub greatest-ten : (n : ℕ) → n ≤ 10 → greatest n ≤ 9999999999
unfolding greatest
greatest-ten n h = greatest-grows n 10 h

greatest-more : (n m : ℕ) → m ≡ n + 1 → greatest m ≡ 10 * greatest n + 9
unfolding greatest
greatest-more n m e = rw (e, add-one)

-- The bytes from `at` up to i are digits of the field and write v.
pub record Digits (s : List ℕ) (at v i : ℕ) : Type 0 where
  pub from : at ≤ i
  pub digits : digits_at s 0 at ≡ digits_at s v i
  pub end : field_end s at ≡ field_end s i
  pub small : v ≤ greatest (i - at)

module _ (s : List ℕ) (at v i : ℕ) (r : Digits s at v i) where
  pub digits-next : i < length s → is_digit (get_or s i 0) ≡ true → Digits s at (10 * v + (get_or s i 0 - 48)) (i + 1)
  digits-next h e =
      let inside = digit-inside (get_or s i 0) e in
      record {
        from = omega (arith, r.from);
        digits = r.digits ∙ digits_more s v i h inside e;
        end = r.end ∙ end_more s i h inside;
        small = omega (arith, r.from, r.small, digit-high (get_or s i 0) e, greatest-more (i - at) (i + 1 - at) (omega (arith, r.from)));
      }

  module _ (more : eqb (length (field_at s i)) 0 ≡ false) where
    -- The field goes on with a byte that is no digit.
    pub number-other : i < length s → is_digit (get_or s i 0) ≡ false → None ≡ number_at s at
    number-other h e = number-bad s at (r.digits ∙ digits-bad s v i h (none_here s i h ∙ more) e)

    -- The field goes on behind ten digits, for the text does not end there.
    pub number-longer : i ≤ length s → min (at + 10) (length s) ≤ i → None ≡ number_at s at
    number-longer h l = number-long s at (omega (arith, r.from, r.end, eqb-false (length (field_at s i)) 0 more, field-inside s i h))

  pub number-big : 4294967295 < v → None ≡ number_at s at
  number-big h = number-bad s at (r.digits ∙ digits-big s v i h)

  module _ (over : eqb (length (field_at s i)) 0 ≡ true) where
    count-digits : length (field_at s at) ≡ i - at
    count-digits = omega (arith, r.from, r.end, eqb-true (length (field_at s i)) 0 over)

    pub number-none : i - at ≡ 0 → None ≡ number_at s at
    number-none e = sym (number-form s at ∙ rw (count-digits, e))

    module _ (few : i - at ≤ 10) where
      number-formed : (i - at ≡ 0 → ⊥) → number_at s at ≡ cond (not (leb 2 (i - at) && eqb (get_or s at 0) 48)) (digits_at s 0 at) None
      number-formed some = number-form s at ∙ rw (field-first s at (omega (arith, count-digits)), count-digits, le-leb 1 (i - at) (omega (arith, some)), le-leb (i - at) 10 few)

      pub number-zero : (i - at ≡ 0 → ⊥) → (leb 2 (i - at) && eqb (get_or s at 0) 48) ≡ true → None ≡ number_at s at
      number-zero some z = sym (number-formed some ∙ rw z)

      pub number-good : v ≤ 4294967295 → (i - at ≡ 0 → ⊥) → (leb 2 (i - at) && eqb (get_or s at 0) 48) ≡ false → found v i ≡ number_at s at
      number-good fits some z =
          let read : digits_at s 0 at ≡ found v i = r.digits ∙ digits-over s v i fits (nil_from_length (field_at s i) (eqb-true (length (field_at s i)) 0 over)) in
          sym (number-formed some ∙ rw z read)
