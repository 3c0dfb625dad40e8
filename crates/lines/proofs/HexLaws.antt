-- Roots in fields: the digits from an index on, after n others, make a root exactly if the whole field is one.
use mathlib.Core.Path.{◌≡◌, refl, sym, subst, ap₂, ◌∙◌}
use mathlib.Core.Bool.{Bool, true, false, ◌&&◌, and-false}
use mathlib.Core.List.{List, [], ◌∷◌, ◌++◌, append_assoc, append-nil}
use Prim.Native.Nat.{ℕ, ◌+◌, ◌-◌, ◌*◌, ◌≤◌, ◌<◌}
use native.Mathlib.Nat.{add-zero, zero-add}
use native.Mathlib.Numerals.{add-one}
use native.Mathlib.Omega.{arith}
use borrow.Author.Tests.{leb-true, lt-leb, eqb-true, eqb-false, ne_eqb}
use lib.Dec.{eqb, leb}
use lib.ListN.{length, get_or, take, set}
use lib.Seq.{take-suc-set, take_all}
use Rattle.std.specs.Prelude.{Some, None}
use Rattle.std.proofs.lemmas.List.{nil_from_length}
use Rattle.numbers.proofs.Tests.{and_left, and_right}
use Rattle.lines.specs.Text.{all_pass, is_digit, is_hex_digit, hex_value, is_root, hex_bytes}
use Rattle.lines.specs.Cursor.{field_at, root_at}
use Rattle.lines.proofs.NumberLaws.{digit_low, digit-high}
use Rattle.lines.proofs.FieldLaws.{ends_field, field-more, field-stops, field-inside}

-- ---- digits

module _ (d : ℕ) (h : is_hex_digit d ≡ true) where
  -- A digit that is none of 0 to 9 is one of a to f.
  pub letter : is_digit d ≡ false → (97 ≤ d) × (d ≤ 102)
  letter e =
      let l : (leb 97 d && leb d 102) ≡ true = rw e at h in
      (leb-true 97 d (and_left (leb 97 d) (leb d 102) l), leb-true d 102 (and_right (leb 97 d) (leb d 102) l))

  pub low_digit : d ≤ 57 → is_digit d ≡ true
  low_digit l = go (is_digit d) refl
    where
      go : (t : Bool) → is_digit d ≡ t → is_digit d ≡ true
      go true e = e
      go false e = absurd (omega (arith, letter e))

  pub high_digit : 57 < d → is_digit d ≡ false
  high_digit l = simp (lt-leb d 57 l, and-false)

  -- Its value is below 16.
  hex-small : hex_value d ≤ 15
  hex-small = go (is_digit d) refl
    where
      go : (t : Bool) → is_digit d ≡ t → hex_value d ≤ 15
      go true e = rw e (omega (arith, digit-high d e))
      go false e = rw e (omega (arith, letter e))

  -- It ends no field.
  hex-inside : ends_field d ≡ false
  hex-inside = go (is_digit d) refl
    where
      apart : 47 < d → ends_field d ≡ false
      apart l = rw (ne_eqb d 9 (λ z. omega arith), ne_eqb d 10 (λ z. omega arith))

      go : (t : Bool) → is_digit d ≡ t → ends_field d ≡ false
      go true e = apart (digit_low d e)
      go false e = apart (omega (arith, letter e))

-- ---- the field from j on, after n digits

abbrev pub rest_is_root : List ℕ → ℕ → ℕ → Bool
rest_is_root s j n = eqb (n + length (field_at s j)) 64 && all_pass is_hex_digit (field_at s j)

module _ (s : List ℕ) (j n : ℕ) where
  module _ (h : j < length s) where
    rest_more : is_hex_digit (get_or s j 0) ≡ true → rest_is_root s j n ≡ rest_is_root s (j + 1) (n + 1)
    unfolding all_pass
    rest_more e =
        let count : n + length (get_or s j 0 ∷ field_at s (j + 1)) ≡ n + 1 + length (field_at s (j + 1)) = omega arith in
        rw (field-more s j h (hex-inside (get_or s j 0) e), e, count)

    rest-stops : (t : Bool) → ends_field (get_or s j 0) ≡ t → n < 64 → is_hex_digit (get_or s j 0) ≡ false → rest_is_root s j n ≡ false
    unfolding all_pass
    rest-stops true o l e = rw (field-stops s j h o, ne_eqb (n + length {A = ℕ} []) 64 (λ z. omega arith))
    rest-stops false o l e = rw (field-more s j h o, e) (simp and-false)

  rest-long : n ≡ 64 → eqb (length (field_at s j)) 0 ≡ false → rest_is_root s j n ≡ false
  rest-long e o =
      let some : length (field_at s j) ≡ 0 → ⊥ = eqb-false (length (field_at s j)) 0 o in
      rw (ne_eqb (n + length (field_at s j)) 64 (λ z. some (omega arith)))

  rest-none : n ≡ 64 → field_at s j ≡ [] → rest_is_root s j n ≡ true
  unfolding all_pass
  rest-none e o = rw (o, e)

-- Two bytes from j on.
abbrev pub pair_passes : List ℕ → ℕ → Bool
pair_passes s j = is_hex_digit (get_or s j 0) && is_hex_digit (get_or s (j + 1) 0)

abbrev pub pair_value : List ℕ → ℕ → ℕ
pair_value s j = 16 * hex_value (get_or s j 0) + hex_value (get_or s (j + 1) 0)

module _ (s : List ℕ) (j : ℕ) (e : pair_passes s j ≡ true) where
  pub high : is_hex_digit (get_or s j 0) ≡ true
  high = and_left (is_hex_digit (get_or s j 0)) (is_hex_digit (get_or s (j + 1) 0)) e

  pub low : is_hex_digit (get_or s (j + 1) 0) ≡ true
  low = and_right (is_hex_digit (get_or s j 0)) (is_hex_digit (get_or s (j + 1) 0)) e

  pub high_small : hex_value (get_or s j 0) ≤ 15
  high_small = hex-small (get_or s j 0) high

  pub low_small : hex_value (get_or s (j + 1) 0) ≤ 15
  low_small = hex-small (get_or s (j + 1) 0) low

module _ (s : List ℕ) (j n : ℕ) (h : j + 1 < length s) where
  pair-bad : n + 1 < 64 → pair_passes s j ≡ false → rest_is_root s j n ≡ false
  pair-bad l e = go (is_hex_digit (get_or s j 0)) refl
    where
      go : (t : Bool) → is_hex_digit (get_or s j 0) ≡ t → rest_is_root s j n ≡ false
      go true o = rest_more s j n (omega arith) o ∙ rest-stops s (j + 1) (n + 1) h (ends_field (get_or s (j + 1) 0)) refl l (rw o at e)
      go false o = rest-stops s j n (omega arith) (ends_field (get_or s j 0)) refl (omega arith) o

  module _ (e : pair_passes s j ≡ true) where
    pair-more : rest_is_root s j n ≡ rest_is_root s (j + 1 + 1) (n + 1 + 1)
    pair-more = rest_more s j n (omega arith) (high s j e) ∙ rest_more s (j + 1) (n + 1) h (low s j e)

    pair-byte : hex_bytes (field_at s j) ≡ pair_value s j ∷ hex_bytes (field_at s (j + 1 + 1))
    unfolding hex_bytes
    pair-byte = rw (field-more s j (omega arith) (hex-inside (get_or s j 0) (high s j e)), field-more s (j + 1) h (hex-inside (get_or s (j + 1) 0) (low s j e)))

-- ---- the field at `at`

-- i pairs of digits were read into the bytes; those behind them decide.
abbrev pub Read : List ℕ → ℕ → List ℕ → ℕ → Type 0
Read s at bytes i = (is_root (field_at s at) ≡ rest_is_root s (at + 2 * i) (2 * i)) × (hex_bytes (field_at s at) ≡ take i bytes ++ hex_bytes (field_at s (at + 2 * i)))

module _ (s : List ℕ) (at : ℕ) where
  pub root-bad : is_root (field_at s at) ≡ false → None ≡ root_at s at
  unfolding root_at
  root-bad e = sym (rw e)

  -- Fewer than 64 bytes are left.
  pub root-short : length s - at < 64 → at ≤ length s → is_root (field_at s at) ≡ false
  root-short h l = rw (ne_eqb (length (field_at s at)) 64 (λ z. omega (arith, field-inside s at l)))

  pub read_none : (bytes : List ℕ) → Read s at bytes 0
  read_none bytes = (rw (add-zero, zero-add), rw add-zero)

  module _ (bytes : List ℕ) (i : ℕ) (within : at + 64 ≤ length s) (more : i < 32) (r : Read s at bytes i) where
    pub read-bad : pair_passes s (at + 2 * i) ≡ false → is_root (field_at s at) ≡ false
    read-bad e = r.0 ∙ pair-bad s (at + 2 * i) (2 * i) (omega arith) (omega arith) e

    pub read_more : pair_passes s (at + 2 * i) ≡ true → i < length bytes → (x : ℕ) → x ≡ pair_value s (at + 2 * i) → Read s at (set bytes i x) (i + 1)
    read_more e l x b =
        let j = at + 2 * i in
        let at_next : at + 2 * (i + 1) ≡ j + 1 + 1 = omega arith in
        let n-next : 2 * (i + 1) ≡ 2 * i + 1 + 1 = omega arith in (
          r.0 ∙ pair-more s j (2 * i) (omega arith) e ∙ sym (ap₂ (rest_is_root s) at_next n-next),
          r.1 ∙ rw (at_next, add-one i, take-suc-set bytes i x l, append_assoc, pair-byte s j (2 * i) (omega arith) e, b),
        )

  module _ (bytes : List ℕ) (i : ℕ) (all : i ≡ 32) (r : Read s at bytes i) where
    read : Read s at bytes 32
    read = subst (Read s at bytes) all r

    pub read-long : eqb (length (field_at s (at + 64))) 0 ≡ false → is_root (field_at s at) ≡ false
    read-long e = read.0 ∙ rest-long s (at + 64) 64 refl e

    pub read_all : length bytes ≡ 32 → eqb (length (field_at s (at + 64))) 0 ≡ true → Some bytes ≡ root_at s at
    unfolding root_at hex_bytes
    read_all l e =
        let none : field_at s (at + 64) ≡ [] = nil_from_length (field_at s (at + 64)) (eqb-true (length (field_at s (at + 64))) 0 e) in
        let held : hex_bytes (field_at s at) ≡ bytes = read.1 ∙ rw (none, append-nil, take_all 32 bytes (omega arith)) in
        sym (rw (read.0 ∙ rest-none s (at + 64) 64 refl none, held))
