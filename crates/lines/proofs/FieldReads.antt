-- What reading a field as a number, with and without a tab behind it, or as a root says of the field.
use mathlib.Core.Path.{◌≡◌, refl, sym, ap, ◌∙◌}
use mathlib.Core.Bool.{Bool, true, false, ◌&&◌, and-false}
use mathlib.Core.List.{List}
use Prim.Native.Nat.{ℕ, ◌≤◌}
use native.Mathlib.Omega.{arith}
use borrow.Author.Tests.{lt-ltb, le-ltb, eqb-true}
use lib.Dec.{eqb, ltb}
use lib.ListN.{length, get_or}
use Rattle.std.specs.Prelude.{Option, Some, None}
use Rattle.numbers.proofs.Tests.{and_right}
use Rattle.lines.specs.declared.number.Number.{Number}
use Rattle.lines.specs.Text.{decimal, is_number, is_root, hex_bytes}
use Rattle.lines.specs.Cursor.{field_at, field_end, number_at, number_before_tab, root_at}
use Rattle.lines.proofs.FieldEnds.{tab-within, is-tab}

-- A field that is n.
abbrev pub IsNumber : List ℕ → ℕ → Number → Type 0
IsNumber s at n = (is_number (field_at s at) ≡ true) × (n.value ≡ decimal (field_at s at)) × (n.end ≡ field_end s at)

module _ (s : List ℕ) (at : ℕ) where
  number-when : (t : Bool) → is_number (field_at s at) ≡ t → (n : Number) → number_at s at ≡ Some n → IsNumber s at n
  unfolding number_at
  number-when true e n h =
      let m : Number = record { value = decimal (field_at s at); end = field_end s at } in
      let r : ◌≡◌ {A = Option Number} (Some m) (Some n) = rw e at h in
      let v : n ≡ m = cc in
      (e, ap (λ x. x.value) v, ap (λ x. x.end) v)
  number-when false e n h =
      let r : None ≡ Some n = rw e at h in
      cc

  -- a field that is read as a number is one
  pub number_read : (n : Number) → number_at s at ≡ Some n → IsNumber s at n
  number_read n h = number-when (is_number (field_at s at)) refl n h

  bad-when : (t : Bool) → is_number (field_at s at) ≡ t → number_at s at ≡ None → is_number (field_at s at) ≡ false
  unfolding number_at
  bad-when true e h =
      let r : ◌≡◌ {A = Option Number} (Some (record { value = decimal (field_at s at); end = field_end s at })) None = rw e at h in
      cc
  bad-when false e h = e

  pub number-bad : number_at s at ≡ None → is_number (field_at s at) ≡ false
  number-bad h = bad-when (is_number (field_at s at)) refl h

  -- ---- before a tab
  abbrev Tab : Bool
  Tab = ltb (field_end s at) (length s) && eqb (get_or s (field_end s at) 0) 9

  none-when : (t : Bool) → Tab ≡ t → number_at s at ≡ None → None ≡ number_before_tab s at
  unfolding number_before_tab
  none-when true e h = rw e (sym h)
  none-when false e h = rw e

  -- no number is none before a tab
  pub before-tab-none : number_at s at ≡ None → None ≡ number_before_tab s at
  before-tab-none h = none-when Tab refl h

  pub before-tab-end : (end : ℕ) → end ≡ field_end s at → end ≡ length s → None ≡ number_before_tab s at
  unfolding number_before_tab
  before-tab-end end e h =
      let t : ltb (field_end s at) (length s) ≡ false = le-ltb (field_end s at) (length s) (omega arith) in
      rw t

  pub before-tab-newline : (end : ℕ) → end ≡ field_end s at → get_or s end 0 ≡ 10 → None ≡ number_before_tab s at
  unfolding number_before_tab
  before-tab-newline end e h =
      let b : get_or s (field_end s at) 0 ≡ 10 = rw e at h in
      rw b (simp and-false)

  module _ (inside : at ≤ length s) where
    before-tab-tab : (end : ℕ) → end ≡ field_end s at → get_or s end 0 ≡ 9 → number_at s at ≡ number_before_tab s at
    unfolding number_before_tab
    before-tab-tab end e h =
        let b : get_or s (field_end s at) 0 ≡ 9 = rw e at h in
        let t : ltb (field_end s at) (length s) ≡ true = lt-ltb _ _ (tab-within s at (field_end s at) inside refl b) in
        rw (t, b)

    -- neither the text's end nor byte 10 ends it: a tab does
    pub before-tab-value : (n : Number) → number_at s at ≡ Some n → (n.end ≡ length s → ⊥) → (get_or s n.end 0 ≡ 10 → ⊥) → Some n ≡ number_before_tab s at
    before-tab-value n v not_end not-newline =
        let e = (number_read n v).2 in
        sym v ∙ before-tab-tab n.end e (is-tab s at n.end inside e not_end not-newline)

    -- what is read before a tab is a number with a tab behind it
    value-when : (t : Bool) → Tab ≡ t → (n : Number) → number_before_tab s at ≡ Some n → IsNumber s at n × (get_or s n.end 0 ≡ 9)
    unfolding number_before_tab
    value-when true e n h =
        let is = number_read n (rw e at h) in
        (is, rw is.2 (eqb-true _ _ (and_right (ltb (field_end s at) (length s)) _ e)))
    value-when false e n h =
        let r : None ≡ Some n = rw e at h in
        cc

    pub before-tab-read : (n : Number) → number_before_tab s at ≡ Some n → IsNumber s at n × (get_or s n.end 0 ≡ 9)
    before-tab-read n h = value-when Tab refl n h

    -- where nothing is, a field with a tab behind it is no number
    pub before-tab-bad : number_before_tab s at ≡ None → get_or s (field_end s at) 0 ≡ 9 → is_number (field_at s at) ≡ false
    before-tab-bad h b = number-bad (before-tab-tab (field_end s at) refl b ∙ h)

  -- ---- a root
  root-when : (t : Bool) → is_root (field_at s at) ≡ t → (root : List ℕ) → root_at s at ≡ Some root → (is_root (field_at s at) ≡ true) × (root ≡ hex_bytes (field_at s at))
  unfolding root_at
  root-when true e root h =
      let r : Some (hex_bytes (field_at s at)) ≡ Some root = rw e at h in
      (e, cc)
  root-when false e root h =
      let r : None ≡ Some root = rw e at h in
      (cc, cc)

  pub root-read : (root : List ℕ) → root_at s at ≡ Some root → (is_root (field_at s at) ≡ true) × (root ≡ hex_bytes (field_at s at))
  root-read root h = root-when (is_root (field_at s at)) refl root h

  no-root-when : (t : Bool) → is_root (field_at s at) ≡ t → root_at s at ≡ None → is_root (field_at s at) ≡ false
  unfolding root_at
  no-root-when true e h =
      let r : Some (hex_bytes (field_at s at)) ≡ None = rw e at h in
      cc
  no-root-when false e h = e

  pub no-root : root_at s at ≡ None → is_root (field_at s at) ≡ false
  no-root h = no-root-when (is_root (field_at s at)) refl h
