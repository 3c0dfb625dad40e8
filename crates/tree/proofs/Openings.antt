-- The own openings of positions, written one after the other into a buffer that they fill.
use mathlib.Core.Path.{◌≡◌, refl, sym, ap, ap₂, ◌∙◌}
use mathlib.Core.List.{List, [], ◌∷◌, ◌++◌, append-nil}
use Prim.Native.Nat.{ℕ, suc, ◌+◌, ◌*◌, ◌/◌, ◌≤◌, ◌<◌}
use native.Mathlib.Nat.{suc-mul, mul-le-mul_right}
use native.Mathlib.Numerals.{add-one}
use native.Mathlib.Omega.{arith}
use lib.ListN.{length, get_or, drop, length-append, drop_of_length-le}
use lib.Seq.{sets, sets-eq, drop-cons}
use Rattle.numbers.specs.Numbers.{numbers}
use Rattle.tree.specs.Layout.{opening_size, flat, own_opening, own_openings}
use Rattle.tree.proofs.Written.{sets-append}
use Rattle.tree.proofs.ReadBack.{own-length}

-- a buffer holds a number for every four bytes
pub count-numbers : (b : List ℕ) → length (numbers b) ≡ length b / 4
unfolding numbers
count-numbers [] = refl
count-numbers (a ∷ []) = refl
count-numbers (a ∷ b ∷ []) = refl
count-numbers (a ∷ b ∷ c ∷ []) = refl
count-numbers (a ∷ b ∷ c ∷ d ∷ r) = omega (arith, count-numbers r)

module _ (digest : List ℕ → List ℕ) (digest-length : (s : List ℕ) → length (digest s) ≡ 32) (d : ℕ) (vs : List ℕ) where
  abbrev own : ℕ → List ℕ
  own i = own_opening digest d vs i

  abbrev all : List ℕ → List ℕ
  all is = own_openings digest d vs is

  pub openings-length : (is : List ℕ) → length (all is) ≡ length is * opening_size d
  unfolding flat
  openings-length [] = omega arith
  openings-length (i ∷ is) =
      length-append (own i) (all is)
      ∙ ap₂ ◌+◌ (own-length digest digest-length d vs i) (openings-length is)
      ∙ omega (arith, suc-mul (length is) (opening_size d))

  -- the openings of the positions before q are written: writing those of the others gives what writing all gives
  module _ (is before : List ℕ) (size : length before ≡ length is * opening_size d) (q : ℕ) (out : List ℕ) (kept : length out ≡ length before) where
    -- there is room for one opening more
    pub room : q < length is → q * opening_size d + opening_size d ≤ length out
    room more = omega (arith, suc-mul q (opening_size d), mul-le-mul_right {m = suc q} {n = length is} (opening_size d) (omega arith))

    module _ (left : sets out (q * opening_size d) (all (drop q is)) ≡ sets before 0 (all is)) where
      pub one_written : q < length is → (i : ℕ) (out' : List ℕ) → i ≡ get_or is q 0 → out' ≡ sets out (q * opening_size d) (own i)
          → sets out' ((q + 1) * opening_size d) (all (drop (q + 1) is)) ≡ sets before 0 (all is)
      unfolding flat
      one_written more i out' v e =
          ap₂ (λ (o : List ℕ) (n : ℕ). sets o n next) e step
          ∙ sym (sets-append out (q * opening_size d) (own i) next)
          ∙ ap (sets out (q * opening_size d)) (ap (λ (n : ℕ). own n ++ next) v ∙ sym first)
          ∙ left
        where
          next : List ℕ
          next = all (drop (q + 1) is)

          step : (q + 1) * opening_size d ≡ q * opening_size d + length (own i)
          step = ap (λ (n : ℕ). n * opening_size d) (add-one q) ∙ omega (arith, suc-mul q (opening_size d), own-length digest digest-length d vs i)

          first : all (drop q is) ≡ own (get_or is q 0) ++ next
          first = ap all (drop-cons is q 0 more) ∙ ap (λ (n : ℕ). own (get_or is q 0) ++ all (drop n is)) (sym (add-one q))

      pub all-written : length is ≤ q → out ≡ all is
      unfolding flat
      all-written done =
          ap (λ (l : List ℕ). sets out (q * opening_size d) (all l)) (sym (drop_of_length-le is {i = q} done))
          ∙ left
          ∙ sets-eq (all is) before 0 (omega (arith, openings-length is))
          ∙ ap (λ (r : List ℕ). all is ++ r) (drop_of_length-le before {i = 0 + length (all is)} (omega (arith, openings-length is)))
          ∙ append-nil (all is)
