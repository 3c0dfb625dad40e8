-- The table of the small inverses: each entry is below p, and its product with its index leaves 1.
-- Assumes nothing.
use mathlib.Core.Path.{◌≡◌, sym, ap, ◌∙◌}
use mathlib.Core.Bool.{Bool, ◌&&◌}
use mathlib.Core.List.{List}
use Prim.Native.Nat.{ℕ, zero, suc, ◌*◌, ◌%◌, ◌<◌}
use lib.Dec.{T, eqb, eqb→eq, ltb, ltb→lt}
use lib.Ieee.Fits.{and_l, and_r}
use lib.ListN.{length, get_or}
use Rattle.algebra.specs.Lists.{build}
use Rattle.algebra.proofs.ListLaws.{get_or-build}
use Rattle.algebra.proofs.FieldLaws.{inv_unique}
use Rattle.field.specs.BabyBear.{p, baby_bear, F, val, ofℕ, inv}
use Rattle.field.specs.Inverses.{small_inverses}
use Rattle.field.proofs.Laws.{val-small, val-zero, ofℕ-zero, ofℕ-one, ofℕ-eq, ofℕ-mul, inv-zero}
use Rattle.field.proofs.Tables.{every_entry, table_of}

-- A number below p whose product with n leaves 1 is that of the inverse of n.
inverse-number : (n x : ℕ) → x < p → n * x % p ≡ 1 → x ≡ val (inv (ofℕ n))
inverse-number n x h e = sym (val-small h) ∙ ap val (sym (inv_unique baby_bear (ofℕ n) (ofℕ x) (sym (ofℕ-mul n x) ∙ ofℕ-eq (n * x) 1 e ∙ ofℕ-one)))

-- The test of entry x at index n.
abbrev pub is_inverse : ℕ → ℕ → Bool
is_inverse zero x = eqb x 0
is_inverse (suc n) x = ltb x p && eqb (suc n * x % p) 1

is_inverse-sound : (n x : ℕ) → T (is_inverse n x) → x ≡ val (inv (ofℕ n))
is_inverse-sound zero x t = eqb→eq x 0 t ∙ sym (ap (λ (a : F). val (inv a)) ofℕ-zero ∙ ap val inv-zero ∙ val-zero)
is_inverse-sound (suc n) x t =
    let small : T (ltb x p) = and_l (ltb x p) (eqb (suc n * x % p) 1) t in
    let one : T (eqb (suc n * x % p) 1) = and_r (ltb x p) (eqb (suc n * x % p) 1) t in
    inverse-number (suc n) x (ltb→lt x p small) (eqb→eq (suc n * x % p) 1 one)

-- A table of 64 entries that passes the test is the table of the small inverses.
pub small_inverses-by-test : (xs : List ℕ) → length xs ≡ 64 → T (every_entry is_inverse xs) → xs ≡ small_inverses
unfolding small_inverses
small_inverses-by-test xs l t = table_of (λ n. val (inv (ofℕ n))) is_inverse is_inverse-sound xs t ∙ ap (λ (n : ℕ). build n (λ n. val (inv (ofℕ n)))) l

-- An entry of the table.
pub inverse-at : {table : List ℕ} (n : ℕ) → table ≡ small_inverses → n < 64 → get_or table n 0 ≡ val (inv (ofℕ n))
unfolding small_inverses
inverse-at n e h = ap (λ (l : List ℕ). get_or l n 0) e ∙ get_or-build 64 (λ n. val (inv (ofℕ n))) n 0 h
