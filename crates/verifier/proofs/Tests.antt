-- Laws of tests: equality of elements as equality of numbers.
use mathlib.Core.Path.{◌≡◌, sym, ap, ◌∙◌}
use Prim.Native.Nat.{ℕ, ◌<◌}
use borrow.Author.Tests.{eqb-true, eq-eqb}
use lib.Dec.{eqb}
use Rattle.numbers.proofs.Tests.{same_test}
use Rattle.field.specs.BabyBear.{p, F, val, ofℕ}
use Rattle.field.proofs.Laws.{val-small, ofℕ-of}
use Rattle.theory.specs.Fp.{fp, same_element}
use Rattle.theory.proofs.Equality.{same-element, equal-element}

-- A number below p is an element's number exactly if its element is that element.
pub same_number : {x : ℕ} (a : F) → x < p → same_element (ofℕ x) a ≡ eqb x (val a)
same_number {x} a h = same_test (same_element (ofℕ x) a) (eqb x (val a))
    (λ e. eq-eqb x (val a) (sym (val-small h) ∙ ap val (equal-element fp (ofℕ x) a e)))
    (λ e. same-element fp (ofℕ-of a (eqb-true x (val a) e)))
