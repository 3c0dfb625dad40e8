-- Elements and lists of elements pass the tests of equality exactly if they are equal.
use mathlib.Core.Path.{◌≡◌}
use mathlib.Core.Bool.{true}
use mathlib.Core.List.{List, List-discrete}
use Rattle.numbers.proofs.Tests.{decided-true, true-decided}
use Rattle.theory.specs.Instance.{Instance, same_element, same_elements}

module _ (I : Instance) where
  open I use {field as F}
  open F use {ring as R, eq?}
  open R use {carrier as K}

  pub same-element : {a b : K} → a ≡ b → same_element I a b ≡ true
  same-element {a} {b} e = true-decided (eq? a b) e

  pub same-elements : {a b : List K} → a ≡ b → same_elements I a b ≡ true
  same-elements {a} {b} e = true-decided (List-discrete eq? a b) e

  pub equal-element : (a b : K) → same_element I a b ≡ true → a ≡ b
  equal-element a b = decided-true (eq? a b)

  pub equal-elements : (a b : List K) → same_elements I a b ≡ true → a ≡ b
  equal-elements a b = decided-true (List-discrete eq? a b)
