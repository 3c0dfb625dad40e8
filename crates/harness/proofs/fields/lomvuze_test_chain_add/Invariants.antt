-- After i turns y has been added i times.
use mathlib.Core.Path.{◌≡◌}
use Rattle.field.specs.BabyBear.{val, ofℕ, ◌⊕◌, ◌⊗◌}
use Rattle.harness.proofs.fields.lomvuze_test_chain_add.Given as goal

abbrev pub invariant-loop-i : goal.invariant-loop-i
invariant-loop-i l = l.acc ≡ val (ofℕ l.x ⊕ ofℕ l._i ⊗ ofℕ l.y)
