-- `witness::codeword` meets its contract: none or some points are lent.
use mathlib.Core.Path.{sym, ap, ◌∙◌}
use mathlib.Core.List.{List, map}
use Prim.Native.Nat.{ℕ, ◌*◌}
use borrow.Author.Tests.{eqb-true}
use lib.ListN.{length}
use Rattle.std.proofs.lemmas.Bool.{eqb-false}
use Rattle.numbers.proofs.Bytes.{length-numbers}
use Rattle.field.specs.BabyBear.{R, val, ofℕ}
use Rattle.code.specs.Codeword.{codeword}
use Rattle.theory.proofs.LentPoints.{lent-size}
use Rattle.checks.proofs.WitnessLaws.{numbers-below, witness-asked, codeword-built-in, codeword-lent}
use Rattle.checks.proofs.witness.codeword.Goals as goal

pub codeword-requires : goal.codeword-requires
codeword-requires c = witness-asked c.args.k c.args.w.now c.requires.0 c.requires.1 c.load.ensures c.requires.3 c.requires.2

pub codeword-requires-else-is_empty : goal.codeword-requires-else-is_empty
codeword-requires-else-is_empty c = (
  c.requires.3 ∙ sym (ap length c.load-else-is_empty.ensures ∙ length-numbers (4 * c.args.k) c.args.points.now (lent-size c.args.k c.args.points.now c.requires.4 (eqb-false _ _ (sym c.is_empty.ensures ∙ c.if-is_empty.false)))),
  rw c.load.ensures (numbers-below c.args.w.now c.requires.2),
)

pub returns-then-is_empty : goal.returns-then-is_empty
returns-then-is_empty c = c.codeword.ensures ∙ codeword-built-in c.args.k c.args.points.now c.args.w.now c.requires.1 (eqb-true _ _ (sym c.is_empty.ensures ∙ c.if-is_empty.true)) c.load.ensures

pub returns-else-is_empty : goal.returns-else-is_empty
returns-else-is_empty c =
    c.codeword-else-is_empty.ensures
    ∙ ap (λ (ps : List ℕ). map val (codeword R (map ofℕ ps) (map ofℕ c.load.new.out))) c.load-else-is_empty.ensures
    ∙ codeword-lent c.args.k c.args.points.now c.args.w.now c.requires.1 (eqb-false _ _ (sym c.is_empty.ensures ∙ c.if-is_empty.false)) c.load.ensures
