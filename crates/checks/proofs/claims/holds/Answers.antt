-- `claims::holds` meets its contract: e is the first number of the item.
use Rattle.field.specs.BabyBear.{R}
use Rattle.theory.specs.R1cs.{value}
use Rattle.theory.specs.Fp.{elements, circuit, read_item}
use Rattle.checks.proofs.ItemTests.{value-test}
use Rattle.checks.proofs.claims.holds.Goals as goal

pub returns : goal.returns
returns c =
    let item = read_item c.args.m c.args.n c.args.item.now in
    let M = c.args.circuit.now in
    value-test c.args.m c.args.n c.args.item.now c.requires.m_bound.3 c.requires.item_value.0 (value R (circuit M.a.now M.b.now M.c.now) item.r item.x (elements c.args.k c.args.wit.now)) c.item_value.ensures c.get.ensures
