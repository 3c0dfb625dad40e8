-- What is permitted has the lengths that the codeword asks for, and elements alone.
use lib.ListN.{length}
use Rattle.harness.specs.Permitted.{codeword_at_permitted}
use Rattle.harness.proofs.Answers.{passes}
use Rattle.harness.proofs.Permitted.{codeword-at-inputs}
use Rattle.harness.proofs.codes.lomvuze_test_codeword_at.Goals as goal

pub codeword-requires : goal.codeword-requires
codeword-requires c =
    let p = codeword_at_permitted c.args.w.now (length c.args.points.now) (length c.args.out.now) in
    codeword-at-inputs c.args.w.now (length c.args.points.now) (length c.args.out.now) (passes p c.permitted_at.ensures c.if-not-permitted_at.false)
