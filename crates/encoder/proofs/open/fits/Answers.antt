-- `open::fits` meets its contract: the openings have few bytes.
use mathlib.Core.Path.{◌≡◌, sym, ◌∙◌}
use mathlib.Core.Bool.{true}
use native.Mathlib.Omega.{arith}
use Rattle.code.specs.Points.{is_witness_count, depth}
use Rattle.encoder.proofs.OpeningLaws.{depth-few, openings-small}
use Rattle.encoder.proofs.open.fits.Goals as goal

pub overflow_mul-result-3 : goal.overflow_mul-result-3
overflow_mul-result-3 c =
    let counted : is_witness_count c.args.k ≡ true = sym c.is_witness_count.ensures ∙ c.if-not-is_witness_count.false in
    rw c.opening_size-size.ensures (omega (arith, openings-small c.args.t (depth c.args.k) (omega arith) (depth-few c.args.k counted)))
