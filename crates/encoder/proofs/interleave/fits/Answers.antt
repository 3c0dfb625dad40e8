-- `interleave::fits` meets its contract: the openings have few bytes.
use mathlib.Core.Path.{sym, ◌∙◌}
use mathlib.Core.List.{[], ◌∷◌}
use Prim.Native.Nat.{◌≤◌}
use native.Mathlib.Omega.{arith}
use Rattle.numbers.proofs.Tests.{each-true}
use Rattle.theory.proofs.HonestList.{few-items}
use Rattle.encoder.proofs.OpeningLaws.{size_small}
use Rattle.encoder.proofs.Ordering.{all_small}
use Rattle.encoder.proofs.interleave.fits.Goals as goal

pub overflow_mul-size-2 : goal.overflow_mul-size-2
overflow_mul-size-2 c =
    let t = each-true c.is_witness_count.result (c.item_count_fits.result ∷ []) c.if-not-counted.false in
    let small : c.opening_size.result ≤ 260 = rw c.opening_size.ensures (size_small c.args.k (sym c.is_witness_count.ensures ∙ t.0)) in
    omega (arith, all_small c.args.l c.args.t c.opening_size.result (few-items c.args.l (sym c.item_count_fits.ensures ∙ t.1.0)) (omega (arith, c.ranges.t)) small)
