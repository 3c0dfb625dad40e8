-- `cast` meets its contract: a refusal writes nothing.
use mathlib.Core.Path.{◌≡◌, refl, ◌∙◌}
use mathlib.Core.Bool.{true}
use Rattle.std.proofs.Common.{rules}
use Rattle.theory.specs.Fp.{item_bytes, cast_fits, cast_item, cast}
use Rattle.theory.specs.Calls.{cast as cast_of}
use Rattle.checks.specs.Refusals.{number_of}
use Rattle.checks.proofs.Calls.{fails, refuses, refused-with, accepts}
use Rattle.decider.proofs.CastLaws.{at-sizes, cast-fits, cast-answer}
use Rattle.decider.proofs.cast.cast.Goals as goal
use Rattle.decider.proofs.cast.cast.Goals.{In_ok-sizes}

pub returns-in_err-sizes : goal.returns-in_err-sizes
unfolding cast_of
returns-in_err-sizes c =
    let a = c.args in
    let e = c.in_err-sizes.field-0.0 in
    let answered : number_of e ≡ (cast a.m a.n a.k a.points.now a.a.now a.b.now a.c.now a.r.now a.x.now a.w.now a.item.now).answer
    = refused-with _ e _ c.in_err-sizes.ensures.value ∙ fails 2 _ refl (rw c.in_err-sizes.ensures.ok_part at c.sizes.ensures) in
    record { answer = search rules; item = refuses e _ _ answered }

-- Check 2 passed, and the sizes are those of the call.
fitting : (c : In_ok-sizes) → (cast_fits c.args.m c.args.n c.args.k c.args.points.now c.args.a.now c.args.b.now c.args.c.now c.args.r.now c.args.x.now c.args.w.now c.args.item.now ≡ true)
    × (c.in_ok-sizes.sizes.m ≡ c.args.m) × (c.in_ok-sizes.sizes.n ≡ c.args.n) × (c.in_ok-sizes.sizes.k ≡ c.args.k)
fitting c = rw c.in_ok-sizes.ensures.ok_part at c.sizes.ensures

pub verdict-requires : goal.verdict-requires
verdict-requires c =
    let a = c.args in
    let h = cast-fits a.m a.n a.k a.points.now a.a.now a.b.now a.c.now a.r.now a.x.now a.w.now a.item.now (fitting (goal.at.verdict-requires c).In_ok-sizes) in
    (h.points-fit, h.r-length, h.x-length, h.w-length)

pub returns-in_err-verdict : goal.returns-in_err-verdict
unfolding cast_of
returns-in_err-verdict c =
    let a = c.args in
    let e = c.in_err-verdict.field-0.0 in
    let answered : number_of e ≡ (cast a.m a.n a.k a.points.now a.a.now a.b.now a.c.now a.r.now a.x.now a.w.now a.item.now).answer
    = cast-answer a.m a.n a.k a.points.now a.a.now a.b.now a.c.now a.r.now a.x.now a.w.now a.item.now (fitting (goal.at.returns-in_err-verdict c).In_ok-sizes) c.in_err-verdict.ensures in
    record { answer = search rules; item = refuses e _ _ answered }

pub write-requires-clause-lengths : goal.write-requires-clause-lengths
write-requires-clause-lengths c =
    let a = c.args in
    let h = cast-fits a.m a.n a.k a.points.now a.a.now a.b.now a.c.now a.r.now a.x.now a.w.now a.item.now (fitting (goal.at.write-requires-clause-lengths c).In_ok-sizes) in
    (h.r-length, h.x-length, h.w-length, h.item-length, h.points-fit)

pub returns : goal.returns
unfolding cast_of
returns c =
    let a = c.args in
    let fit = fitting (goal.at.returns c).In_ok-sizes in
    let answered = cast-answer a.m a.n a.k a.points.now a.a.now a.b.now a.c.now a.r.now a.x.now a.w.now a.item.now fit c.in_ok-verdict.ensures in
    record {
      answer = answered;
      item = accepts _ answered (c.write.ensures ∙ at-sizes a.m a.n a.k a.points.now a.a.now a.b.now a.c.now a.r.now a.x.now a.w.now a.item.now fit (λ m n k. item_bytes (cast_item m n k a.points.now a.r.now a.x.now a.w.now)));
    }
