use mathlib.Core.Path.{refl, ap, ap₂, ◌∙◌}
use mathlib.Core.List.{List}
use Prim.Native.Nat.{ℕ, ◌+◌, ◌*◌, ◌≤◌}
use native.Mathlib.Omega.{arith}
use lib.ListN.{length}
use Rattle.theory.specs.Results.{Opened}
use Rattle.theory.specs.Fp.{«open»}
use Rattle.theory.proofs.Parts.{part_cut, part-within}
use Rattle.chain.specs.Chained.{open_item}
use Rattle.checks.specs.Refusals.{answer_of}
use Rattle.chain.proofs.Refusals.{refusal-next, and-first}
use Rattle.encoder.proofs.Filling.{still, one-filled}
use Rattle.chain.proofs.opening.open_list.Goals as goal

pub loop-i-preserved : goal.loop-i-preserved
loop-i-preserved c =
    let room : c.loop-i.i * c.args.size + c.args.size ≤ length c.args.opened.now = omega (arith, part-within c.args.l c.loop-i.i c.args.size _ c.loop-i-test.true refl, c.requires.1) in
    let same =
    ap₂ (λ (w o : List ℕ). «open» c.args.k c.args.t c.args.points.now w c.args.positions.now o) (part_cut c.args.wits.now (c.loop-i.i * (4 * c.args.k)) (4 * c.args.k))
    (still c.args.size (λ j. (open_item c.args.k c.args.t c.args.size c.args.points.now c.args.wits.now c.args.positions.now c.args.opened.now j).openings) c.args.opened.now c.loop-i.i c.loop-i.opened c.loop-i.invariant.1) in (
      refusal-next c.loop-i.i (λ j. (open_item c.args.k c.args.t c.args.size c.args.points.now c.args.wits.now c.args.positions.now c.args.opened.now j).answer) (answer_of c.loop-i.verdict) (answer_of c.open_part-next.result) (answer_of c.and-verdict.result) c.loop-i.invariant.0
          (c.open_part-next.ensures.value ∙ ap (λ (o : Opened). o.answer) same) (ap answer_of c.and-verdict.ensures ∙ and-first c.loop-i.verdict c.open_part-next.result),
      one-filled c.args.size (λ j. (open_item c.args.k c.args.t c.args.size c.args.points.now c.args.wits.now c.args.positions.now c.args.opened.now j).openings) c.args.opened.now c.loop-i.i c.loop-i.opened c.open_part-next.new.opened _ c.loop-i.invariant.1
          room c.open_part-next.auto.opened c.open_part-next.ensures.opened_after (ap (λ (o : Opened). o.openings) same),
    )
