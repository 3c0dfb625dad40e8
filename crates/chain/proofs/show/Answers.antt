-- `chain::show` meets its contract.
use mathlib.Core.Path.{◌≡◌, refl, sym, ap, ◌∙◌}
use Prim.Native.Nat.{ℕ, suc, ◌*◌}
use native.Mathlib.Omega.{arith}
use Rattle.code.specs.Points.{depth}
use Rattle.std.proofs.Common.{rules}
use Rattle.checks.specs.Refusals.{answer_of}
use Rattle.checks.proofs.Calls.{refused, accepted}
use Rattle.encoder.proofs.OpeningLaws.{depth-few, openings-small}
use Rattle.encoder.proofs.Accepted.{InterleaveFits, interleave-fits}
use Rattle.chain.proofs.Shown.{shown-answer, shown-opened, shown-zero, shown-ordered}
use Rattle.chain.proofs.show.Goals as goal
use Rattle.chain.proofs.show.Goals.{Start}

fitting : (s : Start) → InterleaveFits s.args.k s.args.l s.args.t s.args.opened.now s.args.openings.now
fitting s = interleave-fits s.args.k s.args.l s.args.t s.args.opened.now s.args.openings.now s.requires.1

pub opening_size-requires : goal.opening_size-requires
opening_size-requires c = (fitting (goal.at.opening_size-requires c).Start).count

pub overflow_mul-width : goal.overflow_mul-width
overflow_mul-width c =
    let small = openings-small c.args.t (depth c.args.k) (omega (arith, c.ranges.t)) (depth-few c.args.k (fitting (goal.at.overflow_mul-width c).Start).count) in
    rw c.opening_size.ensures (omega (arith, small))

pub open_all-requires : goal.open_all-requires
open_all-requires c = (c.requires.0, (fitting (goal.at.open_all-requires c).Start).opened-length ∙ ap (λ (size : ℕ). suc c.args.l * (c.args.t * size)) (sym c.opening_size.ensures))

pub returns-in_err-open_all : goal.returns-in_err-open_all
returns-in_err-open_all c =
    let same : answer_of c.from_residual.result ≡ answer_of c.open_all.result = search rules in
    let some : answer_of c.open_all.result ≡ 0 → ⊥ = search rules in
    record {
      value = same ∙ shown-answer c.args.k c.args.t c.args.l _ c.args.points.now c.args.wits.now c.args.wit.now c.args.positions.now c.args.opened.now c.args.openings.now c.opening_size.ensures c.requires.1 _ c.open_all.ensures.value;
      opened_after = shown-opened c.args.k c.args.t c.args.l _ c.args.points.now c.args.wits.now c.args.wit.now c.args.positions.now c.args.opened.now c.args.openings.now c.opening_size.ensures c.requires.1 _ c.open_all.ensures.filled;
      openings_after = refused _ c.args.openings.now (sym same) some;
    }

pub returns : goal.returns
returns c =
    let done : answer_of c.open_all.result ≡ 0 = search rules in
    let zero = shown-zero c.args.k c.args.t c.args.l _ c.args.points.now c.args.wits.now c.args.wit.now c.args.positions.now c.args.opened.now c.args.openings.now c.opening_size.ensures c.requires.1 _ c.open_all.ensures.filled (answer_of c.lomvuze_interleave.result) c.lomvuze_interleave.ensures.answer in record {
      value = zero ∙ sym done ∙ shown-answer c.args.k c.args.t c.args.l _ c.args.points.now c.args.wits.now c.args.wit.now c.args.positions.now c.args.opened.now c.args.openings.now c.opening_size.ensures c.requires.1 _ c.open_all.ensures.value;
      opened_after = shown-opened c.args.k c.args.t c.args.l _ c.args.points.now c.args.wits.now c.args.wit.now c.args.positions.now c.args.opened.now c.args.openings.now c.opening_size.ensures c.requires.1 _ c.open_all.ensures.filled;
      openings_after = accepted c.args.openings.now refl zero (shown-ordered c.args.k c.args.t c.args.l _ c.args.points.now c.args.wits.now c.args.wit.now c.args.positions.now c.args.opened.now c.args.openings.now c.opening_size.ensures c.requires.1 _ c.open_all.ensures.filled _ c.lomvuze_interleave.ensures.openings);
    }
