use mathlib.Core.Path.{◌≡◌, sym, ap₂, ◌∙◌}
use Prim.Native.Nat.{suc, ◌+◌, ◌*◌}
use native.Mathlib.Omega.{arith}
use Rattle.std.proofs.lemmas.Bool.{not-true, not-false}
use Rattle.numbers.proofs.Tests.{◌&◌}
use Rattle.hash.specs.Sha256.{block_count}
use Rattle.tree.proofs.HashedBlocks.{opened-blocks}
use Rattle.theory.specs.Checks.{every}
use Rattle.theory.proofs.Reached.{before-first, before-next, before-row, before-end, stops}
use Rattle.theory.proofs.CheckLaws.{every-fails}
use Rattle.checks.proofs.Laws.{every-none, every_more, every-all}
use Rattle.code.specs.Points.{depth}
use Rattle.verifier.specs.Verifying.{place, leads, strings_at}
use Rattle.verifier.proofs.opened.openings_lead.Invariants.{Counted}
use Rattle.verifier.proofs.Places.{next-opening, next-position, opening-within}
use Rattle.verifier.proofs.opened.openings_lead.Goals as goal
use Rattle.verifier.proofs.opened.openings_lead.Goals.{After-opening_leads-tested}

pub loop-q-init : goal.loop-q-init
loop-q-init c = (every-none _, (before-first block_count (suc c.args.fold.now.l) (leads c.args.fold.now) (strings_at c.args.fold.now), omega arith))

pub loop-i-init : goal.loop-i-init
loop-i-init c = (every-none _, c.loop-q.invariant.1)

-- The blocks of one opening.
opening-counted : (c : After-opening_leads-tested) → (c.opening_leads-tested.result.blocks ≡ 1 + 2 * depth c.args.fold.now.sizes.k)
opening-counted c =
    c.opening_leads-tested.ensures.blocks ∙ opened-blocks c.args.fold.now.openings.now (place c.args.fold.now c.loop-q.q c.loop-i.i) (depth c.args.fold.now.sizes.k) _ (opening-within c.args.fold.now c.loop-q.q c.loop-i.i c.loop-q-test.true (omega arith))

-- With them, those of all openings up to this one.
all-counted : (c : After-opening_leads-tested) → Counted c.args.fold.now (c.loop-i.blocks + c.opening_leads-tested.result.blocks) c.loop-q.q (c.loop-i.i + 1)
all-counted c = (
  ap₂ ◌+◌ c.loop-i.invariant.1.0 c.opening_leads-tested.ensures.blocks
      ∙ before-next block_count (suc c.args.fold.now.l) (leads c.args.fold.now) (strings_at c.args.fold.now) c.loop-q.q c.loop-i.i (c.loop-q.invariant.0 & c.loop-i.invariant.0),
  omega (arith, opening-counted c, c.loop-i.invariant.1.1, next-opening c.args.fold.now c.loop-q.q c.loop-i.i),
)

pub overflow_add-blocks : goal.overflow_add-blocks
overflow_add-blocks c =
    omega (arith, (all-counted (goal.at.overflow_add-blocks c).After-opening_leads-tested).1, next-opening c.args.fold.now c.loop-q.q c.loop-i.i, opening-within c.args.fold.now c.loop-q.q c.loop-i.i c.loop-q-test.true (omega arith))

pub loop-i-preserved : goal.loop-i-preserved
loop-i-preserved c = (
  every_more (leads c.args.fold.now c.loop-q.q) c.loop-i.i c.loop-i.invariant.0 (sym c.opening_leads-tested.ensures.lead ∙ not-false _ c.if-not-tested.false),
  all-counted (goal.at.loop-i-preserved c).After-opening_leads-tested,
)

pub loop-q-preserved : goal.loop-q-preserved
loop-q-preserved c =
    let full : c.loop-i.i ≡ suc c.args.fold.now.l = omega arith in (
      every_more (λ q. every (suc c.args.fold.now.l) (leads c.args.fold.now q)) c.loop-q.q c.loop-q.invariant.0 (sym (every-all (suc c.args.fold.now.l) (leads c.args.fold.now c.loop-q.q) c.loop-i.i (omega arith) (omega arith) c.loop-i.invariant.0)),
      (
        c.loop-i.invariant.1.0 ∙ before-row block_count (suc c.args.fold.now.l) (leads c.args.fold.now) (strings_at c.args.fold.now) c.loop-q.q c.loop-i.i full,
        omega (arith, c.loop-i.invariant.1.1, next-position c.args.fold.now c.loop-q.q c.loop-i.i full),
      ),
    )

pub returns : goal.returns
returns c =
    let full : c.loop-q.q ≡ c.args.fold.now.t = omega arith in record {
      lead = every-all c.args.fold.now.t (λ q. every (suc c.args.fold.now.l) (leads c.args.fold.now q)) c.loop-q.q (omega arith) (omega arith) c.loop-q.invariant.0;
      blocks = c.loop-q.invariant.1.0 ∙ before-end block_count (suc c.args.fold.now.l) (leads c.args.fold.now) (strings_at c.args.fold.now) c.args.fold.now.t c.loop-q.q full;
    }

pub returns-then-not-tested : goal.returns-then-not-tested
returns-then-not-tested c =
    let fails = sym c.opening_leads-tested.ensures.lead ∙ not-true _ c.if-not-tested.true in record {
      lead = every-fails c.args.fold.now.t (λ q. every (suc c.args.fold.now.l) (leads c.args.fold.now q)) c.loop-q.q c.loop-q-test.true (sym (every-fails (suc c.args.fold.now.l) (leads c.args.fold.now c.loop-q.q) c.loop-i.i (omega arith) fails));
      blocks = (all-counted (goal.at.returns-then-not-tested c).After-opening_leads-tested).0 ∙ stops block_count (suc c.args.fold.now.l) (leads c.args.fold.now) (strings_at c.args.fold.now) c.loop-q.q c.loop-i.i (omega arith) fails c.args.fold.now.t c.loop-q-test.true;
    }
