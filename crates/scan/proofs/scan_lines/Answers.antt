use mathlib.Core.Path.{◌≡◌, refl, sym, ap, ap₂, ◌∙◌}
use mathlib.Core.Bool.{Bool, true, false, not, ◌&&◌, ◌||◌}
use native.Mathlib.Omega.{arith}
use Rattle.scan.specs.Scan.{over, SameSlices}
use Rattle.scan.proofs.SheetLaws.{none-test, item-test}
use Rattle.scan.proofs.ScanLoop.{start-passing, end-result, last-result, less-left, next-passing}
use Rattle.scan.proofs.scan_lines.Goals as goal
use Rattle.scan.proofs.scan_lines.Goals.{After-eq}

twice : (t : Bool) → t ≡ not (not t)
twice true = refl
twice false = refl

-- The test behind a line is whether the pass ends there.
test : (c : After-eq) → over c.args.whole c.read_line-st.result ≡ (c.is_none.result || (not c.args.whole && c.eq.result))
test c =
    let none = sym (none-test c.read_line-st.result.last) ∙ ap not c.is_none.ensures ∙ sym (twice c.is_none.result) in
    ap₂ (λ n i. n || (not c.args.whole && i)) none (sym (item-test c.read_line-st.result.last) ∙ sym c.eq.ensures)

pub loop-st-init : goal.loop-st-init
loop-st-init c = (rw c.start-st.ensures (start-passing _ _ _ _ _ _ _), (refl, refl, refl, refl, refl))

pub read_line-st-requires : goal.read_line-st-requires
read_line-st-requires c = (omega arith, omega arith, c.loop-st.invariant.0.bounded)

-- The buffers behind a line are those of the call.
same : (c : After-eq) → SameSlices c.args.buffers.now c.read_line-st.new.buffers
same c =
    let l = c.read_line-st.ensures.buffers.same in
    let i = c.loop-st.invariant.1 in
    (l.0 ∙ i.0, l.1 ∙ i.1, l.2 ∙ i.2, l.3 ∙ i.3, l.4 ∙ i.4)

pub returns-then-is_none-whole : goal.returns-then-is_none-whole
returns-then-is_none-whole c =
    let d = (goal.at.returns-then-is_none-whole c).After-eq in
    last-result c.loop-st.invariant.0 (omega arith) c.read_line-st.ensures.state c.read_line-st.ensures.buffers.a c.read_line-st.ensures.buffers.b c.read_line-st.ensures.buffers.c c.read_line-st.ensures.buffers.items c.read_line-st.ensures.buffers.wits
    (test d ∙ c.if-is_none-whole.true) (same d)

pub loop-st-smaller : goal.loop-st-smaller
loop-st-smaller c =
    less-left c.loop-st.invariant.0 (omega arith) c.read_line-st.ensures.state c.read_line-st.ensures.buffers.a c.read_line-st.ensures.buffers.b c.read_line-st.ensures.buffers.c c.read_line-st.ensures.buffers.items c.read_line-st.ensures.buffers.wits
    (test (goal.at.loop-st-smaller c).After-eq ∙ c.if-is_none-whole.false)

pub loop-st-preserved : goal.loop-st-preserved
loop-st-preserved c =
    let d = (goal.at.loop-st-preserved c).After-eq in (
      next-passing c.loop-st.invariant.0 (omega arith) c.read_line-st.ensures.state c.read_line-st.ensures.buffers.a c.read_line-st.ensures.buffers.b c.read_line-st.ensures.buffers.c c.read_line-st.ensures.buffers.items c.read_line-st.ensures.buffers.wits
          (test d ∙ c.if-is_none-whole.false) c.read_line-st.ensures.bounded,
      same d,
    )

pub returns : goal.returns
returns c = end-result c.loop-st.invariant.0 (omega arith) c.loop-st.invariant.1
