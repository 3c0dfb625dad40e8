use mathlib.Core.Path.{◌≡◌, refl, ap, sym, ◌∙◌}
use Prim.Native.Nat.{ℕ, ◌*◌}
use native.Mathlib.Omega.{arith}
use Rattle.algebra.specs.Lists.{concat_to}
use Rattle.theory.proofs.Parts.{part-within}
use Rattle.encoder.specs.Parts.{piece}
use Rattle.encoder.proofs.Filling.{borrowed-back, borrowed-length, one-filled, all-filled}
use Rattle.encoder.proofs.interleave.in_order.Goals as goal

pub loop-q-preserved : goal.loop-q-preserved
loop-q-preserved c =
    let a = c.args in
    let wide = a.count * a.size in
    let within = part-within a.t c.loop-q.q wide _ c.loop-q-test.true c.requires.1 in
    one-filled wide (λ p. concat_to a.count (λ i. piece a.opened.now (a.t * a.size) a.size i p)) a.openings.now c.loop-q.q c.loop-q.openings _ _ c.loop-q.invariant within
    (borrowed-length c.loop-q.openings c.row.new.out (c.loop-q.q * wide) wide (omega (arith, within, c.loop-q.invariant.same)) c.row.auto.out)
    (borrowed-back c.loop-q.openings _ c.row.new.out (c.loop-q.q * wide) wide c.row.ensures)
    refl

pub returns : goal.returns
returns c =
    let done : c.loop-q.q ≡ c.args.t = omega (arith, c.loop-q-test.false) in
    let wide = c.args.count * c.args.size in
    let f = λ (p : ℕ). concat_to c.args.count (λ i. piece c.args.opened.now (c.args.t * c.args.size) c.args.size i p) in
    all-filled wide f c.args.openings.now c.loop-q.q c.loop-q.openings (c.requires.1 ∙ ap (λ (n : ℕ). n * wide) (sym done)) c.loop-q.invariant
    ∙ ap (λ (n : ℕ). concat_to n f) done
