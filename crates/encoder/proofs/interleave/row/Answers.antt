use mathlib.Core.Path.{◌≡◌, refl, sym, ◌∙◌}
use mathlib.Core.List.{List}
use Prim.Native.Nat.{ℕ, ◌+◌, ◌*◌}
use native.Mathlib.Omega.{arith}
use Rattle.theory.proofs.Parts.{part-part, part-within, part_cut}
use Rattle.encoder.specs.Parts.{piece}
use Rattle.encoder.proofs.Filling.{borrowed-back, borrowed-length, one-filled, all-filled}
use Rattle.encoder.proofs.interleave.row.Goals as goal

pub loop-i-preserved : goal.loop-i-preserved
loop-i-preserved c =
    let a = c.args in
    let i = c.loop-i.i in
    let room = part-within a.count i a.size _ c.loop-i-test.true c.requires.2 in
    one-filled a.size (λ j. piece a.opened.now a.width a.size j a.q) a.out.now i c.loop-i.out _ c.copy_from_slice.new.self c.loop-i.invariant room
    (borrowed-length c.loop-i.out c.copy_from_slice.new.self (i * a.size) a.size (omega (arith, room, c.loop-i.invariant.same)) c.copy_from_slice.ensures.len)
    (borrowed-back c.loop-i.out _ c.copy_from_slice.new.self (i * a.size) a.size refl)
    (c.copy_from_slice.ensures.after ∙ part_cut a.opened.now (i * a.width + a.q * a.size) a.size ∙ sym (part-part a.opened.now (i * a.width) a.width (a.q * a.size) a.size c.requires.1))

pub returns : goal.returns
returns c =
    let done : c.loop-i.i ≡ c.args.count = omega (arith, c.loop-i-test.false) in
    let f : ℕ → List ℕ = λ j. piece c.args.opened.now c.args.width c.args.size j c.args.q in
    rw (sym done) (all-filled c.args.size f c.args.out.now c.loop-i.i c.loop-i.out (rw done c.requires.2) c.loop-i.invariant)
