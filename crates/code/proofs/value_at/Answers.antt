use Prim.Native.Nat.{◌+◌, ◌-◌}
use native.Mathlib.Nat.{sub-zero}
use native.Mathlib.Omega.{arith}
use lib.ListN.{length, length-reverse}
use Rattle.std.proofs.lemmas.List.{length_push}
use Rattle.std.proofs.lemmas.Iterator.Adapters.{YieldsList-from_rev_slice}
use Rattle.std.proofs.lemmas.Iterator.Consumers.{YieldsList-turn, YieldsList-end}
use Rattle.field.proofs.Laws.{below-p}
use Rattle.code.proofs.Loops.{upper-end, upper-turn, upper-all, from-the-end}
use Rattle.code.proofs.value_at.Goals as goal

pub loop-number-init : goal.loop-number-init
loop-number-init c = rw sub-zero (upper-end c.args.w.now c.args.x)

pub add-acc-requires : goal.add-acc-requires
add-acc-requires c =
    let t = from-the-end c.args.w.now (length c.loop-number.yielded) c.in-Some.number.now (YieldsList-turn (YieldsList-from_rev_slice c.args.w.now cc) c.loop-number.yielded _ c.loop-number.yielded_by _ _ c.in-Some.number c.in-Some.is c.next.ensures.steps) in
    (rw t.1 (c.requires (length c.args.w.now - (length c.loop-number.yielded + 1)) (omega (arith, t.0))), below-p _ c.mul.ensures)

pub loop-number-preserved : goal.loop-number-preserved
loop-number-preserved c =
    let t = from-the-end c.args.w.now (length c.loop-number.yielded) c.in-Some.number.now (YieldsList-turn (YieldsList-from_rev_slice c.args.w.now cc) c.loop-number.yielded _ c.loop-number.yielded_by _ _ c.in-Some.number c.in-Some.is c.next.ensures.steps) in
    rw (length_push c.loop-number.yielded c.in-Some.number) (upper-turn c.args.w.now c.args.x (length c.args.w.now - (length c.loop-number.yielded + 1)) (length c.args.w.now - length c.loop-number.yielded) c.loop-number.acc
    (omega (arith, t.0)) (omega (arith, t.0)) c.loop-number.invariant c.mul.result c.add-acc.result c.mul.ensures (rw (← t.1) c.add-acc.ensures))

pub returns : goal.returns
returns c =
    let t = YieldsList-end (YieldsList-from_rev_slice c.args.w.now cc) c.loop-number.yielded _ c.loop-number.yielded_by _ _ c.in-None.is c.next.ensures.steps in
    upper-all c.args.w.now c.args.x (length c.args.w.now - length c.loop-number.yielded) c.loop-number.acc (omega (arith, t.1, length-reverse c.args.w.now)) c.loop-number.invariant
