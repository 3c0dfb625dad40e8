use Prim.Native.Nat.{◌^◌, ◌<◌}
use native.Mathlib.Omega.{arith}
use lib.ListN.{length}
use Rattle.hash.specs.Sha256.{digest}
use Rattle.hash.proofs.DigestLaws.{digest-length}
use Rattle.numbers.specs.Numbers.{numbers}
use Rattle.numbers.proofs.Bounds.{below}
use Rattle.tree.proofs.Openings.{count-numbers, room, one_written, all-written}
use Rattle.tree.proofs.write_openings.Goals as goal
use Rattle.tree.proofs.write_openings.Goals.{After-get-position}

-- q is the place of a position
more : (c : After-get-position) → c.loop-q.q < length (numbers c.args.positions.now)
more c = omega (arith, c.loop-q-test.true, count-numbers c.args.positions.now)

pub overflow_mul-q : goal.overflow_mul-q
overflow_mul-q c = omega (arith, room digest digest-length c.args.depth c.args.values.now (numbers c.args.positions.now) c.args.out.now c.requires.3 c.loop-q.q c.loop-q.out c.loop-q.auto.out (more (goal.at.overflow_mul-q c).After-get-position))

pub write_opening-requires : goal.write_opening-requires
write_opening-requires c =
    let here = more (goal.at.write_opening-requires c).After-get-position in (
      c.requires.0,
      c.requires.1,
      rw c.get-position.ensures (below (2 ^ c.args.depth) (numbers c.args.positions.now) c.requires.2 _ (omega (arith, here))),
      room digest digest-length c.args.depth c.args.values.now (numbers c.args.positions.now) c.args.out.now c.requires.3 c.loop-q.q c.loop-q.out c.loop-q.auto.out here,
      c.fill.ensures,
    )

pub loop-q-preserved : goal.loop-q-preserved
loop-q-preserved c =
    one_written digest digest-length c.args.depth c.args.values.now (numbers c.args.positions.now) c.args.out.now c.requires.3 c.loop-q.q c.loop-q.out c.loop-q.auto.out c.loop-q.invariant
    (more (goal.at.loop-q-preserved c).After-get-position) c.get-position.result c.write_opening.new.out c.get-position.ensures c.write_opening.ensures

pub returns : goal.returns
returns c =
    all-written digest digest-length c.args.depth c.args.values.now (numbers c.args.positions.now) c.args.out.now c.requires.3 c.loop-q.q c.loop-q.out c.loop-q.auto.out c.loop-q.invariant
    (omega (arith, c.loop-q-test.false, count-numbers c.args.positions.now))
