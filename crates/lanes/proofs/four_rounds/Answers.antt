use mathlib.Core.Path.{◌≡◌, sym, ap, subst, ◌∙◌}
use mathlib.Core.List.{List}
use Prim.Native.Nat.{ℕ, ◌+◌, ◌*◌}
use lib.ListN.{length}
use Rattle.hash.specs.Sha256.{rounds}
use Rattle.lanes.specs.Lanes.{lane}
use Rattle.lanes.proofs.Lanes.{length-lane, Each, each_start, each_step, each-end}
use native.Mathlib.Omega.{arith}
use borrow.Author.Rules.{rules}
use Rattle.lanes.proofs.four_rounds.Invariants.{after}
use Rattle.lanes.proofs.four_rounds.Goals as goal

pub loop-i-init : goal.loop-i-init
loop-i-init c = each_start 4 8 _ _

pub get-requires : goal.get-requires
get-requires c = (omega arith, c.loop-i.auto.state ∙ c.requires.0)

pub get-requires-in-loop-i : goal.get-requires-in-loop-i
get-requires-in-loop-i c = (omega arith, c.requires.1)

pub rounds-next-requires : goal.rounds-next-requires
rounds-next-requires c = c.requires.2 ∙ sym (ap length c.get-in-loop-i.ensures ∙ length-lane 4 _ 4 _)

pub put-requires : goal.put-requires
put-requires c =
    let l : length c.rounds-next.result ≡ 8 = search rules in
    (omega arith, c.loop-i.auto.state ∙ c.requires.0 ∙ ap (λ (n : ℕ). 4 * n) (sym l))

pub loop-i-preserved : goal.loop-i-preserved
loop-i-preserved c =
    let four : length c.get-in-loop-i.new.v ≡ 4 = ap length c.get-in-loop-i.ensures ∙ length-lane 4 c.loop-i.i 4 c.args.words.now in
    let state-is : c.get.new.v ≡ lane 4 c.loop-i.i 8 c.args.state.now = c.get.ensures ∙ (c.loop-i.invariant c.loop-i.i (omega arith)).1 (omega arith) in
    let done : c.rounds-next.result ≡ after c.args.k.now c.args.words.now c.args.state.now c.loop-i.i =
    c.rounds-next.ensures ∙ (λ j. rounds c.args.k.now (c.get-in-loop-i.ensures j) (state-is j) (four j)) in
    subst (λ (s : List ℕ). Each 4 8 (after c.args.k.now c.args.words.now c.args.state.now) (c.loop-i.i + 1) c.args.state.now s) (sym c.put.ensures)
    (each_step 4 8 (after c.args.k.now c.args.words.now c.args.state.now) c.loop-i.i c.args.state.now c.loop-i.state c.rounds-next.result (omega arith)
    (omega arith) (search rules) done c.loop-i.invariant)

pub returns : goal.returns
returns c = each-end 4 8 _ _ _ c.loop-i.state (omega arith) c.loop-i.invariant
