use mathlib.Core.Path.{◌≡◌, refl, sym, ap, subst, ◌∙◌}
use mathlib.Core.List.{List, [], ◌∷◌}
use Prim.Native.Nat.{ℕ, ◌+◌, ◌*◌}
use lib.ListN.{length}
use Rattle.lanes.specs.Lanes.{lane}
use Rattle.lanes.proofs.Compression.{twenty, moved_on, sixteen-left}
use Rattle.lanes.proofs.Lanes.{length-lane, Each, each_start, each_step, each-end}
use native.Mathlib.Omega.{arith}
use Rattle.lanes.proofs.next_words.Invariants.{moved}
use Rattle.lanes.proofs.next_words.Goals as goal

pub loop-i-init : goal.loop-i-init
loop-i-init c = each_start 4 16 _ _

pub get-requires : goal.get-requires
get-requires c = (omega arith, c.loop-i.auto.words ∙ c.requires)

pub slice_bounds-extend-end : goal.slice_bounds-extend-end
slice_bounds-extend-end c = sym (twenty _ c.get.new.v _ [] (length-lane 4 _ 16 _) c.get.ensures refl)

pub extend-requires : goal.extend-requires
extend-requires c = omega (arith, twenty _ c.get.new.v (0 ∷ 0 ∷ 0 ∷ 0 ∷ []) [] (length-lane 4 _ 16 _) c.get.ensures refl)

pub put-requires : goal.put-requires
put-requires c =
    let left = moved_on _ c.get.new.v (0 ∷ 0 ∷ 0 ∷ 0 ∷ []) c.extend.new.w (length-lane 4 _ 16 _) c.get.ensures refl c.extend.ensures in
    (omega arith, c.loop-i.auto.words ∙ c.requires ∙ ap (λ (n : ℕ). 4 * n) (sym (ap length left ∙ sixteen-left _ (length-lane 4 _ 16 _))))

pub loop-i-preserved : goal.loop-i-preserved
loop-i-preserved c =
    let own : c.get.new.v ≡ lane 4 c.loop-i.i 16 c.args.words.now = c.get.ensures ∙ (c.loop-i.invariant c.loop-i.i (omega arith)).1 (omega arith) in
    let left = moved_on (lane 4 c.loop-i.i 16 c.args.words.now) c.get.new.v (0 ∷ 0 ∷ 0 ∷ 0 ∷ []) c.extend.new.w (length-lane 4 c.loop-i.i 16 c.args.words.now) own refl c.extend.ensures in
    subst (λ (s : List ℕ). Each 4 16 (moved c.args.words.now) (c.loop-i.i + 1) c.args.words.now s) (sym c.put.ensures)
    (each_step 4 16 (moved c.args.words.now) c.loop-i.i c.args.words.now c.loop-i.words _ (omega arith) (omega arith)
    (ap length left ∙ sixteen-left (lane 4 c.loop-i.i 16 c.args.words.now) (length-lane 4 c.loop-i.i 16 c.args.words.now)) left c.loop-i.invariant)

pub returns : goal.returns
returns c = each-end 4 16 _ _ _ c.loop-i.words (omega arith) c.loop-i.invariant
