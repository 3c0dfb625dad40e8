-- `challenge::challenge_of` meets its contract: the byte 0x03 and the seed are fed in.
use mathlib.Core.Path.{ap, ◌∙◌}
use mathlib.Core.List.{List}
use Prim.Native.Nat.{ℕ, ◌+◌, ◌-◌, ◌%◌}
use Rattle.field.specs.BabyBear.{p}
use Rattle.draw.specs.Draw.{eight, challenge_of}
use Rattle.draw.proofs.challenge.challenge_of.Goals as goal

pub returns : goal.returns
unfolding challenge_of
returns c =
    let fed = c.feed-2.ensures.follows _ (c.feed.ensures.follows _ c.new.ensures) in
    ap (λ (x : ℕ). c.args.l + x) (c.eight.ensures ∙ ap (λ (d : List ℕ). eight d % (p - c.args.l)) (c.digest-d.ensures _ fed))
