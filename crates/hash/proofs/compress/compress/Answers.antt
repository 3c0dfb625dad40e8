use Rattle.std.proofs.Common.{◌≡◌, ℕ, ◌+◌, ◌*◌, List, length, sym, refl, ap, ◌∙◌, arith, rules}
use Rattle.hash.specs.Sha256.{K, rounds, sum, compress}
use Rattle.hash.proofs.Round.{more-rounds, part, length_part, get_or-part}
use Rattle.hash.proofs.compress.compress.Goals as goal

pub loop-i-init : goal.loop-i-init
unfolding rounds
loop-i-init c = refl

pub rounds-s-requires : goal.rounds-s-requires
rounds-s-requires c =
    let l : length c.schedule-w.result ≡ 64 = search rules in
    length_part (8 * c.loop-i.i) 8 _ (omega arith) ∙ sym (length_part (8 * c.loop-i.i) 8 c.schedule-w.result (omega arith))

pub loop-i-preserved : goal.loop-i-preserved
unfolding K
loop-i-preserved c =
    let l : length c.schedule-w.result ≡ 64 = search rules in
    let t : ℕ = 8 * c.loop-i.i in
    let next : t + 8 ≡ 8 * (c.loop-i.i + 1) = omega arith in
    more-rounds K c.schedule-w.result c.args.h (part t 8 K) (part t 8 c.schedule-w.result) c.loop-i.s c.rounds-s.result t 8 c.loop-i.invariant (get_or-part t 8 K) (get_or-part t 8 c.schedule-w.result)
    (c.rounds-s.ensures ∙ ap (rounds (part t 8 K) (part t 8 c.schedule-w.result) c.loop-i.s) (length_part t 8 c.schedule-w.result (omega arith)))
    ∙ ap (rounds K c.schedule-w.result c.args.h) next

pub returns : goal.returns
unfolding K compress sum
returns c =
    let all : 8 * c.loop-i.i ≡ 64 = omega arith in
    c.sum.ensures ∙ ap (λ (x : List ℕ). sum x c.args.h) (c.loop-i.invariant ∙ (λ i. rounds K (c.schedule-w.ensures i) c.args.h (all i)))
