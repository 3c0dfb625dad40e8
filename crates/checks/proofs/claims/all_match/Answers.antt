-- `claims::all_match` meets its contract, item by item.
use mathlib.Core.Path.{◌≡◌, refl, ap, ap₂, ◌∙◌}
use mathlib.Core.Bool.{true}
use mathlib.Core.List.{List}
use Prim.Native.Nat.{ℕ, ◌+◌, ◌-◌, ◌*◌, ◌≤◌, ◌<◌}
use native.Mathlib.Omega.{arith}
use borrow.Author.Tests.{tests}
use lib.ListN.{length}
use Rattle.std.proofs.Common.{rules}
use Rattle.std.proofs.iter.Serving.{serving}
use Rattle.std.proofs.lemmas.Iterator.{YieldsList-from_range}
use Rattle.std.proofs.lemmas.Iterator.Search.{all_from_yields_List}
use Rattle.numbers.specs.Equality.{same_bytes}
use Rattle.tree.specs.Layout.{part}
use Rattle.code.proofs.Sizes.{count-few}
use Rattle.theory.specs.Sizes.{elements_below}
use Rattle.theory.specs.Fp.{fp, witness_root, elements}
use Rattle.theory.proofs.CheckLaws.{every-cong}
use Rattle.theory.proofs.ElementBytes.{witness-below}
use Rattle.theory.proofs.FpLaws.{fp-laws}
use Rattle.theory.proofs.Parts.{length_part, part_cut, part-within}
use Rattle.checks.proofs.Chunks.{all-to}
use Rattle.checks.proofs.claims.all_match.Goals as goal

pub all-requires-clause-callable : goal.all-requires-clause-callable
all-requires-clause-callable c =
    let k = c.args.k in
    let l = c.args.l in
    let size = c.args.size in
    let items = c.args.items.now in
    let wits = c.args.wits.now in
    let few : k ≤ 64 = count-few k c.requires.0 in
    let item : (i : ℕ) → i < l → i * size + size ≤ length items = λ i h. part-within l i size (length items) h c.requires.2 in
    let wit : (i : ℕ) → i < l → i * (4 * k) + 4 * k ≤ length wits = λ i h. part-within l i (4 * k) (length wits) h c.requires.3 in
    let long : (i : ℕ) → i < l → length (part wits (i * (4 * k)) (i * (4 * k) + 4 * k - i * (4 * k))) ≡ 4 * k = λ i h. ap length (part_cut wits (i * (4 * k)) (4 * k)) ∙ length_part wits (i * (4 * k)) (4 * k) (wit i h) in
    let below : (i : ℕ) → i < l → elements_below (part wits (i * (4 * k)) (i * (4 * k) + 4 * k - i * (4 * k))) ≡ true = λ i h. ap elements_below (part_cut wits (i * (4 * k)) (4 * k)) ∙ witness-below fp fp-laws k l i wits h c.requires.3 c.requires.4 in
    grind (arith, serving, c.well_formed)

pub returns : goal.returns
returns c =
    let k = c.args.k in
    let l = c.args.l in
    let points = c.args.points.now in
    let items = c.args.items.now in
    let wits = c.args.wits.now in
    let root = λ (i : ℕ). i * c.args.size + c.args.front in
    let wit = λ (i : ℕ). i * (4 * k) in
    let test = λ (i : ℕ). same_bytes (part items (root i) (root i + 32 - root i)) (witness_root k points (elements k (part wits (wit i) (wit i + 4 * k - wit i)))) in
    all_from_yields_List test _ _ _ c.all.ensures.ran (YieldsList-from_range 0 l l refl (omega arith)) (λ x b q k. search (rules, tests))
    ∙ all-to test l
    ∙ every-cong l _ _ (λ i _. ap₂ (λ (r w : List ℕ). same_bytes r (witness_root k points (elements k w))) (part_cut items (root i) 32) (part_cut wits (wit i) (4 * k)))
