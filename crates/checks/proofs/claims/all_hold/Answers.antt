-- `claims::all_hold` meets its contract, item by item.
use mathlib.Core.Path.{◌≡◌, refl, ap, ap₂, ◌∙◌}
use mathlib.Core.Bool.{true}
use mathlib.Core.List.{List}
use Prim.Native.Nat.{ℕ, ◌+◌, ◌-◌, ◌*◌, ◌≤◌, ◌<◌}
use native.Mathlib.Omega.{arith}
use borrow.Author.Tests.{tests}
use lib.ListN.{length}
use Rattle.std.proofs.Common.{rules}
use Rattle.std.proofs.iter.Serving.{serving}
use Rattle.std.proofs.lemmas.Iterator.{YieldsList-from_range}
use Rattle.std.proofs.lemmas.Iterator.Search.{all_from_yields_List}
use Rattle.tree.specs.Layout.{part}
use Rattle.theory.specs.Fp.{elements, circuit, read_item, item_below, holds}
use Rattle.theory.proofs.CheckLaws.{every_true, every-cong}
use Rattle.theory.proofs.Parts.{length_part, part_cut, part-within}
use Rattle.checks.proofs.Chunks.{all-to}
use Rattle.checks.proofs.claims.all_hold.Goals as goal

pub all-requires-clause-callable : goal.all-requires-clause-callable
all-requires-clause-callable c =
    let m = c.args.m in
    let n = c.args.n in
    let k = c.args.k in
    let l = c.args.l in
    let size = c.args.size in
    let items = c.args.items.now in
    let wits = c.args.wits.now in
    let h = c.requires.m_bound in
    let item : (i : ℕ) → i < l → i * size + size ≤ length items = λ i q. part-within l i size (length items) q h.4 in
    let wit : (i : ℕ) → i < l → i * (4 * k) + 4 * k ≤ length wits = λ i q. part-within l i (4 * k) (length wits) q h.5 in
    let wide : (i : ℕ) → i < l → length (part items (i * size) (i * size + size - i * size)) ≡ size = λ i q. ap length (part_cut items (i * size) size) ∙ length_part items (i * size) size (item i q) in
    let long : (i : ℕ) → i < l → length (part wits (i * (4 * k)) (i * (4 * k) + 4 * k - i * (4 * k))) ≡ 4 * k = λ i q. ap length (part_cut wits (i * (4 * k)) (4 * k)) ∙ length_part wits (i * (4 * k)) (4 * k) (wit i q) in
    let below : (i : ℕ) → i < l → item_below m n (part items (i * size) (i * size + size - i * size)) ≡ true = λ i q. ap (item_below m n) (part_cut items (i * size) size) ∙ every_true l _ c.requires.size_value.0 i q in
    grind (arith, serving, c.well_formed)

pub returns : goal.returns
returns c =
    let m = c.args.m in
    let n = c.args.n in
    let k = c.args.k in
    let l = c.args.l in
    let size = c.args.size in
    let items = c.args.items.now in
    let wits = c.args.wits.now in
    let M = circuit c.args.circuit.now.a.now c.args.circuit.now.b.now c.args.circuit.now.c.now in
    let item = λ (i : ℕ). i * size in
    let wit = λ (i : ℕ). i * (4 * k) in
    let test = λ (i : ℕ). holds M (read_item m n (part items (item i) (item i + size - item i))) (elements k (part wits (wit i) (wit i + 4 * k - wit i))) in
    all_from_yields_List test _ _ _ c.all.ensures.ran (YieldsList-from_range 0 l l refl (omega arith)) (λ x b q k. search (rules, tests))
    ∙ all-to test l
    ∙ every-cong l _ _ (λ i _. ap₂ (λ (b w : List ℕ). holds M (read_item m n b) (elements k w)) (part_cut items (item i) size) (part_cut wits (wit i) (4 * k)))
