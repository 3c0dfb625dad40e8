use mathlib.Core.Path.{◌≡◌, refl, sym, ap, ◌∙◌}
use mathlib.Core.Bool.{true, false}
use native.Mathlib.Omega.{arith}
use Prim.Native.Nat.{◌+◌}
use lib.ListN.{get_or, get_or-eq_default}
use Rattle.lines.specs.Text.{is_number, is_root, hex_bytes}
use Rattle.lines.specs.Cursor.{field_at, field_end, appended}
use Rattle.lines.proofs.FieldEnds.{tab-within}
use Rattle.lines.proofs.FieldReads.{IsNumber, before-tab-read, before-tab-bad, root-read, no-root}
use Rattle.lines.proofs.RowLaws.{item-start, item-more, item-no-number, item-no-root, item-more-fields, item-last}
use Rattle.lines.proofs.row.read_item.Goals as goal
use Rattle.lines.proofs.row.read_item.Goals.{In-Some, In_default, In_ok-root, Joined-else-end-s, else-end-s-via-else-end-s, else-end-s-via-then-end-s+else-s-end-eq9}

-- A number with a tab behind it.
number : (c : In-Some) → IsNumber c.args.s.now c.loop-number.place c.in-Some.number × (get_or c.args.s.now c.in-Some.number.end 0 ≡ 9)
number c = before-tab-read c.args.s.now c.loop-number.place c.loop-number.invariant.0 _ (sym c.before_tab.ensures ∙ c.in-Some.is)

-- No number with a tab behind it.
no-number : (c : In_default) → get_or c.args.s.now (field_end c.args.s.now c.loop-number.place) 0 ≡ 9 → is_number (field_at c.args.s.now c.loop-number.place) ≡ false
no-number c = before-tab-bad c.args.s.now c.loop-number.place c.loop-number.invariant.0 (sym c.before_tab.ensures ∙ c.in_default.is)

-- What was read behind the numbers is a root.
root : (c : In_ok-root) → (is_root (field_at c.args.s.now c.loop-number.place) ≡ true) × (c.in_ok-root.root ≡ hex_bytes (field_at c.args.s.now c.loop-number.place))
root c = root-read c.args.s.now c.loop-number.place _ (sym c.root_at.ensures ∙ c.in_ok-root.was)

pub loop-number-init : goal.loop-number-init
loop-number-init c = (omega arith, omega arith, omega arith, refl, item-start c.args.s.now c.args.at c.args.count c.args.buffer.now)

pub overflow_add-place : goal.overflow_add-place
overflow_add-place c =
    let read = number (goal.at.overflow_add-place c).In-Some in
    omega (arith, tab-within c.args.s.now c.loop-number.place _ c.loop-number.invariant.0 read.0.2 read.1)

pub loop-number-smaller : goal.loop-number-smaller
loop-number-smaller c =
    let read = number (goal.at.loop-number-smaller c).In-Some in
    omega (arith, read.0.2, tab-within c.args.s.now c.loop-number.place _ c.loop-number.invariant.0 read.0.2 read.1)

pub loop-number-preserved : goal.loop-number-preserved
loop-number-preserved c =
    let read = number (goal.at.loop-number-preserved c).In-Some in
    let within = tab-within c.args.s.now c.loop-number.place _ c.loop-number.invariant.0 read.0.2 read.1 in (
      omega arith,
      omega (arith, read.0.2),
      omega arith,
      c.append.auto.buffer ∙ c.loop-number.invariant.3,
      item-more c.args.s.now c.args.at c.args.count c.args.buffer.now c.loop-number.place c.loop-number.n c.loop-number.buffer c.loop-number.invariant.4 c.loop-number.invariant.0 c.loop-number.invariant.2 _ read.0 read.1 _ (c.append.ensures ∙ ap (λ b. appended c.loop-number.n b c.loop-number.buffer) c.to_le_bytes.ensures),
    )

pub returns-then-n-count : goal.returns-then-n-count
returns-then-n-count c =
    item-no-number c.args.s.now c.args.at c.args.count c.args.buffer.now c.loop-number.place c.loop-number.n c.loop-number.buffer c.loop-number.invariant.4 c.loop-number.invariant.0 (no-number (goal.at.returns-then-n-count c).In_default) c.if-n-count.true

pub returns-in_err-root : goal.returns-in_err-root
returns-in_err-root c =
    let r = item-no-root c.args.s.now c.args.at c.args.count c.args.buffer.now c.loop-number.place c.loop-number.n c.loop-number.buffer c.loop-number.invariant.4 c.loop-number.invariant.0 (no-number (goal.at.returns-in_err-root c).In_default) (no-root c.args.s.now c.loop-number.place (sym c.root_at.ensures ∙ c.in_err-root.was)) in
    record { row = c.from_residual.ensures ∙ r.row; buffer = r.buffer }

pub returns-then-s-end-eq9 : goal.returns-then-s-end-eq9
returns-then-s-end-eq9 c =
    item-more-fields c.args.s.now c.args.at c.args.count c.args.buffer.now c.loop-number.place c.loop-number.n c.loop-number.buffer c.loop-number.invariant.4 c.loop-number.invariant.0 (root (goal.at.returns-then-s-end-eq9 c).In_ok-root).0 _ refl (omega (arith, c.if-s-end-eq9.true))

-- No tab stands behind the root.
no-tab : (c : Joined-else-end-s) → get_or c.args.s.now (c.loop-number.place + 64) 0 ≡ 9 → ⊥
no-tab c h =
    elim c.else-end-s.branch [
      | else-end-s-via-else-end-s w ↦ omega (arith, get_or-eq_default c.args.s.now 0 {n = c.loop-number.place + 64} w.if-end-s.false)
      | else-end-s-via-then-end-s+else-s-end-eq9 w ↦ w.if-s-end-eq9.false h
    ]

pub returns : goal.returns
returns c =
    let d = goal.at.returns c in
    let is = root d.In_ok-root in
    rw c.min-next.ensures (item-last c.args.s.now c.args.at c.args.count c.args.buffer.now c.loop-number.place c.loop-number.n c.loop-number.buffer c.loop-number.invariant.4 c.loop-number.invariant.0 is.0 _ refl c.loop-number.invariant.2 c.if-n-count.false _ _ is.1 c.append-2.ensures (no-tab d.Joined-else-end-s))
