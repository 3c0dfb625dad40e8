use mathlib.Core.Path.{◌≡◌, sym, ap, ◌∙◌}
use native.Mathlib.Omega.{arith}
use lib.ListN.{get_or}
use Rattle.numbers.specs.Numbers.{bytes4}
use Rattle.lines.specs.Cursor.{field_end, appended}
use Rattle.lines.proofs.FieldEnds.{end-within, end_before, no-tab-end}
use Rattle.lines.proofs.FieldReads.{IsNumber, number_read, number-bad}
use Rattle.lines.proofs.RowLaws.{numbers-bad, numbers-last, numbers_more}
use Rattle.lines.proofs.row.read_numbers.Goals as goal
use Rattle.lines.proofs.row.read_numbers.Goals.{In_ok-number, After-append, Joined-then-number-s, then-number-s-via-then-number-s, then-number-s-via-else-number-s+then-s-number-eq10}

read : (c : In_ok-number) → IsNumber c.args.s.now c.loop-number.place c.in_ok-number.number
read c = number_read c.args.s.now c.loop-number.place _ (sym c.number_at.ensures ∙ c.in_ok-number.was)

-- The number's bytes are appended.
put : (c : After-append) → c.append.new.buffer ≡ appended c.loop-number.n (bytes4 c.in_ok-number.number.value) c.loop-number.buffer
put c = c.append.ensures ∙ ap (λ b. appended c.loop-number.n b c.loop-number.buffer) c.to_le_bytes.ensures

pub returns-in_err-number : goal.returns-in_err-number
returns-in_err-number c =
    let r = numbers-bad c.args.s.now c.args.at c.args.count c.args.buffer.now c.loop-number.place c.loop-number.n c.loop-number.buffer c.loop-number.invariant.3 (number-bad c.args.s.now c.loop-number.place (sym c.number_at.ensures ∙ c.in_err-number.was)) in
    record { row = c.from_residual.ensures ∙ r.row; buffer = r.buffer }

pub overflow_add-place : goal.overflow_add-place
overflow_add-place c = omega (arith, end-within c.args.s.now c.loop-number.place _ c.loop-number.invariant.0 (read (goal.at.overflow_add-place c).In_ok-number).2)

pub bounds-s-number : goal.bounds-s-number
bounds-s-number c = end_before c.args.s.now c.loop-number.place _ c.loop-number.invariant.0 (read (goal.at.bounds-s-number c).In_ok-number).2 c.if-number-s.false

-- No tab ends the line's last field.
no-tab : (c : Joined-then-number-s) → c.in_ok-number.number.end ≡ field_end c.args.s.now c.loop-number.place → get_or c.args.s.now c.in_ok-number.number.end 0 ≡ 9 → ⊥
no-tab c e h =
    elim c.then-number-s.branch [
      | then-number-s-via-then-number-s w ↦ no-tab-end c.args.s.now c.loop-number.place _ c.loop-number.invariant.0 e w.if-number-s.true h
      | then-number-s-via-else-number-s+then-s-number-eq10 w ↦ omega (arith, w.if-s-number-eq10.true)
    ]

pub returns-then-number-s : goal.returns-then-number-s
returns-then-number-s c =
    let d = goal.at.returns-then-number-s c in
    rw c.min-next.ensures (numbers-last c.args.s.now c.args.at c.args.count c.args.buffer.now c.loop-number.place c.loop-number.n c.loop-number.buffer c.loop-number.invariant.3 _ c.loop-number.invariant.0 (read d.In_ok-number) _ (put d.After-append) (no-tab d.Joined-then-number-s (read d.In_ok-number).2))

pub loop-number-smaller : goal.loop-number-smaller
loop-number-smaller c =
    let is = read (goal.at.loop-number-smaller c).In_ok-number in
    omega (arith, is.2, end_before c.args.s.now c.loop-number.place _ c.loop-number.invariant.0 is.2 c.if-number-s.false)

pub loop-number-preserved : goal.loop-number-preserved
loop-number-preserved c =
    let is = read (goal.at.loop-number-preserved c).In_ok-number in
    let within = end_before c.args.s.now c.loop-number.place _ c.loop-number.invariant.0 is.2 c.if-number-s.false in (
      omega arith,
      omega arith,
      c.append.auto.buffer ∙ c.loop-number.invariant.2,
      numbers_more c.args.s.now c.args.at c.args.count c.args.buffer.now c.loop-number.place c.loop-number.n c.loop-number.buffer c.loop-number.invariant.3 _ c.loop-number.invariant.0 is _ (put (goal.at.loop-number-preserved c).After-append) c.if-number-s.false c.if-s-number-eq10.false,
    )
