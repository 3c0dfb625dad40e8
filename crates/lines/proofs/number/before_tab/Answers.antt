-- `number::before_tab` meets its contract: a number, and the byte behind it.
use mathlib.Core.Path.{sym, ◌∙◌}
use native.Mathlib.Omega.{arith}
use Rattle.lines.proofs.FieldEnds.{end-within}
use Rattle.lines.proofs.FieldReads.{IsNumber, number_read, before-tab-none, before-tab-end, before-tab-newline, before-tab-value}
use Rattle.lines.proofs.number.before_tab.Goals as goal
use Rattle.lines.proofs.number.before_tab.Goals.{In_ok-number}

read : (c : In_ok-number) → IsNumber c.args.s.now c.args.at c.in_ok-number.number
read c = number_read c.args.s.now c.args.at _ (sym c.number_at.ensures ∙ c.in_ok-number.was)

pub returns-in_err-number : goal.returns-in_err-number
returns-in_err-number c = c.from_residual.ensures ∙ before-tab-none c.args.s.now c.args.at (sym c.number_at.ensures ∙ c.in_err-number.was)

pub returns-then-number-s : goal.returns-then-number-s
returns-then-number-s c = before-tab-end c.args.s.now c.args.at _ (read (goal.at.returns-then-number-s c).In_ok-number).2 c.if-number-s.true

pub bounds-s-number : goal.bounds-s-number
bounds-s-number c = omega (arith, end-within c.args.s.now c.args.at c.in_ok-number.number.end c.requires (read (goal.at.bounds-s-number c).In_ok-number).2)

pub returns-then-s-number-eq10 : goal.returns-then-s-number-eq10
returns-then-s-number-eq10 c = before-tab-newline c.args.s.now c.args.at _ (read (goal.at.returns-then-s-number-eq10 c).In_ok-number).2 c.if-s-number-eq10.true

pub returns : goal.returns
returns c = before-tab-value c.args.s.now c.args.at c.requires _ (sym c.number_at.ensures ∙ c.in_ok-number.was) c.if-number-s.false c.if-s-number-eq10.false
