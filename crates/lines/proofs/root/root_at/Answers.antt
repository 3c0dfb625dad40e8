use mathlib.Core.Path.{◌≡◌, refl, sym, ap₂, ◌∙◌}
use mathlib.Core.Bool.{true, ◌&&◌}
use Prim.Native.Nat.{◌+◌, ◌*◌}
use native.Mathlib.Omega.{arith}
use lib.ListN.{replicate, length-set}
use Rattle.lines.proofs.HexLaws.{pair_passes, high, low, high_small, low_small, root-bad, root-short, read_none, read-bad, read_more, read-long, read_all}
use Rattle.lines.proofs.root.root_at.Goals as goal
use Rattle.lines.proofs.root.root_at.Goals.{Else-not-is_hex_digit}

pub returns-then-s-at-lt64 : goal.returns-then-s-at-lt64
returns-then-s-at-lt64 c = root-bad c.args.s.now c.args.at (root-short c.args.s.now c.args.at (omega arith) c.requires)

pub loop-i-init : goal.loop-i-init
loop-i-init c = (refl, read_none c.args.s.now c.args.at (replicate 32 0))

-- The two bytes are digits.
digits : (c : Else-not-is_hex_digit) → pair_passes c.args.s.now (c.args.at + 2 * c.loop-i.i) ≡ true
digits c = sym (ap₂ ◌&&◌ c.is_hex_digit.ensures c.is_hex_digit-in-loop-i.ensures) ∙ c.if-not-is_hex_digit.false

pub returns-then-not-is_hex_digit : goal.returns-then-not-is_hex_digit
returns-then-not-is_hex_digit c = root-bad c.args.s.now c.args.at (read-bad c.args.s.now c.args.at c.loop-i.bytes c.loop-i.i (omega arith) (omega arith) c.loop-i.invariant.1 (sym (ap₂ ◌&&◌ c.is_hex_digit.ensures c.is_hex_digit-in-loop-i.ensures) ∙ c.if-not-is_hex_digit.true))

pub hex_value-requires : goal.hex_value-requires
hex_value-requires c = high c.args.s.now (c.args.at + 2 * c.loop-i.i) (digits (goal.at.hex_value-requires c).Else-not-is_hex_digit)

pub overflow_mul-bytes : goal.overflow_mul-bytes
overflow_mul-bytes c = omega (arith, c.hex_value.ensures, high_small c.args.s.now (c.args.at + 2 * c.loop-i.i) (digits (goal.at.overflow_mul-bytes c).Else-not-is_hex_digit))

pub hex_value-requires-in-loop-i : goal.hex_value-requires-in-loop-i
hex_value-requires-in-loop-i c = low c.args.s.now (c.args.at + 2 * c.loop-i.i) (digits (goal.at.hex_value-requires-in-loop-i c).Else-not-is_hex_digit)

pub overflow_add-bytes : goal.overflow_add-bytes
overflow_add-bytes c =
    let j = c.args.at + 2 * c.loop-i.i in
    omega (arith, c.hex_value.ensures, high_small c.args.s.now j (digits (goal.at.overflow_add-bytes c).Else-not-is_hex_digit), c.hex_value-in-loop-i.ensures, low_small c.args.s.now j (digits (goal.at.overflow_add-bytes c).Else-not-is_hex_digit))

pub loop-i-preserved : goal.loop-i-preserved
loop-i-preserved c = (
  length-set c.loop-i.bytes c.loop-i.i _ ∙ c.loop-i.invariant.0,
  read_more c.args.s.now c.args.at c.loop-i.bytes c.loop-i.i (omega arith) (omega arith) c.loop-i.invariant.1 (digits (goal.at.loop-i-preserved c).Else-not-is_hex_digit) (omega arith) _ (ap₂ (λ x y. 16 * x + y) c.hex_value.ensures c.hex_value-in-loop-i.ensures),
)

pub returns-then-not-field_over : goal.returns-then-not-field_over
returns-then-not-field_over c = root-bad c.args.s.now c.args.at (read-long c.args.s.now c.args.at c.loop-i.bytes c.loop-i.i (omega arith) c.loop-i.invariant.1 (sym c.field_over.ensures ∙ c.if-not-field_over.true))

pub returns : goal.returns
returns c = read_all c.args.s.now c.args.at c.loop-i.bytes c.loop-i.i (omega arith) c.loop-i.invariant.1 c.loop-i.invariant.0 (sym c.field_over.ensures ∙ c.if-not-field_over.false)
