use mathlib.Core.Path.{◌≡◌, sym, ◌∙◌}
use mathlib.Core.Bool.{true}
use Prim.Native.Nat.{ℕ, ◌-◌, ◌<◌}
use native.Mathlib.Omega.{arith}
use lib.Dec.{eqb}
use lib.ListN.{length, get_or}
use Rattle.std.specs.Prelude.{Some, None, Result, Ok, Err}
use Rattle.std.specs.Result.{OkIff, result_ok}
use Rattle.lines.specs.Text.{is_digit}
use Rattle.lines.specs.Cursor.{field_at}
use Rattle.lines.proofs.NumberLaws.{digit-high, greatest-ten, digits-next, number-other, number-longer, number-big, number-none, number-zero, number-good}
use Rattle.lines.proofs.number.number_at.Goals as goal
use Rattle.lines.proofs.number.number_at.Goals.{Then-is_ascii_digit, Else-not-field_over, then-loop-end-test+else-is_ascii_digit, else-loop-end-test}

digit : (c : Then-is_ascii_digit) → is_digit (get_or c.args.s.now c.loop-end.end 0) ≡ true
digit c = sym c.is_ascii_digit.ensures.value ∙ c.if-is_ascii_digit.true

pub overflow_mul-value : goal.overflow_mul-value
overflow_mul-value c = omega (arith, greatest-ten (c.loop-end.end - c.args.at) (omega arith))

pub overflow_add-value : goal.overflow_add-value
overflow_add-value c = omega (arith, digit-high (get_or c.args.s.now c.loop-end.end 0) (digit (goal.at.overflow_add-value c).Then-is_ascii_digit), greatest-ten (c.loop-end.end - c.args.at) (omega arith))

pub loop-end-preserved : goal.loop-end-preserved
loop-end-preserved c = (omega arith, digits-next c.args.s.now c.args.at c.loop-end.value c.loop-end.end c.loop-end.invariant.1 (omega arith) (digit (goal.at.loop-end-preserved c).Then-is_ascii_digit))

pub returns-then-not-field_over : goal.returns-then-not-field_over
returns-then-not-field_over c =
    let more = sym c.field_over.ensures ∙ c.if-not-field_over.true in
    elim c.loop-end-test.branch [
      | else-loop-end-test w ↦ number-longer c.args.s.now c.args.at c.loop-end.value c.loop-end.end c.loop-end.invariant.1 more (omega arith) (omega (arith, w.loop-end-test.false))
      | then-loop-end-test+else-is_ascii_digit w ↦ number-other c.args.s.now c.args.at c.loop-end.value c.loop-end.end c.loop-end.invariant.1 more (omega (arith, w.loop-end-test.true)) (sym w.is_ascii_digit.ensures.value ∙ w.if-is_ascii_digit.false)
    ]

-- The field ends at `end`.
over : (c : Else-not-field_over) → eqb (length (field_at c.args.s.now c.loop-end.end)) 0 ≡ true
over c = sym c.field_over.ensures ∙ c.if-not-field_over.false

pub returns-then-count-eq0 : goal.returns-then-count-eq0
returns-then-count-eq0 c = number-none c.args.s.now c.args.at c.loop-end.value c.loop-end.end c.loop-end.invariant.1 (over (goal.at.returns-then-count-eq0 c).Else-not-field_over) c.if-count-eq0.true

pub returns-then-count-s : goal.returns-then-count-s
returns-then-count-s c = number-zero c.args.s.now c.args.at c.loop-end.value c.loop-end.end c.loop-end.invariant.1 (over (goal.at.returns-then-count-s c).Else-not-field_over) (omega arith) c.if-count-eq0.false c.if-count-s.true

-- Where the conversion gives a value, it is the number; where it gives none, the number is too large.
fits : {E : Type 0} (r : Result ℕ E) (v x : ℕ) → OkIff r (v < 4294967296) v → result_ok r ≡ Some x → (x ≡ v) × (v < 4294967296)
fits (Ok y) v x h e = (cc, h.0)
fits (Err z) v x h e = cc

too-big : {E : Type 0} (r : Result ℕ E) (v : ℕ) → OkIff r (v < 4294967296) v → result_ok r ≡ None → 4294967295 < v
too-big (Ok y) v h e = cc
too-big (Err z) v h e = omega (arith, h)

pub returns-in_err-value : goal.returns-in_err-value
returns-in_err-value c = c.from_residual.ensures ∙ number-big c.args.s.now c.args.at c.loop-end.value c.loop-end.end c.loop-end.invariant.1 (too-big _ _ c.try_from.ensures (sym c.ok.ensures.value ∙ c.in_err-value.was))

pub returns : goal.returns
returns c =
    let v : (c.in_ok-value.value ≡ c.loop-end.value) × (c.loop-end.value < 4294967296) = fits _ _ _ c.try_from.ensures (sym c.ok.ensures.value ∙ c.in_ok-value.was) in
    rw v.0 (number-good c.args.s.now c.args.at c.loop-end.value c.loop-end.end c.loop-end.invariant.1 (over (goal.at.returns c).Else-not-field_over) (omega arith) (omega arith) c.if-count-eq0.false c.if-count-s.false)
