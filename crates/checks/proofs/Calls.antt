-- Checks one after the other, and what a refusal leaves in a buffer. r is what the code's test of a check gave.
use mathlib.Core.Path.{◌≡◌, refl, sym, ap, ◌∙◌}
use mathlib.Core.Bool.{Bool, true, false, cond, ◌&&◌}
use mathlib.Core.List.{List}
use Prim.Native.Nat.{ℕ, zero, suc}
use native.Mathlib.Omega.{arith}
use Rattle.std.specs.Prelude.{Option, Some, None, Result, Ok, Err}
use Rattle.std.specs.Option.{ok_or}
use Rattle.theory.specs.Checks.{answer_if, written}
use Rattle.theory.proofs.CheckLaws.{written-accepted}
use Rattle.checks.specs.declared.refusal.Refusal.{Refusal}
use Rattle.checks.specs.declared.refusal.Refusal.TheVariants.{Lines, Sizes, Numbers, Entries, Challenge, Positions, NewItem, Openings, Values, Roots, Claims, Points, LeadingOne}
use Rattle.checks.specs.Refusals.{number_of}

-- ---- answers

-- A check that fails gives the answer.
pub fails : (n : ℕ) {r b : Bool} (next : ℕ) → r ≡ b → r ≡ false → n ≡ answer_if b n next
fails n {r} {b} next e h = sym (ap (λ (t : Bool). answer_if t n next) (sym e ∙ h))

-- Where a check passes, the answer is that of the checks behind it.
pub passes : (n : ℕ) {r b : Bool} {x next : ℕ} → r ≡ b → r ≡ true → x ≡ next → x ≡ answer_if b n next
passes n {r} {b} {x} {next} e h k = k ∙ sym (ap (λ (t : Bool). answer_if t n next) (sym e ∙ h))

-- What a check's test says of the check.
pub passed : {r b : Bool} → r ≡ b → r ≡ true → b ≡ true
passed e h = sym e ∙ h

pub failed : {r b : Bool} → r ≡ b → r ≡ false → b ≡ false
failed e h = sym e ∙ h

-- ---- buffers, for an answer r that is the one defined

-- A refusal leaves what was there.
pub refused : {r a : ℕ} (result held : List ℕ) → r ≡ a → (r ≡ 0 → ⊥) → held ≡ written a result held
refused {r} {a} result held e h = at a (λ z. h (e ∙ z))
  where
    at : (a : ℕ) → (a ≡ 0 → ⊥) → held ≡ written a result held
    at zero k = absurd (k refl)
    at (suc a) k = refl

-- An acceptance writes the result.
pub accepted : {r a : ℕ} {x result : List ℕ} (held : List ℕ) → r ≡ a → r ≡ 0 → x ≡ result → x ≡ written a result held
accepted {r} {a} {x} {result} held e h k = k ∙ sym (written-accepted result held (sym e ∙ h))

-- ---- tests joined by &&

-- Where the first fails, all of them do; where it passes, the others decide.
pub and-fails : {a : Bool} (b : Bool) → a ≡ false → false ≡ (a && b)
and-fails {a} b h = sym (ap (λ (t : Bool). t && b) h)

pub and-passes : {a b r : Bool} → a ≡ true → r ≡ b → r ≡ (a && b)
and-passes {a} {b} {r} h e = e ∙ sym (ap (λ (t : Bool). t && b) h)

-- ---- verdicts

-- What `ensure` gives, and what a refusal or an acceptance then says of the check.
abbrev pub ensured : Bool → Refusal → Result (Unit {0}) Refusal
ensured b s = cond b (Ok tt) (Err s)

pub check-failed : (b : Bool) (e s : Refusal) → Err e ≡ ensured b s → (b ≡ false) × (s ≡ e)
check-failed true e s h = cc
check-failed false e s h = (refl, cc)

pub check-passed : (b : Bool) (u : Unit {0}) (s : Refusal) → Ok u ≡ ensured b s → b ≡ true
check-passed true u s h = refl
check-passed false u s h = cc

-- A refusal's number is not 0.
pub some-number : (e : Refusal) → number_of e ≡ 0 → ⊥
some-number e = elim e as (λ r. number_of r ≡ 0 → ⊥) [
  | Lines ↦ λ h. omega arith
  | Sizes ↦ λ h. omega arith
  | Numbers ↦ λ h. omega arith
  | Entries ↦ λ h. omega arith
  | Challenge ↦ λ h. omega arith
  | Positions ↦ λ h. omega arith
  | NewItem ↦ λ h. omega arith
  | Openings ↦ λ h. omega arith
  | Values ↦ λ h. omega arith
  | Roots ↦ λ h. omega arith
  | Claims ↦ λ h. omega arith
  | Points ↦ λ h. omega arith
  | LeadingOne ↦ λ h. omega arith
]

-- So a refusal leaves what was there, and an acceptance writes the result.
pub refuses : (e : Refusal) {a : ℕ} (result held : List ℕ) → number_of e ≡ a → held ≡ written a result held
refuses e result held h = refused result held h (some-number e)

pub accepts : {a : ℕ} {x result : List ℕ} (held : List ℕ) → 0 ≡ a → x ≡ result → x ≡ written a result held
accepts held h k = accepted held h refl k

-- What `ok_or` refuses with.
pub refused-with : {A : Type 0} (o : Option A) (e s : Refusal) → Err e ≡ ok_or o s → number_of e ≡ number_of s
refused-with None e s h = ap number_of cc
refused-with (Some x) e s h = absurd cc
