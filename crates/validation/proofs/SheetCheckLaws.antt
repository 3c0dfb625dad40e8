-- The checks of a sheet: what check 1 and check 2 show, and what a refusal gives.
use mathlib.Core.Path.{◌≡◌, refl, ap, ◌∙◌}
use mathlib.Core.Bool.{Bool, true}
use mathlib.Core.List.{List, [], ◌∷◌}
use Prim.Native.Nat.{ℕ, zero, suc, ◌≤◌}
use native.Mathlib.Omega.{arith}
use borrow.Author.Tests.{leb-true, eqb-true, le-leb}
use lib.Dec.{leb, eqb}
use lib.ListN.{length}
use Rattle.std.specs.Prelude.{replicate, Option, None, Ok, Err}
use Rattle.std.specs.Option.{ok_or}
use Rattle.std.proofs.lemmas.List.{length-replicate}
use Rattle.numbers.proofs.Tests.{each-true, and_left, and_right}
use Rattle.code.specs.Points.{is_witness_count}
use Rattle.theory.specs.Sizes.{has_length}
use Rattle.checks.specs.declared.refusal.Refusal.{Refusal}
use Rattle.checks.specs.declared.refusal.Refusal.TheVariants.{LeadingOne}
use Rattle.checks.specs.Refusals.{number_of}
use Rattle.checks.proofs.Calls.{and-passes, some-number}
use Rattle.lines.specs.Lines.{Line}
use Rattle.validation.specs.declared.reading.Reading.{Reading}
use Rattle.scan.specs.declared.state.State.{State}
use Rattle.scan.specs.Sheet.{sheet_lines, ordered}
use Rattle.validation.specs.SheetChecks.{keeps_rules, state_fits, buffers_fit, result_of, outcome}
use Rattle.validation.specs.CheckParts.{IsReadingOf}
use Rattle.validation.specs.Counts.{EntryLengths, PairLengths}

-- ---- check 1

pub short : (s : List ℕ) {r : Bool} → length s ≤ 60000 → r ≡ ordered (sheet_lines s) → r ≡ keeps_rules s
short s h e = and-passes (le-leb (length s) 60000 h) e

pub rules-short : (s : List ℕ) → keeps_rules s ≡ true → length s ≤ 60000
rules-short s h = leb-true (length s) 60000 (and_left _ (ordered (sheet_lines s)) h)

pub rules-ordered : (s : List ℕ) → keeps_rules s ≡ true → ordered (sheet_lines s) ≡ true
rules-ordered s h = and_right (leb (length s) 60000) _ h

-- ---- check 2

-- The tests behind those of m, n and k.
abbrev tests : State → List Bool
tests st =
    leb 1 st.sizes.n ∷ leb st.sizes.n 64 ∷ is_witness_count st.sizes.k
    ∷ leb st.entries.a 1024 ∷ leb st.entries.b 1024 ∷ leb st.entries.c 1024
    ∷ leb 1 st.pairs.count ∷ leb st.pairs.count 64
    ∷ st.fit
    ∷ eqb st.end st.pairs.count
    ∷ []

pub state-pairs-fit : (st : State) → state_fits st ≡ true → st.fit ≡ true
state-pairs-fit st fits = (each-true (leb st.sizes.m 6) (tests st) fits).1.1.1.1.1.1.1.1.1.0

-- The buffers have the greatest lengths.
pub buffer-lengths : (a b c items wits : List ℕ) → buffers_fit a b c items wits ≡ true → EntryLengths a b c × PairLengths items wits
buffer-lengths a b c items wits fits =
    let t = each-true (has_length a 12288) (has_length b 12288 ∷ has_length c 12288 ∷ has_length items 20224 ∷ has_length wits 16384 ∷ []) fits in (
      record {
        a-length = eqb-true (length a) 12288 t.0;
        b-length = eqb-true (length b) 12288 t.1.0;
        c-length = eqb-true (length c) 12288 t.1.1.0;
      },
      record {
        items-length = eqb-true (length items) 20224 t.1.1.1.0;
        wits-length = eqb-true (length wits) 16384 t.1.1.1.1.0;
      },
    )

-- So have arrays of their sizes.
pub scratch-entries : EntryLengths (replicate 12288 0) (replicate 12288 0) (replicate 12288 0)
scratch-entries = record { a-length = length-replicate {A = ℕ} 12288 0; b-length = length-replicate {A = ℕ} 12288 0; c-length = length-replicate {A = ℕ} 12288 0 }

pub scratch-pairs : PairLengths (replicate 20224 0) (replicate 16384 0)
scratch-pairs = record { items-length = length-replicate {A = ℕ} 20224 0; wits-length = length-replicate {A = ℕ} 16384 0 }

-- ---- refusals

-- Where there is no value, a call refuses with what stands for it.
pub ok_or-none : {A : Type 0} {o : Option A} {x e : Refusal} → o ≡ None → Err e ≡ ok_or o x → e ≡ x
ok_or-none {A} {o} {x} {e} none q = let told = q ∙ ap (λ (t : Option A). ok_or t x) none in cc

-- A refusal but LeadingOne has another number.
pub not-leading : (e : Refusal) → (e ≡ LeadingOne → ⊥) → number_of e ≡ 13 → ⊥
not-leading e = elim e as (λ r. (r ≡ LeadingOne → ⊥) → number_of r ≡ 13 → ⊥) [ LeadingOne ↦ λ h n. h refl | _ ↦ λ h n. omega arith ]

-- A refusal has zeros, and says nothing of the lines.
refusal-zeros : (x : ℕ) (ls : List Line) → (x ≡ 0 → ⊥) → record { answer = x; m = 0; n = 0; k = 0; a = 0; b = 0; c = 0; pairs = 0 } ≡ result_of x ls
refusal-zeros zero ls h = absurd (h refl)
refusal-zeros (suc x) ls h = refl

pub result-answer : (x : ℕ) (ls : List Line) → (result_of x ls).answer ≡ x
result-answer zero ls = refl
result-answer (suc x) ls = refl

-- A refusal by the check that gives the answer.
pub refused : (refusal : Refusal) {y : ℕ} (ls : List Line) → number_of refusal ≡ y → outcome (Err refusal) ≡ result_of y ls
refused refusal ls e = refusal-zeros (number_of refusal) ls (some-number refusal) ∙ ap (λ (t : ℕ). result_of t ls) e

-- What an acceptance gives.
pub accepted : (s : List ℕ) (r : Reading) {y : ℕ} → IsReadingOf s r → 0 ≡ y → outcome (Ok r) ≡ result_of y (sheet_lines s)
accepted s r h z =
    rw (h.counts.m-is, h.counts.n-is, h.counts.k-is, h.counts.a-is, h.counts.b-is, h.counts.c-is, h.counts.pairs-is)
    (ap (λ (t : ℕ). result_of t (sheet_lines s)) z)
