-- A call of the reader: what it gives and writes, by the answer of the checks.
use mathlib.Core.Path.{◌≡◌, refl, sym, ap, ◌∙◌}
use mathlib.Core.Bool.{Bool, true}
use mathlib.Core.List.{List}
use Prim.Native.Nat.{ℕ, ◌*◌, ◌≤◌}
use native.Mathlib.Omega.{arith}
use lib.ListN.{length}
use Rattle.std.specs.Prelude.{Result, Ok, Err}
use Rattle.algebra.specs.Lists.{All}
use Rattle.numbers.proofs.Tests.{and_left, and_right}
use Rattle.theory.specs.Checks.{answer}
use Rattle.theory.specs.Fp.{item_size}
use Rattle.theory.proofs.CheckLaws.{Passed, answer-passed}
use Rattle.checks.specs.declared.refusal.Refusal.{Refusal}
use Rattle.checks.specs.Refusals.{number_of}
use Rattle.checks.proofs.Calls as answers
use Rattle.lines.specs.declared.keyword.Keyword.TheVariants.{EntryA, EntryB, EntryC, Item, Wit}
use Rattle.validation.specs.declared.reading.Reading.{Reading}
use Rattle.scan.specs.Sheet.{sheet_lines, ordered, count_of, m, n, k, pairs, bytes_of, pairs_fit}
use Rattle.validation.specs.SheetChecks.{Outcome, counts_fit, buffers_fit, sheet_checks, result_of, outcome}
use Rattle.sheet.specs.Reading.{read_sheet}
use Rattle.scan.proofs.StateAfter.{state_after}
use Rattle.scan.proofs.Scanned.{Filled}
use Rattle.validation.specs.Counts.{IsReading, EntryLengths, PairLengths}
use Rattle.validation.proofs.ByteCounts.{a-size, b-size, c-size, items-size, wits-size}
use Rattle.validation.proofs.AfterScan.{items-most, wits-most}
use Rattle.validation.proofs.SheetCheckLaws.{rules-short, rules-ordered, state-pairs-fit, buffer-lengths, result-answer}

-- A result of the checks, with what check 2 says of the call's buffers.
pub record Called (s a b c items wits : List ℕ) (result : Result Reading Refusal) : Type 0 where
  pub answered : outcome result ≡ result_of (answer (sheet_checks s (buffers_fit a b c items wits))) (sheet_lines s)

pub calls : (s a b c items wits : List ℕ) (result : Result Reading Refusal) {lengths : Bool} → lengths ≡ buffers_fit a b c items wits
    → outcome result ≡ result_of (answer (sheet_checks s lengths)) (sheet_lines s) → Called s a b c items wits result
calls s a b c items wits result fit e = record { answered = e ∙ ap (λ (l : Bool). result_of (answer (sheet_checks s l)) (sheet_lines s)) fit }

pub the-answer : {s a b c items wits : List ℕ} {result : Result Reading Refusal} → Called s a b c items wits result → (outcome result).answer ≡ answer (sheet_checks s (buffers_fit a b c items wits))
the-answer {s} {a} {b} {c} {items} {wits} called = ap (λ (t : Outcome). t.answer) called.answered ∙ result-answer (answer (sheet_checks s (buffers_fit a b c items wits))) (sheet_lines s)

-- A refusal leaves the buffers.
pub left : {s a b c items wits : List ℕ} {refusal : Refusal} → Called s a b c items wits (Err refusal)
    → (let out = read_sheet s a b c items wits in (outcome (Err refusal) ≡ out.result) × ((a ≡ out.a) × ((b ≡ out.b) × ((c ≡ out.c) × ((items ≡ out.items) × (wits ≡ out.wits))))))
unfolding read_sheet
left {s} {a} {b} {c} {items} {wits} {refusal} called =
    let e : number_of refusal ≡ answer (sheet_checks s (buffers_fit a b c items wits)) = the-answer called in
    let h = answers.some-number refusal in
    (called.answered, (answers.refused _ a e h, (answers.refused _ b e h, (answers.refused _ c e h, (answers.refused _ items e h, answers.refused _ wits e h)))))

-- At acceptance every check is passed, and the reading says what the lines do.
module _ {s a b c items wits : List ℕ} {r : Reading} (called : Called s a b c items wits (Ok r)) where
  pub zero-answer : answer (sheet_checks s (buffers_fit a b c items wits)) ≡ 0
  zero-answer = sym (the-answer called)

  pub all-passed : All Passed (sheet_checks s (buffers_fit a b c items wits))
  all-passed = answer-passed (sheet_checks s (buffers_fit a b c items wits)) (omega arith) zero-answer

  told : outcome (Ok r) ≡ result_of 0 (sheet_lines s)
  told = called.answered ∙ ap (λ (t : ℕ). result_of t (sheet_lines s)) zero-answer

  pub counts : IsReading (m (sheet_lines s)) (n (sheet_lines s)) (k (sheet_lines s)) (count_of EntryA (sheet_lines s)) (count_of EntryB (sheet_lines s)) (count_of EntryC (sheet_lines s)) (pairs (sheet_lines s)) r
  counts = record {
    m-is = ap (λ (t : Outcome). t.m) told;
    n-is = ap (λ (t : Outcome). t.n) told;
    k-is = ap (λ (t : Outcome). t.k) told;
    a-is = ap (λ (t : Outcome). t.a) told;
    b-is = ap (λ (t : Outcome). t.b) told;
    c-is = ap (λ (t : Outcome). t.c) told;
    pairs-is = ap (λ (t : Outcome). t.pairs) told;
  }

  pub short : length s ≤ 60000
  short = rules-short s all-passed.0

  pub in-order : ordered (sheet_lines s) ≡ true
  in-order = rules-ordered s all-passed.0

  pairs-fit : pairs_fit (sheet_lines s) ≡ true
  pairs-fit = state-pairs-fit (state_after (sheet_lines s) 0) (and_left (counts_fit (sheet_lines s)) (buffers_fit a b c items wits) all-passed.1.0)

  buffers-large : EntryLengths a b c × PairLengths items wits
  buffers-large = buffer-lengths a b c items wits (and_right (counts_fit (sheet_lines s)) (buffers_fit a b c items wits) all-passed.1.0)

  -- The lengths of what was read.
  pub a-long : length (bytes_of EntryA (sheet_lines s)) ≡ 12 * r.a
  a-long = omega (arith, a-size s in-order, counts.a-is)

  pub b-long : length (bytes_of EntryB (sheet_lines s)) ≡ 12 * r.b
  b-long = omega (arith, b-size s in-order, counts.b-is)

  pub c-long : length (bytes_of EntryC (sheet_lines s)) ≡ 12 * r.c
  c-long = omega (arith, c-size s in-order, counts.c-is)

  pub items-long : length (bytes_of Item (sheet_lines s)) ≡ r.pairs * item_size r.sizes.m r.sizes.n
  items-long = rw (counts.pairs-is, counts.m-is, counts.n-is) (items-size s in-order pairs-fit)

  pub wits-long : length (bytes_of Wit (sheet_lines s)) ≡ 4 * (r.pairs * r.sizes.k)
  wits-long = rw (counts.pairs-is, counts.k-is) (wits-size s in-order pairs-fit)

  -- An acceptance fills the buffers.
  pub filled-all : {xa xb xc xi xw : List ℕ} → Filled (bytes_of EntryA (sheet_lines s)) a xa → Filled (bytes_of EntryB (sheet_lines s)) b xb → Filled (bytes_of EntryC (sheet_lines s)) c xc
      → Filled (bytes_of Item (sheet_lines s)) items xi → Filled (bytes_of Wit (sheet_lines s)) wits xw
      → (let out = read_sheet s a b c items wits in (outcome (Ok r) ≡ out.result) × ((xa ≡ out.a) × ((xb ≡ out.b) × ((xc ≡ out.c) × ((xi ≡ out.items) × (xw ≡ out.wits))))))
  unfolding read_sheet
  filled-all put_a put_b put-c put-items put-wits =
      let e : 0 ≡ answer (sheet_checks s (buffers_fit a b c items wits)) = sym zero-answer in
      let pa = answers.accepted a e refl (put_a (omega (arith, a-long, r.a_most, buffers-large.0.a-length))) in
      let pb = answers.accepted b e refl (put_b (omega (arith, b-long, r.b_most, buffers-large.0.b-length))) in
      let pc = answers.accepted c e refl (put-c (omega (arith, c-long, r.c_most, buffers-large.0.c-length))) in
      let pi = answers.accepted items e refl (put-items (omega (arith, items-long, items-most r, buffers-large.1.items-length))) in
      let pw = answers.accepted wits e refl (put-wits (omega (arith, wits-long, wits-most r, buffers-large.1.wits-length))) in
      (called.answered, (pa, (pb, (pc, (pi, pw)))))
