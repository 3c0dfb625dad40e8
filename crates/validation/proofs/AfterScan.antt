-- After the scan of a sheet that keeps the rules and passes check 2: what was read lies at the fronts of the buffers.
use mathlib.Core.Path.{◌≡◌, sym, ap, subst, ◌∙◌}
use mathlib.Core.Bool.{Bool, true}
use mathlib.Core.List.{List, []}
use Prim.Native.Nat.{ℕ, ◌*◌, ◌≤◌}
use native.Mathlib.Nat.{mul-le-mul}
use native.Mathlib.Omega.{arith}
use lib.ListN.{length, take}
use borrow.Author.Tests.{leb-true}
use lib.Dec.{leb}
use lib.Seq.{take_at}
use Rattle.std.specs.Prelude.{Some}
use Rattle.std.specs.Option.{option_eq}
use Rattle.lines.specs.contracts.keyword.KeywordPartialEq.TheImpl.{eq-value}
use Rattle.theory.specs.Checks.{answer}
use Rattle.theory.specs.Fp.{item_size, list_checks}
use Rattle.lines.specs.declared.keyword.Keyword.TheVariants.{EntryA, EntryB, EntryC, Item, Wit, End}
use Rattle.validation.specs.declared.reading.Reading.{Reading}
use Rattle.scan.specs.declared.state.State.{State}
use Rattle.scan.specs.Sheet.{sheet_lines, ordered, m, n, k, pairs, bytes_of, pairs_fit}
use Rattle.validation.specs.SheetChecks.{keeps_rules, counts_fit, state_fits}
use Rattle.validation.specs.CheckParts.{IsReadingOf, entry_checks}
use Rattle.validation.specs.Counts.{IsReading, EntryLengths, PairLengths}
use Rattle.scan.proofs.StateAfter.{state_after}
use Rattle.scan.specs.Scan.{scanned}
use Rattle.scan.proofs.SheetLaws.{end-test}
use Rattle.scan.proofs.Scanned.{Filled, scanned-ordered, scanned-state}
use Rattle.validation.proofs.PartLaws.{circuit-alone}
use Rattle.validation.proofs.ByteCounts.{a-size, b-size, c-size, items-counted, wits-counted, items-size, wits-size}
use Rattle.validation.proofs.SheetCheckLaws.{short, state-pairs-fit, rules-ordered}

-- The front of a buffer into which xs was put.
front : {i : ℕ} (xs held now : List ℕ) → Filled xs held now → length xs ≡ i → i ≤ length held → take i now ≡ xs
front {i} xs held now put e room = ap (take i) (put (omega arith)) ∙ take_at xs _ i e

-- The greatest contents fit.
module _ (r : Reading) where
  pub items-most : r.pairs * item_size r.sizes.m r.sizes.n ≤ 20224
  items-most = mul-le-mul {n₂ = 64} {m₂ = 316} r.pairs_most (omega arith)

  pub wits-most : r.pairs * r.sizes.k ≤ 4096
  wits-most = mul-le-mul {n₂ = 64} {m₂ = 64} r.pairs_most r.sizes.k_most

-- The sheet s, which keeps the rules and passes check 2, was scanned, and r has the counts of the state behind it.
pub record AfterScan (s : List ℕ) (st : State) (r : Reading) : Type 0 where
  pub state : st ≡ state_after (sheet_lines s) (length s)
  pub keeps : keeps_rules s ≡ true
  pub fits : state_fits st ≡ true
  pub counts : IsReading st.sizes.m st.sizes.n st.sizes.k st.entries.a st.entries.b st.entries.c st.pairs.count r

-- Checks 1 and 2 by the state.
module _ (s : List ℕ) {st : State} (scan : st ≡ scanned true s) where
  pub rules-test : {end : Bool} → leb (length s) 60000 ≡ true → end ≡ option_eq eq-value.it st.last (Some End) → end ≡ keeps_rules s
  rules-test long e = short s (leb-true _ _ long) (e ∙ end-test st.last ∙ scanned-ordered s scan)

  module _ (keeps : keeps_rules s ≡ true) where
    pub counts-test : state_fits st ≡ counts_fit (sheet_lines s)
    counts-test = ap state_fits (scanned-state s (rules-ordered s keeps) scan)

    pub after-scan : {r : Reading} → (state_fits st ≡ true) × IsReading st.sizes.m st.sizes.n st.sizes.k st.entries.a st.entries.b st.entries.c st.pairs.count r → AfterScan s st r
    after-scan h = record { state = scanned-state s (rules-ordered s keeps) scan; keeps = keeps; fits = h.0; counts = h.1 }

module _ {s : List ℕ} {st : State} {r : Reading} (scanned : AfterScan s st r) where
  abbrev state : st ≡ state_after (sheet_lines s) (length s)
  state = scanned.state

  pub is-reading-of : IsReadingOf s r
  is-reading-of = record {
    in-order = scanned.keeps;
    fits = ap state_fits (sym state) ∙ scanned.fits;
    counts = subst (λ (t : State). IsReading t.sizes.m t.sizes.n t.sizes.k t.entries.a t.entries.b t.entries.c t.pairs.count r) state scanned.counts;
  }

  is-ordered : ordered (sheet_lines s) ≡ true
  is-ordered = rules-ordered s scanned.keeps

  pairs-fit : pairs_fit (sheet_lines s) ≡ true
  pairs-fit = ap (λ (t : State). t.fit) (sym state) ∙ state-pairs-fit st scanned.fits

  items-long : length (bytes_of Item (sheet_lines s)) ≡ 4 * st.pairs.items
  items-long = sym (items-counted s is-ordered) ∙ ap (λ (t : State). 4 * t.pairs.items) (sym state)

  wits-long : length (bytes_of Wit (sheet_lines s)) ≡ 4 * st.pairs.wits
  wits-long = sym (wits-counted s is-ordered) ∙ ap (λ (t : State). 4 * t.pairs.wits) (sym state)

  pub items-whole : 4 * st.pairs.items ≡ r.pairs * item_size r.sizes.m r.sizes.n
  items-whole = rw (is-reading-of.counts.pairs-is, is-reading-of.counts.m-is, is-reading-of.counts.n-is) (sym items-long ∙ items-size s is-ordered pairs-fit)

  pub wits-whole : 4 * st.pairs.wits ≡ 4 * (r.pairs * r.sizes.k)
  wits-whole = rw (is-reading-of.counts.pairs-is, is-reading-of.counts.k-is) (sym wits-long ∙ wits-size s is-ordered pairs-fit)

  pub items-inside : 4 * st.pairs.items ≤ 20224
  items-inside = omega (arith, items-whole, items-most r)

  pub wits-inside : 4 * st.pairs.wits ≤ 16384
  wits-inside = omega (arith, wits-whole, wits-most r)

  module _ {items₀ wits₀ items wits : List ℕ} (large : PairLengths items₀ wits₀) (put-items : Filled (bytes_of Item (sheet_lines s)) items₀ items) (put-wits : Filled (bytes_of Wit (sheet_lines s)) wits₀ wits) where
    items-front : take (4 * st.pairs.items) items ≡ bytes_of Item (sheet_lines s)
    items-front = front (bytes_of Item (sheet_lines s)) items₀ items put-items items-long (omega (arith, items-inside, large.items-length))

    wits-front : take (4 * st.pairs.wits) wits ≡ bytes_of Wit (sheet_lines s)
    wits-front = front (bytes_of Wit (sheet_lines s)) wits₀ wits put-wits wits-long (omega (arith, wits-inside, large.wits-length))

    -- Checks 3 and 13 of the fronts are those of the lines.
    pub pairs-same : answer (list_checks r.sizes.m r.sizes.n r.sizes.k r.pairs [] [] [] [] (take (4 * st.pairs.items) items) (take (4 * st.pairs.wits) wits))
        ≡ (let ls = sheet_lines s in answer (list_checks (m ls) (n ls) (k ls) (pairs ls) [] [] [] [] (bytes_of Item ls) (bytes_of Wit ls)))
    pairs-same = rw (items-front, wits-front, is-reading-of.counts.m-is, is-reading-of.counts.n-is, is-reading-of.counts.k-is, is-reading-of.counts.pairs-is)

-- The entries of a reading's sheet at the fronts of the buffers.
module _ {s : List ℕ} {r : Reading} (reading : IsReadingOf s r) {a₀ b₀ c₀ a b c : List ℕ} (large : EntryLengths a₀ b₀ c₀)
    (put_a : Filled (bytes_of EntryA (sheet_lines s)) a₀ a) (put_b : Filled (bytes_of EntryB (sheet_lines s)) b₀ b) (put-c : Filled (bytes_of EntryC (sheet_lines s)) c₀ c) where
  o : ordered (sheet_lines s) ≡ true
  o = rules-ordered s reading.in-order

  a-front : take (12 * r.a) a ≡ bytes_of EntryA (sheet_lines s)
  a-front = front (bytes_of EntryA (sheet_lines s)) a₀ a put_a (omega (arith, a-size s o, reading.counts.a-is)) (omega (arith, large.a-length, r.a_most))

  b-front : take (12 * r.b) b ≡ bytes_of EntryB (sheet_lines s)
  b-front = front (bytes_of EntryB (sheet_lines s)) b₀ b put_b (omega (arith, b-size s o, reading.counts.b-is)) (omega (arith, large.b-length, r.b_most))

  c-front : take (12 * r.c) c ≡ bytes_of EntryC (sheet_lines s)
  c-front = front (bytes_of EntryC (sheet_lines s)) c₀ c put-c (omega (arith, c-size s o, reading.counts.c-is)) (omega (arith, large.c-length, r.c_most))

  -- Checks 3 and 4 of the fronts are those of the lines.
  pub circuit-same : answer (list_checks r.sizes.m r.sizes.n r.sizes.k 0 [] (take (12 * r.a) a) (take (12 * r.b) b) (take (12 * r.c) c) [] []) ≡ answer (entry_checks (sheet_lines s))
  circuit-same =
      let ls = sheet_lines s in
      rw (a-front, b-front, c-front, reading.counts.m-is, reading.counts.n-is, reading.counts.k-is)
      (circuit-alone (m ls) (n ls) (k ls) (bytes_of EntryA ls) (bytes_of EntryB ls) (bytes_of EntryC ls))
