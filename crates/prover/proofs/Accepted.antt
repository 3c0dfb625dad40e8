-- What a call's passed checks say of a list and the output buffers: what the checks behind check 2 and the writers require.
use mathlib.Core.Path.{◌≡◌, refl, sym}
use mathlib.Core.Bool.{Bool, true, ◌&&◌}
use mathlib.Core.List.{List, [], ◌∷◌, ◌++◌}
use Prim.Native.Nat.{ℕ, ◌*◌, ◌<◌}
use borrow.Author.Tests.{ltb-true, eqb-true}
use lib.Dec.{leb, ltb}
use lib.ListN.{length}
use Rattle.numbers.proofs.Tests.{and_right, each-true}
use Rattle.field.specs.BabyBear.{p}
use Rattle.theory.specs.Checks.{Check, check, answer}
use Rattle.theory.specs.Combination.{quotient_size}
use Rattle.theory.specs.Sizes.{has_length, points_fit, circuit_in_order}
use Rattle.theory.specs.Fp.{fp, item_size, list_fits, list_checks, claim_checks, quotient_checks, quotient, fold_outputs_fit, fold_checks, fold}
use Rattle.theory.proofs.Passed.{list-fits, quotient-passes, fold-passes}
use Rattle.r1cs.specs.declared.list.List.{List as Listed}
use Rattle.fold.specs.Fits.{Fits}
use Rattle.checks.specs.Parts.{IsListOf}
use Rattle.checks.proofs.Calls.{passes, and-passes}
use Rattle.checks.proofs.ListLaws.{list-refuses, list-accepts}
use Rattle.checks.proofs.ClaimLaws.{inside-a, inside-b, inside-c}

module _ (s : Listed) (points : List ℕ) where
  -- The list passes check 2.
  abbrev pub ListFits : Type 0
  ListFits = list_fits s.sizes.m s.sizes.n s.sizes.k s.l points s.circuit.a.now s.circuit.b.now s.circuit.c.now s.items.now s.wits.now ≡ true

  pub points-asked : ListFits → points_fit s.sizes.k points ≡ true
  points-asked e = (list-fits fp s.sizes.m s.sizes.n s.sizes.k s.l points s.circuit.a.now s.circuit.b.now s.circuit.c.now s.items.now s.wits.now e).points-fit

  list-fit : circuit_in_order s.sizes.m s.sizes.n s.sizes.k s.circuit.a.now s.circuit.b.now s.circuit.c.now ≡ true → Fits s.sizes.n s.sizes.k s.circuit.a.now s.circuit.b.now s.circuit.c.now
  list-fit order =
      record {
        inside-a = inside-a s.sizes.m s.sizes.n s.sizes.k s.sizes.m_most s.circuit.a.now s.circuit.b.now s.circuit.c.now order;
        inside-b = inside-b s.sizes.m s.sizes.n s.sizes.k s.sizes.m_most s.circuit.a.now s.circuit.b.now s.circuit.c.now order;
        inside-c = inside-c s.sizes.m s.sizes.n s.sizes.k s.sizes.m_most s.circuit.a.now s.circuit.b.now s.circuit.c.now order;
      }

  -- Checks 10 and 11.
  abbrev pub claims-of : List Check
  claims-of = claim_checks s.sizes.m s.sizes.n s.sizes.k s.l points s.circuit.a.now s.circuit.b.now s.circuit.c.now s.items.now s.wits.now

  -- r is the answer of checks 3, 12, 4 and 13. Where check 2, with a call's own test b, and these pass, the others decide.
  pub behind-list : {b : Bool} (rest : List Check) {r x : ℕ} → ListFits → b ≡ true → r ≡ answer (list_checks s.sizes.m s.sizes.n s.sizes.k s.l points s.circuit.a.now s.circuit.b.now s.circuit.c.now s.items.now s.wits.now) → r ≡ 0 → x ≡ answer rest
      → x ≡ answer (check 2 (list_fits s.sizes.m s.sizes.n s.sizes.k s.l points s.circuit.a.now s.circuit.b.now s.circuit.c.now s.items.now s.wits.now && b) ∷ list_checks s.sizes.m s.sizes.n s.sizes.k s.l points s.circuit.a.now s.circuit.b.now s.circuit.c.now s.items.now s.wits.now ++ rest)
  behind-list rest fits own e z h =
      passes 2 (and-passes fits (sym own)) refl (list-accepts s.sizes.m s.sizes.n s.sizes.k s.l points s.circuit.a.now s.circuit.b.now s.circuit.c.now s.items.now s.wits.now rest e z h)

  -- Where one of checks 3, 12, 4 and 13 fails, r is the answer of them all.
  pub list-refused : {b : Bool} (rest : List Check) {r : ℕ} → ListFits → b ≡ true → r ≡ answer (list_checks s.sizes.m s.sizes.n s.sizes.k s.l points s.circuit.a.now s.circuit.b.now s.circuit.c.now s.items.now s.wits.now) → (r ≡ 0 → ⊥)
      → r ≡ answer (check 2 (list_fits s.sizes.m s.sizes.n s.sizes.k s.l points s.circuit.a.now s.circuit.b.now s.circuit.c.now s.items.now s.wits.now && b) ∷ list_checks s.sizes.m s.sizes.n s.sizes.k s.l points s.circuit.a.now s.circuit.b.now s.circuit.c.now s.items.now s.wits.now ++ rest)
  list-refused rest fits own e d =
      passes 2 (and-passes fits (sym own)) refl (list-refuses s.sizes.m s.sizes.n s.sizes.k s.l points s.circuit.a.now s.circuit.b.now s.circuit.c.now s.items.now s.wits.now rest e d)

  -- ---- quotient

  pub quotient-accepted : (out : List ℕ) → answer (quotient_checks s.sizes.m s.sizes.n s.sizes.k s.l points s.circuit.a.now s.circuit.b.now s.circuit.c.now s.items.now s.wits.now out) ≡ 0
      → Fits s.sizes.n s.sizes.k s.circuit.a.now s.circuit.b.now s.circuit.c.now × (length out ≡ 4 * quotient_size s.sizes.m s.l)
  quotient-accepted out e =
      let t = quotient-passes fp s.sizes.m s.sizes.n s.sizes.k s.l points s.circuit.a.now s.circuit.b.now s.circuit.c.now s.items.now s.wits.now out e in (
        list-fit t.list.in-order,
        eqb-true (length out) (4 * quotient_size s.sizes.m s.l) (and_right (list_fits s.sizes.m s.sizes.n s.sizes.k s.l points s.circuit.a.now s.circuit.b.now s.circuit.c.now s.items.now s.wits.now) (has_length out (4 * quotient_size s.sizes.m s.l)) t.fits),
      )

  -- ---- fold

  pub fold-accepted : (challenge : ℕ) (q item wit : List ℕ) → answer (fold_checks s.sizes.m s.sizes.n s.sizes.k s.l challenge points s.circuit.a.now s.circuit.b.now s.circuit.c.now s.items.now s.wits.now q item wit) ≡ 0
      → (Fits s.sizes.n s.sizes.k s.circuit.a.now s.circuit.b.now s.circuit.c.now × (challenge < p)) × ((length q ≡ 4 * quotient_size s.sizes.m s.l) × (length item ≡ item_size s.sizes.m s.sizes.n) × (length wit ≡ 4 * s.sizes.k))
  fold-accepted challenge q item wit e =
      let t = fold-passes fp s.sizes.m s.sizes.n s.sizes.k s.l points s.circuit.a.now s.circuit.b.now s.circuit.c.now s.items.now s.wits.now challenge q item wit e in
      let outputs = each-true (has_length q (4 * quotient_size s.sizes.m s.l)) (has_length item (item_size s.sizes.m s.sizes.n) ∷ has_length wit (4 * s.sizes.k) ∷ [])
      (and_right (list_fits s.sizes.m s.sizes.n s.sizes.k s.l points s.circuit.a.now s.circuit.b.now s.circuit.c.now s.items.now s.wits.now) (fold_outputs_fit s.sizes.m s.sizes.n s.sizes.k s.l q item wit) t.fits) in (
        (list-fit t.list.in-order, ltb-true challenge p (and_right (leb s.l challenge) (ltb challenge p) t.permitted)),
        (eqb-true (length q) (4 * quotient_size s.sizes.m s.l) outputs.0, eqb-true (length item) (item_size s.sizes.m s.sizes.n) outputs.1.0, eqb-true (length wit) (4 * s.sizes.k) outputs.1.1.0),
      )

-- ---- the list's parts in place of what a call is passed

module _ {m n k l : ℕ} {a b c items wits : List ℕ} {s : Listed} (h : IsListOf m n k l a b c items wits s) (points : List ℕ) where
  pub list-fits-here : list_fits m n k l points a b c items wits ≡ true → ListFits s points
  list-fits-here e = rw (h.m_is, h.n_is, h.k_is, h.l_is, h.a_is, h.b_is, h.c_is, h.items_is, h.wits_is) e

  pub quotient-here : (out : List ℕ)
      → quotient s.sizes.m s.sizes.n s.sizes.k s.l points s.circuit.a.now s.circuit.b.now s.circuit.c.now s.items.now s.wits.now out ≡ quotient m n k l points a b c items wits out
  quotient-here out = rw (h.m_is, h.n_is, h.k_is, h.l_is, h.a_is, h.b_is, h.c_is, h.items_is, h.wits_is)

  pub fold-here : (challenge : ℕ) (q item wit : List ℕ)
      → fold s.sizes.m s.sizes.n s.sizes.k s.l challenge points s.circuit.a.now s.circuit.b.now s.circuit.c.now s.items.now s.wits.now q item wit ≡ fold m n k l challenge points a b c items wits q item wit
  fold-here challenge q item wit = rw (h.m_is, h.n_is, h.k_is, h.l_is, h.a_is, h.b_is, h.c_is, h.items_is, h.wits_is)
