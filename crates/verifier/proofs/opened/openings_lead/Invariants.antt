-- `opened::openings_lead` meets its contract. The invariants: the openings of the positions before q, and those of the items before i at position q,
-- lead to their roots, and the blocks of all these openings are counted: no more of them than their bytes.
use mathlib.Core.Path.{◌≡◌}
use mathlib.Core.Bool.{true}
use Prim.Native.Nat.{ℕ, suc, ◌≤◌}
use Rattle.hash.specs.Sha256.{block_count}
use Rattle.theory.specs.Checks.{every}
use Rattle.theory.proofs.Reached.{blocks_before}
use Rattle.verifier.specs.declared.shown.Fold.{Fold}
use Rattle.verifier.specs.Verifying.{place, leads, strings_at}
use Rattle.verifier.proofs.opened.openings_lead.Given as goal

-- The blocks of the openings before that of item i at position q.
abbrev pub Counted : Fold → ℕ → ℕ → ℕ → Type 0
Counted f blocks q i = (blocks ≡ blocks_before block_count (suc f.l) (leads f) (strings_at f) q i) × (blocks ≤ place f q i)

abbrev pub invariant-loop-i : goal.invariant-loop-i
invariant-loop-i l = (every l.i (leads l.fold l.q) ≡ true) × Counted l.fold l.blocks l.q l.i

abbrev pub invariant-loop-q : goal.invariant-loop-q
invariant-loop-q l = (every l.q (λ q. every (suc l.fold.l) (leads l.fold q)) ≡ true) × Counted l.fold l.blocks l.q 0
