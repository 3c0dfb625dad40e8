-- How many SHA-256 blocks verifying processes, by its verdict: laws of the exported call.
use mathlib.Core.Path.{◌≡◌}
use mathlib.Core.Logic.{◌≢◌}
use mathlib.Core.List.{List}
use Prim.Native.Nat.{ℕ, ◌/◌, ◌%◌, ◌≤◌}
use native.Mathlib.Omega.{arith}
use Rattle.theory.specs.Results.{packed}
use Rattle.theory.specs.Blocks.{fold_blocks, StopsAt}
use Rattle.theory.specs.Verify.{leads}
use Rattle.theory.specs.Fp.{fp, read_items, read_shown, verify}
use Rattle.theory.proofs.FpLaws.{fp-laws}
use Rattle.theory.proofs.Counted.{at_most, few, accepted-all, none-before-8, stops-at-8, all-at-9, small-verdict}

-- The count is never over t × (l + 1) × (1 + 2 × log2(4k)), and for no sizes over 39,168;
pub blocks-at-most : (m n k l t challenge : ℕ) (items positions q item openings : List ℕ)
    → (verify m n k l t challenge items positions q item openings).blocks ≤ fold_blocks k l t
blocks-at-most = at_most fp fp-laws

pub blocks-few : (m n k l t challenge : ℕ) (items positions q item openings : List ℕ) → (verify m n k l t challenge items positions q item openings).blocks ≤ 39168
blocks-few = few fp fp-laws

-- exactly that for an accepted fold;
pub accepted-blocks : (m n k l t challenge : ℕ) (items positions q item openings : List ℕ)
    → (verify m n k l t challenge items positions q item openings).verdict ≡ 0
    → (verify m n k l t challenge items positions q item openings).blocks ≡ fold_blocks k l t
accepted-blocks = accepted-all fp fp-laws

-- none at a refusal by a check before 8;
pub refused-before-8 : (m n k l t challenge : ℕ) (items positions q item openings : List ℕ)
    → (verify m n k l t challenge items positions q item openings).verdict ≢ 0
    → (verify m n k l t challenge items positions q item openings).verdict ≢ 8
    → (verify m n k l t challenge items positions q item openings).verdict ≢ 9
    → (verify m n k l t challenge items positions q item openings).blocks ≡ 0
refused-before-8 = none-before-8 fp fp-laws

-- that of the openings up to and with the first that does not lead to its root, at a refusal by 8;
pub refused-by-8 : (m n k l t challenge : ℕ) (items positions q item openings : List ℕ)
    → (verify m n k l t challenge items positions q item openings).verdict ≡ 8
    → StopsAt (leads fp (read_items m n l items) (read_shown m n k l t challenge positions item openings)) k l t (verify m n k l t challenge items positions q item openings).blocks
refused-by-8 = stops-at-8 fp fp-laws

-- that of all openings at a refusal by 9;
pub refused-by-9 : (m n k l t challenge : ℕ) (items positions q item openings : List ℕ)
    → (verify m n k l t challenge items positions q item openings).verdict ≡ 9
    → (verify m n k l t challenge items positions q item openings).blocks ≡ fold_blocks k l t
refused-by-9 = all-at-9 fp fp-laws

-- and what the call returns, divided by 64. The remainder is the verdict.
pub answer-read-back : (m n k l t challenge : ℕ) (items positions q item openings : List ℕ)
    → let v = verify m n k l t challenge items positions q item openings in (packed v % 64 ≡ v.verdict) × (packed v / 64 ≡ v.blocks)
answer-read-back m n k l t challenge items positions q item openings =
    let small = small-verdict fp fp-laws m n k l t challenge items positions q item openings in (omega (arith, small), omega (arith, small))
