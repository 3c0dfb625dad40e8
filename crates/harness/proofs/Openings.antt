-- One position in a buffer, and its opening alone.
use borrow.Author.Tests.{lt-ltb}
use mathlib.Core.Bool.{true}
use mathlib.Core.Path.{◌≡◌, ap, ◌∙◌}
use mathlib.Core.List.{List, [], ◌∷◌, append-nil}
use Prim.Native.Nat.{ℕ, ◌^◌, ◌≤◌, ◌<◌, ◌*◌}
use native.Mathlib.Omega.{arith}
use lib.ListN.{length}
use Rattle.hash.specs.Sha256.{digest}
use Rattle.numbers.specs.Numbers.{numbers, bytes4, all_below}
use Rattle.numbers.proofs.Bytes.{number4-bytes4}
use Rattle.tree.specs.Layout.{opening_size, flat, own_opening, own_openings}
use Rattle.tree.proofs.Places.{few}

-- the bytes of one position hold it alone
pub one-position : (b : List ℕ) (p : ℕ) → p < 2 ^ 32 → b ≡ bytes4 p → numbers b ≡ p ∷ []
unfolding numbers
one-position b p h e = ap numbers e ∙ ap (λ (n : ℕ). n ∷ []) (number4-bytes4 p h)

-- what writing the openings of that position asks
pub asked : (d p : ℕ) (b l : List ℕ) → d ≤ 8 → p < 2 ^ d → b ≡ bytes4 p → length l ≡ opening_size d
    → (all_below (2 ^ d) (numbers b) ≡ true) × (length l ≡ length (numbers b) * opening_size d)
unfolding all_below
asked d p b l few-levels inside e size = rw (one-position b p (omega (arith, few d few-levels)) e) (simp (lt-ltb p (2 ^ d) inside), omega arith)

pub one-opening : (d : ℕ) (vs : List ℕ) (p : ℕ) → own_openings digest d vs (p ∷ []) ≡ own_opening digest d vs p
unfolding flat
one-opening d vs p = append-nil (own_opening digest d vs p)
