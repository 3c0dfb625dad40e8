-- The field of p elements, SHA-256 and the built-in points satisfy the laws of an instance.
use mathlib.Core.Path.{◌≡◌, refl, ap, ap₂, ◌∙◌}
use mathlib.Core.List.{List, [], ◌∷◌, ◌++◌, map}
use Prim.Native.Nat.{ℕ, suc, ◌*◌, ◌^◌, ◌<◌}
use native.Mathlib.Nat.{lt_trans}
use native.Mathlib.Omega.{arith}
use borrow.Author.Tests.{lt-ltb}
use lib.Dec.{lit<}
use lib.ListN.{length, get_or, length-map, get_or-append}
use Rattle.algebra.proofs.ListLaws.{get_or-map}
use Rattle.numbers.specs.Numbers.{numbers, bytes4, bytes}
use Rattle.numbers.proofs.Bounds.{Below, all-below}
use Rattle.numbers.proofs.Bytes.{length-bytes, number4-bytes4, bytes4-injective, numbers-bytes}
use Rattle.field.specs.BabyBear.{p, F, val, ofℕ, 𝟘}
use Rattle.field.proofs.Laws.{val-lt, val_inj, ofℕ-val, ofℕ-inj, below-p, of_nat-differ}
use Rattle.hash.proofs.DigestLaws.{digest-length}
use Rattle.hash.proofs.Tree.{node-message-blocks}
use Rattle.tree.proofs.Entries.{entry_value}
use Rattle.tree.proofs.HashedBlocks.{leaf-count}
use Rattle.code.proofs.Points.{points-length}
use Rattle.code.proofs.Different.{points-distinct}
use Rattle.theory.specs.Buffers.{number_at}
use Rattle.theory.specs.Fp.{fp_format, fp, element_bytes}
use Rattle.theory.proofs.InstanceLaws.{FormatLaws, InstanceLaws}

-- An element's number fits four bytes.
four_bytes : (v : F) → val v < 2 ^ 32
four_bytes v = lt_trans (val-lt v) (lit< tt)

-- The numbers of elements are below p.
pub values-below : (es : List F) → Below p (map val es)
values-below es i h = rw (get_or-map val es i 𝟘 0 (omega (arith, length-map es val))) (val-lt (get_or es i 𝟘))

pub below_word : (es : List F) → Below (2 ^ 32) (map val es)
below_word es i h = lt_trans (values-below es i h) (lit< tt)

-- Numbers that are written before some bytes are read back.
numbers-before : (xs rest : List ℕ) → Below (2 ^ 32) xs → numbers (bytes xs ++ rest) ≡ xs ++ numbers rest
unfolding numbers bytes
numbers-before [] rest h = refl
numbers-before (x ∷ xs) rest h = ap₂ ◌∷◌ (number4-bytes4 x (h 0 (omega arith))) (numbers-before xs rest (λ i l. h (suc i) (omega arith)))

number_read : (es : List F) (rest : List ℕ) (j : ℕ) → j < length es → number_at (element_bytes es ++ rest) j ≡ val (get_or es j 𝟘)
number_read es rest j h =
    ap (λ (xs : List ℕ). get_or xs j 0) (numbers-before (map val es) rest (below_word es))
    ∙ get_or-append (map val es) (numbers rest) 0 j (omega (arith, length-map es val))
    ∙ get_or-map val es j 𝟘 0 h

pub fp-format : FormatLaws F 𝟘 fp_format
fp-format = record {
  width = 1;
  size_of = λ n. omega arith;
  length-bytes_of = λ es. length-bytes (map val es) ∙ ap (λ (n : ℕ). 4 * n) (length-map es val);
  element-read = λ es rest j h. ap ofℕ (number_read es rest j h) ∙ ofℕ-val (get_or es j 𝟘);
  element-below = λ es rest j h. lt-ltb _ p (below-p (get_or es j 𝟘) (number_read es rest j h));
  numbers-below = λ es. rw (numbers-bytes (map val es) (below_word es)) (all-below p (map val es) (values-below es));
  number-different = λ a b h l e. ofℕ-inj h l e;
}

pub fp-laws : InstanceLaws fp
fp-laws = record {
  format-laws = fp-format;
  hash-laws = record {
    digest-length = digest-length;
    entry_value = λ i v w e. val_inj v w (bytes4-injective (val v) (val w) (four_bytes v) (four_bytes w) (entry_value i i _ _ e));
    leaf-blocks = λ i v. leaf-count i (bytes4 (val v)) (omega arith);
    node-blocks = node-message-blocks;
  };
  built-in-count = points-length;
  built-in-different = points-distinct;
  nodes-differ = of_nat-differ 57 (lit< tt);
}
