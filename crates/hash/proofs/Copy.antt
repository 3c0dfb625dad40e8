-- A list that is written into a part of another.
-- Assumes nothing.
use Rattle.std.proofs.Common.{◌≡◌, ℕ, ◌+◌, List, ◌++◌, length, take, drop, sym, ap, ◌∙◌, append_assoc}
use borrow.Rule.Slice.PartMut.{put_mid}
use lib.Seq.{drop-drop}

-- s stands in d from index `at` on, where the part of k entries from there holds r
pub copied : (d s r : List ℕ) (at k : ℕ) → r ≡ s → k ≡ length s → put_mid at k d r ≡ take at d ++ s ++ drop (at + length s) d
copied d s r at k e l =
    (λ i. take at d ++ (e i ++ drop (l i) (drop at d))) ∙ sym (append_assoc (take at d) s (drop (length s) (drop at d)))
    ∙ ap (λ (t : List ℕ). take at d ++ s ++ t) (drop-drop (length s) at d)
