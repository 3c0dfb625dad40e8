-- What is read and written in a byte buffer, digest by digest.
use mathlib.Core.Path.{◌≡◌, refl, sym, ap, ap₂, ◌∙◌}
use mathlib.Core.List.{List, [], ◌∷◌, ◌++◌, append_assoc, append-nil}
use Prim.Native.Nat.{ℕ, zero, suc, ◌+◌, ◌-◌, ◌/◌, ◌%◌, ◌^◌, ◌≤◌}
use native.Mathlib.Nat.{two-pow-succ, add-zero, add-suc, suc-add}
use native.Mathlib.Omega.{arith}
use lib.ListN.{length, get_or, take, drop, set, length-append, length-drop, drop_of_length-le}
use lib.Seq.{sets, sets-eq, take-length, length-take-le, drop-drop}
use Rattle.numbers.specs.Numbers.{bytes4}
use Rattle.tree.specs.Merkle.{joined, sibling, blocks_of, climb, climb_strings}
use Rattle.tree.specs.Heap.{heap_path}
use Rattle.tree.specs.Layout.{part, digests, flat, opening_bytes}

-- ---- reading
-- one step up by the digests of a buffer
module _ (digest : List ℕ → List ℕ) (s own above : List ℕ) (place next left : ℕ) (e : above ≡ digest (joined (place % 2) own (part s next 32))) where
  pub climb-step : climb digest above (place / 2) (digests s (next + 32) left) ≡ climb digest own place (digests s next (suc left))
  unfolding climb digests
  climb-step = rw e refl

  pub climb-blocks-step : (blocks : List ℕ → ℕ)
      → blocks (joined (place % 2) own (part s next 32)) + blocks_of blocks (climb_strings digest above (place / 2) (digests s (next + 32) left))
      ≡ blocks_of blocks (climb_strings digest own place (digests s next (suc left)))
  unfolding climb_strings blocks_of digests
  climb-blocks-step blocks = rw e refl

-- ---- writing
-- the n bytes from a place, put back as d
pub put_back : {A : Type 0} (xs d ys : List A) (at n m : ℕ) → ys ≡ d → n ≡ m → take at xs ++ (ys ++ drop n (drop at xs)) ≡ take at xs ++ d ++ drop (at + m) xs
put_back {A} xs d ys at n m e l =
    ap₂ (λ (y z : List A). take at xs ++ (y ++ z)) e (drop-drop n at xs ∙ ap (λ (k : ℕ). drop (at + k) xs) l)
    ∙ sym (append_assoc (take at xs) d (drop (at + m) xs))

-- what was put in place of n bytes has n bytes, and is stored from there on
module _ {A : Type 0} (xs ys d : List A) (at n : ℕ) (fits : at + n ≤ length xs) (kept : length ys ≡ length xs) (put : ys ≡ take at xs ++ d ++ drop (at + n) xs) where
  pub put-length : length d ≡ n
  put-length =
      omega (
        arith,
        ap length put,
        length-append (take at xs ++ d) (drop (at + n) xs),
        length-append (take at xs) d,
        length-take-le at xs (omega arith),
        length-drop (at + n) xs,
      )

  pub put-sets : ys ≡ sets xs at d
  put-sets = put ∙ ap (λ (k : ℕ). take at xs ++ d ++ drop (at + k) xs) (sym put-length) ∙ sym (sets-eq d xs at (omega (arith, put-length)))

-- a digest copied over a part: nothing of the part is left
pub copied-over : (d l : List ℕ) → length l ≤ length d → take (length d) d ++ drop (length d) l ≡ d
copied-over d l h = ap₂ ◌++◌ (take-length d) (drop_of_length-le l h) ∙ append-nil d

pub sets-append : (l : List ℕ) (i : ℕ) (a b : List ℕ) → sets l i (a ++ b) ≡ sets (sets l i a) (i + length a) b
sets-append l i [] b = ap (λ (n : ℕ). sets l n b) (sym (add-zero i))
sets-append l i (x ∷ a) b =
    sets-append (set l i x) (suc i) a b
    ∙ ap (λ (n : ℕ). sets (sets (set l i x) (suc i) a) n b) (suc-add i (length a) ∙ sym (add-suc i (length a)))

-- one more digest of a path written, where the own node has the index n; and the end
pub write_step : (nodes : List (List ℕ)) (out out' d : List ℕ) (next left n : ℕ) → 2 ^ suc left ≤ n → next + 32 ≤ length out → length out' ≡ length out
    → d ≡ get_or nodes (sibling n) [] → out' ≡ take next out ++ d ++ drop (next + 32) out
    → sets out' (next + 32) (flat (heap_path nodes left (n / 2 - 2 ^ left))) ≡ sets out next (flat (heap_path nodes (suc left) (n - 2 ^ suc left)))
unfolding flat heap_path
write_step nodes out out' d next left n above f k e w =
    ap₂ (λ (o : List ℕ) (i : ℕ). sets o (next + i) rest) (put-sets out out' d next 32 f k w) (sym (put-length out out' d next 32 f k w))
    ∙ sym (sets-append out next d rest)
    ∙ ap (λ (x : List ℕ). sets out next (x ++ rest)) (e ∙ ap (λ (i : ℕ). get_or nodes i []) beside)
    ∙ ap (λ (q : ℕ). sets out next (get_or nodes (2 ^ suc left + sibling (n - 2 ^ suc left)) [] ++ flat (heap_path nodes left q))) half
  where
    rest : List ℕ
    rest = flat (heap_path nodes left (n / 2 - 2 ^ left))

    beside : sibling n ≡ 2 ^ suc left + sibling (n - 2 ^ suc left)
    beside = omega (arith, two-pow-succ left)

    half : n / 2 - 2 ^ left ≡ (n - 2 ^ suc left) / 2
    half = omega (arith, two-pow-succ left)

pub write-end : (nodes : List (List ℕ)) (out : List ℕ) (next left place : ℕ) → left ≤ 0 → out ≡ sets out next (flat (heap_path nodes left place))
unfolding flat heap_path
write-end nodes out next zero place h = refl
write-end nodes out next (suc k) place h = absurd (omega arith)

-- a value and then a path written are an opening
pub write-both : (xs ys zs : List ℕ) (at v : ℕ) (ss : List (List ℕ)) → at + 4 ≤ length xs
    → ys ≡ take at xs ++ bytes4 v ++ drop (at + 4) xs → zs ≡ sets ys (at + 4) (flat ss) → zs ≡ sets xs at (opening_bytes v ss)
write-both xs ys zs at v ss h y z =
    z ∙ ap (λ (l : List ℕ). sets l (at + 4) (flat ss)) (y ∙ sym (sets-eq (bytes4 v) xs at h)) ∙ sym (sets-append xs at (bytes4 v) (flat ss))
